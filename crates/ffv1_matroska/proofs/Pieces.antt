-- What calls that write leave, told by a test of what they answered; and what a frame adds.
use Rattle.std.proofs.Common.{◌≡◌, ◌++◌, ℕ, List, true, false, Option, None, Result, Ok, Err, refl}
use Rattle.std.specs.Result.{is_err}
use Rattle.std.specs.Io.KnownBytes.{Appends}
use Rattle.std.proofs.lemmas.Bool.{ne_eqb}
use Rattle.ffv1_wire.specs.Passage.{between}
use Rattle.ffv1_reads.specs.Head.{Head}
use Rattle.ffv1_reads.specs.Writes.{Stopped, Writes}
use Rattle.ffv1_reads.specs.declared.fault.FileFault.{FileFault}
use Rattle.ffv1_reads.specs.declared.fault.FileFault.TheVariants as fault
use Rattle.ffv1_matroska.specs.Writers.{piece}
use Rattle.ffv1_matroska.specs.Written.{cluster_element, opening, tracks_element}
use Rattle.ffv1_matroska.specs.declared.track_entry.TrackEntry.{TrackEntry}

-- a call that did not fail wrote all
pub done_of : (a b : Option (List ℕ)) (m n : ℕ) (xs : List ℕ) (r : Result (Unit {0}) FileFault) → is_err r ≡ false → Writes (between a b m n) xs r → (n ≡ m) × Appends a b xs
done_of a b m n xs (Ok u) t w = w
done_of a b m n xs (Err f) t w = absurd (cc)

-- the only fault of writing
stopped_is : (a b : Option (List ℕ)) (m n : ℕ) (xs : List ℕ) (f : FileFault) → Stopped a b m n xs f → Stopped a b m n xs fault.Write
stopped_is a b m n xs fault.Write k = k
stopped_is a b m n xs f k = absurd k

-- one that failed wrote a beginning
pub failed_of : (a b : Option (List ℕ)) (m n : ℕ) (xs : List ℕ) (r : Result (Unit {0}) FileFault) → is_err r ≡ true → Writes (between a b m n) xs r → Stopped a b m n xs fault.Write
failed_of a b m n xs (Ok u) t w = absurd (cc)
failed_of a b m n xs (Err f) t w = stopped_is a b m n xs f w

pub piece_first : (head : Head) (details : TrackEntry) (count : ℕ) (frame : List ℕ) → count ≡ 0 → piece head details count frame ≡ opening head None ++ tracks_element head details ++ cluster_element 0 frame
unfolding piece
piece_first head details count frame none = rw none refl

pub piece_next : (head : Head) (details : TrackEntry) (count : ℕ) (frame : List ℕ) → (count ≡ 0 → ⊥) → piece head details count frame ≡ cluster_element count frame
unfolding piece
piece_next head details count frame some = rw (ne_eqb count 0 some) refl

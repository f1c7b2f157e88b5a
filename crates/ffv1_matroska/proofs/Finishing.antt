-- What the end of a file leaves.
use Rattle.std.proofs.Common.{◌≡◌, ◌+◌, ◌∙◌, ℕ, List, Bool, true, false, Option, Some, Result, Ok, Err, inr, refl, subst, ap}
use Rattle.std.specs.Io.KnownBytes.{Appends, Keeps}
use Rattle.ffv1_wire.specs.Failures.{one_more}
use Rattle.ffv1_wire.specs.Passage.{between}
use Rattle.ffv1_wire.specs.Patches.{Patches, PatchesBeginning}
use Rattle.ffv1_wire.specs.Seeks.{Overwriting}
use Rattle.ffv1_reads.specs.declared.fault.FileFault.{FileFault}
use Rattle.ffv1_reads.specs.declared.fault.FileFault.TheVariants as fault
use Rattle.ffv1_reads.specs.Head.{Head}
use Rattle.ffv1_matroska.specs.Writers.{Asks, Finishes, Writing, cues_in, file_bytes, finished_opening}
use Rattle.ffv1_matroska.specs.Written.{opening}

-- what was written over, by other names of the place and of the bytes
finished_by : (old mid new : Option (List ℕ)) (l m n back : ℕ) (bytes : List ℕ) (w : Writing) (b : Bool) → m ≡ l → n ≡ m → Appends old mid (cues_in w) → back ≡ file_bytes w → bytes ≡ finished_opening w →
    (b ≡ true → Patches mid new back bytes) → (b ≡ false → Keeps mid new) → Finishes (between old new l n) w (Ok b)
finished_by old mid new l m n back bytes w true before after cues back_is bytes_is written kept = (after ∙ before, (mid, cues, rw (← back_is, ← bytes_is) (written refl)))
finished_by old mid new l m n back bytes w false before after cues back_is bytes_is written kept = (after ∙ before, (mid, cues, kept refl))

failed_by : (old mid new : Option (List ℕ)) (l m n back : ℕ) (bytes : List ℕ) (w : Writing) → m ≡ l → n ≡ one_more m → Appends old mid (cues_in w) → back ≡ file_bytes w → bytes ≡ finished_opening w →
    PatchesBeginning mid new back bytes → Finishes (between old new l n) w (Err fault.Write)
failed_by old mid new l m n back bytes w before after cues back_is bytes_is some = (after ∙ ap one_more before, inr (mid, cues, rw (← back_is, ← bytes_is) some))

-- the opening by its parts
pub finish_is : (head : Head) (at count m n : ℕ) → m ≡ n → opening head (Some (record { size = at + m; cues = at; count = count })) ≡ opening head (Some (record { size = at + n; cues = at; count = count }))
finish_is head at count m n e = ap (λ k. opening head (Some (record { size = at + k; cues = at; count = count }))) e

-- the same of a writer that is known by its parts
at_view : (old new : Option (List ℕ)) (l n : ℕ) (w v : Writing) (r : Result Bool FileFault) → w ≡ v → Finishes (between old new l n) w r → Finishes (between old new l n) v r
at_view old new l n w v r e h = let P : Writing → Type 0 = λ z. Finishes (between old new l n) z r in subst P e h

pub finishes_by : (old mid new : Option (List ℕ)) (l m n back : ℕ) (bytes : List ℕ) (w v : Writing) (b : Bool) → w ≡ v → m ≡ l → n ≡ m → Appends old mid (cues_in w) → back ≡ file_bytes w → bytes ≡ finished_opening w →
    (b ≡ true → Patches mid new back bytes) → (b ≡ false → Keeps mid new) → Finishes (between old new l n) v (Ok b)
finishes_by old mid new l m n back bytes w v b e before after cues back_is bytes_is written kept = at_view old new l n w v (Ok b) e (finished_by old mid new l m n back bytes w b before after cues back_is bytes_is written kept)

pub fails_by : (old mid new : Option (List ℕ)) (l m n back : ℕ) (bytes : List ℕ) (w v : Writing) → w ≡ v → m ≡ l → n ≡ one_more m → Appends old mid (cues_in w) → back ≡ file_bytes w → bytes ≡ finished_opening w →
    PatchesBeginning mid new back bytes → Finishes (between old new l n) v (Err fault.Write)
fails_by old mid new l m n back bytes w v e before after cues back_is bytes_is some = at_view old new l n w v (Err fault.Write) e (failed_by old mid new l m n back bytes w before after cues back_is bytes_is some)

-- what the output was asked
pub asks_by : {S : Type 0} (contents : S → Option (List ℕ)) (overwrites : Overwriting S) (old mid new : S) (back : ℕ) (bytes : List ℕ) (w v : Writing) (b : Bool) → w ≡ v → Appends (contents old) (contents mid) (cues_in w) → back ≡ file_bytes w → bytes ≡ finished_opening w →
    overwrites mid back bytes (Ok b) new → Asks contents overwrites old v b new
asks_by contents overwrites old mid new back bytes w v b e cues back_is bytes_is does =
    let P : Writing → Type 0 = λ z. Asks contents overwrites old z b new in
    subst P e (record { cued = mid; cues = cues; does = rw (← back_is, ← bytes_is) does })

-- What an output holds after each call of a writer, if that is known.
use Rattle.std.proofs.Common.{◌≡◌, ◌<◌, ◌+◌, ◌-◌, ◌∙◌, ◌++◌, ℕ, List, [], ◌∷◌, true, false, Option, Some, None, Ok, Err, length, take, refl, sym, ap, arith, length-append}
use Rattle.std.proofs.Math.Seq.{take-append-add}
use Rattle.std.specs.Io.KnownBytes.{Appends, Keeps}
use Rattle.ffv1_reads.specs.Head.{Head}
use Rattle.ffv1_reads.specs.declared.fault.FileFault.TheVariants as fault
use Rattle.ffv1_wire.specs.Passage.{between}
use Rattle.ffv1_wire.specs.Patches.{Patches, patched}
use Rattle.ffv1_matroska.specs.Writers.{Finishes, Puts, Writing, cues_in, file_bytes, finished_opening, piece_of, writing_of}
use Rattle.ffv1_matroska.specs.Written.{begun_of, finished_of, open_of}
use Rattle.ffv1_matroska.specs.declared.track_entry.TrackEntry.{TrackEntry}
use Rattle.ffv1_matroska.proofs.PieceByPiece.{more_begun, open_at_last, over_whole, whole_long}

-- known bytes and some more
pub added : (xs : List ℕ) (new : Option (List ℕ)) (bytes : List ℕ) → Appends (Some xs) new bytes → new ≡ Some (xs ++ bytes)
added xs None bytes h = absurd h
added xs (Some ys) bytes h = ap (λ z. Some z) h

same : (xs : List ℕ) (new : Option (List ℕ)) → Keeps (Some xs) new → new ≡ Some xs
same xs None h = absurd h
same xs (Some ys) h = ap (λ z. Some z) h

over : (xs bytes : List ℕ) (new : Option (List ℕ)) (back : ℕ) → back ≡ length xs → Patches (Some xs) new back bytes → new ≡ Some (patched xs 0 bytes)
over xs bytes None back is h = absurd h
over xs bytes (Some ys) back is h =
    let none : length xs - back ≡ 0 = omega (arith, is) in
    ap (λ z. Some z) (h.1 ∙ ap (λ k. patched xs k bytes) none)

-- a frame more
pub put_known : (head : Head) (details : TrackEntry) (frames : List (List ℕ)) (frame : List ℕ) (new : Option (List ℕ)) (m n : ℕ) (w : Writing) →
    Puts (between (Some (begun_of head details frames)) new m n) (writing_of head details frames) frame w (Ok tt) →
    (new ≡ Some (begun_of head details (frames ++ frame ∷ []))) × (w ≡ writing_of head details (frames ++ frame ∷ []))
put_known head details frames frame new m n w h = (
  added (begun_of head details frames) new (piece_of (writing_of head details frames) frame) h.1.1 ∙ ap (λ z. Some z) (sym (more_begun head details frames frame)),
  h.2.grown frames refl,
)

-- a write that failed
pub put_failed : (head : Head) (details : TrackEntry) (frames : List (List ℕ)) (frame : List ℕ) (new : Option (List ℕ)) (m n : ℕ) (w : Writing) →
    Puts (between (Some (begun_of head details frames)) new m n) (writing_of head details frames) frame w (Err fault.Write) →
    (k : ℕ) × (k < length (begun_of head details (frames ++ frame ∷ []))) × (new ≡ Some (take k (begun_of head details (frames ++ frame ∷ []))))
put_failed head details frames frame new m n w h =
    let xs = begun_of head details frames in
    let piece = piece_of (writing_of head details frames) frame in
    let whole = more_begun head details frames frame in
    let some = h.1.1 in
    let less : length xs + some.0 < length (begun_of head details (frames ++ frame ∷ [])) = let inside = some.1 in omega (arith, inside, ap length whole, length-append xs piece) in
    (length xs + some.0, less, added xs new (take some.0 piece) some.2 ∙ ap (λ z. Some z) (sym (ap (take (length xs + some.0)) whole ∙ take-append-add xs piece some.0)))

-- the end
open_by : (head : Head) (details : TrackEntry) (frames : List (List ℕ)) (mid : Option (List ℕ)) → 0 < length frames → Appends (Some (begun_of head details frames)) mid (cues_in (writing_of head details frames)) → mid ≡ Some (open_of head details frames)
open_by head details frames mid some h = added (begun_of head details frames) mid (cues_in (writing_of head details frames)) h ∙ ap (λ z. Some z) (open_at_last head details frames some)

pub finished_known : (head : Head) (details : TrackEntry) (frames : List (List ℕ)) (new : Option (List ℕ)) (m n : ℕ) → 0 < length frames →
    Finishes (between (Some (begun_of head details frames)) new m n) (writing_of head details frames) (Ok true) → new ≡ Some (finished_of head details frames)
finished_known head details frames new m n some h =
    let e = open_by head details frames h.1.0 some h.1.1 in
    let p : Patches (Some (open_of head details frames)) new (file_bytes (writing_of head details frames)) (finished_opening (writing_of head details frames)) = rw (← e) h.1.2 in
    over (open_of head details frames) (finished_opening (writing_of head details frames)) new (file_bytes (writing_of head details frames)) (whole_long head details frames) p ∙ ap (λ z. Some z) (over_whole head details frames)

pub open_known : (head : Head) (details : TrackEntry) (frames : List (List ℕ)) (new : Option (List ℕ)) (m n : ℕ) → 0 < length frames →
    Finishes (between (Some (begun_of head details frames)) new m n) (writing_of head details frames) (Ok false) → new ≡ Some (open_of head details frames)
open_known head details frames new m n some h =
    let e = open_by head details frames h.1.0 some h.1.1 in
    let k : Keeps (Some (open_of head details frames)) new = rw (← e) h.1.2 in
    same (open_of head details frames) new k

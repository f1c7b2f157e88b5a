-- A file that may be damaged, and is read from its beginning again, and then once more.
use Rattle.std.proofs.Common.{◌≡◌, ◌∙◌, ℕ, List, Option, Ok, Err, inl, inr, sym, subst, arith}
use Rattle.ffv1_wire.specs.Failures.{one_more}
use Rattle.ffv1_wire.specs.Passage.{between}
use Rattle.ffv1_reads.specs.Ends.{ReadOrOver, RefusedOrFaults}
use Rattle.ffv1_reads.specs.Reads.{Read, Reading}
use Rattle.ffv1_reads.specs.Room.{RoomRead}
use Rattle.ffv1_reads.proofs.Rooms.{room_kept}
use Rattle.ffv1_reads.specs.declared.fault.FileFault.{FileFault}
use Rattle.ffv1_reads.specs.declared.fault.FileFault.TheVariants as fault
use Rattle.ffv1_matroska.specs.SalvagedAgain.{AnswersSalvaged, KnownTo, SoughtTo, StopsLate, StopsSalvaged}
use Rattle.ffv1_matroska.specs.SalvagedLate.{salvage_known, salvage_track}
use Rattle.ffv1_matroska.specs.Salvaged.{NeverBegins, Salvaged}
use Rattle.ffv1_matroska.specs.Tracks.{Track}
use Rattle.ffv1_matroska.proofs.SoughtReadings.{Found}

-- `whole` from the beginning on; `a` is left once it was begun again, `mid` after its first Tracks,
-- `b` once it was begun again then
module _ (whole here a : Option (List ℕ)) (before now : ℕ) where
  pub not_again : (f : FileFault) → f ≡ fault.Read → a ≡ here → now ≡ one_more before → StopsSalvaged here (between whole a before now) f
  not_again f is kept failed = inr (inr (is, failed, inl kept))

module _ (whole here a mid : Option (List ℕ)) (before now last : ℕ) (begun : a ≡ whole) (same : now ≡ before) where
  pub track_refused : (f : FileFault) → RefusedOrFaults fault.NoTracks Found salvage_track a mid now last f → StopsSalvaged here (between whole mid before last) f
  track_refused f why =
      let P : Option (List ℕ) → Type 0 = λ z. RefusedOrFaults fault.NoTracks Found salvage_track z mid before last f in
      let Q : ℕ → Type 0 = λ n. RefusedOrFaults fault.NoTracks Found salvage_track a mid n last f in
      inl (subst P begun (subst Q same why))

  -- a track that was found
  pub track_there : (track : Track) → (last ≡ now) × ReadOrOver Found salvage_track a mid track → (last ≡ before) × Read salvage_track whole mid track
  track_there track (kept, inl read) = (let P : Option (List ℕ) → Type 0 = λ z. Read salvage_track z mid track in (kept ∙ same, subst P begun read))
  track_there track (kept, inr (ends, never)) = absurd never

module _ (whole here mid b new : Option (List ℕ)) (before now next last : ℕ) (track : Track) (found : (now ≡ before) × Read salvage_track whole mid track) where
  pub not_twice : (f : FileFault) → f ≡ fault.Read → b ≡ mid → next ≡ one_more now → StopsSalvaged here (between whole b before next) f
  not_twice f is kept failed =
      let P : Option (List ℕ) → Type 0 = λ z. Read salvage_track whole z track in
      inr (inr (is, subst (λ n. next ≡ one_more n) found.0 failed, inr (track, subst P (sym kept) found.1)))

  pub known_refused : b ≡ whole → next ≡ now → (f : FileFault) → RefusedOrFaults fault.NoTracks NeverBegins (salvage_known track) b new next last f → StopsSalvaged here (between whole new before last) f
  known_refused begun same f why =
      let P : Option (List ℕ) → Type 0 = λ z. RefusedOrFaults fault.NoTracks NeverBegins (salvage_known track) z new before last f in
      let Q : ℕ → Type 0 = λ n. RefusedOrFaults fault.NoTracks NeverBegins (salvage_known track) b new n last f in
      inr (inl (track, mid, found.1, subst P begun (subst Q (same ∙ found.0) why)))

  pub known_opens : b ≡ whole → next ≡ now → (o : Salvaged) → (last ≡ next) × ReadOrOver NeverBegins (salvage_known track) b new o → AnswersSalvaged (λ (z : Salvaged). z) here (between whole new before last) (Ok o)
  known_opens begun same o (kept, read) =
      let P : Option (List ℕ) → Type 0 = λ z. ReadOrOver NeverBegins (salvage_known track) z new o in
      (kept ∙ same ∙ found.0, (track, mid, found.1, subst P begun read))

-- room is as it was
pub room_over : {X : Type 0} (over : X → Type 0) (r : Reading X) (old new : Option (List ℕ)) (x : X) (n : ℕ) → ReadOrOver over r old new x → RoomRead old new n n
room_over over r old new x n (inl read) = room_kept n read
room_over over r old new x n (inr (ends, is)) = record { bytes = ends.0.bytes; consumed = ends.0.consumed; within = omega arith }

-- where it stops
module _ (whole a new : Option (List ℕ)) (before now last : ℕ) (begun : a ≡ whole) (same : now ≡ before) (f : FileFault) (offset : ℕ) where
  pub sought_stopped : SoughtTo (between a new now last) (Err f) offset → StopsLate (between whole new before last) f offset
  sought_stopped from =
      let P : Option (List ℕ) → Type 0 = λ z. SoughtTo (between z new before last) (Err f) offset in
      let Q : ℕ → Type 0 = λ n. SoughtTo (between a new n last) (Err f) offset in
      either (subst P begun (subst Q same from))
    where
      either : SoughtTo (between whole new before last) (Err f) offset → StopsLate (between whole new before last) f offset
      either (inl stops) = inl stops
      either (inr stops) = inr (inl stops)

  pub known_stopped : (track : Track) → KnownTo track (between a new now last) f offset → StopsLate (between whole new before last) f offset
  known_stopped track from =
      let P : Option (List ℕ) → Type 0 = λ z. KnownTo track (between z new before last) f offset in
      let Q : ℕ → Type 0 = λ n. KnownTo track (between a new n last) f offset in
      either (subst P begun (subst Q same from))
    where
      either : KnownTo track (between whole new before last) f offset → StopsLate (between whole new before last) f offset
      either (inl stops) = inl stops
      either (inr stops) = inr (inr (inl (track, stops)))

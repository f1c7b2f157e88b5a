-- A file that is read from its beginning again, and then once more.
use Rattle.std.proofs.Common.{◌≡◌, ◌∙◌, ℕ, List, Option, Result, Ok, Err, inl, inr, sym, subst}
use Rattle.ffv1_wire.specs.Failures.{one_more}
use Rattle.ffv1_wire.specs.Passage.{between}
use Rattle.ffv1_reads.specs.Ends.{ReadOrOver, RefusedOrFaults}
use Rattle.ffv1_reads.specs.Reads.{Read}
use Rattle.ffv1_reads.specs.Room.{RoomRead}
use Rattle.ffv1_reads.specs.declared.fault.FileFault.{FileFault}
use Rattle.ffv1_reads.specs.declared.fault.FileFault.TheVariants as fault
use Rattle.ffv1_matroska.specs.Again.{AnswersAgain, RoomTwice, StopsAgain, StopsTwice, TrackFrom, TwiceFrom, ReopensFrom}
use Rattle.ffv1_matroska.specs.Late.{reopened, track_read}
use Rattle.ffv1_matroska.specs.Opened.{Opened}
use Rattle.ffv1_matroska.specs.Readers.{HasEnded}
use Rattle.ffv1_matroska.specs.Tracks.{Track}
use Rattle.ffv1_matroska.specs.declared.place.Place.{Place}
use Rattle.ffv1_matroska.specs.declared.track.Numbers.{Numbers}
use Rattle.ffv1_matroska.proofs.SoughtReadings.{Found}

-- `whole` from the beginning on; `a` is left once it was begun again, `mid` after its first Tracks,
-- `b` once it was begun again then
module _ (whole here a : Option (List ℕ)) (before now : ℕ) where
  pub not_again : (f : FileFault) → f ≡ fault.Read → a ≡ here → now ≡ one_more before → StopsAgain here (between whole a before now) f
  not_again f is kept failed = inr (inr (is, failed, inl kept))

module _ (whole here a mid : Option (List ℕ)) (before now last : ℕ) (begun : a ≡ whole) (same : now ≡ before) where
  pub track_refused : (f : FileFault) → RefusedOrFaults fault.NoTracks Found track_read a mid now last f → StopsAgain here (between whole mid before last) f
  track_refused f why =
      let P : Option (List ℕ) → Type 0 = λ z. RefusedOrFaults fault.NoTracks Found track_read z mid before last f in
      let Q : ℕ → Type 0 = λ n. RefusedOrFaults fault.NoTracks Found track_read a mid n last f in
      inl (subst P begun (subst Q same why))

  -- a track that was found
  pub track_there : (track : Track) → (last ≡ now) × ReadOrOver Found track_read a mid track → (last ≡ before) × Read track_read whole mid track
  track_there track (kept, inl read) = (let P : Option (List ℕ) → Type 0 = λ z. Read track_read z mid track in (kept ∙ same, subst P begun read))
  track_there track (kept, inr (ends, never)) = absurd never

module _ (whole here mid b new : Option (List ℕ)) (before now next last : ℕ) (track : Track) (found : (now ≡ before) × Read track_read whole mid track) where
  pub not_twice : (f : FileFault) → f ≡ fault.Read → b ≡ mid → next ≡ one_more now → StopsAgain here (between whole b before next) f
  not_twice f is kept failed =
      let P : Option (List ℕ) → Type 0 = λ z. Read track_read whole z track in
      inr (inr (is, subst (λ n. next ≡ one_more n) found.0 failed, inr (track, subst P (sym kept) found.1)))

  pub known_refused : b ≡ whole → next ≡ now → (f : FileFault) → RefusedOrFaults fault.NoTracks HasEnded (reopened track) b new next last f → StopsAgain here (between whole new before last) f
  known_refused begun same f why =
      let P : Option (List ℕ) → Type 0 = λ z. RefusedOrFaults fault.NoTracks HasEnded (reopened track) z new before last f in
      let Q : ℕ → Type 0 = λ n. RefusedOrFaults fault.NoTracks HasEnded (reopened track) b new n last f in
      inr (inl (track, mid, found.1, subst P begun (subst Q (same ∙ found.0) why)))

  pub known_opens : b ≡ whole → next ≡ now → (o : Opened) → (last ≡ next) × ReadOrOver HasEnded (reopened track) b new o → AnswersAgain (λ (z : Opened). z) here (between whole new before last) (Ok o)
  known_opens begun same o (kept, read) =
      let P : Option (List ℕ) → Type 0 = λ z. ReadOrOver HasEnded (reopened track) z new o in
      (kept ∙ same ∙ found.0, (track, mid, found.1, subst P begun read))

-- room
pub room_twice : {whole a mid b new : Option (List ℕ)} {before room after : ℕ} → a ≡ whole → RoomRead a mid before room → b ≡ whole → RoomRead b new room after → RoomTwice whole new before after
room_twice {mid = mid} {new = new} {before = before} {room = room} {after = after} one first two second =
    let P : Option (List ℕ) → Type 0 = λ z. RoomRead z mid before room in
    let Q : Option (List ℕ) → Type 0 = λ z. RoomRead z new room after in
    record { between = mid; room = room; first = subst P one first; second = subst Q two second }

-- where it stops
module _ (whole a new : Option (List ℕ)) (before now last : ℕ) (begun : a ≡ whole) (same : now ≡ before) where
  pub track_stopped : (f : FileFault) (offset : ℕ) → TrackFrom (between a new now last) (Err f) offset → StopsTwice (between whole new before last) f offset
  track_stopped f offset from =
      let P : Option (List ℕ) → Type 0 = λ z. TrackFrom (between z new before last) (Err f) offset in
      let Q : ℕ → Type 0 = λ n. TrackFrom (between a new n last) (Err f) offset in
      either (subst P begun (subst Q same from))
    where
      either : TrackFrom (between whole new before last) (Err f) offset → StopsTwice (between whole new before last) f offset
      either (inl stops) = inl stops
      either (inr stops) = inr (inl stops)

  pub twice_from : (bytes : List ℕ) (r : Result (Option ℕ × Numbers × Place) FileFault) (offset : ℕ) → ReopensFrom (between a new now last) bytes r offset → TwiceFrom (between whole new before last) bytes r offset
  twice_from bytes r offset from =
      let P : Option (List ℕ) → Type 0 = λ z. ReopensFrom (between z new before last) bytes r offset in
      let Q : ℕ → Type 0 = λ n. ReopensFrom (between a new n last) bytes r offset in
      on_result r (subst P begun (subst Q same from))
    where
      on_result : (r : Result (Option ℕ × Numbers × Place) FileFault) → ReopensFrom (between whole new before last) bytes r offset → TwiceFrom (between whole new before last) bytes r offset
      on_result (Ok n) h = h
      on_result (Err f) (inl stops) = inl stops
      on_result (Err f) (inr stops) = inr (inr (inl stops))

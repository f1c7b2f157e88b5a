-- What is read of a BlockGroup up to its first Block is what is read of it element by element.
use Rattle.std.proofs.Common.{◌≡◌, ◌<◌, ◌∙◌, ℕ, suc, zero, List, Ok, true, nat_lt, inl, inr, refl, sym, ap}
use Rattle.std.proofs.lemmas.Bool.{lt-ltb}
use Rattle.ffv1_reads.specs.Reads.{read_on}
use Rattle.ffv1_matroska.specs.Files.{frames_read}
use Rattle.ffv1_matroska.specs.Segments.{block_sought, group_read, step_read}
use Rattle.ffv1_matroska.specs.declared.place.Place.{Place}
use Rattle.ffv1_matroska.specs.declared.track.TrackNumbers.{TrackNumbers}
use Rattle.ffv1_matroska.proofs.FrameTurns.{frames_turn, led_none, step_kept, turn_read, turns_on}
use Rattle.ffv1_matroska.proofs.SoughtBlocks.{Sought, sought_cases}
use Rattle.ffv1_matroska.proofs.StepBounds.{err_is_no_ok}

-- a turn in a group
pub group_turn : (track : TrackNumbers) (place : Place) (text : List ℕ) → 0 < place.group → turn_read track place text ≡ read_on (group_read track place text) step_kept
unfolding step_read
group_turn track place text some = let test : nat_lt 0 place.group ≡ true = lt-ltb 0 place.group some in rw test refl

-- where the first Block is found, the frames are those of the group and what comes after it
pub sought_frames : (most : ℕ) (track : TrackNumbers) (place : Place) (text : List ℕ) (w : List (List ℕ) × List ℕ) → read_on (read_on (block_sought most track place text) step_kept) (turns_on track) ≡ Ok w → (0 < place.group) × (frames_read track place text ≡ Ok w)
unfolding block_sought
sought_frames zero track place text w h = absurd (cc (h))
sought_frames (suc most) track place text w h = on_case (sought_cases most track place text) (λ p t. sought_frames most track p t w)
  where
    Again : Type 0
    Again = (p : Place) (t : List ℕ) → read_on (read_on (block_sought most track p t) step_kept) (turns_on track) ≡ Ok w → (0 < p.group) × (frames_read track p t ≡ Ok w)

    on_case : Sought most track place text → Again → (0 < place.group) × (frames_read track place text ≡ Ok w)
    on_case (inl (why, is)) again = absurd (err_is_no_ok why w (ap (λ z. read_on (read_on z step_kept) (turns_on track)) (sym is) ∙ h))
    on_case (inr (inl (some, is))) again =
        (some, frames_turn track place text ∙ ap (λ z. read_on z (turns_on track)) (group_turn track place text some ∙ ap (λ z. read_on z step_kept) (sym is)) ∙ h)
    on_case (inr (inr (now, more, some, read, is))) again =
        let next = again now more (ap (λ z. read_on (read_on z step_kept) (turns_on track)) (sym is) ∙ h) in
        (some, frames_turn track place text ∙ ap (λ z. read_on z (turns_on track)) (group_turn track place text some ∙ ap (λ z. read_on z step_kept) read) ∙ led_none (frames_read track now more) ∙ next.1)

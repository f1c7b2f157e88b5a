-- All bytes have items.
use Rattle.std.proofs.Common.{◌≡◌, ℕ, suc, zero, nat_lt, Bool, true, false, List, [], length, take, drop, Option, Some, None, Result, Ok, Err, refl, ap}
use Rattle.ffv1_reads.specs.Reads.{Stop}
use Rattle.ffv1_reads.specs.declared.fault.FileFault.TheVariants as fault
use Rattle.ffv1_ebml.specs.Sums.{summed}
use Rattle.ffv1_reads.specs.Items.{GivesFrame, Tells}
use Rattle.ffv1_matroska.specs.Items.{begun_by, frame_given, item_after, item_read, item_up_to, moved, over}
use Rattle.ffv1_matroska.specs.Turns.{element_turn, open_turn, turn_read}
use Rattle.ffv1_matroska.specs.Places.{ended, summed_at}
use Rattle.ffv1_matroska.specs.declared.course.Pending.TheVariants as pending
use Rattle.ffv1_matroska.specs.declared.course.Course.{Course}
use Rattle.ffv1_matroska.specs.declared.course.Turn.{Turn}
use Rattle.ffv1_matroska.specs.declared.course.Turn.TheVariants.{Frame, On, Told}
use Rattle.ffv1_matroska.specs.declared.place.Place.{Place}
use Rattle.ffv1_matroska.specs.declared.track.TrackNumbers.{TrackNumbers}

-- it is read as something
abbrev pub IsRead : {X : Type 0} → Result (X × List ℕ) Stop → Type 0
IsRead {X = X} z = (x : X) × (rest : List ℕ) × (z ≡ Ok (x, rest))

frame_is : (c : Course) (size : ℕ) (place : Place) (text : List ℕ) (b : Bool) → nat_lt (length text) size ≡ b → IsRead (frame_given c size place text)
frame_is c size place text true test = (Some (Tells fault.Truncated (begun_by c c.place c.pending), over c), [], rw test refl)
frame_is c size place text false test = (Some (GivesFrame (take size text), moved c pending.Nothing (summed_at place (summed place.sum (take size text)))), drop size text, rw test refl)

pub up_is_read : (most : ℕ) (track : TrackNumbers) (c : Course) (text : List ℕ) → IsRead (item_up_to most track c text)
unfolding item_up_to
up_is_read zero track c text = (_, _, refl)
up_is_read (suc most) track c text = on_turn (λ d rest. up_is_read most track d rest) (turn_read track c.pending c.place text)
  where
    on_turn : ((d : Course) (rest : List ℕ) → IsRead (item_up_to most track d rest)) → (z : Result (Option Turn × List ℕ) Stop) → IsRead (item_after (item_up_to most track) c z)
    on_turn again (Err why) = (_, _, refl)
    on_turn again (Ok (None, rest)) = (_, _, refl)
    on_turn again (Ok (Some (Frame size place), rest)) = frame_is c size place rest (nat_lt (length rest) size) refl
    on_turn again (Ok (Some (On next place), rest)) = again (moved c next place) rest
    on_turn again (Ok (Some (Told f next place), rest)) = (_, _, refl)

pub item_is_read : (track : TrackNumbers) (c : Course) (text : List ℕ) → IsRead (item_read track c text)
unfolding item_read
item_is_read track c text = up_is_read _ track c text

-- at the end nothing is read
ended_turn : (track : TrackNumbers) (text : List ℕ) → turn_read track pending.Nothing ended text ≡ Ok (None, text)
unfolding turn_read element_turn open_turn
ended_turn track text = refl

over_up : (most : ℕ) (track : TrackNumbers) (c : Course) (text : List ℕ) → item_up_to most track (over c) text ≡ Ok (None, text)
unfolding item_up_to
over_up zero track c text = refl
over_up (suc most) track c text = ap (item_after (item_up_to most track) (over c)) (ended_turn track text)

pub over_is_over : (track : TrackNumbers) (c : Course) (text : List ℕ) → item_read track (over c) text ≡ Ok (None, text)
unfolding item_read
over_is_over track c text = over_up _ track c text

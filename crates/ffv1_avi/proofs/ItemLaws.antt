-- All bytes have items.
use Rattle.std.proofs.Common.{◌≡◌, ℕ, suc, zero, nat_lt, Bool, true, false, List, [], length, take, drop, Option, Some, None, Result, Ok, Err, refl, ap}
use Rattle.ffv1_reads.specs.Reads.{Stop}
use Rattle.ffv1_reads.specs.declared.fault.FileFault.TheVariants as fault
use Rattle.ffv1_reads.specs.Items.{GivesFrame, Tells}
use Rattle.ffv1_avi.specs.Items.{headed_by, frame_given, framed, item_after, item_read, item_up_to, moved, over}
use Rattle.ffv1_avi.specs.Padding.{padded}
use Rattle.ffv1_avi.specs.Places.{ended}
use Rattle.ffv1_avi.specs.Turns.{chunk_turn, step_read, turn_read}
use Rattle.ffv1_avi.specs.Walk.{entry_in}
use Rattle.ffv1_avi.specs.declared.course.Course.{Course}
use Rattle.ffv1_avi.specs.declared.course.Pending.TheVariants as pending
use Rattle.ffv1_avi.specs.declared.course.Turn.{Turn}
use Rattle.ffv1_avi.specs.declared.course.Turn.TheVariants.{Frame, On, Told}
use Rattle.ffv1_avi.specs.declared.place.Place.{Place}

-- it is read as something
abbrev pub IsRead : {X : Type 0} → Result (X × List ℕ) Stop → Type 0
IsRead {X = X} z = (x : X) × (rest : List ℕ) × (z ≡ Ok (x, rest))

frame_is : (c : Course) (count size : ℕ) (place : Place) (text : List ℕ) (b : Bool) → nat_lt (length text) (padded size) ≡ b → IsRead (frame_given c count size place text)
frame_is c count size place text true test = (Some (Tells fault.Truncated (headed_by c count), over c), [], rw test refl)
frame_is c count size place text false test = (Some (GivesFrame (take size text), framed c count size place), drop (padded size) text, rw test refl)

pub up_is_read : (most : ℕ) (c : Course) (text : List ℕ) → IsRead (item_up_to most c text)
unfolding item_up_to
up_is_read zero c text = (_, _, refl)
up_is_read (suc most) c text = on_turn (λ d rest. up_is_read most d rest) (turn_read c.pending c.place text)
  where
    on_turn : ((d : Course) (rest : List ℕ) → IsRead (item_up_to most d rest)) → (z : Result (Option Turn × List ℕ) Stop) → IsRead (item_after (item_up_to most) c z)
    on_turn again (Err why) = (_, _, refl)
    on_turn again (Ok (None, rest)) = (_, _, refl)
    on_turn again (Ok (Some (Frame count size place), rest)) = frame_is c count size place rest (nat_lt (length rest) (padded size)) refl
    on_turn again (Ok (Some (On count next place), rest)) = again (moved c count next place) rest
    on_turn again (Ok (Some (Told f count next place), rest)) = (_, _, refl)

pub item_is_read : (c : Course) (text : List ℕ) → IsRead (item_read c text)
unfolding item_read
item_is_read c text = up_is_read _ c text

-- at the end nothing is read
ended_turn : (text : List ℕ) → turn_read pending.Nothing ended text ≡ Ok (None, text)
unfolding turn_read chunk_turn step_read entry_in
ended_turn text = refl

over_up : (most : ℕ) (c : Course) (text : List ℕ) → item_up_to most (over c) text ≡ Ok (None, text)
unfolding item_up_to
over_up zero c text = refl
over_up (suc most) c text = ap (item_after (item_up_to most) (over c)) (ended_turn text)

pub over_is_over : (c : Course) (text : List ℕ) → item_read (over c) text ≡ Ok (None, text)
unfolding item_read
over_is_over c text = over_up _ c text

-- Items, turn by turn.
use Rattle.std.proofs.Common.{◌≡◌, ◌∙◌, ◌+◌, ℕ, suc, true, false, List, [], ◌++◌, Option, Some, None, Result, Ok, Err, inl, inr, refl, ap, append_assoc}
use Rattle.ffv1_wire.proofs.Bytes.{consumes_then}
use Rattle.ffv1_reads.specs.declared.fault.FileFault.{FileFault}
use Rattle.ffv1_reads.specs.declared.fault.FileFault.TheVariants as fault
use Rattle.ffv1_reads.specs.Ends.{ReadOrNone, RefusedOrNone, Stops}
use Rattle.ffv1_reads.specs.Reads.{Faults, Kept, Met, Read, Reading, Refused, Short, Want, Wants, given}
use Rattle.ffv1_reads.proofs.EndReadings.{some_read}
use Rattle.ffv1_reads.proofs.Reading.{Goes, goes_none}
use Rattle.ffv1_avi.specs.Padding.{content}
use Rattle.ffv1_avi.specs.declared.course.Pending.TheVariants as pending
use Rattle.ffv1_avi.proofs.TurnsMade.{turn_meets_none}
use Rattle.ffv1_avi.proofs.PaddedFrames.{content_there, content_short, content_meets}
use Rattle.ffv1_reads.specs.Items.{Given, ItemAnswers, StopsBy, Tells, given_by}
use Rattle.ffv1_avi.specs.Items.{begun_by, headed_by, end_given, end_item, frame_given, framed, item_after, item_up_to, moved, over, told_on}
use Rattle.ffv1_avi.specs.Turns.{turn_read}
use Rattle.ffv1_avi.specs.declared.course.Course.{Course}
use Rattle.ffv1_avi.specs.declared.course.Pending.{Pending}
use Rattle.ffv1_avi.specs.declared.course.Turn.{Turn}
use Rattle.ffv1_avi.specs.declared.course.Turn.TheVariants.{Frame, On, Told}
use Rattle.ffv1_reads.specs.declared.item.Item.{Item}
use Rattle.ffv1_reads.specs.declared.item.Item.TheVariants as item
use Rattle.ffv1_avi.specs.declared.place.Place.{Place}

-- an item, or none
abbrev pub Items : Type 0
Items = Option (Given × Course)

-- bytes end inside a chunk, and then this comes
abbrev pub EndTold : {Y : Type 0} → Reading Items → Reading Y → Items → Type 0
EndTold on r x = (text : List ℕ) (w : Want) → r text ≡ Err (Short w) → on text ≡ Ok (x, [])

-- and have no fault
abbrev pub MeetsNone : {Y : Type 0} → Reading Y → Type 0
MeetsNone r = (text rest : List ℕ) (f : FileFault) → r text ≡ Err (Met f rest) → ⊥

lacks_stop : {Y : Type 0} {whole : Reading Items} {old now : Option (List ℕ)} {before after : ℕ} (on : Reading Items) (r : Reading Y) (x : Items) (new : Option (List ℕ)) → EndTold on r x → Goes whole old before on now after → Wants r now new → Stops whole old new x
lacks_stop {old = old} {now = now} on r x new told h (w, lacks) = record {
  bytes = h.bytes ++ lacks.bytes;
  consumed = consumes_then old now new h.bytes lacks.bytes h.consumed lacks.consumed;
  is = h.leads lacks.bytes ∙ told lacks.bytes w lacks.is;
}

-- a call inside a chunk was refused
module _ {Y : Type 0} {whole : Reading Items} {old now : Option (List ℕ)} {before after : ℕ} (on : Reading Items) (r : Reading Y) (c d : Course) (new : Option (List ℕ)) (last : ℕ) (bytes : List ℕ) (x : Items) (end : Item) (gives : given_by end bytes (over c) ≡ x) (told : EndTold on r x) (none : MeetsNone r) (h : Goes whole old before on now after) where
  abbrev Answered : Result Item FileFault → Type 0
  Answered result = ItemAnswers whole (record { old = old; new = new; before = before; after = last }) result bytes d

  met : (f : FileFault) → Faults r now new f → ⊥
  met f why = none (why.bytes ++ []) [] f (why.is [])

  pub item_stops : (f : FileFault) (result : Result Item FileFault) → Refused r now new after last f → StopsBy end (over c) c d f result → Answered result
  item_stops fault.Read result (counted, wants) (is, same) = rw is (rw (← h.same) counted, _, lacks_stop on r x new told h wants)
  item_stops fault.OutOfMemory result (counted, lacks) (is, same) = rw is (counted ∙ h.same, _, lacks_stop on r x new told h (_, lacks))
  item_stops fault.Truncated result (counted, inl (wants, ended)) (is, same) = rw (is, same, gives) (counted ∙ h.same, inr (lacks_stop on r x new told h wants, ended))
  item_stops fault.Truncated result (counted, inr why) (is, same) = absurd (met fault.Truncated why)
  item_stops fault.TooLarge result why stops = absurd why
  item_stops fault.Write result why stops = absurd why
  item_stops fault.Rate result why stops = absurd why
  item_stops f result why stops = absurd (met f why.1)

-- ---- a turn

turn_end : (most : ℕ) (c : Course) → EndTold (item_up_to (suc most) c) (turn_read c.pending c.place) (end_given c c.pending)
unfolding item_up_to
turn_end most c text w short = ap (item_after (item_up_to most) c) short

end_gives : (c : Course) (p : Pending) (bytes : List ℕ) → given_by (end_item c p) bytes (over c) ≡ end_given c p
end_gives c pending.Nothing bytes = refl
end_gives c (pending.Passing count true) bytes = refl
end_gives c (pending.Passing count false) bytes = refl
end_gives c (pending.Seeking window) bytes = refl

module _ {whole : Reading Items} {old now : Option (List ℕ)} {before after : ℕ} (most : ℕ) (c : Course) (new : Option (List ℕ)) (last : ℕ) (h : Goes whole old before (item_up_to (suc most) c) now after) where
  -- what it leads to
  leads_on : (r : Reading Items) (o : Option Turn) → ((text : List ℕ) → item_after (item_up_to most) c (Ok (o, text)) ≡ r text) → (last ≡ after) × Read (turn_read c.pending c.place) now new o → Goes whole old before r new last
  unfolding item_up_to
  leads_on r o same read = record {
    same = read.0 ∙ h.same;
    bytes = h.bytes ++ read.1.bytes;
    consumed = consumes_then old now new h.bytes read.1.bytes h.consumed read.1.consumed;
    leads = λ more. ap whole (append_assoc h.bytes read.1.bytes more) ∙ h.leads (read.1.bytes ++ more) ∙ ap (item_after (item_up_to most) c) (read.1.is more) ∙ same more;
  }

  -- a chunk without a frame
  pub turn_on : (count : ℕ) (next : Pending) (place : Place) → (last ≡ after) × ReadOrNone (turn_read c.pending c.place) now new (Some (On count next place)) → Goes whole old before (item_up_to most (moved c count next place)) new last
  turn_on count next place read = leads_on _ _ (λ text. refl) (read.0, some_read _ now new (On count next place) read.1)

  -- a frame comes next
  pub turn_frame : (count size : ℕ) (place : Place) → (last ≡ after) × ReadOrNone (turn_read c.pending c.place) now new (Some (Frame count size place)) → Goes whole old before (frame_given c count size place) new last
  turn_frame count size place read = leads_on _ _ (λ text. refl) (read.0, some_read _ now new (Frame count size place) read.1)

  -- a fault is told
  pub turn_told : (f : FileFault) (count : ℕ) (next : Pending) (place : Place) (bytes : List ℕ) → (last ≡ after) × ReadOrNone (turn_read c.pending c.place) now new (Some (Told f count next place)) →
      ItemAnswers whole (record { old = old; new = new; before = before; after = last }) (Ok (item.Told f (begun_by c c.pending))) bytes (told_on c count next place)
  turn_told f count next place bytes read =
      let on = leads_on (given (Some (Tells f (begun_by c c.pending), told_on c count next place))) _ (λ text. refl) (read.0, some_read _ now new (Told f count next place) read.1) in
      (on.same, inl (record { bytes = on.bytes; consumed = on.consumed; is = on.leads }))

  -- the end
  pub turn_over : (bytes : List ℕ) (d : Course) → (last ≡ after) × ReadOrNone (turn_read c.pending c.place) now new None →
      ItemAnswers whole (record { old = old; new = new; before = before; after = last }) (Ok item.End) bytes d
  unfolding item_up_to
  turn_over bytes d (same, inl read) =
      let on = leads_on (given None) _ (λ text. refl) (same, read) in
      (on.same, inl (record { bytes = on.bytes; consumed = on.consumed; is = on.leads }))
  turn_over bytes d (same, inr ((halts, ended), none)) = (same ∙ h.same, inr (record { bytes = h.bytes ++ halts.bytes; consumed = consumes_then old now new h.bytes halts.bytes h.consumed halts.consumed; is = h.leads halts.bytes ∙ ap (item_after (item_up_to most) c) halts.is }, ended))

  -- a turn was refused
  pub turn_stops : (d : Course) (bytes : List ℕ) (f : FileFault) (result : Result Item FileFault) → RefusedOrNone (turn_read c.pending c.place) now new after last f → StopsBy (end_item c c.pending) (over c) c d f result →
      ItemAnswers whole (record { old = old; new = new; before = before; after = last }) result bytes d
  unfolding item_up_to
  turn_stops d bytes fault.Read result (counted, inl wants) stops = item_stops (item_up_to (suc most) c) (turn_read c.pending c.place) c d new last bytes (end_given c c.pending) (end_item c c.pending) (end_gives c c.pending bytes) (turn_end most c) (turn_meets_none c.pending c.place) h fault.Read result (counted, wants) stops
  turn_stops d bytes fault.Read result (counted, inr halts) (is, same) = rw is (rw (← h.same) counted, None, record { bytes = h.bytes ++ halts.bytes; consumed = consumes_then old now new h.bytes halts.bytes h.consumed halts.consumed; is = h.leads halts.bytes ∙ ap (item_after (item_up_to most) c) halts.is })
  turn_stops d bytes fault.TooLarge result why stops = absurd why
  turn_stops d bytes fault.Write result why stops = absurd why
  turn_stops d bytes fault.Rate result why stops = absurd why
  turn_stops d bytes f result why stops = item_stops (item_up_to (suc most) c) (turn_read c.pending c.place) c d new last bytes (end_given c c.pending) (end_item c c.pending) (end_gives c c.pending bytes) (turn_end most c) (turn_meets_none c.pending c.place) h f result why stops

-- ---- a frame

module _ (c : Course) (count size : ℕ) (place : Place) (old new : Option (List ℕ)) (before after : ℕ) where
  pub frame_taken : (bytes : List ℕ) → (after ≡ before) × Read (content Kept size) old new bytes →
      ItemAnswers (frame_given c count size place) (record { old = old; new = new; before = before; after = after }) (Ok item.Frame) bytes (framed c count size place)
  frame_taken bytes (same, read) = (same, inl (record { bytes = read.bytes; consumed = read.consumed; is = λ rest. content_there c count size place (read.bytes ++ rest) bytes rest (read.is rest) }))

  pub frame_stops : (d : Course) (bytes : List ℕ) (f : FileFault) (result : Result Item FileFault) → Refused (content Kept size) old new before after f → StopsBy (item.Told fault.Truncated (headed_by c count)) (over c) c d f result →
      ItemAnswers (frame_given c count size place) (record { old = old; new = new; before = before; after = after }) result bytes d
  frame_stops d bytes f result why stops =
      item_stops (frame_given c count size place) (content Kept size) c d new after bytes (Some (Tells fault.Truncated (headed_by c count), over c)) (item.Told fault.Truncated (headed_by c count)) refl (λ text w is. content_short c count size place text w is)
      (λ text rest g is. content_meets size text rest g is) (goes_none (frame_given c count size place) old before) f result why stops

-- after other turns
module _ {whole : Reading Items} {old now : Option (List ℕ)} {before after : ℕ} (on : Reading Items) (new : Option (List ℕ)) (last : ℕ) (h : Goes whole old before on now after) where
  stops_on : (x : Items) → Stops on now new x → Stops whole old new x
  stops_on x stops = record { bytes = h.bytes ++ stops.bytes; consumed = consumes_then old now new h.bytes stops.bytes h.consumed stops.consumed; is = h.leads stops.bytes ∙ stops.is }

  pub item_last : (bytes : List ℕ) (d : Course) (result : Result Item FileFault) → ItemAnswers on (record { old = now; new = new; before = after; after = last }) result bytes d → ItemAnswers whole (record { old = old; new = new; before = before; after = last }) result bytes d
  item_last bytes d (Ok i) (same, inl read) = (same ∙ h.same, inl (record { bytes = h.bytes ++ read.bytes; consumed = consumes_then old now new h.bytes read.bytes h.consumed read.consumed; is = λ more. ap whole (append_assoc h.bytes read.bytes more) ∙ h.leads (read.bytes ++ more) ∙ read.is more }))
  item_last bytes d (Ok i) (same, inr (stops, ended)) = (same ∙ h.same, inr (stops_on _ stops, ended))
  item_last bytes d (Err fault.Read) (counted, x, stops) = (rw (← h.same) counted, x, stops_on x stops)
  item_last bytes d (Err fault.OutOfMemory) (same, x, stops) = (same ∙ h.same, x, stops_on x stops)
  item_last bytes d (Err f) none = absurd none

-- no turn is left
pub no_turn : (left : ℕ) (c : Course) (text : List ℕ) → left ≡ 0 → item_up_to left c text ≡ Ok (None, text)
unfolding item_up_to
no_turn left c text none = rw none refl

-- If slices have no sample in common, no answer is that they say different values of one.
use Rattle.std.proofs.Common.{◌≡◌, ◌≢◌, refl, ℕ, ◌<◌, Bool, true, false, Err, Result, Ok, List, [], ◌∷◌, ◌++◌, map, inl, inr, ap, subst, sym, ◌∙◌, arith}
use Rattle.std.specs.Prelude.{slice_index}
use Rattle.std.specs.List.{flat_map, range_with_len}
use Rattle.ffv1_wire.specs.Runs.{LineStep}
use Rattle.ffv1_range.specs.declared.tally.Tally.{Tally}
use Rattle.ffv1_record.specs.Configuration.{Configuration}
use Rattle.ffv1_record.specs.Accepted.{Accepted}
use Rattle.ffv1_slice.specs.Cutting.{coded_of}
use Rattle.ffv1_slice.specs.Footer.{foot_length}
use Rattle.ffv1_slice.specs.Grid.{division_of, across, down, shared_of}
use Rattle.ffv1_slice.specs.declared.cutting.CutFault.{CutFault}
use Rattle.ffv1_slice.specs.declared.fault.SliceFault.{SliceFault}
use Rattle.ffv1_slice.specs.declared.fault.SliceFault.TheVariants as slice
use Rattle.ffv1_frame.specs.declared.fault.CodecFault.{CodecFault}
use Rattle.ffv1_frame.specs.declared.fault.CodecFault.TheVariants as fault
use Rattle.ffv1_frame.specs.declared.fault.FrameFault.{FrameFault}
use Rattle.ffv1_frame.specs.Order.{Event, Series, events_of, row_events, series_events, series_of, line_events, column_events, hand_events, new_planes, numbered}
use Rattle.ffv1_frame.specs.Order.Event.{Open, Read, Finish, Hand, Close}
use Rattle.ffv1_frame.specs.Answer.{AnswersCut, cut_fault}
use Rattle.ffv1_frame.specs.Decoding as decoding
use Rattle.ffv1_frame.specs.Decoding.{State, StepsBy, FaultsWith, at_first, of_slice, of_rice, ending_fault}
use Rattle.ffv1_record.specs.Accepted.{is_rice}
use Rattle.std.proofs.lemmas.Bool.{cases_Bool}
use Rattle.ffv1_rice.specs.declared.fault.Fault.{Fault}
use Rattle.ffv1_rice.specs.declared.fault.Fault.TheVariants as reason
use Rattle.ffv1_frame.proofs.lemmas.laws.decoding.Machines.{Each, each_append, each_range, each_map_range, each_map, each_right, stops_at}

-- a line is read in a slice that there is
abbrev IsInGrid : Configuration → Event → Type 0
IsInGrid c (Open r k) = Unit {0}
IsInGrid c (Read r k p y) = (r < c.rows) × (k < c.columns)
IsInGrid c (Finish r planes y) = Unit {0}
IsInGrid c (Hand r i p y) = Unit {0}
IsInGrid c Close = Unit {0}

line_inside : (c : Configuration) (r y : ℕ) (planes : List ℕ) → r < c.rows → Each (IsInGrid c) (line_events c r planes y)
line_inside c r y planes inside =
    each_append (IsInGrid c) (flat_map (column_events r planes y) (range_with_len 0 c.columns)) (Finish r planes y ∷ hand_events r (new_planes c r planes y) y)
    (each_range (IsInGrid c) (column_events r planes y) 0 c.columns (λ k least most. each_map (IsInGrid c) (λ p. Read r k p y) planes (λ p. (inside, omega (arith, most)))))
    (tt, each_map (IsInGrid c) (λ (ip : ℕ × ℕ). Hand r ip.0 ip.1 y) (numbered 0 (new_planes c r planes y)) (λ ip. tt))

series_inside : (c : Configuration) (r : ℕ) (ss : List Series) → r < c.rows → Each (IsInGrid c) (flat_map (series_events c r) ss)
series_inside c r [] inside = tt
series_inside c r (s ∷ ss) inside =
    each_append (IsInGrid c) (series_events c r s) (flat_map (series_events c r) ss)
    (each_range (IsInGrid c) (line_events c r s.planes) 0 s.height (λ y least most. line_inside c r y s.planes inside)) (series_inside c r ss inside)

row_inside : (c : Configuration) (r : ℕ) → r < c.rows → Each (IsInGrid c) (row_events c r)
row_inside c r inside =
    each_append (IsInGrid c) (map (Open r) (range_with_len 0 c.columns)) (flat_map (series_events c r) (series_of c r) ++ (Close ∷ []))
    (each_map_range (IsInGrid c) (Open r) 0 c.columns (λ k least most. tt))
    (each_append (IsInGrid c) (flat_map (series_events c r) (series_of c r)) (Close ∷ []) (series_inside c r (series_of c r) inside) (tt, tt))

events_inside : (c : Configuration) → Each (IsInGrid c) (events_of c)
events_inside c = each_range (IsInGrid c) (row_events c) 0 c.rows (λ r least most. row_inside c r (omega (arith, most)))

abbrev is_overlap : CodecFault → Bool
is_overlap fault.Overlap = true
is_overlap other = false

other_by : (f g : CodecFault) → f ≡ g → is_overlap g ≡ false → is_overlap f ≡ false
other_by f g same other = ap is_overlap same ∙ other

slice_other : (g : SliceFault) → is_overlap (of_slice g) ≡ false
slice_other slice.OutOfMemory = refl
slice_other slice.SymbolTooLong = refl
slice_other slice.NotKey = refl
slice_other slice.Place = refl
slice_other slice.SetIndex = refl
slice_other slice.Structure = refl
slice_other slice.Aspect = refl
slice_other slice.Footer = refl
slice_other slice.Leftover = refl
slice_other slice.SliceParity = refl
slice_other slice.SliceStatus = refl
slice_other slice.SliceTooLong = refl

rice_other : (reason : Fault) → is_overlap (of_rice reason) ≡ false
rice_other reason.BitsEnd = refl
rice_other reason.BadCode = refl

ending_other : (b : Bool) → is_overlap (ending_fault b) ≡ false
ending_other false = refl
ending_other true = refl

module _ (a : Accepted) (no_column : (p k : ℕ) → k < a.configuration.columns → shared_of (across (division_of a.configuration) p) k ≡ 0)
    (no_line : (p r : ℕ) → r < a.configuration.rows → shared_of (down (division_of a.configuration) p) r ≡ 0) where
  module _ (coded : ℕ → List ℕ) where
    event_other : (s t : State) (e : Event) (f : FrameFault) → IsInGrid a.configuration e → FaultsWith a coded s e f t → is_overlap f.fault ≡ false
    event_other s t (Open r k) f inside h = elim h.1 [
      | inl start ↦ other_by f.fault fault.BadStart start.0 refl
      | inr more ↦ elim more [
        | inl key ↦ other_by f.fault fault.NotKey key.0 refl
        | inr rest ↦ elim rest [
          | inl head ↦ other_by f.fault (of_slice head.0) head.3 (slice_other head.0)
          | inr last ↦ elim last [
            | inl differs ↦ other_by f.fault fault.InfoDiffers differs.5 refl
            | inr over ↦ other_by f.fault fault.Overread over.2 refl
          ]
        ]
      ]
    ]
    event_other s t (Read r k p y) f inside h = elim h [
      | inl stop ↦ elim (cases_Bool (is_rice a.configuration.coder)) [
        | inl is ↦ other_by f.fault (of_rice (stop.rice is).2) (ap (λ (z : FrameFault). z.fault) (stop.rice is).4) (rice_other (stop.rice is).2)
        | inr is ↦ other_by f.fault fault.SymbolTooLong (ap (λ (z : FrameFault). z.fault) (stop.range is).3) refl
      ]
      | inr looked ↦ elim looked [
        | inl over ↦ other_by f.fault fault.Overread (ap (λ (z : FrameFault). z.fault) over.3) refl
        | inr later ↦ elim later [
          | inl late ↦ other_by f.fault (ending_fault (is_rice a.configuration.coder)) (ap (λ (z : FrameFault). z.fault) late.3) (ending_other (is_rice a.configuration.coder))
          | inr differs ↦ elim differs.10 [
            | inl left ↦ absurd (let none = no_column p k inside.1 in omega (arith, left.0, none))
            | inr up ↦ absurd (let none = no_line p r inside.0 in omega (arith, up.0, none))
          ]
        ]
      ]
    ]
    event_other s t (Finish r planes y) f inside h = other_by f.fault fault.Colour (ap (λ (z : FrameFault). z.fault) h.4) refl
    event_other s t (Hand r i p y) f inside h = absurd h
    event_other s t Close f inside h = absurd h

    refused_other : (f : FrameFault) (t : State) → decoding.Refuses a coded f t → is_overlap f.fault ≡ false
    refused_other f t h =
        let at = stops_at (StepsBy a coded) (FaultsWith a coded) (at_first a.configuration) t f (events_of a.configuration) h in
        let all = subst (Each (IsInGrid a.configuration)) at.parts (events_inside a.configuration) in
        event_other at.state t at.event f (each_right (IsInGrid a.configuration) at.before (at.event ∷ at.after) all).0 at.refused

  answered_other : {S : Type 0} (takes refuses : LineStep S) (payload : List ℕ) (old new : S) (tally : Tally) (f : FrameFault) (cut : Result (List ℕ) CutFault) →
      AnswersCut takes refuses a payload old new tally (Err f) cut → is_overlap f.fault ≡ false
  answered_other takes refuses payload old new tally f (Err g) answer =
      let is : f ≡ cut_fault g = cc in
      other_by f.fault (of_slice g.fault) (ap (λ (z : FrameFault). z.fault) is) (slice_other g.fault)
  answered_other takes refuses payload old new tally f (Ok os) answer = elim answer [
    | inl faults ↦ refused_other (coded_of payload (foot_length a.configuration.ec) (slice_index os)) f faults.state faults.refused
    | inr sink ↦ other_by f.fault fault.Sink (ap (λ (z : FrameFault). z.fault) sink.is) refl
  ]

  pub no_overlap : {S : Type 0} (takes refuses : LineStep S) (payload : List ℕ) (old new : S) (tally : Tally) (f : FrameFault) (cut : Result (List ℕ) CutFault) →
      AnswersCut takes refuses a payload old new tally (Err f) cut → f.fault ≢ fault.Overlap
  no_overlap takes refuses payload old new tally f cut answer = λ same.
      let other = answered_other takes refuses payload old new tally f cut answer in
      absurd (let no : true ≡ false = sym (ap is_overlap same) ∙ other in cc)

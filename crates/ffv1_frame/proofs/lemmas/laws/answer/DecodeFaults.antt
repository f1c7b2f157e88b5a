-- Which faults decoding answers.
use Rattle.std.proofs.Common.{◌≡◌, refl, ℕ, Bool, true, false, Result, Ok, Err, List, [], ◌∷◌, ◌++◌, length, inl, inr, ap, ◌∙◌}
use Rattle.std.specs.Prelude.{slice_index}
use Rattle.ffv1_wire.specs.Runs.{LineStep}
use Rattle.ffv1_range.specs.Symbols.{Step}
use Rattle.ffv1_range.specs.declared.tally.Tally.{Tally}
use Rattle.ffv1_record.specs.declared.config.Profile.{Profile}
use Rattle.ffv1_record.specs.Configuration.{Configuration}
use Rattle.ffv1_record.specs.Accepted.{Accepted}
use Rattle.ffv1_slice.specs.Cutting.{CutsTo, IsRefused, coded_of}
use Rattle.ffv1_slice.specs.Footer.{foot_length}
use Rattle.ffv1_slice.specs.Head.{Rule, Stops, head_rules, index_rules, info_rules, place_rules}
use Rattle.ffv1_slice.specs.declared.cutting.CutFault.{CutFault}
use Rattle.ffv1_slice.specs.declared.fault.SliceFault.{SliceFault}
use Rattle.ffv1_frame.specs.declared.fault.CodecFault.{CodecFault}
use Rattle.ffv1_frame.specs.declared.fault.CodecFault.TheVariants as fault
use Rattle.ffv1_frame.specs.declared.fault.FrameFault.{FrameFault}
use Rattle.ffv1_frame.specs.DecodeFaults.{is_decode_fault}
use Rattle.ffv1_frame.specs.Order.{Event, events_of}
use Rattle.ffv1_frame.specs.Order.Event.{Open, Read, Finish, Hand, Close}
use Rattle.ffv1_frame.specs.Answer.{AnswersCut, cut_fault}
use Rattle.ffv1_frame.specs.Decoding as decoding
use Rattle.ffv1_frame.specs.Decoding.{State, StepsBy, FaultsWith, at_first, of_slice, of_rice, ending_fault, slice_number}
use Rattle.ffv1_record.specs.Accepted.{is_rice}
use Rattle.ffv1_rice.specs.declared.fault.Fault.{Fault}
use Rattle.ffv1_rice.specs.declared.fault.Fault.TheVariants as reason
use Rattle.std.proofs.lemmas.Bool.{cases_Bool}
use Rattle.ffv1_frame.proofs.lemmas.laws.decoding.Machines.{Each, each_append, stops_at}

abbrev pub IsOwn : CodecFault → Type 0
IsOwn f = is_decode_fault f ≡ true

own_by : (f g : CodecFault) → f ≡ g → IsOwn g → IsOwn f
own_by f g same own = ap is_decode_fault same ∙ own

-- a head is refused for a symbol or by one of its rules
abbrev RuleIsOwn : Rule → Type 0
RuleIsOwn r = IsOwn (of_slice r.fault)

stopped : (rs : List Rule) (before : ℕ) (f : SliceFault) (steps : List Step) → Each RuleIsOwn rs → Stops rs before f steps → IsOwn (of_slice f)
unfolding Stops
stopped [] before f steps all stops = absurd stops
stopped (r ∷ rs) before f steps all stops = elim stops [
  | inl long ↦ own_by (of_slice f) fault.SymbolTooLong (ap of_slice long.0) refl
  | inr more ↦ elim more [
    | inl judged ↦ own_by (of_slice f) (of_slice r.fault) (ap of_slice judged.3) all.0
    | inr later ↦ stopped rs later.0 f later.1 all.1 later.4
  ]
]

indexes_own : (extra : Bool) (count : ℕ) → Each RuleIsOwn (index_rules extra count)
indexes_own false count = (refl, (refl, tt))
indexes_own true count = (refl, (refl, (refl, tt)))

rules_own : (pr : Profile) (c : Configuration) (n : ℕ) → Each RuleIsOwn (head_rules pr c n)
rules_own pr c n =
    each_append RuleIsOwn (place_rules c n) (index_rules c.extra_plane (length c.sets) ++ info_rules pr) (refl, (refl, (refl, (refl, tt))))
    (each_append RuleIsOwn (index_rules c.extra_plane (length c.sets)) (info_rules pr) (indexes_own c.extra_plane (length c.sets)) (refl, (refl, (refl, tt))))

-- a payload is not cut for one of four faults
cut_own : (c : Configuration) (payload : List ℕ) (f : CutFault) → IsRefused c payload f → IsOwn (of_slice f.fault)
cut_own c payload f why = elim why [
  | inl short ↦ own_by (of_slice f.fault) fault.Footer (ap of_slice short.0) refl
  | inr more ↦ elim more [
    | inl left ↦ own_by (of_slice f.fault) fault.Leftover (ap (λ (z : CutFault). of_slice z.fault) left.0) refl
    | inr damaged ↦ elim damaged.damage [
      | inl parity ↦ own_by (of_slice f.fault) fault.SliceParity (ap of_slice parity.0) refl
      | inr status ↦ own_by (of_slice f.fault) fault.SliceStatus (ap of_slice status.0) refl
    ]
  ]
]

rice_own : (reason : Fault) → IsOwn (of_rice reason)
rice_own reason.BitsEnd = refl
rice_own reason.BadCode = refl

ending_own : (b : Bool) → IsOwn (ending_fault b)
ending_own false = refl
ending_own true = refl

module _ (a : Accepted) (coded : ℕ → List ℕ) where
  event_own : (s t : State) (e : Event) (f : FrameFault) → FaultsWith a coded s e f t → IsOwn f.fault
  event_own s t (Open r k) f h = elim h.1 [
    | inl start ↦ own_by f.fault fault.BadStart start.0 refl
    | inr more ↦ elim more [
      | inl key ↦ own_by f.fault fault.NotKey key.0 refl
      | inr rest ↦ elim rest [
        | inl head ↦ own_by f.fault (of_slice head.0) head.3 (stopped (head_rules a.profile a.configuration (slice_number a.configuration r k)) 0 head.0 head.1 (rules_own a.profile a.configuration (slice_number a.configuration r k)) head.2.stops)
        | inr last ↦ elim last [
          | inl differs ↦ own_by f.fault fault.InfoDiffers differs.5 refl
          | inr over ↦ own_by f.fault fault.Overread over.2 refl
        ]
      ]
    ]
  ]
  event_own s t (Read r k p y) f h = elim h [
    | inl stop ↦ elim (cases_Bool (is_rice a.configuration.coder)) [
      | inl is ↦
          let h = stop.rice is in
          own_by f.fault (of_rice h.2) (ap (λ (z : FrameFault). z.fault) h.4) (rice_own h.2)
      | inr is ↦ own_by f.fault fault.SymbolTooLong (ap (λ (z : FrameFault). z.fault) (stop.range is).3) refl
    ]
    | inr looked ↦ elim looked [
      | inl over ↦ own_by f.fault fault.Overread (ap (λ (z : FrameFault). z.fault) over.3) refl
      | inr later ↦ elim later [
        | inl late ↦ own_by f.fault (ending_fault (is_rice a.configuration.coder)) (ap (λ (z : FrameFault). z.fault) late.3) (ending_own (is_rice a.configuration.coder))
        | inr differs ↦ own_by f.fault fault.Overlap (ap (λ (z : FrameFault). z.fault) differs.4) refl
      ]
    ]
  ]
  event_own s t (Finish r planes y) f h = own_by f.fault fault.Colour (ap (λ (z : FrameFault). z.fault) h.4) refl
  event_own s t (Hand r i p y) f h = absurd h
  event_own s t Close f h = absurd h

  refused_own : (f : FrameFault) (t : State) → decoding.Refuses a coded f t → IsOwn f.fault
  refused_own f t h =
      let at = stops_at (StepsBy a coded) (FaultsWith a coded) (at_first a.configuration) t f (events_of a.configuration) h in
      event_own at.state t at.event f at.refused

-- what is answered for a payload
pub answered_own : {S : Type 0} (takes refuses : LineStep S) (a : Accepted) (payload : List ℕ) (old new : S) (tally : Tally) (f : FrameFault) (cut : Result (List ℕ) CutFault) →
    CutsTo a.configuration payload cut → AnswersCut takes refuses a payload old new tally (Err f) cut → IsOwn f.fault
answered_own takes refuses a payload old new tally f (Err g) cuts answer =
    let is : f ≡ cut_fault g = cc in
    own_by f.fault (of_slice g.fault) (ap (λ (z : FrameFault). z.fault) is) (cut_own a.configuration payload g cuts)
answered_own takes refuses a payload old new tally f (Ok os) cuts answer = elim answer [
  | inl faults ↦ refused_own a (coded_of payload (foot_length a.configuration.ec) (slice_index os)) f faults.state faults.refused
  | inr sink ↦ own_by f.fault fault.Sink (ap (λ (z : FrameFault). z.fault) sink.is) refl
]

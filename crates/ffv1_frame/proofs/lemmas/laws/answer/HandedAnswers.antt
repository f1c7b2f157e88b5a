-- What a sink was handed of a payload, from its answer.
use Rattle.std.proofs.Common.{◌≡◌, ℕ, Result, Ok, Err, List, [], ◌∷◌, ◌++◌, inl, inr, subst, slice_index}
use Rattle.std.specs.List.{All}
use Rattle.ffv1_range.specs.declared.tally.Tally.{Tally}
use Rattle.ffv1_wire.specs.Runs.{Grows, LineStep}
use Rattle.ffv1_record.specs.Accepted.{Accepted}
use Rattle.ffv1_slice.specs.Cutting.{CutsTo, coded_of}
use Rattle.ffv1_slice.specs.Footer.{foot_length}
use Rattle.ffv1_slice.specs.declared.cutting.CutFault.{CutFault}
use Rattle.ffv1_frame.specs.declared.fault.FrameFault.{FrameFault}
use Rattle.ffv1_frame.specs.SliceList.{Said}
use Rattle.ffv1_frame.specs.Decoding.{State, Decodes, Offers, Refuses}
use Rattle.ffv1_frame.specs.Answer.{AnswersCut}
use Rattle.ffv1_frame.specs.Handed.{HandsFinishes, IsFinishOf, offered, slice_of}

module _ (a : Accepted) (payload : List ℕ) where
  abbrev pub coded : List ℕ → ℕ → List ℕ
  coded os = coded_of payload (foot_length a.configuration.ec) (slice_index os)

  -- the laws of lines that were handed over
  pub record HandedLaws : Type 0 where
    pub end : (os : List ℕ) (t : State) → Decodes a (coded os) t → All (IsFinishOf a (coded os) (slice_of t)) t.lines
    pub fault : (os : List ℕ) (f : FrameFault) (t : State) → Refuses a (coded os) f t → (s : State) × (t.lines ≡ s.lines) × All (IsFinishOf a (coded os) (slice_of s)) s.lines
    pub offer : (os : List ℕ) (r i p y : ℕ) (t : State) → Offers a (coded os) r i p y t → All (IsFinishOf a (coded os) (slice_of t)) (t.lines ++ (offered a.configuration r i p y t ∷ []))

  module _ {S : Type 0} (takes refuses : LineStep S) (old new : S) (tally : Tally) (laws : HandedLaws) where
    pub hands_by_cut : (result : Result Said FrameFault) (cut : Result (List ℕ) CutFault) → CutsTo a.configuration payload cut → AnswersCut takes refuses a payload old new tally result cut →
        HandsFinishes takes refuses a payload old new
    hands_by_cut result (Err f) is answer = inl answer.2
    hands_by_cut (Ok said) (Ok os) is answer =
        inr (inl (answer.state.lines, record { offsets = os; cut = is; slice = slice_of answer.state; finish = laws.end os answer.state answer.decodes }, answer.grows))
    hands_by_cut (Err f) (Ok os) is answer = elim answer [
      | inl faults ↦
          let before = laws.fault os f faults.state faults.refused in
          inr (inl (before.0.lines, record { offsets = os; cut = is; slice = slice_of before.0; finish = before.2 }, subst (λ ls. Grows takes old ls new) before.1 faults.grows))
      | inr sink ↦
          inr (inr (
            sink.state.lines,
            offered a.configuration sink.row sink.number sink.plane sink.line sink.state,
            record { offsets = os; cut = is; slice = slice_of sink.state; finish = laws.offer os sink.row sink.number sink.plane sink.line sink.state sink.offers },
            sink.between,
            sink.grows,
            sink.last,
          ))
    ]

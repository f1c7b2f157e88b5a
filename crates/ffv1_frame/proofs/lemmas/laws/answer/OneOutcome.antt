-- What decoding makes of a payload is one count or one fault.
use Rattle.std.proofs.Common.{◌≡◌, ◌≢◌, ◌⊎◌, refl, ℕ, Result, Ok, Err, List, inl, inr, ap, sym, subst, ◌∙◌, slice_index}
use Rattle.ffv1_range.specs.declared.tally.Tally.{Tally}
use Rattle.ffv1_wire.specs.Runs.{LineStep}
use Rattle.ffv1_record.specs.Accepted.{Accepted}
use Rattle.ffv1_slice.specs.Cutting.{CutsTo, IsRefused, coded_of}
use Rattle.ffv1_slice.specs.Footer.{foot_length}
use Rattle.ffv1_slice.specs.declared.cutting.CutFault.{CutFault}
use Rattle.ffv1_frame.specs.declared.fault.CodecFault.TheVariants as fault
use Rattle.ffv1_frame.specs.declared.fault.FrameFault.{FrameFault}
use Rattle.ffv1_frame.specs.SliceList.{Said}
use Rattle.ffv1_frame.specs.Decoding.{State, Decodes, Refuses}
use Rattle.ffv1_frame.specs.Answer.{Answers, AnswersCut, HasDecided, cut_fault, tally_of}
use Rattle.ffv1_frame.specs.Handed.{offered}
use Rattle.ffv1_frame.specs.Outcome.{CountOf, FaultsOf, RefusesNext, TakesBefore}

not_both : (info : Said) (f : FrameFault) (r : Result Said FrameFault) → r ≡ Ok info → r ≡ Err f → ⊥
not_both info f r e g = cc

same_fault : (f g : FrameFault) (r : Result Said FrameFault) → r ≡ Err f → r ≡ Err g → f ≡ g
same_fault f g r e h = cc

same_offsets : (r : Result (List ℕ) CutFault) (os ps : List ℕ) → r ≡ Ok os → r ≡ Ok ps → os ≡ ps
same_offsets r os ps e h = cc

same_refusal : (r : Result (List ℕ) CutFault) (f g : CutFault) → r ≡ Err f → r ≡ Err g → f ≡ g
same_refusal r f g e h = cc

not_cut : (r : Result (List ℕ) CutFault) (os : List ℕ) (f : CutFault) → r ≡ Ok os → r ≡ Err f → ⊥
not_cut r os f e h = cc

module _ {S : Type 0} (takes refuses : LineStep S) (a : Accepted) (payload : List ℕ) (old new : S) (tally : Tally) where
  counts_by_cut : (info : Said) (cut : Result (List ℕ) CutFault) → CutsTo a.configuration payload cut → AnswersCut takes refuses a payload old new tally (Ok info) cut → CountOf a payload tally
  counts_by_cut info (Err f) cuts answer = absurd (not_both info (cut_fault f) (Ok info) refl answer.0)
  counts_by_cut info (Ok os) cuts answer = record { offsets = os; cut = cuts; state = answer.state; decodes = answer.decodes; decided = answer.decided }

  pub counts : (info : Said) → Answers takes refuses a payload old new tally (Ok info) → CountOf a payload tally
  counts info answer = counts_by_cut info answer.cut answer.cuts answer.answer

  -- the sink took the lines before the fault, or refused the next one
  abbrev Stopped : FrameFault → Type 0
  Stopped f = TakesBefore takes a payload f tally old new ⊎ ((f.fault ≡ fault.Sink) × RefusesNext takes refuses a payload old new)

  stopped_by_cut : (f : FrameFault) (cut : Result (List ℕ) CutFault) → CutsTo a.configuration payload cut → AnswersCut takes refuses a payload old new tally (Err f) cut → Stopped f
  stopped_by_cut f (Err g) cuts answer = inl (inl (g, cuts, same_fault f (cut_fault g) (Err f) refl answer.0, answer.1), answer.2)
  stopped_by_cut f (Ok os) cuts answer = elim answer [
    | inl faults ↦ inl (inr (record { offsets = os; cut = cuts; state = faults.state; refused = faults.refused; decided = faults.decided }), faults.grows)
    | inr sink ↦ inr (
      ap (λ (z : FrameFault). z.fault) sink.is,
      record {
        lines = sink.state.lines;
        next = offered a.configuration sink.row sink.number sink.plane sink.line sink.state;
        offers = record {
          offsets = os;
          cut = cuts;
          state = sink.state;
          row = sink.row;
          number = sink.number;
          plane = sink.plane;
          line = sink.line;
          offers = sink.offers;
          lines_are = refl;
          next_is = refl;
        };
        between = sink.between;
        grows = sink.grows;
        last = sink.last;
      },
    )
  ]

  pub stopped : (f : FrameFault) → Answers takes refuses a payload old new tally (Err f) → Stopped f
  stopped f answer = stopped_by_cut f answer.cut answer.cuts answer.answer

  pub faults : (f : FrameFault) → f.fault ≢ fault.Sink → Answers takes refuses a payload old new tally (Err f) → FaultsOf a payload f tally
  faults f own answer = elim (stopped f answer) [
    | inl before ↦ before.0
    | inr sink ↦ absurd (own sink.0)
  ]

module _ (a : Accepted) (payload : List ℕ) where
  abbrev pub coded : List ℕ → ℕ → List ℕ
  coded os = coded_of payload (foot_length a.configuration.ec) (slice_index os)

  -- a payload is cut in one way, and decoding has one end
  pub record OneEnd : Type 0 where
    pub cut : (r s : Result (List ℕ) CutFault) → CutsTo a.configuration payload r → CutsTo a.configuration payload s → r ≡ s
    pub end : (os : List ℕ) (s t : State) → Decodes a (coded os) s → Decodes a (coded os) t → s ≡ t
    pub apart : (os : List ℕ) (s t : State) (f : FrameFault) → Decodes a (coded os) s → Refuses a (coded os) f t → ⊥
    pub fault : (os : List ℕ) (s t : State) (f g : FrameFault) → Refuses a (coded os) f s → Refuses a (coded os) g t → (f ≡ g) × (s ≡ t)

  module _ (one : OneEnd) where
    same_tally : (s m : State) (t u : Tally) → s ≡ m → HasDecided a.table s t → HasDecided a.table m u → t ≡ u
    same_tally s m t u same first second = first.by_kind ∙ ap (tally_of a.table) same ∙ sym second.by_kind

    one_cut : (os ps : List ℕ) → CutsTo a.configuration payload (Ok os) → CutsTo a.configuration payload (Ok ps) → os ≡ ps
    one_cut os ps first second = same_offsets (Ok os) os ps refl (one.cut (Ok os) (Ok ps) first second)

    one_refusal : (f g : CutFault) → IsRefused a.configuration payload f → IsRefused a.configuration payload g → f ≡ g
    one_refusal f g first second = same_refusal (Err f) f g refl (one.cut (Err f) (Err g) first second)

    cut_or_refused : (os : List ℕ) (f : CutFault) → CutsTo a.configuration payload (Ok os) → IsRefused a.configuration payload f → ⊥
    cut_or_refused os f cuts refused = not_cut (Ok os) os f refl (one.cut (Ok os) (Err f) cuts refused)

    pub one_count : (t u : Tally) → CountOf a payload t → CountOf a payload u → t ≡ u
    one_count t u first second =
        let same : second.offsets ≡ first.offsets = one_cut second.offsets first.offsets second.cut first.cut in
        let decodes = subst (λ os. Decodes a (coded os) second.state) same second.decodes in
        same_tally first.state second.state t u (one.end first.offsets first.state second.state first.decodes decodes) first.decided second.decided

    pub apart : (t u : Tally) (f : FrameFault) → CountOf a payload t → FaultsOf a payload f u → ⊥
    apart t u f count faults = elim faults [
      | inl none ↦ cut_or_refused count.offsets none.0 count.cut none.1
      | inr later ↦
          let same : later.offsets ≡ count.offsets = one_cut later.offsets count.offsets later.cut count.cut in
          one.apart count.offsets count.state later.state f count.decodes (subst (λ os. Refuses a (coded os) f later.state) same later.refused)
    ]

    pub one_fault : (t u : Tally) (f g : FrameFault) → FaultsOf a payload f t → FaultsOf a payload g u → (f ≡ g) × (t ≡ u)
    one_fault t u f g first second = elim first [
      | inl none ↦ elim second [
        | inl other ↦ (none.2 ∙ ap cut_fault (one_refusal none.0 other.0 none.1 other.1) ∙ sym other.2, none.3 ∙ sym other.3)
        | inr later ↦ absurd (cut_or_refused later.offsets none.0 later.cut none.1)
      ]
      | inr later ↦ elim second [
        | inl other ↦ absurd (cut_or_refused later.offsets other.0 later.cut other.1)
        | inr more ↦
            let same : more.offsets ≡ later.offsets = one_cut more.offsets later.offsets more.cut later.cut in
            let end = one.fault later.offsets later.state more.state f g later.refused (subst (λ os. Refuses a (coded os) g more.state) same more.refused) in
            (end.0, same_tally later.state more.state t u end.1 later.decided more.decided)
      ]
    ]

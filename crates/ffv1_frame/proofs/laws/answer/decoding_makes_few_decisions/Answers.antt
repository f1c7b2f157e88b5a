-- However decoding ends, at its end, at its first fault or at a line that is handed over, few
-- decisions were made; so a tally tells few.
use Rattle.std.proofs.Common.{ℕ, ◌≤◌, List, slice_index, subst, sym, ◌∷◌}
use Rattle.ffv1_record.specs.Accepted.{Accepted, IsAccepted}
use Rattle.ffv1_slice.specs.Cutting.{coded_of}
use Rattle.ffv1_slice.specs.Footer.{foot_length}
use Rattle.ffv1_frame.specs.Order.{events_of}
use Rattle.ffv1_frame.specs.Order.Event.{Hand}
use Rattle.ffv1_frame.specs.declared.fault.FrameFault.{FrameFault}
use Rattle.ffv1_frame.specs.Bounds.{most_decisions}
use Rattle.ffv1_frame.specs.Answer.{decisions_in}
use Rattle.ffv1_frame.specs.Decoding as decoding
use Rattle.ffv1_frame.specs.Decoding.{State, StepsBy, FaultsWith, Decodes, Offers, at_first}
use Rattle.ffv1_frame.proofs.lemmas.laws.decoding.Machines.{Reaches, reaches_end, reaches_stop, reaches_before}
use Rattle.ffv1_frame.proofs.lemmas.laws.decoding.FromCoded.{lines_alike}
use Rattle.ffv1_frame.proofs.lemmas.laws.answer.RefusedHeads.{refused_short}
use Rattle.ffv1_frame.proofs.lemmas.laws.answer.FewDecisions.{StepLaws}
use Rattle.ffv1_frame.proofs.lemmas.laws.answer.FewBySamples.{few_by_samples}
use Rattle.ffv1_frame.proofs.lemmas.laws.answer.Answered.{few_told}
use Rattle.ffv1_frame.proofs.laws.answer.decoding_makes_few_decisions.Given as given
use Rattle.ffv1_frame.proofs.laws.answer.decoding_makes_few_decisions.Goals as goal

steps : (g : given.Over) (c : goal.After-planes_are_divided_part_by_part g) (a : Accepted) →
    IsAccepted a.configuration a.table → StepLaws a
steps g c a is = record {
  long = c.symbol_length_follows_from_exponent.ensures.shifted;
  refused = c.symbol_length_follows_from_exponent.ensures.refused;
  row = c.residual_length_follows_from_digits.ensures.row;
  most = c.residual_length_follows_from_digits.ensures.most;
  small = c.suiting_residuals_have_symbols.ensures.small;
  head = λ n h. c.head_takes_few_decisions.ensures.head a.profile a.configuration a.table n h is;
  stopped = c.head_takes_few_decisions.ensures.refused a.profile a.configuration;
  short = λ n before f steps inside stops.
      let columns = c.accepted_configuration_is_in_range.ensures.columns a.configuration a.table
      is in
      let rows = c.accepted_configuration_is_in_range.ensures.rows a.configuration a.table is in
      refused_short a.profile a.configuration n before f steps
      (c.accepted_configuration_is_in_range.ensures.sets a.configuration a.table is).1 columns.0
      columns.1 rows.1 inside stops;
}

reached : (g : given.Over) (c : goal.After-planes_are_divided_part_by_part g) (a : Accepted)
    (coded : ℕ → List ℕ) (t : State) → IsAccepted a.configuration a.table →
    Reaches (StepsBy a coded) (FaultsWith a coded) (at_first a.configuration)
    (events_of a.configuration) t → decisions_in t ≤ most_decisions a.configuration
reached g c a coded t is h =
    let sides = c.planes_are_divided_part_by_part.ensures a.configuration a.table is in
    few_by_samples a coded (steps g c a is) (lines_alike a.configuration sides) t h

ended : (g : given.Over) (c : goal.After-planes_are_divided_part_by_part g) (a : Accepted)
    (coded : ℕ → List ℕ) (t : State) → IsAccepted a.configuration a.table → Decodes a coded t →
    decisions_in t ≤ most_decisions a.configuration
ended g c a coded t is f = reached g c a coded t is
    (reaches_end (StepsBy a coded) (FaultsWith a coded) (at_first a.configuration) t
    (events_of a.configuration) f)

refused : (g : given.Over) (c : goal.After-planes_are_divided_part_by_part g) (a : Accepted)
    (coded : ℕ → List ℕ) (f : FrameFault) (t : State) → IsAccepted a.configuration a.table →
    decoding.Refuses a coded f t → decisions_in t ≤ most_decisions a.configuration
refused g c a coded f t is h = reached g c a coded t is
    (reaches_stop (StepsBy a coded) (FaultsWith a coded) (at_first a.configuration) t f
    (events_of a.configuration) h)

offered : (g : given.Over) (c : goal.After-planes_are_divided_part_by_part g) (a : Accepted)
    (coded : ℕ → List ℕ) (r i p y : ℕ) (t : State) → IsAccepted a.configuration a.table → Offers a
    coded r i p y t → decisions_in t ≤ most_decisions a.configuration
offered g c a coded r i p y t is h =
    reached g c a coded t is
    (subst (λ es. Reaches (StepsBy a coded) (FaultsWith a coded) (at_first a.configuration) es t)
    (sym h.parts)
    (reaches_before (StepsBy a coded) (FaultsWith a coded) (at_first a.configuration) t h.before
    (Hand r i p y ∷ h.after) h.runs))

pub returns-clause-end : goal.returns-clause-end
returns-clause-end g c = λ a coded t is f. ended g c a coded t is f

pub returns-clause-fault : goal.returns-clause-fault
returns-clause-fault g c = λ a coded f t is h. refused g c a coded f t is h

pub returns-clause-offered : goal.returns-clause-offered
returns-clause-offered g c = λ a coded r i p y t is h. offered g c a coded r i p y t is h

pub returns-clause-answer : goal.returns-clause-answer
returns-clause-answer g c = λ a payload old new tally result is answer.
    few_told g.S.LineSink.takes g.S.LineSink.refuses a payload old new tally
    (most_decisions a.configuration) result answer.cut answer.cuts
    (λ os s cuts f. ended g c a (coded_of payload (foot_length a.configuration.ec) (slice_index os))
    s is f)
    (λ os f s cuts h. refused g c a (coded_of payload (foot_length a.configuration.ec)
    (slice_index os)) f s is h)
    (λ os r i p y s cuts h. offered g c a (coded_of payload (foot_length a.configuration.ec)
    (slice_index os)) r i p y s is h) answer.answer

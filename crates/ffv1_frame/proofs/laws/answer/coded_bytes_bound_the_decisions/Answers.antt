-- In `Wide` a tally tells few decisions for the coded bytes of the payload, however decoding ends:
-- at most `decisions_a_byte` for each of them and as many a slice, at least 169, and 63 for each
-- sample of one line of its cell.
use Rattle.std.proofs.Common.{◌≡◌, ℕ, ◌≤◌, List, Result, slice_index, max, subst, sym, ap, ◌∙◌, ◌∷◌}
use Rattle.std.proofs.Common.{arith}
use Rattle.ffv1_wire.specs.Runs.{LineStep}
use Rattle.ffv1_range.specs.Renormalising.{decisions_a_byte}
use Rattle.ffv1_range.specs.Table.{Table}
use Rattle.ffv1_range.specs.declared.tally.Tally.{Tally}
use Rattle.ffv1_record.specs.Accepted.{Accepted, IsAccepted}
use Rattle.ffv1_record.specs.declared.config.Profile.TheVariants as profile
use Rattle.ffv1_slice.specs.Cutting.{Cuts, coded_of}
use Rattle.ffv1_slice.specs.Footer.{foot_length}
use Rattle.ffv1_frame.specs.Order.{events_of}
use Rattle.ffv1_frame.specs.Order.Event.{Hand}
use Rattle.ffv1_frame.specs.Bounds.{most_by_bytes}
use Rattle.ffv1_frame.specs.Answer.{Answers, decided_by, decisions_in}
use Rattle.ffv1_frame.specs.SliceList.{Said}
use Rattle.ffv1_frame.specs.declared.fault.FrameFault.{FrameFault}
use Rattle.ffv1_frame.specs.Decoding.{State, StepsBy, FaultsWith, at_first}
use Rattle.ffv1_frame.proofs.lemmas.laws.decoding.Machines.{Reaches, reaches_end, reaches_stop, reaches_before}
use Rattle.ffv1_frame.proofs.lemmas.laws.decoding.FromCoded.{lines_alike}
use Rattle.ffv1_frame.proofs.lemmas.laws.answer.RefusedHeads.{refused_short}
use Rattle.ffv1_frame.proofs.lemmas.laws.answer.FewDecisions.{StepLaws}
use Rattle.ffv1_frame.proofs.lemmas.laws.answer.FewByBytes.{few_by_slices, slices_sum}
use Rattle.ffv1_frame.proofs.lemmas.laws.answer.Answered.{few_told}
use Rattle.ffv1_frame.proofs.laws.answer.coded_bytes_bound_the_decisions.Given as given
use Rattle.ffv1_frame.proofs.laws.answer.coded_bytes_bound_the_decisions.Goals as goal

steps : (g : given.Over) (c : goal.After-planes_are_divided_part_by_part g) (a : Accepted) →
    IsAccepted a.configuration a.table → StepLaws a
steps g c a is = record {
  long = c.symbol_length_follows_from_exponent.ensures.shifted;
  refused = c.symbol_length_follows_from_exponent.ensures.refused;
  row = c.residual_length_follows_from_digits.ensures.row;
  most = c.residual_length_follows_from_digits.ensures.most;
  small = c.suiting_residuals_have_symbols.ensures.small;
  head = λ n h. c.head_takes_few_decisions.ensures.head a.profile a.configuration a.table n h is;
  stopped = c.head_takes_few_decisions.ensures.refused a.profile a.configuration;
  short = λ n before f steps inside stops.
      let columns = c.accepted_configuration_is_in_range.ensures.columns a.configuration a.table
      is in
      let rows = c.accepted_configuration_is_in_range.ensures.rows a.configuration a.table is in
      refused_short a.profile a.configuration n before f steps
      (c.accepted_configuration_is_in_range.ensures.sets a.configuration a.table is).1 columns.0
      columns.1 rows.1 inside stops;
}

reached : (g : given.Over) (c : goal.After-planes_are_divided_part_by_part g) (a : Accepted)
    (payload os : List ℕ) (t : State) → IsAccepted a.configuration a.table → a.profile ≡
    profile.Wide → Cuts a.configuration payload (slice_index os) →
    Reaches (StepsBy a (coded_of payload (foot_length a.configuration.ec) (slice_index os)))
    (FaultsWith a (coded_of payload (foot_length a.configuration.ec) (slice_index os)))
    (at_first a.configuration)
    (events_of a.configuration) t → decisions_in t ≤ most_by_bytes (decisions_a_byte a.table.floor)
    a.configuration payload
reached g c a payload os t is wide cuts h =
    let coded : ℕ → List ℕ = coded_of payload (foot_length a.configuration.ec) (slice_index os) in
    let each = decisions_a_byte a.table.floor in
    let sides = c.planes_are_divided_part_by_part.ensures a.configuration a.table is in
    let few = few_by_slices a coded (steps g c a is) each
    (λ past. c.renormalisations_bound_the_decisions.ensures.history a.table past is.closed) wide
    (lines_alike a.configuration sides) t h in
    let sum = slices_sum a payload (slice_index os) each (max each 169) sides.columns_tile
    cuts.cutting in
    omega (arith, few, sum)

-- however decoding ends, it was reached
by_reach : {S : Type 0} (takes refuses : LineStep S) (a : Accepted) (payload : List ℕ) (old new : S)
    (tally : Tally) (most : ℕ) (result : Result Said FrameFault) →
    ((os : List ℕ) (t : State) → Cuts a.configuration payload (slice_index os) →
    Reaches (StepsBy a (coded_of payload (foot_length a.configuration.ec) (slice_index os)))
    (FaultsWith a (coded_of payload (foot_length a.configuration.ec) (slice_index os)))
    (at_first a.configuration)
    (events_of a.configuration) t → decisions_in t ≤ most) →
    Answers takes refuses a payload old new tally result → decided_by tally ≤ most
by_reach takes refuses a payload old new tally most result few answer =
    let step = λ (os : List ℕ). StepsBy a (coded_of payload (foot_length a.configuration.ec)
    (slice_index os)) in
    let fault = λ (os : List ℕ). FaultsWith a (coded_of payload (foot_length a.configuration.ec)
    (slice_index os)) in
    few_told takes refuses a payload old new tally most result answer.cut answer.cuts
    (λ os s cuts f. few os s cuts (reaches_end (step os) (fault os) (at_first a.configuration) s
    (events_of a.configuration) f))
    (λ os f s cuts h. few os s cuts (reaches_stop (step os) (fault os) (at_first a.configuration) s
    f (events_of a.configuration) h))
    (λ os r i p y s cuts h.
    few os s cuts
    (subst (λ es. Reaches (step os) (fault os) (at_first a.configuration) es s) (sym h.parts)
    (reaches_before (step os) (fault os) (at_first a.configuration) s h.before
    (Hand r i p y ∷ h.after) h.runs))) answer.answer

pub returns-clause-table : goal.returns-clause-table
returns-clause-table g c = λ a payload old new tally result is wide answer.
    by_reach g.S.LineSink.takes g.S.LineSink.refuses a payload old new tally
    (most_by_bytes (decisions_a_byte a.table.floor) a.configuration payload) result
    (λ os t cuts h. reached g c a payload os t is wide cuts h) answer

pub returns-clause-standard : goal.returns-clause-standard
returns-clause-standard g c = λ a payload old new tally result is wide same answer.
    let most = most_by_bytes (decisions_a_byte a.table.floor) a.configuration payload in
    let few : decided_by tally ≤ most =
    by_reach g.S.LineSink.takes g.S.LineSink.refuses a payload old new tally most result
    (λ os t cuts h. reached g c a payload os t is wide cuts h) answer in
    let each : decisions_a_byte a.table.floor ≡ 197 = ap (λ (t : Table). decisions_a_byte t.floor)
    same ∙ c.decisions_in_a_row_renormalise.ensures.of_standard in
    let few : decided_by tally ≤ most_by_bytes 197 a.configuration payload =
    subst (λ n. decided_by tally ≤ most_by_bytes n a.configuration payload) each few in
    omega (arith, few)

-- Each decision of a slice has a state that the table holds. What the decisions of a frame cost is
-- told by its tally, however decoding ends: its renormalisations are little more than the weight of
-- the decisions asks for, and little fewer.
use Rattle.std.proofs.Common.{◌≤◌, [], arith}
use Rattle.ffv1_range.specs.declared.tally.Tally.{Tally}
use Rattle.ffv1_record.specs.Accepted.{Accepted, IsAccepted}
use Rattle.ffv1_frame.specs.Answer.{HasDecided, decisions_in, slices_in}
use Rattle.ffv1_frame.specs.Bounds.{most_decisions}
use Rattle.ffv1_frame.specs.Cost.{Costs}
use Rattle.ffv1_frame.specs.Decoding.{State}
use Rattle.ffv1_range.proofs.FewDecisions.{after_held}
use Rattle.ffv1_frame.proofs.lemmas.laws.answer.FrameCost.{costs, has_cost, most_small}
use Rattle.ffv1_frame.proofs.laws.answer.frame_cost_is_near_its_weight.Given as given
use Rattle.ffv1_frame.proofs.laws.answer.frame_cost_is_near_its_weight.Goals as goal

by_state : (g : given.Over) (c : goal.After-decoding_makes_few_decisions g) (a : Accepted)
    (s : State) (tally : Tally) → IsAccepted a.configuration a.table → decisions_in s ≤
    most_decisions a.configuration → HasDecided a.table s tally → Costs a.table (slices_in s) tally
by_state g c a s tally is few decided =
    let sizes = c.accepted_configuration_is_in_range.ensures.sizes a.configuration a.table is in
    let columns = c.accepted_configuration_is_in_range.ensures.columns a.configuration a.table is in
    let rows = c.accepted_configuration_is_in_range.ensures.rows a.configuration a.table is in
    let small = most_small a.configuration sizes.1 sizes.3 columns.1 rows.1 in
    costs a.table is.closed (λ ds held. c.code_length_is_near_its_weight.ensures.most a.table.floor
    ds is.closed.positive held) (λ ds held. c.code_length_is_near_its_weight.ensures.least
    a.table.floor ds is.closed.positive held) s (omega (arith, few, small)) tally decided

pub returns-clause-held : goal.returns-clause-held
returns-clause-held g c = λ a past is. after_held a.table is.closed [] past

pub returns-clause-state : goal.returns-clause-state
returns-clause-state g c = λ a s tally is few decided. by_state g c a s tally is few decided

pub returns-clause-answer : goal.returns-clause-answer
returns-clause-answer g c = λ a payload old new tally result is answer.
    has_cost g.S.LineSink.takes g.S.LineSink.refuses a payload old new tally
    (most_decisions a.configuration) result answer.cut
    (λ coded s ends. c.decoding_makes_few_decisions.ensures.end a coded s is ends)
    (λ coded f s refuses. c.decoding_makes_few_decisions.ensures.fault a coded f s is refuses)
    (λ coded r i p y s offers. c.decoding_makes_few_decisions.ensures.offered a coded r i p y s is
    offers)
    (λ s few decided. by_state g c a s tally is few decided) answer.answer

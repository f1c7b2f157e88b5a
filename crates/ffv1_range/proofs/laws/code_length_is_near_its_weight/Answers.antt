-- At states from floor to 256 less floor a code is little longer than its weight asks for: a 1
-- loses at most the factor (floor + 1) / floor, and a 0 nothing.
use Rattle.ffv1_range.proofs.Cost.{cost, cost_sentinel}
use Rattle.ffv1_range.proofs.CostLower.{cost_least}
use Rattle.ffv1_range.proofs.laws.code_length_is_near_its_weight.Goals as goal

pub returns-clause-most : goal.returns-clause-most
returns-clause-most c = cost

pub returns-clause-most_sentinel : goal.returns-clause-most_sentinel
returns-clause-most_sentinel c = cost_sentinel

pub returns-clause-least : goal.returns-clause-least
returns-clause-least c = cost_least

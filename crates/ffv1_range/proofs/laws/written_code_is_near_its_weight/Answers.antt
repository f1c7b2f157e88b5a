-- The cost of what an encoder has put, by states that its table holds, whose renormalisations are
-- its count less 2.
use Rattle.ffv1_range.proofs.CostWritten.{written_most, written_least, written_sentinel}
use Rattle.ffv1_range.proofs.laws.written_code_is_near_its_weight.Goals as goal

pub returns-clause-most : goal.returns-clause-most
returns-clause-most c = written_most

pub returns-clause-most_sentinel : goal.returns-clause-most_sentinel
returns-clause-most_sentinel c = written_sentinel

pub returns-clause-least : goal.returns-clause-least
returns-clause-least c = written_least

-- Where the coded bytes of a slice begin and end, or None where there is no such slice.
use Rattle.std.proofs.lemmas.Grind.{common_steps, elements}
use Rattle.std.proofs.Common.{arith}
use Rattle.ffv1_slice.proofs.spans.Spans.span.Goals as goal

pub returns-then-slice-saturating_sub-clause-value :
    goal.returns-then-slice-saturating_sub-clause-value
returns-then-slice-saturating_sub-clause-value g c = grind (arith, common_steps)

pub overflow_sub-result : goal.overflow_sub-result
overflow_sub-result g c = grind (arith, elements)

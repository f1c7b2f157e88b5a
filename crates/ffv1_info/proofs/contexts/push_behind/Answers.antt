-- Appends how many contexts each set has, with a sign before each.
use Rattle.std.proofs.Common.{arith}
use Rattle.std.proofs.lemmas.Grind.{common_steps}
use Rattle.ffv1_info.proofs.contexts.push_behind.Goals as goal

pub loop-set-preserved : goal.loop-set-preserved
loop-set-preserved g c = grind (arith, common_steps)

pub returns : goal.returns
returns g c = grind (arith, common_steps)

-- The depth above 8 of a text.
use Rattle.std.proofs.Common.{arith}
use Rattle.std.proofs.lemmas.Grind.{common_steps}
use Rattle.ffv1_y4m.proofs.tags.depth_of.Goals as goal

pub returns-in-57 : goal.returns-in-57
returns-in-57 c = grind (arith, common_steps)

pub returns-in-49 : goal.returns-in-49
returns-in-49 c = grind (arith, common_steps)

pub returns-in-49-2 : goal.returns-in-49-2
returns-in-49-2 c = grind (arith, common_steps)

pub returns-in-49-3 : goal.returns-in-49-3
returns-in-49-3 c = grind (arith, common_steps)

pub returns-in-49-4 : goal.returns-in-49-4
returns-in-49-4 c = grind (arith, common_steps)

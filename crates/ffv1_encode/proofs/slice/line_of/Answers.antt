-- A line of a rectangle of a plane whose lines have so many samples, of so many bytes each.
use Rattle.std.proofs.Common.{arith}
use Rattle.std.proofs.lemmas.Grind.{common_steps}
use Rattle.ffv1_encode.proofs.slice.line_of.Goals as goal

pub overflow_mul-start : goal.overflow_mul-start
overflow_mul-start c = grind (arith, common_steps)

pub overflow_add-start : goal.overflow_add-start
overflow_add-start c = grind (arith, common_steps)

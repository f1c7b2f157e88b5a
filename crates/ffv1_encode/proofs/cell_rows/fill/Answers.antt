-- Samples of a depth as they are coded, into a row that is kept.
use Rattle.std.proofs.Common.{arith}
use Rattle.std.proofs.lemmas.Grind.{common_steps}
use Rattle.ffv1_encode.proofs.cell_rows.fill.Goals as goal

pub returns-clause-filled : goal.returns-clause-filled
returns-clause-filled g c = grind (arith, common_steps)

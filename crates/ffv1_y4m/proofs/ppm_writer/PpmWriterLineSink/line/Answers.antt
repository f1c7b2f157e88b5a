-- Takes the line that comes next; a blue one writes its row.
use Rattle.std.proofs.Common.{arith}
use Rattle.std.proofs.lemmas.Grind.{common_steps}
use Rattle.ffv1_y4m.proofs.ppm_writer.PpmWriterLineSink.line.Goals as goal

pub returns-after-y-self-2-clause-taken : goal.returns-after-y-self-2-clause-taken
returns-after-y-self-2-clause-taken g c = grind (arith, common_steps)

pub returns-in-Err-clause-refused : goal.returns-in-Err-clause-refused
returns-in-Err-clause-refused g c = grind (arith, common_steps)

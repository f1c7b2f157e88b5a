-- The lines of a file's head, of its container and of the configuration of its frames.
use Rattle.std.proofs.Common.{arith}
use Rattle.std.proofs.lemmas.Grind.{common_steps}
use Rattle.ffv1_unpack.proofs.stream_lines.show_text.Goals as goal

pub returns : goal.returns
returns g c = grind (arith, common_steps)

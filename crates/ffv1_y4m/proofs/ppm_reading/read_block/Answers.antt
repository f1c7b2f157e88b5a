-- Reads the samples of as many places as each plane has, at most `BLOCK` bytes of each.
use Rattle.std.proofs.Common.{arith}
use Rattle.std.proofs.lemmas.Grind.{common_steps}
use Rattle.ffv1_y4m.proofs.ppm_reading.read_block.Goals as goal

pub returns : goal.returns
returns g c = grind (arith, common_steps)

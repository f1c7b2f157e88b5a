-- Reads the planes of an image of so many bytes each, in place of what the vectors had.
use Rattle.std.proofs.Common.{arith}
use Rattle.std.proofs.lemmas.Grind.{common_steps}
use Rattle.ffv1_y4m.proofs.ppm_reading.read_colour_planes.Goals as goal

pub returns-clause-answer : goal.returns-clause-answer
returns-clause-answer g c = grind (arith, common_steps)

pub returns-clause-long : goal.returns-clause-long
returns-clause-long g c = grind (arith, common_steps)

pub returns-clause-depth : goal.returns-clause-depth
returns-clause-depth g c = grind (arith, common_steps)

-- Writes the header of an image of PPM of this depth.
use Rattle.std.proofs.Common.{arith}
use Rattle.std.proofs.lemmas.Grind.{common_steps}
use Rattle.ffv1_y4m.specs.Ppm.{image_header_text}
use Rattle.ffv1_y4m.proofs.writing.write_image_header.Goals as goal

pub returns-in_err-write_parts : goal.returns-in_err-write_parts
unfolding image_header_text
returns-in_err-write_parts g c = grind (arith, common_steps)

pub returns : goal.returns
unfolding image_header_text
returns g c = grind (arith, common_steps)

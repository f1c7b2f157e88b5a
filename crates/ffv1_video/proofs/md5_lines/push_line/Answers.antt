-- Appends the line of a picture: its number, how many bytes it has, and their MD5.
use Rattle.std.proofs.Common.{arith}
use Rattle.std.proofs.lemmas.Grind.{common_steps}
use Rattle.ffv1_video.specs.Md5Text.{line_of}
use Rattle.ffv1_video.proofs.md5_lines.push_line.Goals as goal

pub returns : goal.returns
unfolding line_of
returns g c = grind (arith, common_steps)

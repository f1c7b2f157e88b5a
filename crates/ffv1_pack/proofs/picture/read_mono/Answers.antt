-- Reads the first picture of a text, which is mono; what stands after it is not read.
use Rattle.std.proofs.Common.{arith}
use Rattle.std.proofs.lemmas.Grind.{common_steps}
use Rattle.ffv1_pack.specs.Picture.{mono_of}
use Rattle.ffv1_pack.proofs.picture.read_mono.Goals as goal

pub returns-in-Some-clause-mono : goal.returns-in-Some-clause-mono
returns-in-Some-clause-mono g c = grind (arith, common_steps)

pub returns-in-Some-clause-ok : goal.returns-in-Some-clause-ok
unfolding mono_of
returns-in-Some-clause-ok g c = grind (arith, common_steps)

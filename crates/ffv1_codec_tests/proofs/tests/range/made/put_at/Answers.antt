-- One decision at a slot.
use Rattle.std.proofs.Common.{arith}
use Rattle.std.proofs.lemmas.Grind.{common_steps}
use Rattle.ffv1_codec_tests.proofs.tests.range.made.put_at.Goals as goal

pub returns : goal.returns
returns c = grind (arith, common_steps)

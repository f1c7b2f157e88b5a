-- Whether rows from fresh states, and after them others from fresh states, have these bytes, and
-- how many decisions they are.
use Rattle.std.proofs.Common.{arith}
use Rattle.std.proofs.lemmas.Grind.{elements}
use Rattle.ffv1_codec_tests.proofs.tests.line.codes.Goals as goal

pub put_samples-requires-clause-held : goal.put_samples-requires-clause-held
put_samples-requires-clause-held c = grind (arith, elements)

pub put_samples-requires-2-clause-held : goal.put_samples-requires-2-clause-held
put_samples-requires-2-clause-held c = grind (arith, elements)

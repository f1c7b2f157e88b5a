-- Whether the code of a row below rows of zeros decodes to it, from fresh states.
use Rattle.std.proofs.Common.{arith}
use Rattle.std.proofs.lemmas.Grind.{elements}
use Rattle.ffv1_codec_tests.proofs.tests.line.decodes_to.Goals as goal

pub decode_line-done-requires-clause-held : goal.decode_line-done-requires-clause-held
decode_line-done-requires-clause-held c = grind (arith, elements)

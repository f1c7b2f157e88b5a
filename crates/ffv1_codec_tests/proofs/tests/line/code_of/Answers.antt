-- The code of a row below rows of zeros, from fresh states.
use Rattle.std.proofs.Common.{arith}
use Rattle.std.proofs.lemmas.Grind.{elements}
use Rattle.ffv1_codec_tests.proofs.tests.line.code_of.Goals as goal

pub encode_line-requires-clause-held : goal.encode_line-requires-clause-held
encode_line-requires-clause-held c = grind (arith, elements)

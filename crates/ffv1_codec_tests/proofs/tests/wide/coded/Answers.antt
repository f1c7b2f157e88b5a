-- The bytes of three rows of one sample, the first by states of its own.
use Rattle.std.proofs.lemmas.Grind.{elements}
use Rattle.std.proofs.Common.{arith}
use Rattle.ffv1_codec_tests.proofs.tests.wide.coded.Goals as goal

pub encode_wide-requires-clause-held : goal.encode_wide-requires-clause-held
encode_wide-requires-clause-held c = grind (arith, elements)

pub encode_wide-requires-2-clause-held : goal.encode_wide-requires-2-clause-held
encode_wide-requires-2-clause-held c = grind (arith, elements)

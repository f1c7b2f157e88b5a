-- The three rows again.
use Rattle.std.proofs.lemmas.Grind.{elements}
use Rattle.std.proofs.Common.{arith}
use Rattle.ffv1_codec_tests.proofs.tests.wide.decoded.Goals as goal

pub decode_wide-requires-clause-held : goal.decode_wide-requires-clause-held
decode_wide-requires-clause-held c = grind (arith, elements)

pub decode_wide-requires-2-clause-held : goal.decode_wide-requires-2-clause-held
decode_wide-requires-2-clause-held c = grind (arith, elements)

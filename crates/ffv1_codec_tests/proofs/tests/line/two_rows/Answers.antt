-- What two rows of two samples of 8 bits are decoded as, from fresh states, and by how many
-- decisions.
use Rattle.std.proofs.Common.{arith}
use Rattle.std.proofs.lemmas.Grind.{elements}
use Rattle.ffv1_codec_tests.proofs.tests.line.two_rows.Goals as goal

pub decode_line-requires-clause-held : goal.decode_line-requires-clause-held
decode_line-requires-clause-held c = grind (arith, elements)

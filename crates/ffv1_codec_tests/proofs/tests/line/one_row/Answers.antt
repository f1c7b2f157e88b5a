-- What a row of 8 bits, of one to three samples, is decoded as, over samples 7 and below rows of
-- zeros, from fresh states.
use Rattle.std.proofs.Common.{arith}
use Rattle.std.proofs.lemmas.Grind.{elements}
use Rattle.ffv1_codec_tests.proofs.tests.line.one_row.Goals as goal

pub decode_line-done-requires-clause-held : goal.decode_line-done-requires-clause-held
decode_line-done-requires-clause-held c = grind (arith, elements)

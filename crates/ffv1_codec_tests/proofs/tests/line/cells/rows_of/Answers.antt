-- The last two of so many rows of two that a code has, and how many came.
use Rattle.std.proofs.Common.{arith}
use Rattle.std.proofs.lemmas.Grind.{elements}
use Rattle.ffv1_codec_tests.proofs.tests.line.cells.rows_of.Goals as goal

pub decode_cell-done-requires-clause-held : goal.decode_cell-done-requires-clause-held
decode_cell-done-requires-clause-held c = grind (arith, elements)

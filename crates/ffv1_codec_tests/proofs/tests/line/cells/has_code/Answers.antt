-- Whether three rows have the model's code, of 42 decisions.
use Rattle.std.proofs.Common.{arith}
use Rattle.std.proofs.lemmas.Grind.{elements}
use Rattle.ffv1_codec_tests.proofs.tests.line.cells.has_code.Goals as goal

pub encode_cell-requires-clause-held : goal.encode_cell-requires-clause-held
encode_cell-requires-clause-held c = grind (arith, elements)

-- The transform of lines of more than 8 bits into rows that are kept.
use Rattle.std.proofs.Common.{arith}
use Rattle.std.proofs.lemmas.Grind.{common_steps}
use Rattle.ffv1_encode.proofs.cell_rows.transform_words.Goals as goal

pub returns-clause-coded : goal.returns-clause-coded
returns-clause-coded g c = grind (arith, common_steps)

pub returns-clause-y : goal.returns-clause-y
returns-clause-y g c = grind (arith, common_steps)

pub returns-clause-cb : goal.returns-clause-cb
returns-clause-cb g c = grind (arith, common_steps)

pub returns-clause-cr : goal.returns-clause-cr
returns-clause-cr g c = grind (arith, common_steps)

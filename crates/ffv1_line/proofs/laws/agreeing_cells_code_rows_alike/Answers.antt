-- Cells that agree on the rows up to one row have the same decisions of it, and the same residuals
-- suit it.
use Rattle.ffv1_line.proofs.lemmas.laws.Agreeing.{steps_alike, suits_alike}
use Rattle.ffv1_line.proofs.laws.agreeing_cells_code_rows_alike.Goals as goal

pub returns-clause-steps : goal.returns-clause-steps
returns-clause-steps c = λ set d e y x qs agree. steps_alike set d e y x qs agree

pub returns-clause-suits : goal.returns-clause-suits
returns-clause-suits c = λ set bits d e y x qs agree are. suits_alike set bits d e y x qs agree are

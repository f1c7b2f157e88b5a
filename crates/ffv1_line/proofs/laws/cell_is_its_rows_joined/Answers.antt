-- The rows of a cell, one after the other, are the cell's list.
use Rattle.ffv1_line.proofs.lemmas.cell.Joined.{cell_steps-append}
use Rattle.ffv1_line.proofs.laws.cell_is_its_rows_joined.Goals as goal

pub returns : goal.returns
returns c = λ set c y rows qs. cell_steps-append set c y rows qs

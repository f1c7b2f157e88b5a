-- A decoder that read some rows of a cell, and then the next, read these rows.
use Rattle.ffv1_line.proofs.lemmas.cell.Joined.{rows_next}
use Rattle.ffv1_line.proofs.laws.reading_goes_on_row_by_row.Goals as goal

pub returns : goal.returns
returns c = λ coding a b d c rows qs read long coded. rows_next coding a b d c rows qs read long
    coded

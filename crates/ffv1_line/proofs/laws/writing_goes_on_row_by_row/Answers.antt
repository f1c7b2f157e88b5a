-- An encoder that wrote some rows of a cell, and then the next, wrote these rows.
use Rattle.ffv1_line.proofs.lemmas.cell.Joined.{puts_next}
use Rattle.ffv1_line.proofs.laws.writing_goes_on_row_by_row.Goals as goal

pub returns : goal.returns
returns c = λ t set a b d states between after c rows qs wrote next. puts_next t set a b d states
    between after c rows qs wrote next

-- The rows two and one above are 0 at a cell's top, and from a row to the next they move by one.
use Rattle.std.proofs.Common.{◌≡◌, ◌+◌, ◌*◌, suc, subst, arith, take, drop}
use Rattle.ffv1_line.specs.Cell.{Shows, cell_of}
use Rattle.ffv1_line.proofs.lemmas.cell.Cells.{above_top, above_more, shows_inside}
use Rattle.ffv1_line.proofs.laws.rows_above_roll_down_the_cell.Goals as goal

pub returns-clause-top : goal.returns-clause-top
returns-clause-top c = λ e. above_top e

pub returns-clause-next : goal.returns-clause-next
returns-clause-next c = λ e y two one cur above wide shows. above_more e y two one cur above wide
    shows

pub returns-clause-row : goal.returns-clause-row
returns-clause-row c = λ width y samples.
    let two_more : suc (suc y) ≡ y + 2 = omega arith in
    subst (λ n. Shows (cell_of width samples) n (take width (drop (y * width) samples)) width)
    two_more (shows_inside width samples y)

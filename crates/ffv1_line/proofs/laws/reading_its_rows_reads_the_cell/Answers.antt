-- A decoder that read rows, one below the other, read the cell of their samples.
use Rattle.ffv1_line.proofs.lemmas.cell.Cells.{rolls_first, rolls_next, read_none, read_next, read_all}
use Rattle.ffv1_line.proofs.laws.reading_its_rows_reads_the_cell.Goals as goal

pub returns-clause-top : goal.returns-clause-top
returns-clause-top c = λ width. rolls_first width

pub returns-clause-rolls : goal.returns-clause-rolls
returns-clause-rolls c = λ width n samples two one cur wide rolls. rolls_next width samples two one
    cur n wide rolls

pub returns-clause-none : goal.returns-clause-none
returns-clause-none c = λ coding r width. read_none coding r width

pub returns-clause-next : goal.returns-clause-next
returns-clause-next c = λ coding a b d width n samples over cur wide rolls read lined.
    read_next coding a b d width samples over cur n wide rolls read lined

pub returns-clause-all : goal.returns-clause-all
returns-clause-all c = λ coding a b width n samples read. read_all coding a b width n samples read

-- The rows above the first of each plane's cell in RCT, and room for it.
use Rattle.ffv1_frame.specs.Picture.{cell_in}
use Rattle.ffv1_encode.proofs.lemmas.slice_body.Bodies.{rolled_top}
use Rattle.ffv1_encode.proofs.cell_rows.restart_all.Goals as goal

pub returns-clause-rolled : goal.returns-clause-rolled
returns-clause-rolled g c =
    let slice = c.args.slice.now in
    let cell = cell_in slice.checked.now.configuration slice.picture.now slice.number in
    record {
      first = rolled_top g.W.Word.samples (cell 0) c.cell.result.width c.restart.new.rows
          c.rows_above_roll_down_the_cell.ensures.top c.cell.ensures.width
          c.in_ok-restart.ensures.two c.in_ok-restart.ensures.one c.in_ok-restart.ensures.cur;
      second = rolled_top g.W.Word.samples (cell 1) c.cell-2.result.width c.restart-2.new.rows
          c.rows_above_roll_down_the_cell.ensures.top c.cell-2.ensures.width
          c.in_ok-restart-2.ensures.two c.in_ok-restart-2.ensures.one c.in_ok-restart-2.ensures.cur;
      third = rolled_top g.W.Word.samples (cell 2) c.cell-3.result.width c.restart-3.new.rows
          c.rows_above_roll_down_the_cell.ensures.top c.cell-3.ensures.width
          c.in_ok-restart-3.ensures.two c.in_ok-restart-3.ensures.one c.in_ok-restart-3.ensures.cur;
      fourth = c.in_ok-restart_transparency.ensures.rolled;
    }

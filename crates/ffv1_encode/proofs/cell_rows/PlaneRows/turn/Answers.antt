-- Goes on to the next row of each plane.
use Rattle.ffv1_frame.specs.Picture.{cell_in}
use Rattle.ffv1_encode.proofs.lemmas.slice_body.Bodies.{rolled_next}
use Rattle.ffv1_encode.proofs.cell_rows.PlaneRows.turn.Goals as goal

pub returns-clause-rolled : goal.returns-clause-rolled
returns-clause-rolled g c = λ conf planes n y loaded. record {
  first = rolled_next g.W.Word.samples (cell_in conf planes n 0) y c.args.self.now.first
      c.turn.new.self c.rows_above_roll_down_the_cell.ensures.next loaded.first c.turn.ensures.two
      c.turn.ensures.one c.turn.ensures.cur;
  second = rolled_next g.W.Word.samples (cell_in conf planes n 1) y c.args.self.now.second
      c.turn-2.new.self c.rows_above_roll_down_the_cell.ensures.next loaded.second
      c.turn-2.ensures.two c.turn-2.ensures.one c.turn-2.ensures.cur;
  third = rolled_next g.W.Word.samples (cell_in conf planes n 2) y c.args.self.now.third
      c.turn-3.new.self c.rows_above_roll_down_the_cell.ensures.next loaded.third
      c.turn-3.ensures.two c.turn-3.ensures.one c.turn-3.ensures.cur;
  fourth = λ is. rolled_next g.W.Word.samples (cell_in conf planes n 3) y c.args.self.now.fourth
      c.turn-4.new.self c.rows_above_roll_down_the_cell.ensures.next (loaded.fourth is)
      c.turn-4.ensures.two c.turn-4.ensures.one c.turn-4.ensures.cur;
}

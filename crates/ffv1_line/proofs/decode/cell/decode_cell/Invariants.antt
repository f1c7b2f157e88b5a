use Rattle.std.proofs.Common.{◌≡◌, ◌+◌, ◌*◌, ℤ, List, length}
use Rattle.std.specs.Prelude.{vec_capacity}
use Rattle.ffv1_range.specs.Interval.{Decision}
use Rattle.ffv1_range.specs.Symbols.{AllHeld}
use Rattle.ffv1_plane.specs.Quantisation.{contexts_of}
use Rattle.ffv1_line.specs.Cell.{Cell, Above, Rolls}
use Rattle.ffv1_line.specs.Coded.{StandsAfter}
use Rattle.ffv1_line.specs.Coder.{decoder_by}
use Rattle.ffv1_line.specs.Decoded.{RowsRead}
use Rattle.ffv1_line.specs.Taken.{RowsTaken, TakesCell}
use Rattle.ffv1_line.proofs.decode.cell.decode_cell.Given as goal

abbrev pub invariant-loop : goal.invariant-loop
invariant-loop g l =
    let width = length l.fn.rows.cur.items in
    let first = decoder_by l.fn.decoder l.fn.states in
    let now = decoder_by l.decoder l.states in
    let takes = g.T.RowSink.takes in
    record {
      held : AllHeld l.coding.table l.states;
      slots : length l.states ≡ contexts_of l.coding.set * 32;
      cur_long : length l.rows.cur.items ≡ width;
      capacity : vec_capacity l.rows.two + vec_capacity l.rows.one + vec_capacity l.rows.cur
          ≡ vec_capacity l.fn.rows.two + vec_capacity l.fn.rows.one + vec_capacity l.fn.rows.cur;
      taken : RowsTaken takes l.fn.sink l.sink width
          (λ count samples. (count ≡ l.counter) ×
          (RowsRead l.coding first now width samples l.counter) ×
          (Rolls width samples l.rows.two.items l.rows.one.items l.counter));
      back : (before : List Decision) (c : Cell) (qs : List (List ℤ)) → c.width ≡ width → length qs
          ≡ l.height → StandsAfter before l.coding l.fn.states c qs 0 first →
          (Above c l.counter l.rows.two.items l.rows.one.items) ×
          (StandsAfter before l.coding l.fn.states c qs l.counter now) ×
          (TakesCell takes c l.counter l.fn.sink l.sink);
    }

use Rattle.std.proofs.Common.{◌≡◌, ◌+◌, ◌*◌, IsTrue, length}
use Rattle.std.specs.Prelude.{vec_capacity}
use Rattle.ffv1_range.specs.Symbols.{AllHeld}
use Rattle.ffv1_range.specs.Puts.{Puts}
use Rattle.ffv1_plane.specs.Quantisation.{contexts_of}
use Rattle.ffv1_line.specs.Cell.{Cell, Above}
use Rattle.ffv1_line.specs.Row.{cell_steps, chosen_rows}
use Rattle.ffv1_line.proofs.encode.cell.encode_cell.Given as goal

abbrev pub invariant-loop-y : goal.invariant-loop-y
invariant-loop-y g l =
    let cell : Cell = g.C.CellRows.cell l.cell in
    record {
      held : AllHeld l.coding.table l.states;
      slots : length l.states ≡ contexts_of l.coding.set * 32;
      above : Above cell l.y l.rows.two.items l.rows.one.items;
      two_long : length l.rows.two.items ≡ cell.width;
      cur_long : length l.rows.cur.items ≡ cell.width;
      capacity : vec_capacity l.rows.two + vec_capacity l.rows.one + vec_capacity l.rows.cur
          ≡ vec_capacity l.fn.rows.two + vec_capacity l.fn.rows.one + vec_capacity l.fn.rows.cur;
      fails : IsTrue l.fn.encoder.failed → (l.y ≡ 0) × (l.encoder ≡ l.fn.encoder) ×
          (l.states ≡ l.fn.states);
      puts : Puts l.coding.table l.fn.encoder l.fn.states l.encoder l.states
          (cell_steps l.coding.set cell 0 (chosen_rows l.coding.set l.coding.bits cell l.y));
    }

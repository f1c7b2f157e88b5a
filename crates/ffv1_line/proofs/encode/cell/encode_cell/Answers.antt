-- Codes the rows of one cell of a plane from the top, one after the other: the folded residual of
-- each sample as a symbol (RFC 9043, 3.1 to 3.8 and 4.7).
use Rattle.std.proofs.Common.{◌≡◌, ◌+◌, ◌<◌, refl, ℕ, suc, sym, ap, subst, length, IsTrue, arith}
use Rattle.std.proofs.Common.{◌∙◌}
use Rattle.std.proofs.lemmas.List.{length-replicate}
use Rattle.ffv1_range.specs.Writing.{Writing}
use Rattle.ffv1_range.proofs.Growth.{on_err}
use Rattle.ffv1_line.specs.Cell.{Cell, Shows}
use Rattle.ffv1_line.specs.Coder.{encoder_by}
use Rattle.ffv1_line.specs.Above.{rows_above}
use Rattle.ffv1_line.proofs.lemmas.cell.Cells.{cell_none, cell_next, cell_refused, cell_counts, above_top}
use Rattle.ffv1_line.proofs.lemmas.cell.Cells.{above_more}
use Rattle.ffv1_line.proofs.encode.cell.encode_cell.Goals as goal

pub loop-y-init : goal.loop-y-init
loop-y-init g c =
    let cell : Cell = g.C.CellRows.cell c.args.cell.now in
    record {
      held = c.requires.held;
      slots = c.requires.rows;
      above = rw (c.requires.two, c.requires.one) (above_top cell);
      two_long = ap length c.requires.two ∙ length-replicate {A = ℕ} cell.width 0;
      cur_long = c.requires.cur_long;
      capacity = refl;
      fails = λ failed. (refl, refl, refl);
      puts = cell_none _ _ _ _ _ _;
    }

pub returns-in_err-encode_line-clause-refused : goal.returns-in_err-encode_line-clause-refused
returns-in_err-encode_line-clause-refused g c =
    let cell : Cell = g.C.CellRows.cell c.args.cell.now in
    let kept = c.loop-y.invariant in
    let inside : c.loop-y.y < g.C.CellRows.rows c.args.cell.now =
    omega (arith, c.loop-y-test.true, c.height-y-end.ensures) in
    let refused = rw (
      c.deref.ensures.value,
      c.deref-in-loop-y.ensures.value,
      c.deref-in-loop-y-2.ensures.value,
    ) at c.in_err-encode_line.ensures.refused in
    on_err c.from_residual.result (cell_refused c.args.coding.now
    (encoder_by c.args.encoder.now c.args.states.now)
    (encoder_by c.loop-y.encoder c.loop-y.states) cell c.loop-y.y _
    (rows_above c.loop-y.rows.two.items c.loop-y.rows.one.items) c.load_row.new.line.items inside
    c.load_row.ensures.long kept.above c.load_row.ensures.shows kept.puts refused)

pub returns-in_err-encode_line-clause-kept : goal.returns-in_err-encode_line-clause-kept
returns-in_err-encode_line-clause-kept g c =
    let cell : Cell = g.C.CellRows.cell c.args.cell.now in
    let kept = c.loop-y.invariant in
    let inside : c.loop-y.y < g.C.CellRows.rows c.args.cell.now =
    omega (arith, c.loop-y-test.true, c.height-y-end.ensures) in
    let counts = rw (
      c.deref.ensures.value,
      c.deref-in-loop-y.ensures.value,
      c.deref-in-loop-y-2.ensures.value,
    ) at c.in_err-encode_line.ensures.kept in
    on_err c.from_residual.result (cell_counts c.args.coding.now
    (encoder_by c.args.encoder.now c.args.states.now)
    (encoder_by c.loop-y.encoder c.loop-y.states) c.encode_line.new.encoder.counts cell
    c.loop-y.y _
    (rows_above c.loop-y.rows.two.items c.loop-y.rows.one.items) c.load_row.new.line.items inside
    c.load_row.ensures.long kept.above c.load_row.ensures.shows kept.puts counts)

pub loop-y-preserved : goal.loop-y-preserved
loop-y-preserved g c =
    let cell : Cell = g.C.CellRows.cell c.args.cell.now in
    let kept = c.loop-y.invariant in
    let written = rw (
      c.deref.ensures.value,
      c.deref-in-loop-y.ensures.value,
      c.deref-in-loop-y-2.ensures.value,
    ) at c.in_ok-encode_line.ensures.ok in
    let one_more : suc c.loop-y.y ≡ c.loop-y.y + 1 = omega arith in
    rw (c.turn.ensures.two, c.turn.ensures.one, c.turn.ensures.cur) (record {
      held = c.in_ok-encode_line.ensures.held;
      slots = c.encode_line.auto.states ∙ kept.slots;
      above = above_more cell c.loop-y.y _ _ _ kept.above c.load_row.ensures.long
          c.load_row.ensures.shows;
      two_long = kept.above.wide;
      cur_long = kept.two_long;
      capacity = omega (arith, kept.capacity, c.load_row.ensures.capacity);
      fails = λ failed.
          let before : IsTrue c.loop-y.encoder.failed = subst IsTrue
          (sym (ap (λ (w : Writing). w.failed) (kept.fails failed).1)) failed in
          let refused = c.in_ok-encode_line.ensures.stays before in
          absurd (cc);
      puts = cell_next c.args.coding.now (encoder_by c.args.encoder.now c.args.states.now)
          (encoder_by c.loop-y.encoder c.loop-y.states)
          (encoder_by c.encode_line.new.encoder c.encode_line.new.states) cell c.loop-y.y
          (rows_above c.loop-y.rows.two.items c.loop-y.rows.one.items) c.load_row.new.line.items
          c.load_row.ensures.long kept.above.wide kept.above.second
          (subst (λ k. Shows cell k c.loop-y.rows.one.items cell.width) one_more
          kept.above.first)
          c.load_row.ensures.shows kept.puts written;
    })

-- Decodes the rows of one cell of a plane from the top, one after the other: each sample from its
-- prediction and the residual that its symbol codes (RFC 9043, 3.1 to 3.8 and 4.7).
use Rattle.std.proofs.Common.{◌≡◌, ◌<◌, refl, sym, subst, length, arith, ◌∙◌}
use Rattle.std.proofs.Math.Seq.{take-append_seam}
use Rattle.std.proofs.lemmas.Result.{err_from_is_err_and}
use Rattle.ffv1_line.specs.Coder.{decoder_by}
use Rattle.ffv1_line.specs.Above.{rows_above}
use Rattle.ffv1_line.specs.Decoded.{Lined, LinedToRefusal, RowsRead}
use Rattle.ffv1_line.specs.Taken.{samples_in}
use Rattle.ffv1_line.proofs.lemmas.cell.Cells.{above_top}
use Rattle.ffv1_line.proofs.lemmas.decode.CellBack.{behind_not_refused}
use Rattle.ffv1_line.proofs.lemmas.decode.Taken.{taken_none, taken_next, cell_taken_none, cell_back_next}
use Rattle.ffv1_line.proofs.decode.cell.decode_cell.Goals as goal

pub loop-init : goal.loop-init
loop-init g c =
    let takes = g.T.RowSink.takes in
    record {
      held = c.requires.held;
      slots = c.requires.rows;
      cur_long = refl;
      capacity = refl;
      taken = rw (c.requires.two, c.requires.one)
          (taken_none takes c.args.coding.now (decoder_by c.args.decoder.now c.args.states.now)
          (length c.args.rows.now.cur.items) c.args.sink.now);
      back = λ before e qs wide many stands. (
        rw (c.requires.two, c.requires.one, ← wide)
            (above_top e),
        stands,
        cell_taken_none takes e c.args.sink.now,
      );
    }

pub returns-in_err-decode_line-clause-refused : goal.returns-in_err-decode_line-clause-refused
returns-in_err-decode_line-clause-refused g c =
    let over = rows_above c.loop.rows.two.items c.loop.rows.one.items in
    let kept = c.loop.invariant.taken in
    let stop = err_from_is_err_and c.from_residual.result c.from_residual.ensures.1 in
    let refused : LinedToRefusal c.args.coding.now (decoder_by c.loop.decoder c.loop.states)
    (decoder_by c.decode_line.new.decoder c.decode_line.new.states) over c.decode_line.new.cur
    c.in_err-decode_line.field-0.0.x =
    rw (c.deref.ensures.value, c.deref-in-loop.ensures.value) at
    c.in_err-decode_line.ensures.refused in
    rw (stop.1, stop.2) (record {
      rows = kept.rows;
      taken = kept.taken;
      wide = kept.wide;
      holds = (
        rw (← kept.holds.0) at c.loop-test.true,
        record {
          between = decoder_by c.loop.decoder c.loop.states;
          above = over;
          cur = c.decode_line.new.cur;
          rolls = rw (← kept.holds.0) at kept.holds.2;
          read = rw (← kept.holds.0) at kept.holds.1;
          refused = refused;
        },
      );
    })

pub returns-in_err-decode_line-clause-back : goal.returns-in_err-decode_line-clause-back
returns-in_err-decode_line-clause-back g c = λ before e qs wide many stands.
    let done = c.loop.invariant.back before e qs wide many stands in
    let over = rows_above c.loop.rows.two.items c.loop.rows.one.items in
    let x = c.in_err-decode_line.field-0.0.x in
    let refused : LinedToRefusal c.args.coding.now (decoder_by c.loop.decoder c.loop.states)
    (decoder_by c.decode_line.new.decoder c.decode_line.new.states) over c.decode_line.new.cur
    x =
    rw (c.deref.ensures.value, c.deref-in-loop.ensures.value) at
    c.in_err-decode_line.ensures.refused in
    let within : x < e.width = omega (
      arith,
      c.in_err-decode_line.ensures.inside,
      c.decode_line.auto.cur,
      c.loop.invariant.cur_long,
      wide,
    ) in
    let inside : c.loop.counter < length qs = omega (arith, c.loop-test.true, many) in
    absurd (behind_not_refused before c.args.coding.now c.args.states.now e qs c.loop.counter _ _
    over c.decode_line.new.cur x inside done.0 within done.1 refused)

pub loop-preserved : goal.loop-preserved
loop-preserved g c =
    let takes = g.T.RowSink.takes in
    let kept = c.loop.invariant in
    let cur = c.decode_line.new.cur in
    let over = rows_above c.loop.rows.two.items c.loop.rows.one.items in
    let long : length cur ≡ length c.args.rows.now.cur.items =
    omega (arith, c.decode_line.auto.cur, kept.cur_long) in
    let len : c.loop.rows.cur.len ≡ length cur =
    omega (arith, c.decode_line.auto.cur, c.as_mut_slice.ensures.len) in
    let lined : Lined c.args.coding.now (decoder_by c.loop.decoder c.loop.states)
    (decoder_by c.decode_line.new.decoder c.decode_line.new.states) over cur (length cur) =
    rw (c.deref.ensures.value, c.deref-in-loop.ensures.value) at c.in_ok-decode_line.ensures.ok in
    let took : takes c.loop.sink cur c.row.new.self =
    rw (c.as_slice.ensures.value, len, take-append_seam cur) at c.row.ensures in
    rw (c.turn.ensures.two, c.turn.ensures.one, c.turn.ensures.cur, len, take-append_seam cur)
    (record {
      held = c.decode_line.ensures.held;
      slots = c.decode_line.auto.states ∙ kept.slots;
      cur_long = kept.taken.holds.2.two_long;
      capacity = omega (arith, kept.capacity);
      taken = taken_next takes c.args.coding.now _ _ _ (length c.args.rows.now.cur.items)
          c.loop.counter over cur c.args.sink.now c.loop.sink c.row.new.self long kept.taken lined
          took;
      back = λ before e qs wide many stands.
          let some : 0 < e.width = omega (arith, wide, c.requires.some) in
          let inside : c.loop.counter < length qs = omega (arith, c.loop-test.true, many) in
          cell_back_next takes before c.args.coding.now c.args.states.now e qs c.loop.counter _ _
          over cur c.args.sink.now c.loop.sink c.row.new.self some inside (long ∙ sym wide)
          (kept.back before e qs wide many stands) lined took;
    })

pub returns-clause-ok : goal.returns-clause-ok
returns-clause-ok g c =
    let kept = c.loop.invariant.taken in
    let all : c.loop.counter ≡ c.args.height = omega arith in
    record {
      rows = kept.rows;
      taken = kept.taken;
      wide = kept.wide;
      holds = (
        kept.holds.0 ∙ all,
        subst (λ n. RowsRead c.args.coding.now
            (decoder_by c.args.decoder.now c.args.states.now)
            (decoder_by c.loop.decoder c.loop.states) (length c.args.rows.now.cur.items)
            (samples_in kept.rows) n) all kept.holds.1,
      );
    }

-- Decodes what was cut, row after row.
use Rattle.std.proofs.Common.{rules, ◌≡◌, refl, ℕ, ◌-◌, ◌*◌, ◌<◌, ◌∙◌, ◌++◌, ap, sym, subst}
use Rattle.std.proofs.Common.{None, Some, List, length}
use Rattle.std.proofs.Common.{take, drop, arith}
use Rattle.std.proofs.lemmas.List.{with_items_is}
use Rattle.std.proofs.lemmas.Result.{err_from_is_err_and}
use Rattle.std.proofs.lemmas.Grind.{common_steps}
use Rattle.ffv1_decode.specs.Internal.Opened.{coded_by}
use Rattle.ffv1_decode.specs.Internal.Tied.{AreTold, column_at}
use Rattle.ffv1_record.specs.Configuration.{Configuration}
use Rattle.ffv1_record.specs.Accepted.{Accepted, IsAccepted}
use Rattle.ffv1_record.specs.Held.{held_of}
use Rattle.ffv1_record.specs.declared.checked.Held.{Held}
use Rattle.ffv1_decode.specs.declared.buffers.Lines.{Lines}
use Rattle.ffv1_decode.specs.Internal.Tied.{line_length}
use Rattle.ffv1_decode.specs.Internal.Shared.{KeepsChroma, kept_in}
use Rattle.ffv1_decode.specs.Internal.Buffers.{length_of_lines, samples_of_lines}
use Rattle.ffv1_decode.proofs.lemmas.frame.RowsDecodes.{between, rows_none, rows_more, rows_fail, rows_end}
use Rattle.ffv1_decode.proofs.frame.decode_rows.Given.{Over}
use Rattle.ffv1_decode.proofs.frame.decode_rows.Goals.{After-rows-row-end, After-close}
use Rattle.ffv1_decode.proofs.frame.decode_rows.Goals as goal

-- there are as many rows as the configuration has
rows_are : (g : Over) (c : After-rows-row-end g) → c.rows-row-end.result ≡
    c.args.checked.now.configuration.rows
rows_are g c = rw (c.new-frame.ensures.frame.grid, c.new-frame.ensures.checked) at
    c.rows-row-end.ensures

-- the columns that were closed are those of the buffers
closed : (g : Over) (c : After-close g) → take c.loop-row.buffers.slices.columns.len
    (c.close.new.columns ++ drop (length c.close.new.columns)
    c.loop-row.buffers.slices.columns.items) ≡ c.close.new.columns
closed g c = with_items_is c.loop-row.buffers.slices.columns c.close.new.columns
    (c.close.auto.columns ∙ c.deref_mut.ensures.len)

-- what is held after the lines of planes that are coded together
abbrev kept_lines : {A : Type 0} → Configuration → Lines A → List ℕ
kept_lines c lines = kept_in c (samples_of_lines lines)

pub loop-row-init : goal.loop-row-init
loop-row-init g c = record {
  same = record {
    slices = record {
      columns = refl;
      states = refl;
      columns_capacity = refl;
      states_capacity = refl;
    };
    lines = refl;
    words = λ bits holds. holds;
    out = refl;
    lines_capacity = refl;
    out_capacity = refl;
  };
  known = λ h. absurd (omega (arith, h));
  counted = refl;
  rows =
      let a = c.args.checked.now in
      rows_none g.S.LineSink.takes g.S.LineSink.refuses a
      (coded_by a c.args.payload.now c.args.spans.now) c.args.sink.now c.args.tally.now
      (kept_lines a.configuration c.args.buffers.now.lines) c.requires.tally;
}

-- there is room for what is kept
module _ (g : Over) (c : After-close g) where
  samples_are : (held_of c.args.checked.now.configuration).samples
      ≡ length_of_lines c.loop-row.buffers.lines
  samples_are = ap (λ (h : Held). h.samples) c.requires.held ∙ sym c.loop-row.invariant.same.lines

  accepted : IsAccepted c.args.checked.now.configuration c.args.checked.now.table
  accepted = subst (λ (x : Accepted). IsAccepted x.configuration x.table)
      c.new-frame.ensures.checked c.new-frame.ensures.frame.accepted

pub decode_row-decoded-requires-clause-lines : goal.decode_row-decoded-requires-clause-lines
decode_row-decoded-requires-clause-lines g c =
    let here = (goal.at.decode_row-decoded-requires-clause-lines g c).After-close in
    let a = c.args.checked.now in
    let long = c.slices_lie_beside_one_another.ensures.lines a.configuration in
    let keeps = c.slices_lie_beside_one_another.ensures.kept a.configuration a.table
    (accepted g here) in
    rw c.new-frame.ensures.checked (record {
      rolling = omega (arith, long, samples_are g here);
      kept = subst (λ n. KeepsChroma a.configuration (n - 3 * line_length a.configuration))
          (samples_are g here) keeps;
    })

pub returns-in_err-decoded-clause-exact : goal.returns-in_err-decoded-clause-exact
returns-in_err-decoded-clause-exact g c =
    let a = c.args.checked.now in
    let coded : ℕ → List ℕ = coded_by a c.args.payload.now c.args.spans.now in
    let takes = g.S.LineSink.takes in
    let refuses = g.S.LineSink.refuses in
    let done = c.loop-row.invariant.rows in
    let exact = rw (c.new-frame.ensures.checked, c.new-frame.ensures.payload) at
    c.in_err-decoded.ensures.exact in
    let inside : c.loop-row.row < a.configuration.rows =
    omega (
      arith,
      rows_are g (goal.at.returns-in_err-decoded-clause-exact g
          c).After-rows-row-end,
    ) in
    let p = err_from_is_err_and c.from_residual.result c.from_residual.ensures.1 in
    rw (p.1, p.2) (rows_fail takes refuses a coded c.args.sink.now c.loop-row.row c.loop-row.tally
    (kept_lines a.configuration c.loop-row.buffers.lines) c.loop-row.first c.loop-row.sink done
    c.decode_row-decoded.new.buffers.slices.columns.items
    c.add_up.result (λ s is told. c.add_up.ensures a.table s is
    (subst (λ z. AreTold a.table z s) (sym c.deref.ensures.value) told))
    c.in_err-decoded.field-0.0 c.decode_row-decoded.new.sink inside
    (exact c.args.sink.now done.state (between takes refuses a coded c.args.sink.now
    c.loop-row.row c.loop-row.tally (kept_lines a.configuration c.loop-row.buffers.lines)
    c.loop-row.first c.loop-row.sink done) done.above done.grows))

pub returns-in_err-decoded-clause-same : goal.returns-in_err-decoded-clause-same
returns-in_err-decoded-clause-same g c =
    record {
      slices = record {
        columns = c.in_err-decoded.ensures.same.slices.columns ∙ ap length
            (closed g (goal.at.returns-in_err-decoded-clause-same g c).After-close) ∙
            c.close.auto.columns ∙ ap length c.deref_mut.ensures.value ∙
            c.loop-row.invariant.same.slices.columns;
        states =
            c.in_err-decoded.ensures.same.slices.states ∙ c.loop-row.invariant.same.slices.states;
        columns_capacity = c.in_err-decoded.ensures.same.slices.columns_capacity ∙
            c.loop-row.invariant.same.slices.columns_capacity;
        states_capacity =
            c.in_err-decoded.ensures.same.slices.states_capacity ∙
            c.loop-row.invariant.same.slices.states_capacity;
      };
      lines = c.in_err-decoded.ensures.same.lines ∙ c.loop-row.invariant.same.lines;
      words = λ bits holds. c.in_err-decoded.ensures.same.words bits
          (c.loop-row.invariant.same.words bits holds);
      out = c.in_err-decoded.ensures.same.out ∙ c.loop-row.invariant.same.out;
      lines_capacity = c.in_err-decoded.ensures.same.lines_capacity ∙
          c.loop-row.invariant.same.lines_capacity;
      out_capacity = c.in_err-decoded.ensures.same.out_capacity ∙
          c.loop-row.invariant.same.out_capacity;
    }

pub loop-row-preserved : goal.loop-row-preserved
loop-row-preserved g c =
    let a = c.args.checked.now in
    let coded : ℕ → List ℕ = coded_by a c.args.payload.now c.args.spans.now in
    let takes = g.S.LineSink.takes in
    let refuses = g.S.LineSink.refuses in
    let done = c.loop-row.invariant.rows in
    let exact = rw (c.new-frame.ensures.checked, c.new-frame.ensures.payload) at
    c.in_ok-decoded.ensures.exact in
    record {
      same = record {
        slices = record {
          columns = c.in_ok-decoded.ensures.same.slices.columns ∙ ap length
              (closed g (goal.at.loop-row-preserved g c).After-close) ∙
              c.close.auto.columns ∙ ap length c.deref_mut.ensures.value ∙
              c.loop-row.invariant.same.slices.columns;
          states =
              c.in_ok-decoded.ensures.same.slices.states ∙ c.loop-row.invariant.same.slices.states;
          columns_capacity = c.in_ok-decoded.ensures.same.slices.columns_capacity ∙
              c.loop-row.invariant.same.slices.columns_capacity;
          states_capacity =
              c.in_ok-decoded.ensures.same.slices.states_capacity ∙
              c.loop-row.invariant.same.slices.states_capacity;
        };
        lines = c.in_ok-decoded.ensures.same.lines ∙ c.loop-row.invariant.same.lines;
        words = λ bits holds. c.in_ok-decoded.ensures.same.words bits
            (c.loop-row.invariant.same.words bits holds);
        out = c.in_ok-decoded.ensures.same.out ∙ c.loop-row.invariant.same.out;
        lines_capacity = c.in_ok-decoded.ensures.same.lines_capacity ∙
            c.loop-row.invariant.same.lines_capacity;
        out_capacity = c.in_ok-decoded.ensures.same.out_capacity ∙
            c.loop-row.invariant.same.out_capacity;
      };
      known = λ h. c.in_ok-decoded.ensures.known;
      counted = c.in_ok-decoded.ensures.counted ∙ c.loop-row.invariant.counted;
      rows = rows_more takes refuses a coded c.args.sink.now c.loop-row.row c.loop-row.tally
          (kept_lines a.configuration c.loop-row.buffers.lines) c.loop-row.first c.loop-row.sink
          done
          c.decode_row-decoded.new.buffers.slices.columns.items c.add_up.result
          (λ s is told. c.add_up.ensures a.table s is
          (subst (λ z. AreTold a.table z s) (sym c.deref.ensures.value) told))
          (kept_lines a.configuration c.decode_row-decoded.new.buffers.lines)
          c.decode_row-decoded.new.first c.decode_row-decoded.new.sink
          (exact c.args.sink.now done.state (between takes refuses a coded c.args.sink.now
          c.loop-row.row c.loop-row.tally (kept_lines a.configuration c.loop-row.buffers.lines)
          c.loop-row.first c.loop-row.sink done) done.above done.grows);
    }

pub returns-clause-exact : goal.returns-clause-exact
returns-clause-exact g c =
    let a = c.args.checked.now in
    let coded : ℕ → List ℕ = coded_by a c.args.payload.now c.args.spans.now in
    let takes = g.S.LineSink.takes in
    let refuses = g.S.LineSink.refuses in
    let done = c.loop-row.invariant.rows in
    let all : c.loop-row.row ≡ a.configuration.rows =
    omega (arith, rows_are g (goal.at.returns-clause-exact g c).After-rows-row-end) in
    let first : c.loop-row.first ≡ Some c.unwrap.result = search rules in
    rows_end takes refuses a coded c.args.sink.now c.loop-row.row c.loop-row.tally
    (kept_lines a.configuration c.loop-row.buffers.lines) c.loop-row.first c.loop-row.sink done
    c.each_step_is_one_or_zero.ensures.steps c.unwrap.result all first

pub decode_row-decoded-requires-clause-many : goal.decode_row-decoded-requires-clause-many
decode_row-decoded-requires-clause-many g c = grind (arith, common_steps)

pub decode_row-decoded-requires-clause-closed : goal.decode_row-decoded-requires-clause-closed
decode_row-decoded-requires-clause-closed g c =
    let here = goal.at.decode_row-decoded-requires-clause-closed g c in
    subst (λ z. (k : ℕ) → k < length z → (column_at z k).parked ≡ None)
    (sym (closed g here.After-close)) c.close.ensures

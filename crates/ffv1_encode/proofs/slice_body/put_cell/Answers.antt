-- Codes the rows of a cell, by the states of its class, which begin at this offset of all states.
use Rattle.std.proofs.Common.{◌≡◌, ◌+◌, ◌-◌, ◌*◌, ◌≤◌, List, length, subst, sym, arith, ◌∙◌, ap}
use Rattle.ffv1_range.specs.Symbols.{Step}
use Rattle.ffv1_range.specs.History.{AreBelow}
use Rattle.ffv1_plane.specs.Quantisation.{contexts_of}
use Rattle.ffv1_line.specs.Coding.{RowCoding}
use Rattle.ffv1_line.specs.Row.{cell_steps, chosen_rows}
use Rattle.ffv1_encode.proofs.lemmas.slice_body.Windows.{Kept, part_puts, part_held, put_held, window_long}
use Rattle.ffv1_encode.proofs.slice_body.put_cell.Goals as goal

pub encode_cell-requires-clause-held : goal.encode_cell-requires-clause-held
encode_cell-requires-clause-held g c =
    let set_is : c.coding.inside.set.now ≡ c.args.coding.now.set =
    ap (λ (v : RowCoding). v.set) c.coding.view_is in
    let count = rw set_is at c.contexts.ensures.value in
    part_held c.args.coding.now.table c.args.states.now c.args.at
    (c.args.at + c.contexts.result * 32 - c.args.at)
    (omega (arith, c.requires.fits, count)) c.requires.held

pub returns-clause-ok : goal.returns-clause-ok
returns-clause-ok g c =
    let kept : Kept = record {
      decided = c.array_states_follow_the_history.ensures.decided;
      moved = c.array_states_follow_the_history.ensures.moved;
      part = c.array_states_follow_the_history.ensures.part;
      put = c.array_states_follow_the_history.ensures.put;
      interval = c.decisions_of_two_parts_join.ensures.interval;
      history = c.decisions_of_two_parts_join.ensures.history;
      counts = c.counters_go_on_by_both_parts.ensures.append;
      counts_shifted = c.counters_go_on_by_both_parts.ensures.shifted;
    } in
    let coding = c.args.coding.now in
    let set = coding.set in
    let cell = g.C.CellRows.cell c.args.cell.now in
    let rows = chosen_rows set coding.bits cell (g.C.CellRows.rows c.args.cell.now) in
    let steps : List Step = cell_steps set cell 0 rows in
    let set_is : c.coding.inside.set.now ≡ set = ap (λ (v : RowCoding). v.set) c.coding.view_is in
    let count = rw set_is at c.contexts.ensures.value in
    let bounded = rw set_is at c.is_a_bounded_set.ensures.below in
    let wide : c.args.at + c.contexts.result * 32 - c.args.at ≡ contexts_of set * 32 =
    omega (arith, count) in
    let fits : c.args.at + (c.args.at + c.contexts.result * 32 - c.args.at) ≤ length
    c.args.states.now = omega (arith, c.requires.fits, wide) in
    let below : AreBelow steps (c.args.at + c.contexts.result * 32 - c.args.at) =
    subst (AreBelow steps) (sym wide) (c.residual_length_follows_from_digits.ensures.cell_slots
    set cell 0 rows bounded) in
    part_puts coding.table c.args.encoder.now c.encode_cell.new.encoder c.args.states.now
    c.encode_cell.new.states c.args.at _ steps kept fits
    (c.encode_cell.auto.states ∙ window_long c.args.states.now c.args.at _ fits) below
    c.in-Ok.ensures.ok

pub returns-clause-held : goal.returns-clause-held
returns-clause-held g c =
    let set_is : c.coding.inside.set.now ≡ c.args.coding.now.set =
    ap (λ (v : RowCoding). v.set) c.coding.view_is in
    let count = rw set_is at c.contexts.ensures.value in
    put_held c.args.coding.now.table c.args.states.now c.encode_cell.new.states c.args.at
    (c.args.at + c.contexts.result * 32 - c.args.at)
    (omega (arith, c.requires.fits, count)) c.requires.held
    c.in-Ok.ensures.held

-- Codes a row of a cell, by the states of its class, which begin at this offset of all states.
use Rattle.std.proofs.Common.{◌≡◌, ◌+◌, ◌-◌, ◌*◌, arith, ap}
use Rattle.ffv1_plane.specs.Quantisation.{contexts_of}
use Rattle.ffv1_line.specs.Coding.{RowCoding}
use Rattle.ffv1_encode.proofs.lemmas.slice_body.Windows.{Kept, row_puts, part_held, put_held}
use Rattle.ffv1_encode.proofs.slice_body.put_row.Goals as goal

pub encode-requires-clause-held : goal.encode-requires-clause-held
encode-requires-clause-held g c =
    let set_is : c.coding.inside.set.now ≡ c.args.coding.now.set =
    ap (λ (v : RowCoding). v.set) c.coding.view_is in
    let count = rw set_is at c.contexts.ensures.value in
    part_held c.args.coding.now.table c.args.states.now c.args.at
    (c.args.at + c.contexts.result * 32 - c.args.at)
    (omega (arith, c.requires.fits, count)) c.requires.held

pub returns-clause-ok : goal.returns-clause-ok
returns-clause-ok g c = λ cell y loaded.
    let kept : Kept = record {
      decided = c.array_states_follow_the_history.ensures.decided;
      moved = c.array_states_follow_the_history.ensures.moved;
      part = c.array_states_follow_the_history.ensures.part;
      put = c.array_states_follow_the_history.ensures.put;
      interval = c.decisions_of_two_parts_join.ensures.interval;
      history = c.decisions_of_two_parts_join.ensures.history;
      counts = c.counters_go_on_by_both_parts.ensures.append;
      counts_shifted = c.counters_go_on_by_both_parts.ensures.shifted;
    } in
    let set_is : c.coding.inside.set.now ≡ c.args.coding.now.set =
    ap (λ (v : RowCoding). v.set) c.coding.view_is in
    let count = rw set_is at c.contexts.ensures.value in
    let below = rw set_is at c.is_a_bounded_set.ensures.below in
    let wide : c.args.at + c.contexts.result * 32 - c.args.at ≡ contexts_of
    c.args.coding.now.set * 32 = omega (arith, count) in
    let written = rw (c.deref.ensures.value, c.deref-2.ensures.value, c.deref-3.ensures.value) at
    c.in-Ok.ensures.ok in
    row_puts c.args.coding.now.table c.args.coding.now.set c.args.encoder.now
    c.encode.new.encoder c.args.states.now c.encode.new.states
    (g.W.Word.samples c.args.rows.now.two.items) (g.W.Word.samples c.args.rows.now.one.items)
    (g.W.Word.samples c.args.rows.now.cur.items) c.args.at _ c.args.coding.now.bits kept
    (λ d y x qs. c.row_slots_are_the_contexts_slots.ensures c.args.coding.now.set d y x qs
    below) wide c.requires.fits c.encode.auto.states written cell y
    loaded.above loaded.cur_long loaded.shows

pub returns-clause-held : goal.returns-clause-held
returns-clause-held g c =
    let set_is : c.coding.inside.set.now ≡ c.args.coding.now.set =
    ap (λ (v : RowCoding). v.set) c.coding.view_is in
    let count = rw set_is at c.contexts.ensures.value in
    put_held c.args.coding.now.table c.args.states.now c.encode.new.states c.args.at
    (c.args.at + c.contexts.result * 32 - c.args.at)
    (omega (arith, c.requires.fits, count)) c.requires.held
    c.in-Ok.ensures.held

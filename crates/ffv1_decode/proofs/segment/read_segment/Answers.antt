-- Reads a segment: wakes a decoder on the bytes of its slice, decodes a row by the states of its
-- class, and parks.
use Rattle.std.proofs.Common.{rules, ◌≡◌, ◌≤◌, length, Some, ap}
use Rattle.std.proofs.lemmas.Result.{on_ok_weaker}
use Rattle.ffv1_line.specs.Coding.{RowCoding}
use Rattle.ffv1_decode.proofs.lemmas.colours.Outcomes.{both_outcomes}
use Rattle.ffv1_decode.proofs.lemmas.segment.SegmentReads.{Laws, segment_read, segment_refused}
use Rattle.ffv1_decode.proofs.segment.read_segment.Goals as goal

pub returns-clause-exact : goal.returns-clause-exact
returns-clause-exact g c = λ past base samples y stands rolls.
    let laws : Laws = record {
      decides = c.array_states_follow_the_history.ensures.decided;
      moves = c.array_states_follow_the_history.ensures.moved;
      history = c.decisions_of_two_parts_join.ensures.history;
      reads = c.read_bytes_code_what_was_read.ensures;
      append = c.counters_go_on_by_both_parts.ensures.append;
      shifts = c.counters_go_on_by_both_parts.ensures.shifted;
      from_nothing = c.counters_from_zero_show_all_steps.ensures;
      below_both = c.decisions_of_two_parts_join.ensures.below;
      below_long = c.symbols_stay_in_their_slots.ensures.refused;
      below_shifted = c.symbols_stay_in_their_slots.ensures.shifted;
      below_more = c.symbols_stay_in_their_slots.ensures.more;
      below_row = c.row_slots_are_the_contexts_slots.ensures;
    } in
    let set_is : c.coding.inside.set.now ≡ c.args.coding.now.set =
    ap (λ (v : RowCoding). v.set) c.coding.view_is in
    let below = rw set_is at c.is_a_bounded_set.ensures.below in
    let two = c.args.above.now.two in
    let one = c.args.above.now.one in
    let row = g.W.Word.samples c.decode-read.new.cur in
    let is : c.args.parked.now ≡ Some c.unwrap.result = search rules in
    let lined = rw c.wake-decoder.ensures at c.decode-read.ensures.ok in
    let refused = rw c.wake-decoder.ensures at c.decode-read.ensures.refused in
    rw c.park.ensures (both_outcomes c.decode-read.result lined c.decode-read.ensures.inside refused
    (λ u line. segment_read laws c.args.bytes.now c.args.coding.now.table base
    c.args.coding.now.set c.args.coding.now.bits past c.args.states.now
    c.decode-read.new.states c.unwrap.result c.args.parked.now c.decode-read.new.decoder
    two one row samples y below c.requires.rows is stands rolls line)
    (λ e inside stop. segment_refused laws c.args.bytes.now c.args.coding.now.table base
    c.args.coding.now.set c.args.coding.now.bits past c.args.states.now
    c.decode-read.new.states c.unwrap.result c.args.parked.now c.decode-read.new.decoder
    two one row samples y below c.requires.rows is stands rolls e.x inside stop))

pub returns-clause-small : goal.returns-clause-small
returns-clause-small g c =
    let few : length (g.W.Word.samples c.decode-read.new.cur) ≤ length
    c.args.above.now.one = search rules in
    on_ok_weaker c.decode-read.result (λ lined. c.read_samples_fit_their_bits.ensures.read _ _ _ _ _
    _ few lined) c.decode-read.ensures.ok

-- At Wide the bytes of a slice are as many as those of the sentinel ending of its decisions.
use Rattle.std.proofs.Common.{[], ◌++◌}
use Rattle.ffv1_slice.specs.Head.{key_steps, head_steps}
use Rattle.ffv1_frame.specs.CodedSlice.{decided_by_slice}
use Rattle.ffv1_frame.proofs.lemmas.Coders.{by_range}
use Rattle.ffv1_frame.proofs.laws.decoding.slices_end_near_the_sentinel_ending.Goals as goal

pub returns-clause-near : goal.returns-clause-near
returns-clause-near c = λ a bytes planes info n slice is range wide.
    let ended = (slice.ending.range range).ended wide in
    let steps = key_steps n ++ (head_steps a.configuration n slice.head ++ slice.body) in
    let states = c.each_decision_has_a_state.ensures.named a.table [] steps is.closed in
    let law = c.ended_bytes_are_near_the_sentinel_ending.ensures in
    let place = (law.exact bytes (decided_by_slice slice) states).0 ended in
    (place.0, place.1, law.near bytes (decided_by_slice slice) states ended)

pub returns-clause-others : goal.returns-clause-others
returns-clause-others c = λ a bytes others planes info n slice range are ended. record {
  head = slice.head;
  is_head = slice.is_head;
  says = slice.says;
  body = slice.body;
  is_body = slice.is_body;
  codes = c.ended_bytes_code_their_list.ensures.codes others (decided_by_slice slice) are ended;
  ending = by_range range (record { ended = λ wide. ended });
}

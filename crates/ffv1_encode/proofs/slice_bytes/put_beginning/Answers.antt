-- Puts the key and the head of a slice.
use Rattle.std.proofs.Common.{subst}
use Rattle.ffv1_slice.specs.declared.head.SliceHead.{SliceHead}
use Rattle.ffv1_slice.specs.Head.{head_values, head_steps}
use Rattle.ffv1_slice.specs.Coding.{PutsAt}
use Rattle.ffv1_frame.specs.SliceList.{chosen_head}
use Rattle.ffv1_encode.proofs.lemmas.slice_bytes.Beginnings.{Fresh, begun}
use Rattle.ffv1_encode.proofs.slice_bytes.put_beginning.Goals as goal

pub returns-clause-ok : goal.returns-clause-ok
returns-clause-ok g c = λ count.
    let slice = c.args.slice.now in
    let conf = slice.checked.now.configuration in
    let laws : Fresh = record {
      unsigned = c.symbols_stay_in_their_slots.ensures.unsigned;
      shifted_below = c.symbols_stay_in_their_slots.ensures.shifted;
      below = c.decisions_of_two_parts_join.ensures.below;
      fresh = c.array_states_follow_the_history.ensures.fresh;
      others = c.array_states_follow_the_history.ensures.others;
      counts = c.counters_go_on_by_both_parts.ensures.append;
    } in
    let head = subst (λ (h : SliceHead). PutsAt slice.checked.now.table 1 32 c.put_key.new.encoder
    c.put_head.new.encoder (head_steps conf slice.number h)) c.head-head.ensures.value
    c.in-Ok-put_head.ensures.ok in
    begun slice.checked.now.table slice.number count
    (head_values conf slice.number (chosen_head conf slice.info)) c.args.encoder.now
    c.put_key.new.encoder c.put_head.new.encoder laws c.requires c.in-Ok.ensures.ok head

-- The next item: a frame, in place of what the vector has, or a fault; or the end.
use Rattle.std.proofs.Common.{◌≡◌, ◌-◌, ◌+◌, suc, None, inl, refl, arith}
use Rattle.ffv1_reads.specs.Reads.{given}
use Rattle.ffv1_reads.proofs.Reading.{goes_given, goes_none, goes_same}
use Rattle.ffv1_avi.specs.Items.{ended_by, frame_given, item_read}
use Rattle.ffv1_avi.proofs.EndedTurns.{ended_begins, ended_on, ended_over, ended_spent, ended_stops}
use Rattle.ffv1_avi.proofs.ItemReadings.{item_last, no_turn, turn_frame, turn_on, turn_over}
use Rattle.ffv1_avi.proofs.ItemReadings.{turn_stops, turn_told}
use Rattle.ffv1_avi.proofs.items.read_item.Goals as goal

pub loop-turn-init : goal.loop-turn-init
unfolding item_read ended_by
loop-turn-init g c = (
  goes_none (item_read c.args.course.now) _ _,
  ended_begins (ended_by c.args.course.now) _,
)

pub returns-in-Err-clause-answer : goal.returns-in-Err-clause-answer
returns-in-Err-clause-answer g c =
    let most = 18446744073709551615 - (c.loop-turn._turn + 1) in
    let more : 18446744073709551615 - c.loop-turn._turn ≡ suc most = omega
    (arith, c.loop-turn-test.true) in
    turn_stops most c.loop-turn.course _ _ (rw more at c.loop-turn.invariant.0)
    c.stop.new.course c.loop-turn.frame.items c.in-Err.fault c.stop.result c.in-Err.ensures.answer
    (rw c.end_item-end.ensures at c.stop.ensures)

pub returns-in_default-clause-answer : goal.returns-in_default-clause-answer
returns-in_default-clause-answer g c =
    let most = 18446744073709551615 - (c.loop-turn._turn + 1) in
    let more : 18446744073709551615 - c.loop-turn._turn ≡ suc most = omega
    (arith, c.loop-turn-test.true) in
    turn_over most c.loop-turn.course _ _ (rw more at c.loop-turn.invariant.0)
    c.loop-turn.frame.items c.over_at.result (rw c.in_default.is at c.in-Ok.ensures.answer)

pub returns-in-Frame-clause-answer : goal.returns-in-Frame-clause-answer
returns-in-Frame-clause-answer g c =
    let most = 18446744073709551615 - (c.loop-turn._turn + 1) in
    let more : 18446744073709551615 - c.loop-turn._turn ≡ suc most = omega
    (arith, c.loop-turn-test.true) in
    let read = rw (c.in-Some.is, c.in-Frame.is) at c.in-Ok.ensures.answer in
    let next = turn_frame most c.loop-turn.course _ _ (rw more at c.loop-turn.invariant.0)
    c.in-Frame.count c.in-Frame.size c.in-Frame.place read in
    item_last (frame_given c.loop-turn.course c.in-Frame.count c.in-Frame.size c.in-Frame.place) _ _
    next c.take_frame.new.frame.items c.take_frame.new.course c.take_frame.result
    c.take_frame.ensures.answer

pub returns-in-Told-clause-answer : goal.returns-in-Told-clause-answer
returns-in-Told-clause-answer g c =
    let most = 18446744073709551615 - (c.loop-turn._turn + 1) in
    let more : 18446744073709551615 - c.loop-turn._turn ≡ suc most = omega
    (arith, c.loop-turn-test.true) in
    let read = rw (c.in-Some.is, c.in-Told.is) at c.in-Ok.ensures.answer in
    rw (c.begun_by-offset.ensures, c.told_on.ensures)
    (turn_told most c.loop-turn.course _ _ (rw more at c.loop-turn.invariant.0)
    c.in-Told.fault c.in-Told.count c.in-Told.pending c.in-Told.place c.loop-turn.frame.items read)

pub returns-clause-answer : goal.returns-clause-answer
returns-clause-answer g c =
    let left = 18446744073709551615 - c.loop-turn._turn in
    let none : left ≡ 0 = omega (arith, c.loop-turn-test.false) in
    let read = goes_given None (goes_same _ (given None)
    (λ text. no_turn left c.loop-turn.course text none) c.loop-turn.invariant.0) in
    (read.0, inl read.1)

pub loop-turn-preserved : goal.loop-turn-preserved
loop-turn-preserved g c =
    let most = 18446744073709551615 - (c.loop-turn._turn + 1) in
    let more : 18446744073709551615 - c.loop-turn._turn ≡ suc most = omega
    (arith, c.loop-turn-test.true) in
    let read = rw (c.in-Some.is, c.in-On.is) at c.in-Ok.ensures.answer in
    rw c.moved.ensures (
      turn_on most c.loop-turn.course _ _ (rw more at c.loop-turn.invariant.0)
          c.in-On.count c.in-On.pending c.in-On.place read,
      ended_on (ended_by c.args.course.now) most c.loop-turn.course c.in-On.count c.in-On.pending
          c.in-On.place _ _ _ (rw more at c.loop-turn.invariant.1) read.1,
    )

pub returns-in-Err-clause-ended : goal.returns-in-Err-clause-ended
returns-in-Err-clause-ended g c =
    let most = 18446744073709551615 - (c.loop-turn._turn + 1) in
    let more : 18446744073709551615 - c.loop-turn._turn ≡ suc most = omega
    (arith, c.loop-turn-test.true) in
    ended_stops (ended_by c.args.course.now) most c.loop-turn.course c.end_item-end.result
    c.stop.new.course _ _ _ _ _ c.in-Err.fault c.stop.result
    (rw more at c.loop-turn.invariant.1) c.in-Err.ensures.answer c.stop.ensures

pub returns-in_default-clause-ended : goal.returns-in_default-clause-ended
returns-in_default-clause-ended g c =
    let most = 18446744073709551615 - (c.loop-turn._turn + 1) in
    let more : 18446744073709551615 - c.loop-turn._turn ≡ suc most = omega
    (arith, c.loop-turn-test.true) in
    let read = rw c.in_default.is at c.in-Ok.ensures.answer in
    let says = rw c.in_default.is at c.in-Ok.ensures.some in
    rw c.over_at.ensures (λ i. ended_over (ended_by c.args.course.now) most c.loop-turn.course
    c.take_turn.new.some _ _ _ (says refl) (rw more at c.loop-turn.invariant.1) read.1)

pub returns-clause-ended : goal.returns-clause-ended
returns-clause-ended g c =
    let left = 18446744073709551615 - c.loop-turn._turn in
    let none : left ≡ 0 = omega (arith, c.loop-turn-test.false) in
    rw c.over.ensures (λ i. ended_spent (ended_by c.args.course.now) left c.loop-turn.course _ _ none
    c.loop-turn.invariant.1)

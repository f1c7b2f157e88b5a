-- The next item: a frame, in place of what the vector has, or a fault; or the end.
use Rattle.std.proofs.Common.{◌≡◌, ◌-◌, ◌+◌, suc, None, Some, inl, arith}
use Rattle.ffv1_reads.specs.Reads.{given}
use Rattle.ffv1_reads.proofs.Reading.{goes_given, goes_none, goes_same}
use Rattle.ffv1_matroska.specs.CuedItems.{cued_item}
use Rattle.ffv1_matroska.specs.Items.{frame_given, item_read}
use Rattle.ffv1_matroska.specs.declared.course.Turn.TheVariants.{Frame, On, Told}
use Rattle.ffv1_matroska.proofs.CuedTurns.{cued_begins, cued_frame, cued_over, cued_stops}
use Rattle.ffv1_matroska.proofs.CuedTurns.{cued_told, cued_turned}
use Rattle.ffv1_matroska.proofs.ItemReadings.{item_last, no_turn, turn_frame, turn_on, turn_over}
use Rattle.ffv1_matroska.proofs.ItemReadings.{turn_stops, turn_told}
use Rattle.ffv1_matroska.proofs.items.read_item.Goals as goal

pub loop-turn-init : goal.loop-turn-init
unfolding item_read cued_item
loop-turn-init g c = (
  goes_none (item_read c.args.track c.args.course.now) _ _,
  cued_begins (cued_item c.args.track c.args.course.now c.args.cued.now) _,
)

pub returns-in-Err-clause-answer : goal.returns-in-Err-clause-answer
returns-in-Err-clause-answer g c =
    let most = 18446744073709551615 - (c.loop-turn._turn + 1) in
    let more : 18446744073709551615 - c.loop-turn._turn ≡ suc most = omega
    (arith, c.loop-turn-test.true) in
    turn_stops most c.args.track c.loop-turn.course _ _ (rw more at c.loop-turn.invariant.0)
    c.stop.new.course c.loop-turn.frame.items c.in-Err.fault c.stop.result c.in-Err.ensures.answer
    (rw c.end_item-end.ensures at c.stop.ensures)

pub returns-in_default-clause-answer : goal.returns-in_default-clause-answer
returns-in_default-clause-answer g c =
    let most = 18446744073709551615 - (c.loop-turn._turn + 1) in
    let more : 18446744073709551615 - c.loop-turn._turn ≡ suc most = omega
    (arith, c.loop-turn-test.true) in
    turn_over most c.args.track c.loop-turn.course _ _ (rw more at c.loop-turn.invariant.0)
    c.loop-turn.frame.items c.over.result (rw c.in_default.is at c.in-Ok.ensures.answer)

pub returns-in-Frame-clause-answer : goal.returns-in-Frame-clause-answer
returns-in-Frame-clause-answer g c =
    let most = 18446744073709551615 - (c.loop-turn._turn + 1) in
    let more : 18446744073709551615 - c.loop-turn._turn ≡ suc most = omega
    (arith, c.loop-turn-test.true) in
    let read = rw (c.in-Some.is, c.in-Frame.is) at c.in-Ok.ensures.answer in
    let next = turn_frame most c.args.track c.loop-turn.course _ _
    (rw more at c.loop-turn.invariant.0) c.in-Frame.size c.in-Frame.place read in
    item_last (frame_given c.loop-turn.course c.in-Frame.size c.in-Frame.place) _ _ next
    c.take_frame.new.frame.items c.take_frame.new.course c.take_frame.result
    c.take_frame.ensures.answer

pub returns-in-Told-clause-answer : goal.returns-in-Told-clause-answer
returns-in-Told-clause-answer g c =
    let most = 18446744073709551615 - (c.loop-turn._turn + 1) in
    let more : 18446744073709551615 - c.loop-turn._turn ≡ suc most = omega
    (arith, c.loop-turn-test.true) in
    let read = rw (c.in-Some.is, c.in-Told.is) at c.in-Ok.ensures.answer in
    rw (c.begun_by-offset.ensures, c.moved-in-Told.ensures)
    (turn_told most c.args.track c.loop-turn.course _ _ (rw more at c.loop-turn.invariant.0)
    c.in-Told.fault c.in-Told.pending c.in-Told.place c.loop-turn.frame.items read)

pub returns-clause-answer : goal.returns-clause-answer
returns-clause-answer g c =
    let left = 18446744073709551615 - c.loop-turn._turn in
    let none : left ≡ 0 = omega (arith, c.loop-turn-test.false) in
    let read = goes_given None (goes_same _ (given None)
    (λ text. no_turn left c.args.track c.loop-turn.course text none) c.loop-turn.invariant.0) in
    (read.0, inl read.1)

pub loop-turn-preserved : goal.loop-turn-preserved
loop-turn-preserved g c =
    let most = 18446744073709551615 - (c.loop-turn._turn + 1) in
    let more : 18446744073709551615 - c.loop-turn._turn ≡ suc most = omega
    (arith, c.loop-turn-test.true) in
    let read = rw (c.in-Some.is, c.in-On.is) at c.in-Ok.ensures.answer in
    rw c.moved.ensures (
      turn_on most c.args.track c.loop-turn.course _ _ (rw more at c.loop-turn.invariant.0)
          c.in-On.pending c.in-On.place read,
      cued_turned (cued_item c.args.track c.args.course.now c.args.cued.now) most c.args.track
          c.loop-turn.course c.loop-turn.cued (Some (On c.in-On.pending c.in-On.place)) _ _ _ _
          (rw more at c.loop-turn.invariant.1) c.in-Ok.ensures.cued read.1,
    )

pub returns-in-Err-clause-cued : goal.returns-in-Err-clause-cued
returns-in-Err-clause-cued g c =
    let most = 18446744073709551615 - (c.loop-turn._turn + 1) in
    let more : 18446744073709551615 - c.loop-turn._turn ≡ suc most = omega
    (arith, c.loop-turn-test.true) in
    let whole = cued_item c.args.track c.args.course.now c.args.cued.now in
    cued_stops whole most c.args.track c.loop-turn.course c.loop-turn.cued _ c.stop.new.course _ _ _ _
    _ c.in-Err.fault c.stop.result (rw more at c.loop-turn.invariant.1) c.in-Err.ensures.answer
    c.stop.ensures

pub returns-in_default-clause-cued : goal.returns-in_default-clause-cued
returns-in_default-clause-cued g c =
    let most = 18446744073709551615 - (c.loop-turn._turn + 1) in
    let more : 18446744073709551615 - c.loop-turn._turn ≡ suc most = omega
    (arith, c.loop-turn-test.true) in
    let whole = cued_item c.args.track c.args.course.now c.args.cued.now in
    let read = (rw c.in_default.is at c.in-Ok.ensures.answer).1 in
    cued_told whole _ _ _ (cued_turned whole most c.args.track c.loop-turn.course c.loop-turn.cued
    None _ _ _ _ (rw more at c.loop-turn.invariant.1) c.in-Ok.ensures.cued read)

pub returns-in-Frame-clause-cued : goal.returns-in-Frame-clause-cued
returns-in-Frame-clause-cued g c =
    let most = 18446744073709551615 - (c.loop-turn._turn + 1) in
    let more : 18446744073709551615 - c.loop-turn._turn ≡ suc most = omega
    (arith, c.loop-turn-test.true) in
    let whole = cued_item c.args.track c.args.course.now c.args.cued.now in
    let read = (rw (c.in-Some.is, c.in-Frame.is) at c.in-Ok.ensures.answer).1 in
    let next = cued_turned whole most c.args.track c.loop-turn.course c.loop-turn.cued
    (Some (Frame c.in-Frame.size c.in-Frame.place)) _ _ _ _ (rw more at c.loop-turn.invariant.1)
    c.in-Ok.ensures.cued read in
    cued_frame whole _ (frame_given c.loop-turn.course c.in-Frame.size c.in-Frame.place) _ _ _ _ _
    c.take_frame.result c.take_frame.new.frame.items c.take_frame.new.course next
    c.take_frame.ensures.answer

pub returns-in-Told-clause-cued : goal.returns-in-Told-clause-cued
returns-in-Told-clause-cued g c =
    let most = 18446744073709551615 - (c.loop-turn._turn + 1) in
    let more : 18446744073709551615 - c.loop-turn._turn ≡ suc most = omega
    (arith, c.loop-turn-test.true) in
    let whole = cued_item c.args.track c.args.course.now c.args.cued.now in
    let read = (rw (c.in-Some.is, c.in-Told.is) at c.in-Ok.ensures.answer).1 in
    cued_told whole _ _ _ (cued_turned whole most c.args.track c.loop-turn.course c.loop-turn.cued
    (Some (Told c.in-Told.fault c.in-Told.pending c.in-Told.place)) _ _ _ _
    (rw more at c.loop-turn.invariant.1) c.in-Ok.ensures.cued read)

pub returns-clause-cued : goal.returns-clause-cued
returns-clause-cued g c =
    let left = 18446744073709551615 - c.loop-turn._turn in
    let none : left ≡ 0 = omega (arith, c.loop-turn-test.false) in
    cued_over (cued_item c.args.track c.args.course.now c.args.cued.now) left c.args.track
    c.loop-turn.course c.loop-turn.cued _ _ none c.loop-turn.invariant.1

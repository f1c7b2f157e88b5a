-- The next element of a Segment of unknown size; None if the input has ended before it.
use Rattle.ffv1_matroska.specs.Turns.{turn_after}
use Rattle.ffv1_matroska.proofs.TurnReadings.{some_last, turn_begun}
use Rattle.ffv1_matroska.proofs.CuedTurns.{cued_begun, cued_ended}
use Rattle.ffv1_matroska.proofs.outer_turn.read_or_end.Goals as goal

pub returns-clause-answer : goal.returns-clause-answer
returns-clause-answer g c =
    let h = c.in-Ok.ensures in
    let first = c.in-Some.first in
    let start = turn_begun c.args.track c.args.place first h.counted (rw c.in-Some.is at h.ok) in
    rw c.turn_of.ensures (some_last (turn_after c.args.track first c.args.place) _ _ _ start
    c.element_after.ensures.answer)

pub returns-clause-cued : goal.returns-clause-cued
returns-clause-cued g c =
    let h = c.in-Ok.ensures in
    let first = c.in-Some.first in
    rw c.turn_of.ensures (cued_begun c.args.cued.now _ first _ _ _ c.element_after.result
    (rw c.in-Some.is at h.ok) c.element_after.ensures.cued)

pub returns-in_default-clause-cued : goal.returns-in_default-clause-cued
returns-in_default-clause-cued g c = cued_ended c.args.cued.now _ _
    (rw c.in_default.is at c.in-Ok.ensures.ok)

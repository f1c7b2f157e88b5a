-- The next element of a Segment; None at its end.
use Rattle.std.proofs.Common.{◌<◌, ◌+◌, arith, refl}
use Rattle.ffv1_matroska.specs.Internal.{bytes_of}
use Rattle.ffv1_matroska.specs.Places.{amount, segment_at}
use Rattle.ffv1_matroska.specs.Segments.{header_read, segment_read}
use Rattle.ffv1_reads.proofs.Reading.{goes_last, goes_none}
use Rattle.ffv1_reads.proofs.EndReadings.{answers_none, none_read, some_read}
use Rattle.ffv1_matroska.proofs.CuedElements.{cued_segment}
use Rattle.ffv1_matroska.proofs.Steps.{steps_less, within_bytes}
use Rattle.ffv1_matroska.proofs.segment.read_segment.Goals as goal

pub returns-clause-answer : goal.returns-clause-answer
unfolding segment_read
returns-clause-answer g c =
    let next = none_read _ _ _ _ _ (goes_none (segment_read c.args.track c.args.place) _ _)
    (rw c.in-Some.is at c.in_ok-element.ensures.answer) in
    answers_none _ (segment_read c.args.track c.args.place) _ _
    (goes_last _ _ _ _ _ next (rw c.segment_at-after.ensures at c.segment_child.ensures.answer))

pub returns-clause-less : goal.returns-clause-less
returns-clause-less g c =
    let place = c.args.place in
    let e = c.in-Some.element in
    let after = segment_at place place.loose e.left in
    let within = within_bytes e _ e.size refl (rw c.in-Some.is at c.in_ok-element.ensures.within) in
    let some = rw c.in-Some.is at c.in_ok-element.ensures.some in
    let less : amount after + bytes_of e.size < amount place = omega (arith, within, some) in
    steps_less c.segment_child.result (amount after + bytes_of e.size) (amount place) less
    (rw c.segment_at-after.ensures at c.segment_child.ensures.most)

pub returns-clause-cued : goal.returns-clause-cued
returns-clause-cued g c =
    let place = c.args.place in
    let e = c.in-Some.element in
    let header = some_read (header_read place) _ _ e
    (rw c.in-Some.is at c.in_ok-element.ensures.answer).1 in
    rw c.cued_by.ensures (λ group cluster. cued_segment c.args.track place c.args.cued.now e _ _ _ _ _
    c.segment_child.result group cluster header
    (rw c.segment_at-after.ensures at c.segment_child.ensures.answer))

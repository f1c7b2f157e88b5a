-- The size of the Segment, or None if it is unknown. Its header comes next, or after Voids, which
-- are passed.
use Rattle.std.proofs.Common.{◌≡◌, ◌-◌, ◌+◌, ◌^◌, ◌∙◌, suc, Some, None, inl, arith, refl}
use Rattle.std.proofs.lemmas.Result.{err_from_is_err_and}
use Rattle.ffv1_reads.specs.declared.fault.FileFault.TheVariants as fault
use Rattle.ffv1_reads.proofs.Answered.{answers_err, answers_fault, answers_first, answers_from}
use Rattle.ffv1_reads.proofs.Answered.{answers_given, answers_next, answers_ok, answers_refused}
use Rattle.ffv1_reads.proofs.OffsetLaws.{offset_same, reads_none}
use Rattle.ffv1_reads.proofs.Reading.{goes_none, goes_read}
use Rattle.ffv1_matroska.specs.Offsets.{BeforeSegment, spot_taken}
use Rattle.ffv1_matroska.specs.Opening.{most_elements, root_or_on, root_read, segment_entered}
use Rattle.ffv1_matroska.specs.Opening.{segment_up_to}
use Rattle.ffv1_matroska.proofs.SpotReadings.{counts_on, none_left, opening_stops, root_refused}
use Rattle.ffv1_matroska.proofs.SpotReadings.{counted_all, counted_none, counted_read, root_whole}
use Rattle.ffv1_matroska.proofs.opening.enter_segment.Goals as goal

pub loop-element-init : goal.loop-element-init
unfolding segment_entered
loop-element-init g c = (
  goes_none segment_entered _ _,
  0,
  reads_none spot_taken (BeforeSegment most_elements) _,
  λ k is. is ∙ offset_same 0 k (2 ^ 64 - 1),
  counted_none segment_entered _,
)

pub loop-element-preserved : goal.loop-element-preserved
unfolding segment_up_to
loop-element-preserved g c =
    let most = 18446744073709551615 - (c.loop-element._element + 1) in
    let more : 18446744073709551615 - c.loop-element._element ≡ suc most = omega
    (arith, c.loop-element-test.true) in
    let inv = rw more at c.loop-element.invariant in
    let read = rw c.in_default.is at c.in_ok-size.ensures.answer in
    let counted = rw c.in_default.is at c.in_ok-size.ensures.counted in (
      goes_read root_read (root_or_on (segment_up_to most)) _ _ None inv.0 read,
      _,
      root_whole most None inv.2 counted.1,
      λ k is. counted.2 ∙ rw (inv.3 k is) (counts_on k inv.1 counted.0 (2 ^ 64 - 1)),
      counted_read root_read (root_or_on (segment_up_to most)) inv.4 counted.1,
    )

pub returns-in_err-size-clause-answer : goal.returns-in_err-size-clause-answer
unfolding segment_up_to
returns-in_err-size-clause-answer g c =
    let most = 18446744073709551615 - (c.loop-element._element + 1) in
    let more : 18446744073709551615 - c.loop-element._element ≡ suc most = omega
    (arith, c.loop-element-test.true) in
    let inv = rw more at c.loop-element.invariant in
    answers_err _ _ _ _ c.from_residual.ensures.1 (answers_from inv.0
    (answers_first root_read (root_or_on (segment_up_to most)) c.in_err-size.ensures.answer))

pub returns-in-Some-clause-answer : goal.returns-in-Some-clause-answer
unfolding segment_up_to
returns-in-Some-clause-answer g c =
    let most = 18446744073709551615 - (c.loop-element._element + 1) in
    let more : 18446744073709551615 - c.loop-element._element ≡ suc most = omega
    (arith, c.loop-element-test.true) in
    let inv = rw more at c.loop-element.invariant in
    let read = rw c.in-Some.is at c.in_ok-size.ensures.answer in
    answers_ok (answers_from inv.0 (answers_next (root_or_on (segment_up_to most)) read
    answers_given))

pub returns-clause-answer : goal.returns-clause-answer
unfolding segment_up_to
returns-clause-answer g c =
    let none : 18446744073709551615 - c.loop-element._element ≡ 0 = omega
    (arith, c.loop-element-test.false) in
    let inv = rw none at c.loop-element.invariant in
    answers_fault fault.NotMatroska segment_entered (answers_from inv.0
    (answers_refused fault.NotMatroska (inl refl)))

pub returns-in_err-size-clause-from : goal.returns-in_err-size-clause-from
returns-in_err-size-clause-from g c =
    let p = err_from_is_err_and c.from_residual.result c.from_residual.ensures.1 in
    let most = 18446744073709551615 - (c.loop-element._element + 1) in
    let more : 18446744073709551615 - c.loop-element._element ≡ suc most = omega
    (arith, c.loop-element-test.true) in
    let inv = rw more at c.loop-element.invariant in
    let f = c.in_err-size.field-0.0 in
    rw (p.1, p.2) (
      suc most,
      inv.1,
      opening_stops _ f inv.0.same inv.2
          (root_refused most _ _ _ _ f c.in_err-size.ensures.answer),
      λ k is. c.in_err-size.ensures.kept ∙ inv.3 k is,
    )

pub returns-in-Some-clause-from : goal.returns-in-Some-clause-from
returns-in-Some-clause-from g c =
    let most = 18446744073709551615 - (c.loop-element._element + 1) in
    let more : 18446744073709551615 - c.loop-element._element ≡ suc most = omega
    (arith, c.loop-element-test.true) in
    let inv = rw more at c.loop-element.invariant in
    let counted = rw c.in-Some.is at c.in_ok-size.ensures.counted in (
      _,
      root_whole most (Some c.in-Some.size) inv.2 counted.1,
      λ k is. counted.2 ∙ rw (inv.3 k is) (counts_on k inv.1 counted.0 (2 ^ 64 - 1)),
    )

pub returns-clause-from : goal.returns-clause-from
returns-clause-from g c =
    let none : 18446744073709551615 - c.loop-element._element ≡ 0 = omega
    (arith, c.loop-element-test.false) in
    let inv = rw none at c.loop-element.invariant in (
      0,
      inv.1,
      opening_stops _ fault.NotMatroska inv.0.same inv.2 (none_left _ _),
      inv.3,
    )

pub returns-in-Some-clause-counted : goal.returns-in-Some-clause-counted
unfolding segment_up_to
returns-in-Some-clause-counted g c =
    let most = 18446744073709551615 - (c.loop-element._element + 1) in
    let more : 18446744073709551615 - c.loop-element._element ≡ suc most = omega
    (arith, c.loop-element-test.true) in
    let inv = rw more at c.loop-element.invariant in
    let counted = rw c.in-Some.is at c.in_ok-size.ensures.counted in (
      _,
      counted_all c.in-Some.size (counted_read root_read (root_or_on (segment_up_to most)) inv.4 counted.1),
      λ k is. counted.2 ∙ rw (inv.3 k is) (counts_on k inv.1 counted.0 (2 ^ 64 - 1)),
    )

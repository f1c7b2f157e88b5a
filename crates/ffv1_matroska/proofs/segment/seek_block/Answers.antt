-- The first Block of a BlockGroup, up to its frame; what comes before it is passed.
use Rattle.std.proofs.Common.{◌≡◌, ◌≤◌, arith, inl, refl}
use Rattle.ffv1_reads.specs.declared.fault.FileFault.TheVariants as fault
use Rattle.ffv1_reads.proofs.Reading.{goes_none, goes_read, goes_same}
use Rattle.ffv1_reads.proofs.Answered.{answers_err, answers_fault}
use Rattle.ffv1_reads.proofs.Answered.{answers_first, answers_from, answers_next, answers_of}
use Rattle.ffv1_reads.proofs.Answered.{answers_refused, answers_same, answers_tail}
use Rattle.ffv1_ebml.specs.Elements.{element_read}
use Rattle.ffv1_ebml.specs.Sums.{passed_summed}
use Rattle.ffv1_matroska.specs.Places.{amount, group_at, summed_at}
use Rattle.ffv1_matroska.specs.Segments.{block_sought, sought_rest}
use Rattle.ffv1_matroska.proofs.SoughtBlocks.{child_found, child_passed}
use Rattle.ffv1_matroska.proofs.Steps.{goes_sought, goes_unsought, steps_most, within_bytes}
use Rattle.ffv1_matroska.proofs.segment.seek_block.Goals as goal

pub loop-place-init : goal.loop-place-init
loop-place-init g c =
    let start = c.args.start in (
      start.group,
      omega arith,
      omega arith,
      goes_none (block_sought start.group c.args.track start)
          (g.R.ByteIn.remaining c.args.input.now) (g.R.ByteIn.failures c.args.input.now),
    )

pub returns-in_err-element-clause-answer : goal.returns-in_err-element-clause-answer
returns-in_err-element-clause-answer g c =
    let inv = c.loop-place.invariant in
    let on = goes_sought inv.0 c.args.track c.loop-place.place inv.1 c.loop-place-test.true inv.3 in
    answers_err _ (block_sought c.args.start.group c.args.track c.args.start) _ _
    c.from_residual.ensures.1
    (answers_from on.2 (answers_first _ _ c.in_err-element.ensures.answer))

pub returns-in_default-clause-answer : goal.returns-in_default-clause-answer
returns-in_default-clause-answer g c =
    let inv = c.loop-place.invariant in
    let on = goes_sought inv.0 c.args.track c.loop-place.place inv.1 c.loop-place-test.true inv.3 in
    answers_fault fault.BadElement (block_sought c.args.start.group c.args.track c.args.start)
    (answers_from on.2 (answers_next _ c.in_ok-element.ensures.answer
    (answers_same (λ text. rw c.in_default.is refl) (answers_refused _ (inl refl)))))

pub returns-then-element-eq-BLOCK-clause-answer : goal.returns-then-element-eq-BLOCK-clause-answer
returns-then-element-eq-BLOCK-clause-answer g c =
    let inv = c.loop-place.invariant in
    let on = goes_sought inv.0 c.args.track c.loop-place.place inv.1 c.loop-place-test.true inv.3 in
    let e = c.in_ok-element.element in
    answers_of _ (block_sought c.args.start.group c.args.track c.args.start) _ _
    (answers_from on.2 (answers_next _ c.in_ok-element.ensures.answer
    (answers_same (child_found (block_sought on.0 c.args.track) c.args.track e
    (group_at c.loop-place.place e.left c.next_element.new.sum) c.in-Some.size c.in-Some.is
    c.if-element-eq-BLOCK.true)
    (answers_tail _ _ _ _ (rw c.group_at.ensures at c.read_block.ensures.answer)))))

pub returns-in_err-pass_summed-clause-answer : goal.returns-in_err-pass_summed-clause-answer
returns-in_err-pass_summed-clause-answer g c =
    let inv = c.loop-place.invariant in
    let on = goes_sought inv.0 c.args.track c.loop-place.place inv.1 c.loop-place-test.true inv.3 in
    let e = c.in_ok-element.element in
    answers_err _ (block_sought c.args.start.group c.args.track c.args.start) _ _
    c.from_residual-in_err-pass_summed.ensures.1
    (answers_from on.2 (answers_next _ c.in_ok-element.ensures.answer
    (answers_same (child_passed (block_sought on.0 c.args.track) c.args.track e
    (group_at c.loop-place.place e.left c.next_element.new.sum) c.in-Some.size c.in-Some.is
    c.if-element-eq-BLOCK.false)
    (answers_first _ _ c.in_err-pass_summed.ensures.answer))))

pub loop-place-preserved : goal.loop-place-preserved
loop-place-preserved g c =
    let inv = c.loop-place.invariant in
    let track = c.args.track in
    let place = c.loop-place.place in
    let e = c.in_ok-element.element in
    let on = goes_sought inv.0 track place inv.1 c.loop-place-test.true inv.3 in
    let first = goes_read (element_read place.group place.sum)
    (sought_rest (block_sought on.0 track) track place) _ _ (e, c.next_element.new.sum) on.2
    c.in_ok-element.ensures.answer in
    let child = goes_same _ _ (child_passed (block_sought on.0 track) track e
    (group_at place e.left c.next_element.new.sum) c.in-Some.size c.in-Some.is
    c.if-element-eq-BLOCK.false) first in
    let next = goes_read (passed_summed c.in-Some.size c.next_element.new.sum)
    (λ sum. block_sought on.0 track
    (summed_at (group_at place e.left c.next_element.new.sum) sum)) _ _ c.pass_summed.new.sum
    child c.in_ok-pass_summed.ensures.answer in
    let within = within_bytes e _ e.size refl c.in_ok-element.ensures.within in (
      on.0,
      rw c.group_at-place.ensures (omega (arith, within, inv.1, on.1, c.loop-place-test.true)),
      rw c.group_at-place.ensures (omega (arith, within, inv.2)),
      rw c.group_at-place.ensures next,
    )

pub returns-then-element-eq-BLOCK-clause-most : goal.returns-then-element-eq-BLOCK-clause-most
returns-then-element-eq-BLOCK-clause-most g c =
    let inv = c.loop-place.invariant in
    let e = c.in_ok-element.element in
    let now = group_at c.loop-place.place e.left c.next_element.new.sum in
    let within = within_bytes e _ e.size refl c.in_ok-element.ensures.within in
    let most : amount now ≤ amount c.args.start = omega
    (arith, within, inv.2, c.loop-place-test.true) in
    steps_most c.read_block.result (amount now) (amount c.args.start) most
    (rw c.group_at.ensures at c.read_block.ensures.same)

pub returns-clause-answer : goal.returns-clause-answer
returns-clause-answer g c =
    let inv = c.loop-place.invariant in
    let none : c.loop-place.place.group ≡ 0 = omega (arith, c.loop-place-test.false) in
    answers_fault fault.BadElement (block_sought c.args.start.group c.args.track c.args.start)
    (answers_from (goes_unsought inv.0 c.args.track c.loop-place.place none inv.3)
    (answers_refused _ (inl refl)))

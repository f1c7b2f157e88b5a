-- Reads an element after the header of EBML: passes a Void, or reads the header of the Segment, and
-- answers its size.
use Rattle.std.proofs.Common.{◌≡◌, slice_index, arith}
use Rattle.ffv1_reads.proofs.Answered.{answers_differ, answers_equal, answers_err, answers_first}
use Rattle.ffv1_reads.proofs.Answered.{answers_given, answers_next, answers_ok}
use Rattle.ffv1_matroska.specs.Opening.{root_read, void}
use Rattle.ffv1_matroska.proofs.SpotReadings.{root_segment, root_void}
use Rattle.ffv1_matroska.proofs.opening.read_root.Goals as goal

pub returns-in_err-pass_void-clause-answer : goal.returns-in_err-pass_void-clause-answer
unfolding root_read
returns-in_err-pass_void-clause-answer g c = answers_err _ root_read _ _
    c.from_residual-in_err-pass_void.ensures.1 (answers_next _ c.in_ok-take.ensures
    (answers_equal _ c.if-first.true (answers_first _ _ c.in_err-pass_void.ensures.answer)))

pub returns-then-first-clause-answer : goal.returns-then-first-clause-answer
unfolding root_read
returns-then-first-clause-answer g c = answers_ok (answers_next _ c.in_ok-take.ensures
    (answers_equal _ c.if-first.true
    (answers_next _ c.in_ok-pass_void.ensures.answer answers_given)))

pub returns-in_err-size-clause-answer : goal.returns-in_err-size-clause-answer
unfolding root_read
returns-in_err-size-clause-answer g c =
    let other : slice_index c.take.new.buf 0 ≡ void → ⊥ = λ z. omega (arith, z, c.if-first.false) in
    answers_err _ root_read _ _ c.from_residual-in_err-size.ensures.1
    (answers_next _ c.in_ok-take.ensures (answers_differ _ other
    (answers_first _ _ c.in_err-size.ensures.answer)))

pub returns-clause-answer : goal.returns-clause-answer
unfolding root_read
returns-clause-answer g c =
    let other : slice_index c.take.new.buf 0 ≡ void → ⊥ = λ z. omega (arith, z, c.if-first.false) in
    answers_ok (answers_next _ c.in_ok-take.ensures (answers_differ _ other
    (answers_next _ c.in_ok-size.ensures.answer answers_given)))

pub returns-then-first-clause-counted : goal.returns-then-first-clause-counted
returns-then-first-clause-counted g c = root_void c.take.new.buf _ _ _ _ _ _
    c.in_ok-take.ensures.1 c.saturating_add-after.ensures c.if-first.true
    c.in_ok-pass_void.ensures.counted

pub returns-clause-counted : goal.returns-clause-counted
returns-clause-counted g c =
    let other : slice_index c.take.new.buf 0 ≡ void → ⊥ = λ z. omega (arith, z, c.if-first.false) in
    root_segment c.take.new.buf _ _ _ _ _ _ c.in_ok-take.ensures.1 c.saturating_add-after.ensures
    c.in_ok-size.size other c.in_ok-size.ensures.counted

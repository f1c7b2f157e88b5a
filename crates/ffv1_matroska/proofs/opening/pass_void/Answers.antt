-- Passes a Void after its ID.
use Rattle.ffv1_reads.proofs.Answered.{answers_err, answers_last, answers_next, answers_ok}
use Rattle.ffv1_reads.proofs.Answered.{answers_whole}
use Rattle.ffv1_matroska.specs.Opening.{void_read}
use Rattle.ffv1_matroska.proofs.SpotReadings.{void_counted}
use Rattle.ffv1_matroska.proofs.opening.pass_void.Goals as goal

pub returns-in_err-pass-clause-answer : goal.returns-in_err-pass-clause-answer
unfolding void_read
returns-in_err-pass-clause-answer g c = answers_err _ void_read _ _
    c.from_residual-in_err-pass.ensures.1 (answers_next _
    (rw c.in-Some.is at c.in_ok-size.ensures.answer) (answers_last _ c.in_err-pass.ensures))

pub returns-clause-answer : goal.returns-clause-answer
unfolding void_read
returns-clause-answer g c = answers_ok (answers_next _
    (rw c.in-Some.is at c.in_ok-size.ensures.answer) (answers_whole c.in_ok-pass.ensures))

pub returns-clause-counted : goal.returns-clause-counted
returns-clause-counted g c = void_counted c.in-Some.size _ _ _ _ _ _
    (rw c.in-Some.is at c.in_ok-size.ensures.counted) c.in_ok-pass.ensures.1
    c.saturating_add.ensures

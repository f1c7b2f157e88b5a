-- A chunk of a movi without size, after its name.
use Rattle.ffv1_reads.proofs.Answered.{answers_err, answers_first, answers_given, answers_next}
use Rattle.ffv1_reads.proofs.Answered.{answers_ok}
use Rattle.ffv1_avi.proofs.opens.movi_chunk.Goals as goal

pub returns-in_err-entry-clause-answer : goal.returns-in_err-entry-clause-answer
returns-in_err-entry-clause-answer g c = answers_err _ _ _ _ c.from_residual-in_err-entry.ensures.1
    (answers_next _ c.in_ok-size.ensures (answers_first _ _ (c.in_err-entry.ensures.answer _ _)))

pub returns-in_err-frame-clause-answer : goal.returns-in_err-frame-clause-answer
returns-in_err-frame-clause-answer g c = answers_err _ _ _ _ c.from_residual-in_err-frame.ensures.1
    (answers_next _ c.in_ok-size.ensures (answers_next _ (c.in_ok-entry.ensures.answer _ _)
    (answers_first _ _ c.in_err-frame.ensures.answer)))

pub returns-in_default-clause-answer : goal.returns-in_default-clause-answer
returns-in_default-clause-answer g c = rw c.open_at.ensures (answers_ok
    (answers_next _ c.in_ok-size.ensures (answers_next _ (c.in_ok-entry.ensures.answer _ _)
    (answers_next _ (rw c.in_default.is at c.in_ok-frame.ensures.answer) answers_given))))

pub returns-clause-answer : goal.returns-clause-answer
returns-clause-answer g c = rw c.open_frame_at.ensures (answers_ok
    (answers_next _ c.in_ok-size.ensures (answers_next _ (c.in_ok-entry.ensures.answer _ _)
    (answers_next _ (rw c.in-Some.is at c.in_ok-frame.ensures.answer) answers_given))))

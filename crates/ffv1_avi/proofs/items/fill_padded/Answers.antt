-- Reads the bytes of a frame, and their padding.
use Rattle.ffv1_reads.specs.Reads.{Kept}
use Rattle.ffv1_reads.proofs.Answered.{answers_err, answers_first, answers_given, answers_next, answers_ok}
use Rattle.ffv1_avi.specs.Padding.{content}
use Rattle.ffv1_avi.proofs.items.fill_padded.Goals as goal

pub returns-in_err-pass-clause-answer : goal.returns-in_err-pass-clause-answer
returns-in_err-pass-clause-answer g c =
    let padding = rw c.from.ensures at c.in_err-pass.ensures in
    answers_err _ (content Kept c.args.size) _ _ c.from_residual-in_err-pass.ensures.1
    (answers_next _ c.in_ok-fill.ensures.answer (answers_first _ _ padding))

pub returns-clause-answer : goal.returns-clause-answer
returns-clause-answer g c =
    let padding = rw c.from.ensures at c.in_ok-pass.ensures in
    answers_ok (answers_next _ c.in_ok-fill.ensures.answer (answers_next _ padding answers_given))

-- The header of an element whose first byte was read.
use Rattle.ffv1_ebml.proofs.ElementReadings.{after_in_turn}
use Rattle.ffv1_reads.proofs.Answered.{answers_err, answers_first, answers_given, answers_next}
use Rattle.ffv1_reads.proofs.Answered.{answers_ok, answers_same}
use Rattle.ffv1_ebml.proofs.element.element_after.Goals as goal

pub returns-in_err-element-clause-answer : goal.returns-in_err-element-clause-answer
returns-in_err-element-clause-answer g c = answers_err _ _ _ _
    c.from_residual-in_err-element.ensures.1 (answers_same (after_in_turn c.args.left c.args.first)
    (answers_next _ c.in_ok-ident.ensures.answer
    (answers_first _ _ c.in_err-element.ensures.answer)))

pub returns-clause-answer : goal.returns-clause-answer
returns-clause-answer g c = answers_ok (answers_same (after_in_turn c.args.left c.args.first)
    (answers_next _ c.in_ok-ident.ensures.answer
    (answers_next _ c.in_ok-element.ensures.answer answers_given)))

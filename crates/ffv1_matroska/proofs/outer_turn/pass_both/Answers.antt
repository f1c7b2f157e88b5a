-- Passes so many bytes twice.
use Rattle.ffv1_reads.proofs.Answered.{answers_err, answers_first, answers_given, answers_next}
use Rattle.ffv1_reads.proofs.Answered.{answers_ok}
use Rattle.ffv1_matroska.specs.Turns.{plain_section}
use Rattle.ffv1_matroska.proofs.outer_turn.pass_both.Goals as goal

pub returns-in_err-pass : goal.returns-in_err-pass
unfolding plain_section
returns-in_err-pass g c = answers_err _ (plain_section c.args.size c.args.left c.args.place) _ _
    c.from_residual.ensures.1 (answers_first _ _ c.in_err-pass.ensures)

pub returns-in_err-pass-2 : goal.returns-in_err-pass-2
unfolding plain_section
returns-in_err-pass-2 g c = answers_err _ (plain_section c.args.size c.args.left c.args.place) _ _
    c.from_residual-in_err-pass-2.ensures.1
    (answers_next _ c.in_ok-pass.ensures (answers_first _ _ c.in_err-pass-2.ensures))

pub returns : goal.returns
unfolding plain_section
returns g c = answers_ok (answers_next _ c.in_ok-pass.ensures
    (answers_next _ c.in_ok-pass-2.ensures answers_given))

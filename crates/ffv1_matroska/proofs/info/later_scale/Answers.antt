-- Passes the content of another element, and those that are left after it, and answers the scale
-- that these say.
use Rattle.std.proofs.Common.{◌≡◌, ◌+◌}
use Rattle.ffv1_reads.specs.Reads.{passed}
use Rattle.ffv1_reads.proofs.Answered.{answers_err, answers_first, answers_given, answers_next}
use Rattle.ffv1_reads.proofs.Answered.{answers_ok, answers_same}
use Rattle.ffv1_matroska.specs.Scales.{scale_among}
use Rattle.ffv1_matroska.proofs.ScaleReadings.{known_passed, passed_then}
use Rattle.ffv1_matroska.proofs.info.later_scale.Goals as goal

pub returns-in_err-pass-clause-answer : goal.returns-in_err-pass-clause-answer
returns-in_err-pass-clause-answer g c = answers_err _ (passed (c.args.size + c.args.left)) _ _
    c.from_residual.ensures.1 (answers_same (passed_then c.args.size c.args.left)
    (answers_first _ _ c.in_err-pass.ensures))

pub returns-in_err-scale-clause-answer : goal.returns-in_err-scale-clause-answer
returns-in_err-scale-clause-answer g c = answers_err _ (passed (c.args.size + c.args.left)) _ _
    c.from_residual-in_err-scale.ensures.1 (answers_same (passed_then c.args.size c.args.left)
    (answers_next _ c.in_ok-pass.ensures (answers_first _ _ c.in_err-scale.ensures.answer)))

pub returns-clause-answer : goal.returns-clause-answer
returns-clause-answer g c = answers_ok (answers_same (passed_then c.args.size c.args.left)
    (answers_next _ c.in_ok-pass.ensures (answers_next _ c.in_ok-scale.ensures.answer
    answers_given)))

pub returns-clause-scale : goal.returns-clause-scale
returns-clause-scale g c = known_passed c.args.size _ _ _
    (λ z. c.in_ok-scale.scale ≡ scale_among c.args.left z) c.in_ok-pass.ensures.1
    c.in_ok-scale.ensures.scale

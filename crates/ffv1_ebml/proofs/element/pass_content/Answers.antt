-- Passes the content of an element, of so many bytes.
use Rattle.std.proofs.Common.{arith}
use Rattle.ffv1_ebml.proofs.ContentReadings.{content_some}
use Rattle.ffv1_reads.proofs.Answered.{answers_err, answers_last, answers_next, answers_ok}
use Rattle.ffv1_reads.proofs.Answered.{answers_same, answers_whole}
use Rattle.ffv1_ebml.proofs.element.pass_content.Goals as goal

pub returns-in_err-content_rest : goal.returns-in_err-content_rest
returns-in_err-content_rest g c = answers_err _ _ _ _ c.from_residual-in_err-content_rest.ensures.1
    (answers_same (content_some c.args.count (λ z. omega (arith, z, c.if-count-eq0.false)))
    (answers_next _ c.in_ok-element.ensures.answer (answers_last _ c.in_err-content_rest.ensures)))

pub returns : goal.returns
returns g c = answers_ok (answers_same (content_some c.args.count
    (λ z. omega (arith, z, c.if-count-eq0.false))) (answers_next _ c.in_ok-element.ensures.answer
    (answers_whole c.in_ok-content_rest.ensures)))

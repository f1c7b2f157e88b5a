-- Passes the content of Info, of so many bytes, and answers how many nanoseconds a tick has by it.
use Rattle.std.proofs.Common.{◌≡◌, ◌==◌, [], false, Ok, refl, arith}
use Rattle.std.proofs.lemmas.Bool.{ne_eqb}
use Rattle.ffv1_reads.proofs.Answered.{answers_err, answers_first, answers_last, answers_next}
use Rattle.ffv1_reads.proofs.Answered.{answers_ok, answers_same, answers_whole}
use Rattle.ffv1_reads.proofs.Reading.{consumes_none}
use Rattle.ffv1_ebml.specs.Elements.{content_passed, element_read}
use Rattle.ffv1_ebml.specs.declared.element.Element.{Element}
use Rattle.ffv1_ebml.specs.declared.sum.Sum.{Sum}
use Rattle.ffv1_ebml.specs.declared.sum.Sum.TheVariants.{Absent}
use Rattle.ffv1_ebml.proofs.ContentReadings.{content_some}
use Rattle.ffv1_matroska.specs.Scales.{scale_after, scale_in}
use Rattle.ffv1_matroska.proofs.ScaleReadings.{known_both, read_known}
use Rattle.ffv1_matroska.proofs.info.read_info.Goals as goal

pub returns-then-count-eq0-clause-answer : goal.returns-then-count-eq0-clause-answer
unfolding content_passed
returns-then-count-eq0-clause-answer g c = (
  refl,
  record { bytes = []; consumed = consumes_none _; is = λ rest. rw c.if-count-eq0.true refl },
)

pub returns-in_err-element-clause-answer : goal.returns-in_err-element-clause-answer
returns-in_err-element-clause-answer g c = answers_err _ (content_passed c.args.count) _ _
    c.from_residual.ensures.1
    (answers_same (content_some c.args.count (λ z. omega (arith, z, c.if-count-eq0.false)))
    (answers_first _ _ c.in_err-element.ensures.answer))

pub returns-in_err-scale-clause-answer : goal.returns-in_err-scale-clause-answer
returns-in_err-scale-clause-answer g c = answers_err _ (content_passed c.args.count) _ _
    c.from_residual-in_err-scale.ensures.1
    (answers_same (content_some c.args.count (λ z. omega (arith, z, c.if-count-eq0.false)))
    (answers_next _ c.in_ok-element.ensures.answer (answers_last _ c.in_err-scale.ensures.answer)))

pub returns-clause-answer : goal.returns-clause-answer
returns-clause-answer g c = answers_ok (answers_same (content_some c.args.count
    (λ z. omega (arith, z, c.if-count-eq0.false))) (answers_next _ c.in_ok-element.ensures.answer
    (answers_whole c.in_ok-scale.ensures.answer)))

pub returns-clause-scale : goal.returns-clause-scale
unfolding scale_in
returns-clause-scale g c =
    let some : (c.args.count == 0) ≡ false = ne_eqb _ _
    (λ z. omega (arith, z, c.if-count-eq0.false)) in
    let e = c.in_ok-element.element in
    let p : Element × Sum = (e, c.next_element.new.sum) in
    known_both _ _ _ (λ text rest. element_read c.args.count Absent text ≡ Ok (p, rest))
    (λ text rest. c.in_ok-scale.scale ≡ scale_after e e.size text)
    (λ text rest. c.in_ok-scale.scale ≡ scale_in c.args.count text)
    (λ text left rest header said. rw (some, header) said)
    (read_known (element_read c.args.count Absent) _ _ p c.in_ok-element.ensures.answer.1)
    c.in_ok-scale.ensures.scale

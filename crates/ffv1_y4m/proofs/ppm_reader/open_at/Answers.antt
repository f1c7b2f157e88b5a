-- Reads the header of the first image, of a depth of at most `most`.
use Rattle.std.proofs.lemmas.Result.{err_from_is_err_and}
use Rattle.ffv1_y4m.specs.Ppm.{image_header}
use Rattle.ffv1_y4m.specs.Reads.{Nowhere}
use Rattle.ffv1_y4m.specs.State.{image_said}
use Rattle.ffv1_y4m.specs.declared.head.DeepHead.{DeepHead}
use Rattle.ffv1_y4m.proofs.Sequences.{answers_err, answers_ok}
use Rattle.ffv1_y4m.proofs.ppm_reader.open_at.Goals as goal

pub returns-in_err-said-clause-answer : goal.returns-in_err-said-clause-answer
returns-in_err-said-clause-answer g c =
    let p = err_from_is_err_and c.from_residual.result c.from_residual.ensures.1 in
    rw (p.1, p.2) (answers_err image_said (image_header c.args.most) Nowhere _
    c.in_err-said.field-0.0 c.in_err-said.ensures.answer)

pub returns-clause-answer : goal.returns-clause-answer
returns-clause-answer g c = answers_ok (λ (h : DeepHead). h) (image_header c.args.most) Nowhere _
    c.in_ok-said.said c.in_ok-said.ensures.answer

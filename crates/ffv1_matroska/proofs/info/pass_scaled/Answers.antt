-- Passes an element of the Segment that holds no frames, after its header, as `pass_element` does.
use Rattle.std.proofs.Common.{inl, refl, arith}
use Rattle.ffv1_reads.specs.declared.fault.FileFault.TheVariants as fault
use Rattle.ffv1_reads.proofs.Answered.{answers_err, answers_fault, answers_last, answers_ok}
use Rattle.ffv1_reads.proofs.Answered.{answers_refused, answers_same, answers_whole}
use Rattle.ffv1_matroska.specs.Opened.{element_passed}
use Rattle.ffv1_matroska.proofs.ScaleWalks.{info_passed, info_unsized}
use Rattle.ffv1_matroska.proofs.info.pass_scaled.Goals as goal

pub returns-in_default-clause-answer : goal.returns-in_default-clause-answer
returns-in_default-clause-answer g c = answers_fault fault.BadElement
    (element_passed c.args.ident c.args.size)
    (answers_same (info_unsized c.args.ident c.args.size c.in_default.is)
    (answers_refused _ (inl refl)))

pub returns-in_err-told-clause-answer : goal.returns-in_err-told-clause-answer
returns-in_err-told-clause-answer g c = answers_err _ (element_passed c.args.ident c.args.size) _ _
    c.from_residual-in_err-told.ensures.1
    (answers_same (info_passed c.args.ident c.in-Some.count c.args.size
    (omega (arith, c.if-ident-ne-INFO.false)) c.in-Some.is)
    (answers_last _ c.in_err-told.ensures.answer))

pub returns-clause-answer : goal.returns-clause-answer
returns-clause-answer g c = answers_ok
    (answers_same (info_passed c.args.ident c.in-Some.count c.args.size
    (omega (arith, c.if-ident-ne-INFO.false)) c.in-Some.is)
    (answers_whole c.in_ok-told.ensures.answer))

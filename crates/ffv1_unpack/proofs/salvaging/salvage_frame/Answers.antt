-- Judges the payload that was read last, and writes its line and its picture.
use Rattle.std.proofs.Common.{Ok, Err, [], ◌∷◌, ◌++◌, inl, inr, sym, subst, ◌∙◌}
use Rattle.std.proofs.lemmas.Result.{err_from_is_err_and}
use Rattle.ffv1_wire.specs.Passage.{passage}
use Rattle.ffv1_record.specs.Accepted.{Accepted, IsAccepted}
use Rattle.ffv1_unpack.specs.Internal.Salvage.{PutsPictures}
use Rattle.ffv1_unpack.specs.JudgedItems.{IsJudgedItem, OfFrame}
use Rattle.ffv1_unpack.specs.Salvaged.{picture_for, shown}
use Rattle.ffv1_unpack.proofs.FramesInTurn.{all_more}
use Rattle.ffv1_unpack.proofs.PicturesPut.{puts_from, still}
use Rattle.ffv1_unpack.proofs.SalvageLists.{picture_last}
use Rattle.ffv1_unpack.proofs.salvaging.salvage_frame.Goals as goal

pub returns-in_err-tell_frame-clause-answer : goal.returns-in_err-tell_frame-clause-answer
returns-in_err-tell_frame-clause-answer g c = λ s before same kind text are stands ready held.
    let p = err_from_is_err_and c.from_residual.result c.from_residual.ensures.1 in
    let told = c.in_err-tell_frame.ensures.answer s before (shown before) same kind stands ready in
    let out = c.args.output.now in
    rw (p.1, p.2) (
      told.0,
      told.1,
      inl (
        told.2,
        still (g.P.PictureOut.contents out) (g.P.PictureOut.contents c.tell_frame.new.output)
            (g.P.PictureOut.failures out) (g.P.PictureOut.failures c.tell_frame.new.output)
            c.tell_frame.ensures.silent.0 c.tell_frame.ensures.silent.1,
      ),
    )

pub returns-in_err-show_last-clause-answer : goal.returns-in_err-show_last-clause-answer
returns-in_err-show_last-clause-answer g c = λ s before same kind text are stands ready held.
    let p = err_from_is_err_and c.from_residual-in_err-show_last.result
    c.from_residual-in_err-show_last.ensures.1 in
    let told = c.in_ok-tell_frame.ensures.answer s before (shown before) same kind stands ready in
    let j = told.0 in
    let e = c.in_err-show_last.field-0.0 in
    let here = c.in_ok-tell_frame.ensures.fits s (shown before) same ready held in
    let shows = c.in_err-show_last.ensures.answer s (before ++ (OfFrame j ∷ [])) (shown before)
    (same ∙ sym c.tell_frame.ensures.same)
    (subst (λ (z : Accepted). IsAccepted z.configuration z.table) (sym same) c.requires.accepted)
    text (all_more (IsJudgedItem s.accepted) before (OfFrame j) are told.1.is) here.0 here.1
    told.4 in
    rw (p.1, p.2) (
      j,
      told.1,
      inr (
        told.2,
        told.3,
        puts_from g.P.PictureOut.contents g.P.PictureOut.failures g.P.PictureOut.ready s
            (shown before) (picture_for before (OfFrame j)) c.args.output.now
            c.tell_frame.new.output c.show_last.new.output (Err e)
            c.tell_frame.ensures.silent.0 c.tell_frame.ensures.silent.1
            (subst (λ z. PutsPictures g.P.PictureOut.ready s (shown before) z
            (passage g.P.PictureOut.contents g.P.PictureOut.failures c.tell_frame.new.output
            c.show_last.new.output) c.show_last.new.output (Err e)) (picture_last before j)
            shows),
      ),
    )

pub returns-clause-answer : goal.returns-clause-answer
returns-clause-answer g c = λ s before same kind text are stands ready held.
    let told = c.in_ok-tell_frame.ensures.answer s before (shown before) same kind stands ready in
    let j = told.0 in
    let here = c.in_ok-tell_frame.ensures.fits s (shown before) same ready held in
    let shows = c.in_ok-show_last.ensures.answer s (before ++ (OfFrame j ∷ [])) (shown before)
    (same ∙ sym c.tell_frame.ensures.same)
    (subst (λ (z : Accepted). IsAccepted z.configuration z.table) (sym same) c.requires.accepted)
    text (all_more (IsJudgedItem s.accepted) before (OfFrame j) are told.1.is) here.0 here.1
    told.4 in (
      j,
      told.1,
      (
        told.2,
        told.3,
        puts_from g.P.PictureOut.contents g.P.PictureOut.failures g.P.PictureOut.ready s
            (shown before) (picture_for before (OfFrame j)) c.args.output.now
            c.tell_frame.new.output c.show_last.new.output (Ok tt)
            c.tell_frame.ensures.silent.0 c.tell_frame.ensures.silent.1
            (subst (λ z. PutsPictures g.P.PictureOut.ready s (shown before) z
            (passage g.P.PictureOut.contents g.P.PictureOut.failures c.tell_frame.new.output
            c.show_last.new.output) c.show_last.new.output (Ok tt)) (picture_last before j)
            shows),
      ),
      told.4,
    )

pub returns-clause-fits : goal.returns-clause-fits
returns-clause-fits g c = λ s fs same ready held.
    c.in_ok-show_last.ensures.stays s c.tell_frame.new.salvage.last.items
    (c.in_ok-tell_frame.ensures.fits s fs same ready held).1

-- Writes the picture of the last good payload, if there is one.
use Rattle.std.proofs.Common.{Ok, Err, sym, subst, ◌∙◌}
use Rattle.std.proofs.lemmas.Result.{err_from_is_err_and}
use Rattle.ffv1_wire.specs.Passage.{passage}
use Rattle.ffv1_unpack.specs.Internal.Salvage.{PutsPictures}
use Rattle.ffv1_unpack.specs.Salvaged.{good_frames}
use Rattle.ffv1_unpack.specs.Stream.{last_of, those}
use Rattle.ffv1_unpack.proofs.PicturesPut.{puts_none}
use Rattle.ffv1_unpack.proofs.SalvageLists.{last_good, none_said, said_last}
use Rattle.ffv1_unpack.proofs.salvaging.show_last.Goals as goal

pub returns-in-None-clause-answer : goal.returns-in-None-clause-answer
returns-in-None-clause-answer g c = λ s xs fs same is text are ready fits stands.
    let none = none_said (good_frames xs) (sym stands.first ∙ c.in-None.is) in
    let out = c.args.output.now in
    let p = passage g.P.PictureOut.contents g.P.PictureOut.failures out out in
    subst (λ z. PutsPictures g.P.PictureOut.ready s fs (those (last_of z)) p out (Ok tt)) (sym none)
    (puts_none g.P.PictureOut.ready s fs (g.P.PictureOut.contents out)
    (g.P.PictureOut.failures out) out ready)

pub returns-in_err-put-in-Some-clause-answer : goal.returns-in_err-put-in-Some-clause-answer
returns-in_err-put-in-Some-clause-answer g c = λ s xs fs same is text are ready fits stands.
    let p = err_from_is_err_and c.from_residual.result c.from_residual.ensures.1 in
    let last = said_last (good_frames xs) c.in-Some._said (sym stands.first ∙ c.in-Some.is) in
    let f = last.0 in
    let writing = passage g.P.PictureOut.contents g.P.PictureOut.failures c.args.output.now
    c.put.new.self in
    let put = c.in_err-put-in-Some.ensures.answer s fs f same is text ready
    (subst (λ z. g.P.PictureOut.fits s z c.args.output.now) (sym c.deref.ensures.value) fits)
    (last_good s.accepted xs f are last.1)
    (sym (stands.last f last.1) ∙ sym c.deref.ensures.value) in
    rw (p.1, p.2)
    (subst (λ o. PutsPictures g.P.PictureOut.ready s fs (those o) writing c.put.new.self
    (Err c.in_err-put-in-Some.field-0.0)) (sym last.1) put)

pub returns-in_ok-put-in-Some-clause-answer : goal.returns-in_ok-put-in-Some-clause-answer
returns-in_ok-put-in-Some-clause-answer g c = λ s xs fs same is text are ready fits stands.
    let last = said_last (good_frames xs) c.in-Some._said (sym stands.first ∙ c.in-Some.is) in
    let f = last.0 in
    let writing = passage g.P.PictureOut.contents g.P.PictureOut.failures c.args.output.now
    c.put.new.self in
    let put = c.in_ok-put-in-Some.ensures.answer s fs f same is text ready
    (subst (λ z. g.P.PictureOut.fits s z c.args.output.now) (sym c.deref.ensures.value) fits)
    (last_good s.accepted xs f are last.1)
    (sym (stands.last f last.1) ∙ sym c.deref.ensures.value) in
    subst (λ o. PutsPictures g.P.PictureOut.ready s fs (those o) writing c.put.new.self (Ok tt))
    (sym last.1) put

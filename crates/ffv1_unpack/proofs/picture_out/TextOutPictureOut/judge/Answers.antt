-- Decodes a payload into what is kept.
use Rattle.std.proofs.Common.{sym, subst}
use Rattle.ffv1_record.specs.Accepted.{Accepted}
use Rattle.ffv1_video.specs.KeptLines.{IsKeptFor}
use Rattle.ffv1_unpack.specs.Internal.Salvage.{HoldsPicture}
use Rattle.ffv1_unpack.proofs.PicturesPut.{text_ready}
use Rattle.ffv1_unpack.proofs.picture_out.TextOutPictureOut.judge.Goals as goal

pub returns-in-Ok-clause-ready : goal.returns-in-Ok-clause-ready
returns-in-Ok-clause-ready g c = λ s fs same ready.
    let old = c.args.self.now in
    let keeps = subst (λ (z : Accepted). IsKeptFor z old.kept) same ready.keeps in
    text_ready s fs old.depth old.head old.begun old.kept ready c.keep_picture.new.kept
    (subst (λ (z : Accepted). IsKeptFor z c.keep_picture.new.kept) (sym same)
    (c.keep_picture.ensures.kept c.requires.accepted keeps))

pub returns-in-Ok-clause-fits : goal.returns-in-Ok-clause-fits
returns-in-Ok-clause-fits g c = λ s fs same ready.
    let keeps = subst (λ (z : Accepted). IsKeptFor z c.args.self.now.kept) same ready.keeps in
    subst (λ (z : Accepted). HoldsPicture z c.args.payload.now c.in-Ok.info
    c.keep_picture.new.kept.planes) (sym same)
    (c.in-Ok.ensures.holds c.requires.accepted keeps)

pub returns-in-Err-clause-err : goal.returns-in-Err-clause-err
returns-in-Err-clause-err g c = λ s fs same ready.
    c.in-Err.ensures.err c.requires.accepted
    (subst (λ (z : Accepted). IsKeptFor z c.args.self.now.kept) same ready.keeps)

pub returns-in-Err-clause-ready : goal.returns-in-Err-clause-ready
returns-in-Err-clause-ready g c = λ s fs same ready.
    let old = c.args.self.now in
    let keeps = subst (λ (z : Accepted). IsKeptFor z old.kept) same ready.keeps in
    text_ready s fs old.depth old.head old.begun old.kept ready c.keep_picture.new.kept
    (subst (λ (z : Accepted). IsKeptFor z c.keep_picture.new.kept) (sym same)
    (c.keep_picture.ensures.kept c.requires.accepted keeps))

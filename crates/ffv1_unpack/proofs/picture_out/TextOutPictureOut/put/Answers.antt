-- Writes the picture of a payload as YUV4MPEG2.
use Rattle.std.proofs.Common.{List, ℕ, Ok, Err, sym, subst, ◌∙◌}
use Rattle.std.proofs.lemmas.Result.{err_from_is_err_and}
use Rattle.ffv1_wire.specs.Passage.{passage}
use Rattle.ffv1_record.specs.Accepted.{Accepted, IsAccepted}
use Rattle.ffv1_codec.specs.Frame.{CodesPicture}
use Rattle.ffv1_codec.specs.Kept.{Kept}
use Rattle.ffv1_codec.specs.Picture.{Planes, planes_of}
use Rattle.ffv1_codec.specs.SliceList.{Said}
use Rattle.ffv1_video.specs.KeptLines.{IsKeptFor}
use Rattle.ffv1_unpack.specs.Internal.Salvage.{ContinuesText, FitsKept}
use Rattle.ffv1_unpack.proofs.PicturesPut.{begun_is, fits_stay, text_cut, text_put}
use Rattle.ffv1_unpack.proofs.picture_out.TextOutPictureOut.put.Goals as goal

pub returns-in-Err-clause-answer : goal.returns-in-Err-clause-answer
returns-in-Err-clause-answer g c = λ s fs f same is text ready fits frame of.
    let a = c.args.decoder.now.accepted in
    let codes : CodesPicture a c.args.payload.now f.planes f.said =
    subst (λ (p : List ℕ). CodesPicture a p f.planes f.said) of
    (subst (λ (z : Accepted). CodesPicture z f.payload f.planes f.said) same frame.codes) in
    absurd
    (c.in-Err.ensures.none (subst (λ (z : Accepted). IsAccepted z.configuration z.table) same is)
    (subst (λ (z : Accepted). IsKeptFor z c.args.self.now.kept) same ready.keeps) f.planes f.said
    codes)

pub returns-in_err-continue_text-in-Ok-clause-answer :
    goal.returns-in_err-continue_text-in-Ok-clause-answer
returns-in_err-continue_text-in-Ok-clause-answer g c = λ s fs f same is text ready fits frame of.
    let p = err_from_is_err_and c.from_residual.result c.from_residual.ensures.1 in
    let a = c.args.decoder.now.accepted in
    let old = c.args.self.now in
    let e = c.in_err-continue_text-in-Ok.field-0.0 in
    let codes : CodesPicture a c.args.payload.now f.planes f.said =
    subst (λ (p : List ℕ). CodesPicture a p f.planes f.said) of
    (subst (λ (z : Accepted). CodesPicture z f.payload f.planes f.said) same frame.codes) in
    let has = c.in-Ok.ensures.ok
    (subst (λ (z : Accepted). IsAccepted z.configuration z.table) same is)
    (subst (λ (z : Accepted). IsKeptFor z old.kept) same ready.keeps)
    (subst (λ (z : Accepted). FitsKept z c.args.payload.now old.held old.kept.planes) same
    fits) in
    let only = has.0.only f.planes f.said codes in
    let writing = passage g.W.ByteOut.contents g.W.ByteOut.failures old.output
    c.continue_text.new.output in
    let begun = c.continue_text.new.begun in
    let answer = c.in_err-continue_text-in-Ok.ensures.answer
    (begun_is s fs f old.depth old.head old.begun old.kept ready) in
    let said = subst (λ (z : Said). ContinuesText old.depth old.head old.begun z
    (planes_of c.planes.result.now) writing begun
    (Err e)) only.0 answer in
    let drawn = subst (λ (z : Planes). ContinuesText old.depth old.head old.begun f.said z writing
    begun (Err e)) (sym c.planes.ensures.value ∙ only.1) said in
    rw (p.1, p.2) (
      drawn.0,
      drawn.1,
      text_cut s fs f old.depth old.head old.begun old.kept ready begun writing e drawn,
    )

pub returns-in_ok-continue_text-in-Ok-clause-answer :
    goal.returns-in_ok-continue_text-in-Ok-clause-answer
returns-in_ok-continue_text-in-Ok-clause-answer g c = λ s fs f same is text ready fits frame of.
    let a = c.args.decoder.now.accepted in
    let old = c.args.self.now in
    let codes : CodesPicture a c.args.payload.now f.planes f.said =
    subst (λ (p : List ℕ). CodesPicture a p f.planes f.said) of
    (subst (λ (z : Accepted). CodesPicture z f.payload f.planes f.said) same frame.codes) in
    let has = c.in-Ok.ensures.ok
    (subst (λ (z : Accepted). IsAccepted z.configuration z.table) same is)
    (subst (λ (z : Accepted). IsKeptFor z old.kept) same ready.keeps)
    (subst (λ (z : Accepted). FitsKept z c.args.payload.now old.held old.kept.planes) same
    fits) in
    let only = has.0.only f.planes f.said codes in
    let writing = passage g.W.ByteOut.contents g.W.ByteOut.failures old.output
    c.continue_text.new.output in
    let begun = c.continue_text.new.begun in
    let answer = c.in_ok-continue_text-in-Ok.ensures.answer
    (begun_is s fs f old.depth old.head old.begun old.kept ready) in
    let said = subst (λ (z : Said). ContinuesText old.depth old.head old.begun z
    (planes_of c.planes.result.now) writing begun
    (Ok tt)) only.0 answer in
    let drawn = subst (λ (z : Planes). ContinuesText old.depth old.head old.begun f.said z writing
    begun (Ok tt)) (sym c.planes.ensures.value ∙ only.1) said in
    let keeps = subst (λ (z : Accepted). IsKeptFor z c.have_picture.new.kept) (sym same) has.1 in
    text_put s fs f old.depth old.head old.begun old.kept ready _ begun writing
    (subst (IsKeptFor s.accepted) (sym c.planes.follows.holds-at-none) keeps) drawn

pub returns-in_ok-continue_text-in-Ok-clause-stays :
    goal.returns-in_ok-continue_text-in-Ok-clause-stays
returns-in_ok-continue_text-in-Ok-clause-stays g c = λ s other fits.
    let old = c.args.self.now in
    subst (λ (k : Kept). FitsKept s.accepted other old.held k.planes)
    (sym c.planes.follows.holds-at-none)
    (fits_stay s.accepted other old.held old.kept c.have_picture.new.kept
    c.have_picture.ensures.stays fits)

pub returns-in_err-continue_text-in-Ok-clause-stays :
    goal.returns-in_err-continue_text-in-Ok-clause-stays
returns-in_err-continue_text-in-Ok-clause-stays g c = λ s other fits.
    let old = c.args.self.now in
    subst (λ (k : Kept). FitsKept s.accepted other old.held k.planes)
    (sym c.planes.follows.holds-at-none)
    (fits_stay s.accepted other old.held old.kept c.have_picture.new.kept
    c.have_picture.ensures.stays fits)

pub returns-in-Err-clause-stays : goal.returns-in-Err-clause-stays
returns-in-Err-clause-stays g c = λ s other fits.
    fits_stay s.accepted other c.args.self.now.held c.args.self.now.kept c.have_picture.new.kept
    c.have_picture.ensures.stays fits

-- Reads and encodes the next picture; None at the end.
use Rattle.std.proofs.Common.{◌∙◌, ap, subst, ◌≡◌, true}
use Rattle.std.proofs.lemmas.Result.{err_from_is_err_and}
use Rattle.ffv1_codec.specs.Picture.{planes_of}
use Rattle.ffv1_wire.specs.Passage.{passage}
use Rattle.ffv1_y4m.specs.State.{shown}
use Rattle.ffv1_pack.specs.Internal.VideoReads.{NextRead, reading_of}
use Rattle.ffv1_pack.proofs.PicturesEncoded.{encoded_one, frame_stops, made_of, next_stops}
use Rattle.ffv1_pack.proofs.VideoChecks.{range_coded}
use Rattle.ffv1_pack.proofs.VideoFits.{is_made}
use Rattle.ffv1_pack.proofs.encoding.encode_picture.Goals as goal

pub unwrap-picture-requires : goal.unwrap-picture-requires
unwrap-picture-requires g c =
    let more : c.in_ok-next.field-0 ≡ true = search in
    is_made c.requires.suits.1 _ _ c.config.result.now.configuration _ _ c.new-2.result
    c.info_for-info.ensures.head (ap (λ a. a.configuration) c.config.ensures ∙
    c.requires.suits.2.configuration) (ap (λ v. planes_of v.items) c.replace-lent.ensures.value)
    (c.in_ok-next.ensures.fits more) (c.in_ok-next.ensures.depth more) c.new-2.ensures.none

pub encode-requires-clause-range : goal.encode-requires-clause-range
encode-requires-clause-range g c =
    range_coded c.requires.suits.0 c.requires.suits.1 (reading_of c.args.reader.now).ppm
    (reading_of c.args.reader.now).head c.args.encoder.now.accepted c.requires.suits.2

pub returns-clause-ok : goal.returns-clause-ok
returns-clause-ok g c =
    let more : c.in_ok-next.field-0 ≡ true = search in
    let read = subst (λ m. NextRead (passage g.R.ByteIn.remaining g.R.ByteIn.failures
    c.args.input.now c.next.new.input) (reading_of c.args.reader.now)
    (shown c.next.new.planes.items m) (reading_of c.next.new.self)) more
    c.in_ok-next.ensures.ok in
    let lent = ap (λ v. planes_of v.items) c.replace-lent.ensures.value in
    let picture = made_of c.new-2.result c.unwrap-picture.result
    (planes_of c.replace-lent.result.items) c.unwrap-picture.ensures c.new-2.ensures.some in
    encoded_one _ _ _ _ _ c.unwrap-picture.result _ c.in_ok-frame.frame read (picture ∙ lent)
    c.info_for-info.ensures.value c.in_ok-frame.ensures.few c.in_ok-frame.ensures.ok

pub returns-in_err-next-clause-err : goal.returns-in_err-next-clause-err
returns-in_err-next-clause-err g c =
    let p = err_from_is_err_and c.from_residual.result c.from_residual.ensures.1 in
    rw (p.1, p.2) (next_stops _ c.args.encoder.now.accepted _ c.in_err-next.field-0.0
    c.in_err-next.ensures.err)

pub returns-in_err-frame-clause-err : goal.returns-in_err-frame-clause-err
returns-in_err-frame-clause-err g c =
    let p = err_from_is_err_and c.from_residual-in_err-frame.result
    c.from_residual-in_err-frame.ensures.1 in
    let more : c.in_ok-next.field-0 ≡ true = search in
    let read = subst (λ m. NextRead (passage g.R.ByteIn.remaining g.R.ByteIn.failures
    c.args.input.now c.next.new.input) (reading_of c.args.reader.now)
    (shown c.next.new.planes.items m) (reading_of c.next.new.self)) more
    c.in_ok-next.ensures.ok in
    let lent = ap (λ v. planes_of v.items) c.replace-lent.ensures.value in
    let picture = made_of c.new-2.result c.unwrap-picture.result
    (planes_of c.replace-lent.result.items) c.unwrap-picture.ensures c.new-2.ensures.some in
    rw (p.1, p.2) (frame_stops _ c.args.encoder.now.accepted _ _ _ c.unwrap-picture.result _
    c.in_err-frame.field-0.0 read (picture ∙ lent) c.info_for-info.ensures.value
    c.in_err-frame.ensures.refused)

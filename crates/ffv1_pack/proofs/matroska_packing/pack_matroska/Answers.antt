-- Packs a video into Matroska, picture by picture: YUV4MPEG2 or, if the first byte is `P`,
-- binary PPM is read, and the Cluster of a picture is written as soon as it is encoded (RFC 9559,
-- 5.1.3, with FFV1 as RFC 9043, 4.3.3, has it).
use Rattle.std.proofs.lemmas.Result.{err_from_is_err_and}
use Rattle.std.proofs.Common.{refl, ◌∙◌, ◌<◌, ap, arith, inl, subst, sym}
use Rattle.std.proofs.lemmas.Grind.{common_steps}
use Rattle.ffv1_wire.specs.Passage.{passage}
use Rattle.ffv1_matroska.specs.Writers.{Writing}
use Rattle.ffv1_pack.proofs.ClustersPut.{own_finish}
use Rattle.ffv1_pack.proofs.ConfigurationJudged.{has_timed}
use Rattle.ffv1_pack.proofs.MatroskaFinished.{EndLaws}
use Rattle.ffv1_pack.proofs.MatroskaPacked.{finish_stops, lacks, no_pictures, packs, packs_asked}
use Rattle.ffv1_pack.proofs.MatroskaPacked.{putting_stops}
use Rattle.ffv1_pack.proofs.matroska_packing.pack_matroska.Goals as goal

pub returns-in_err-reader-clause-err : goal.returns-in_err-reader-clause-err
returns-in_err-reader-clause-err g c =
    let p = err_from_is_err_and c.from_residual.result c.from_residual.ensures.1 in
    rw (p.1, p.2) (lacks c.args.profile c.args.choice.now _ (g.W.ByteOut.contents c.args.output.now)
    (g.W.ByteOut.failures c.args.output.now) c.in_err-reader.field-0.0
    c.in_err-reader.ensures.err)

pub returns-in_err-packed-clause-err : goal.returns-in_err-packed-clause-err
returns-in_err-packed-clause-err g c =
    let p = err_from_is_err_and c.from_residual-in_err-packed.result
    c.from_residual-in_err-packed.ensures.1 in
    rw (p.1, p.2) (putting_stops c.args.profile c.args.choice.now _ _ _ _ c.in_ok-reader.ensures.ok _ _ refl refl
    c.in_err-packed.field-0.0 c.in_err-packed.ensures.err)

pub returns-then-packed-eq0-clause-err : goal.returns-then-packed-eq0-clause-err
returns-then-packed-eq0-clause-err g c =
    no_pictures c.args.profile c.args.choice.now _ _ _ _ c.in_ok-reader.ensures.ok _ _ refl refl _ _
    c.in_ok-packed.ensures.ok c.if-packed-eq0.true

pub returns-in_err-finished-clause-err : goal.returns-in_err-finished-clause-err
returns-in_err-finished-clause-err g c =
    let p = err_from_is_err_and c.from_residual-in_err-finished.result
    c.from_residual-in_err-finished.ensures.1 in
    let laws : EndLaws = record {
      cued = c.writes_make_up_the_file.ensures.«open»;
      whole =
          c.writes_make_up_the_file.ensures.whole;
      over = c.writes_make_up_the_file.ensures.over;
    } in
    let many : 0 < c.in_ok-packed.packed.frames = grind
    (arith, common_steps, c.if-packed-eq0.false) in
    let put = c.in_ok-packed.ensures.ok.put in
    let out = passage g.W.ByteOut.contents g.W.ByteOut.failures c.put_pictures.new.output
    c.finish.new.out in
    let finishes = c.in_err-finished.ensures.answer (ap (λ (x : Writing). x.failed) put.is)
    (subst (λ n. 0 < n) (put.frames_are ∙ sym (ap (λ (x : Writing). x.count) put.is)) many) in
    rw (p.1, p.2) (finish_stops c.args.profile c.args.choice.now _ _ _ _ c.in_ok-reader.ensures.ok _ _ refl refl
    _ _ c.in_ok-packed.ensures.ok laws c.text_is_read_as_its_pictures.ensures.only
    c.text_is_read_as_its_images.ensures.told out refl refl many c.in_err-finished.field-0.0
    finishes)

pub returns-in_err-finished-clause-own : goal.returns-in_err-finished-clause-own
returns-in_err-finished-clause-own g c =
    let p = err_from_is_err_and c.from_residual-in_err-finished.result
    c.from_residual-in_err-finished.ensures.1 in
    let many : 0 < c.in_ok-packed.packed.frames = grind
    (arith, common_steps, c.if-packed-eq0.false) in
    let put = c.in_ok-packed.ensures.ok.put in
    let finishes = c.in_err-finished.ensures.answer (ap (λ (x : Writing). x.failed) put.is)
    (subst (λ n. 0 < n) (put.frames_are ∙ sym (ap (λ (x : Writing). x.count) put.is)) many) in
    let out = passage g.W.ByteOut.contents g.W.ByteOut.failures c.put_pictures.new.output
    c.finish.new.out in
    rw (p.1, p.2) (inl (own_finish out c.put_pictures.new.writer c.in_err-finished.field-0.0
    finishes))

pub returns-clause-ok : goal.returns-clause-ok
returns-clause-ok g c =
    let laws : EndLaws = record {
      cued = c.writes_make_up_the_file.ensures.«open»;
      whole =
          c.writes_make_up_the_file.ensures.whole;
      over = c.writes_make_up_the_file.ensures.over;
    } in
    let many : 0 < c.in_ok-packed.packed.frames = grind
    (arith, common_steps, c.if-packed-eq0.false) in
    let put = c.in_ok-packed.ensures.ok.put in
    let out = passage g.W.ByteOut.contents g.W.ByteOut.failures c.put_pictures.new.output
    c.finish.new.out in
    let finishes = c.in_ok-finished.ensures.answer (ap (λ (x : Writing). x.failed) put.is)
    (subst (λ n. 0 < n) (put.frames_are ∙ sym (ap (λ (x : Writing). x.count) put.is)) many) in
    packs c.args.profile c.args.choice.now _ _ _ _ c.in_ok-reader.ensures.ok _ _ refl refl _ _
    c.in_ok-packed.ensures.ok laws c.text_is_read_as_its_pictures.ensures.only
    c.text_is_read_as_its_images.ensures.told out refl refl many c.in_ok-finished.finished
    finishes

pub returns-clause-asks : goal.returns-clause-asks
returns-clause-asks g c =
    let laws : EndLaws = record {
      cued = c.writes_make_up_the_file.ensures.«open»;
      whole =
          c.writes_make_up_the_file.ensures.whole;
      over = c.writes_make_up_the_file.ensures.over;
    } in
    let many : 0 < c.in_ok-packed.packed.frames = grind
    (arith, common_steps, c.if-packed-eq0.false) in
    let put = c.in_ok-packed.ensures.ok.put in
    let out = passage g.W.ByteOut.contents g.W.ByteOut.failures c.put_pictures.new.output
    c.finish.new.out in
    let lives = ap (λ (x : Writing). x.failed) put.is in
    let some = subst (λ n. 0 < n)
    (put.frames_are ∙ sym (ap (λ (x : Writing). x.count) put.is)) many in
    let finishes = c.in_ok-finished.ensures.answer lives some in
    packs_asked c.args.profile c.args.choice.now _ _ _ _ c.in_ok-reader.ensures.ok _ _ refl refl _ _
    c.in_ok-packed.ensures.ok laws c.text_is_read_as_its_pictures.ensures.only
    c.text_is_read_as_its_images.ensures.told out refl refl many g.W.ByteOut.contents
    g.W.PatchOut.overwrites c.args.output.now c.put_pictures.new.output c.finish.new.out
    c.in_ok-finished.finished refl refl finishes (c.in_ok-finished.ensures.asks lives some)

pub returns-in_err-reader-clause-sound : goal.returns-in_err-reader-clause-sound
returns-in_err-reader-clause-sound g c =
    let p = err_from_is_err_and c.from_residual.result c.from_residual.ensures.1 in
    rw (p.1, p.2) c.in_err-reader.ensures.sound

pub returns-in_err-packed-clause-sound : goal.returns-in_err-packed-clause-sound
returns-in_err-packed-clause-sound g c =
    let p = err_from_is_err_and c.from_residual-in_err-packed.result
    c.from_residual-in_err-packed.ensures.1 in
    let opens = c.in_ok-reader.ensures.ok in
    rw (p.1, p.2) (λ _. has_timed c.args.profile c.args.choice.now _ _ _ opens.read
    opens.for opens.timed)

pub returns-in_err-finished-clause-sound : goal.returns-in_err-finished-clause-sound
returns-in_err-finished-clause-sound g c =
    let p = err_from_is_err_and c.from_residual-in_err-finished.result
    c.from_residual-in_err-finished.ensures.1 in
    let opens = c.in_ok-reader.ensures.ok in
    rw (p.1, p.2) (λ _. has_timed c.args.profile c.args.choice.now _ _ _ opens.read
    opens.for opens.timed)

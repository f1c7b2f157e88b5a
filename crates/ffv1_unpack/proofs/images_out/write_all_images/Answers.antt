-- Decodes all frames that are left into images.
use Rattle.std.proofs.Common.{◌≡◌, refl, Ok, subst, sym, ◌∙◌, [], ◌∷◌, ◌++◌, length, arith}
use Rattle.std.proofs.lemmas.Result.{err_from_is_err_and}
use Rattle.ffv1_range.specs.Counts.{saturated}
use Rattle.ffv1_wire.specs.Passage.{passage}
use Rattle.ffv1_video.specs.Faults.{cause_of}
use Rattle.ffv1_unpack.specs.Internal.ImagesOut.{WritesImage}
use Rattle.ffv1_unpack.specs.Internal.Opens.{stream_of}
use Rattle.ffv1_unpack.specs.Stream.{AreFrames, carried_after, payloads}
use Rattle.ffv1_unpack.proofs.FramesCarried.{after_more}
use Rattle.ffv1_unpack.proofs.FramesInTurn.{counted_more}
use Rattle.ffv1_unpack.proofs.FramesPlayed.{none_at_most, one_at_most}
use Rattle.ffv1_unpack.proofs.FramesUnpacked.{unpacks_full}
use Rattle.ffv1_unpack.proofs.ImagesSoFar.{images_more, images_none, images_over, images_stop}
use Rattle.std.proofs.Common.{true, false}
use Rattle.ffv1_unpack.proofs.OwnFaults.{written_on}
use Rattle.ffv1_unpack.proofs.images_out.write_all_images.Goals as goal

pub frames-init : goal.frames-init
frames-init g c =
    let none : 0 ≡ saturated 0 = omega arith in (
      c.requires.sound,
      refl,
      c.requires.sink,
      (
        record {
          frames = [];
          is = none;
          un =
              images_none (stream_of c.args.player.now.reader c.args.player.now.decoder.accepted)
              c.requires.colour c.args.carried.now.items c.args.player.now.reader.place
              (g.R.ByteIn.remaining c.args.input.now)
              (g.W.ByteOut.contents c.args.sink.now.out) (g.R.ByteIn.failures c.args.input.now)
              (g.W.ByteOut.failures c.args.sink.now.out);
          left_is = refl;
        },
        none_at_most c.args.most,
        c.new-last.ensures.items,
      ),
      refl,
      (λ scope text stands. stands),
    )

pub returns-in_err-write_next-clause-err : goal.returns-in_err-write_next-clause-err
returns-in_err-write_next-clause-err g c =
    let p = err_from_is_err_and c.from_residual.result c.from_residual.ensures.1 in
    let same = c.frames.invariant.1 in
    let so = c.frames.invariant.3.0 in
    let f = c.in_err-write_next.field-0.0 in
    rw (p.1, p.2)
    (images_stop (stream_of c.args.player.now.reader c.args.player.now.decoder.accepted)
    c.requires.colour c.args.carried.now.items c.args.player.now.reader.place c.frames.player.reader.place
    c.write_next.new.player.reader.place
    (g.R.ByteIn.remaining c.args.input.now) (g.R.ByteIn.remaining c.frames.input)
    (g.R.ByteIn.remaining c.write_next.new.input)
    (g.W.ByteOut.contents c.args.sink.now.out) (g.W.ByteOut.contents c.frames.sink.out)
    (g.W.ByteOut.contents c.write_next.new.sink.out)
    (g.R.ByteIn.failures c.args.input.now) (g.R.ByteIn.failures c.frames.input)
    (g.R.ByteIn.failures c.write_next.new.input)
    (g.W.ByteOut.failures c.args.sink.now.out) (g.W.ByteOut.failures c.frames.sink.out)
    (g.W.ByteOut.failures c.write_next.new.sink.out)
    so.frames so.un f (cause_of f) (rw so.left_is at (rw same at
    (c.in_err-write_next.ensures.answer so.frames
    (subst (λ z. AreFrames z so.frames) (sym same) so.un.are) c.frames.invariant.3.2))))

pub returns-in_err-write_next-clause-own : goal.returns-in_err-write_next-clause-own
returns-in_err-write_next-clause-own g c =
    let p = err_from_is_err_and c.from_residual.result c.from_residual.ensures.1 in
    rw (p.1, p.2) (written_on c.args.player.now.reader c.frames.player.reader
    (passage g.R.ByteIn.remaining g.R.ByteIn.failures c.args.input.now c.frames.input)
    c.in_err-write_next.field-0.0 c.frames.invariant.4 c.frames.invariant.5
    c.in_err-write_next.ensures.own)

pub frames-preserved : goal.frames-preserved
frames-preserved g c =
    let a = c.args.player.now.decoder.accepted in
    let same = c.frames.invariant.1 in
    let so = c.frames.invariant.3.0 in
    let room = sym (c.has_more.ensures (length so.frames) so.is) ∙ c.frames-test.true in
    let reading = passage g.R.ByteIn.remaining g.R.ByteIn.failures c.frames.input
    c.write_next.new.input in
    let writing = passage g.W.ByteOut.contents g.W.ByteOut.failures c.frames.sink.out
    c.write_next.new.sink.out in
    let left = c.frames.carried.items in
    let first = c.args.carried.now.items in
    let answer = subst (λ b. WritesImage a (carried_after first (payloads so.frames)) so.frames c.frames.player.reader.place
    c.write_next.new.player.reader.place reading writing c.write_next.new.player.notes c.write_next.new.last.items (Ok b)) c.if-not-branch.false
    (subst (λ z. WritesImage a z so.frames c.frames.player.reader.place c.write_next.new.player.reader.place
    reading writing c.write_next.new.player.notes c.write_next.new.last.items (Ok c.in_ok-write_next.field-0)) so.left_is
    (subst (λ z. WritesImage z left so.frames c.frames.player.reader.place c.write_next.new.player.reader.place
    reading writing c.write_next.new.player.notes c.write_next.new.last.items (Ok c.in_ok-write_next.field-0)) same
    (c.in_ok-write_next.ensures.answer so.frames
    (subst (λ z. AreFrames z so.frames) (sym same) so.un.are) c.frames.invariant.3.2))) in
    let f = answer.0 in
    let next : c.saturating_add-count.result ≡ saturated (length (so.frames ++ (f ∷ []))) =
    omega (arith, c.saturating_add-count.ensures, so.is, counted_more so.frames f) in (
      c.in_ok-write_next.ensures.sound,
      c.in_ok-write_next.ensures.same ∙ same,
      rw same at
          (c.in_ok-write_next.ensures.sink so.frames
          (subst (λ z. AreFrames z so.frames) (sym same) so.un.are) c.frames.invariant.3.2),
      (
        record {
          frames = so.frames ++ (f ∷ []);
          is = next;
          un =
              images_more (stream_of c.args.player.now.reader a) c.requires.colour first
              c.args.player.now.reader.place c.frames.player.reader.place
              c.write_next.new.player.reader.place
              (g.R.ByteIn.remaining c.args.input.now) (g.R.ByteIn.remaining c.frames.input)
              (g.R.ByteIn.remaining c.write_next.new.input)
              (g.W.ByteOut.contents c.args.sink.now.out) (g.W.ByteOut.contents c.frames.sink.out)
              (g.W.ByteOut.contents c.write_next.new.sink.out)
              (g.R.ByteIn.failures c.args.input.now) (g.R.ByteIn.failures c.frames.input)
              (g.R.ByteIn.failures c.write_next.new.input)
              (g.W.ByteOut.failures c.args.sink.now.out) (g.W.ByteOut.failures c.frames.sink.out)
              (g.W.ByteOut.failures c.write_next.new.sink.out)
              so.frames so.un f answer.1 answer.2 answer.3;
          left_is = c.in_ok-write_next.ensures.none c.if-not-branch.false ∙ sym (after_more first so.frames f);
        },
        one_at_most c.args.most so.frames f room,
        answer.4,
      ),
      c.in_ok-write_next.ensures.container ∙ c.frames.invariant.4,
      (λ scope text stands. c.in_ok-write_next.ensures.reached c.if-not-branch.false scope text
          (c.frames.invariant.5 scope text stands)),
    )

pub returns-then-not-branch-clause-ok : goal.returns-then-not-branch-clause-ok
returns-then-not-branch-clause-ok g c =
    let a = c.args.player.now.decoder.accepted in
    let same = c.frames.invariant.1 in
    let so = c.frames.invariant.3.0 in
    let room = sym (c.has_more.ensures (length so.frames) so.is) ∙ c.frames-test.true in
    let reading = passage g.R.ByteIn.remaining g.R.ByteIn.failures c.frames.input
    c.write_next.new.input in
    let writing = passage g.W.ByteOut.contents g.W.ByteOut.failures c.frames.sink.out
    c.write_next.new.sink.out in
    let left = c.frames.carried.items in
    let answer = subst (λ b. WritesImage a left so.frames c.frames.player.reader.place
    c.write_next.new.player.reader.place reading writing c.write_next.new.player.notes c.write_next.new.last.items (Ok b)) c.if-not-branch.true
    (subst (λ z. WritesImage z left so.frames c.frames.player.reader.place c.write_next.new.player.reader.place
    reading writing c.write_next.new.player.notes c.write_next.new.last.items (Ok c.in_ok-write_next.field-0)) same
    (c.in_ok-write_next.ensures.answer so.frames
    (subst (λ z. AreFrames z so.frames) (sym same) so.un.are) c.frames.invariant.3.2)) in (
      so.frames,
      so.is,
      images_over (stream_of c.args.player.now.reader a) c.requires.colour
          c.args.carried.now.items c.args.player.now.reader.place c.frames.player.reader.place
          c.write_next.new.player.reader.place
          (g.R.ByteIn.remaining c.args.input.now) (g.R.ByteIn.remaining c.frames.input)
          (g.R.ByteIn.remaining c.write_next.new.input)
          (g.W.ByteOut.contents c.args.sink.now.out) (g.W.ByteOut.contents c.frames.sink.out)
          (g.W.ByteOut.contents c.write_next.new.sink.out)
          (g.R.ByteIn.failures c.args.input.now) (g.R.ByteIn.failures c.frames.input)
          (g.R.ByteIn.failures c.write_next.new.input)
          (g.W.ByteOut.failures c.args.sink.now.out) (g.W.ByteOut.failures c.frames.sink.out)
          (g.W.ByteOut.failures c.write_next.new.sink.out)
          so.frames so.un c.write_next.new.player.notes c.args.most room c.frames.invariant.3.1 answer.0 answer.1,
    )

pub returns-then-not-branch-clause-noted : goal.returns-then-not-branch-clause-noted
returns-then-not-branch-clause-noted g c = λ k is room scope text stands.
    c.in_ok-write_next.ensures.noted c.if-not-branch.true scope text
    (c.frames.invariant.5 scope text stands)

pub returns-clause-noted : goal.returns-clause-noted
returns-clause-noted g c = λ k is room scope text stands.
    absurd (let no : true ≡ false = sym room ∙ sym (c.has_more.ensures k is)
    ∙ c.frames-test.false in cc)

pub returns-clause-ok : goal.returns-clause-ok
returns-clause-ok g c =
    let so = c.frames.invariant.3.0 in
    let full = sym (c.has_more.ensures (length so.frames) so.is) ∙ c.frames-test.false in (
      so.frames,
      so.is,
      unpacks_full (stream_of c.args.player.now.reader c.args.player.now.decoder.accepted)
          c.args.carried.now.items c.args.player.now.reader.place c.frames.player.reader.place
          (g.R.ByteIn.remaining c.args.input.now) (g.R.ByteIn.remaining c.frames.input)
          (g.W.ByteOut.contents c.args.sink.now.out) (g.W.ByteOut.contents c.frames.sink.out)
          (g.R.ByteIn.failures c.args.input.now) (g.R.ByteIn.failures c.frames.input)
          (g.W.ByteOut.failures c.args.sink.now.out) (g.W.ByteOut.failures c.frames.sink.out)
          so.frames so.un c.frames.player.notes c.args.most full c.frames.invariant.3.1,
    )

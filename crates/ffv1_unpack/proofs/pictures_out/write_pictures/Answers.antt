-- Decodes all frames that are left, and writes the picture of each.
use Rattle.std.proofs.Common.{◌≡◌, refl, Ok, Err, subst, sym, ◌∙◌, [], ◌∷◌, ◌++◌, length, arith}
use Rattle.std.proofs.lemmas.Result.{err_from_is_err_and}
use Rattle.ffv1_range.specs.Counts.{saturated}
use Rattle.ffv1_wire.specs.Passage.{passage}
use Rattle.ffv1_codec.specs.SliceList.{Said}
use Rattle.ffv1_video.specs.Faults.{cause_of}
use Rattle.ffv1_unpack.specs.Internal.Opens.{stream_of}
use Rattle.ffv1_video.specs.KeptLines.{IsKeptFor}
use Rattle.ffv1_unpack.specs.Internal.PicturesOut.{KeepsLast, WritesNext, begun_behind, head_saying}
use Rattle.ffv1_unpack.specs.Stream.{carried_after, payloads, shown_frames}
use Rattle.ffv1_unpack.specs.Unpacked.{AlikeBy, video_of}
use Rattle.ffv1_unpack.specs.Plays.{AtMost}
use Rattle.ffv1_unpack.proofs.FramesCarried.{after_more}
use Rattle.ffv1_unpack.proofs.FramesInTurn.{counted_more}
use Rattle.ffv1_unpack.proofs.FramesPlayed.{none_at_most, one_at_most}
use Rattle.ffv1_unpack.proofs.FramesUnpacked.{unpacks_full}
use Rattle.ffv1_unpack.proofs.PicturesWritten.{UnpackedSo, begun_then, heads_of, keeps_next, keeps_none}
use Rattle.ffv1_unpack.proofs.PicturesWritten.{unpacked_more, unpacked_none, unpacked_over}
use Rattle.ffv1_unpack.proofs.PicturesWritten.{unpacking_stops, wants_memory}
use Rattle.ffv1_video.proofs.KeptLines.{zeros_kept}
use Rattle.std.proofs.Common.{true, false}
use Rattle.ffv1_unpack.proofs.OwnFaults.{written_on}
use Rattle.ffv1_unpack.proofs.pictures_out.write_pictures.Goals as goal

pub returns-in_err-kept-clause-err : goal.returns-in_err-kept-clause-err
returns-in_err-kept-clause-err g c =
    let p = err_from_is_err_and c.from_residual.result c.from_residual.ensures.1 in
    rw (p.1, p.2)
    (wants_memory (stream_of c.args.player.now.reader c.args.player.now.decoder.accepted)
    c.args.carried.now.items c.args.player.now.reader.place (g.R.ByteIn.remaining c.args.input.now)
    (g.W.ByteOut.contents c.args.output.now)
    (g.R.ByteIn.failures c.args.input.now) (g.W.ByteOut.failures c.args.output.now)
    c.in_err-kept.field-0.0 c.requires.colour c.in_err-kept.ensures.err)

pub frames-init : goal.frames-init
frames-init g c =
    let none : 0 ≡ saturated 0 = omega arith in
    let heads = heads_of _ _ _ _ c.text_head.result c.head.ensures.value c.config-checked.ensures
    c.text_head.ensures in (
      c.requires.sound,
      refl,
      zeros_kept c.args.player.now.decoder.accepted c.config-checked.result.now c.in_ok-kept.kept
          c.config-checked.ensures c.in_ok-kept.ensures.ok,
      heads,
      (
        record {
          frames = [];
          is = none;
          un = unpacked_none (stream_of c.args.player.now.reader c.args.player.now.decoder.accepted)
              c.text_head.result heads c.requires.colour c.args.carried.now.items
              c.args.player.now.reader.place
              (g.R.ByteIn.remaining c.args.input.now) (g.W.ByteOut.contents c.args.output.now)
              (g.R.ByteIn.failures c.args.input.now) (g.W.ByteOut.failures c.args.output.now);
          begun_is = refl;
          keeps = keeps_none c.in_ok-kept.kept.planes;
          left_is = refl;
        },
        none_at_most c.args.most,
      ),
      refl,
      (λ scope text stands. stands),
    )

pub returns-in_err-write_next-clause-err : goal.returns-in_err-write_next-clause-err
returns-in_err-write_next-clause-err g c =
    let p = err_from_is_err_and c.from_residual-in_err-write_next.result
    c.from_residual-in_err-write_next.ensures.1 in
    let a = c.args.player.now.decoder.accepted in
    let h = c.frames.text.head in
    let i = c.frames.invariant in
    let so = i.4.0 in
    let f = c.in_err-write_next.field-0.0 in
    let to = c.frames.player.reader.place in
    let last = c.write_next.new.player.reader.place in
    let input = passage g.R.ByteIn.remaining g.R.ByteIn.failures c.frames.input
    c.write_next.new.input in
    let output = passage g.W.ByteOut.contents g.W.ByteOut.failures c.frames.output
    c.write_next.new.output in
    let left = c.frames.carried.items in
    let answer =
    subst (λ z. WritesNext a z h (begun_behind a.configuration.depth h (shown_frames so.frames)) c.frames.kept.planes to last input output c.write_next.new.player.notes c.write_next.new.text.begun c.write_next.new.kept.planes (Err f))
    so.left_is
    (subst (λ z. WritesNext a left h z c.frames.kept.planes to last input output c.write_next.new.player.notes c.write_next.new.text.begun c.write_next.new.kept.planes (Err f))
    so.begun_is
    (subst (λ z. WritesNext z left h c.frames.text.begun c.frames.kept.planes to last input output c.write_next.new.player.notes
    c.write_next.new.text.begun c.write_next.new.kept.planes (Err f)) i.1 c.in_err-write_next.ensures.answer)) in
    rw (p.1, p.2)
    (unpacking_stops (stream_of c.args.player.now.reader a) h i.3 c.requires.colour
    c.args.carried.now.items c.args.player.now.reader.place to last
    (g.R.ByteIn.remaining c.args.input.now) (g.R.ByteIn.remaining c.frames.input)
    (g.R.ByteIn.remaining c.write_next.new.input)
    (g.W.ByteOut.contents c.args.output.now) (g.W.ByteOut.contents c.frames.output)
    (g.W.ByteOut.contents c.write_next.new.output)
    (g.R.ByteIn.failures c.args.input.now) (g.R.ByteIn.failures c.frames.input)
    (g.R.ByteIn.failures c.write_next.new.input)
    (g.W.ByteOut.failures c.args.output.now) (g.W.ByteOut.failures c.frames.output)
    (g.W.ByteOut.failures c.write_next.new.output)
    so.frames so.un c.frames.kept.planes so.keeps f (cause_of f) answer)

pub returns-in_err-write_next-clause-own : goal.returns-in_err-write_next-clause-own
returns-in_err-write_next-clause-own g c =
    let p = err_from_is_err_and c.from_residual-in_err-write_next.result
    c.from_residual-in_err-write_next.ensures.1 in
    rw (p.1, p.2) (written_on c.args.player.now.reader c.frames.player.reader
    (passage g.R.ByteIn.remaining g.R.ByteIn.failures c.args.input.now c.frames.input)
    c.in_err-write_next.field-0.0 c.frames.invariant.5 c.frames.invariant.6
    c.in_err-write_next.ensures.own)

pub frames-preserved : goal.frames-preserved
frames-preserved g c =
    let a = c.args.player.now.decoder.accepted in
    let s = stream_of c.args.player.now.reader a in
    let h = c.frames.text.head in
    let i = c.frames.invariant in
    let so = i.4.0 in
    let room = sym (c.has_more.ensures (length so.frames) so.is) ∙ c.frames-test.true in
    let to = c.frames.player.reader.place in
    let last = c.write_next.new.player.reader.place in
    let input = passage g.R.ByteIn.remaining g.R.ByteIn.failures c.frames.input
    c.write_next.new.input in
    let output = passage g.W.ByteOut.contents g.W.ByteOut.failures c.frames.output
    c.write_next.new.output in
    let left = c.frames.carried.items in
    let first = c.args.carried.now.items in
    let answer =
    subst (λ b. WritesNext a (carried_after first (payloads so.frames)) h (begun_behind a.configuration.depth h (shown_frames so.frames)) c.frames.kept.planes to last
    input output c.write_next.new.player.notes c.write_next.new.text.begun c.write_next.new.kept.planes (Ok b)) c.if-not-branch.false
    (subst (λ z. WritesNext a z h (begun_behind a.configuration.depth h (shown_frames so.frames)) c.frames.kept.planes to last input output c.write_next.new.player.notes c.write_next.new.text.begun
    c.write_next.new.kept.planes (Ok c.in_ok-write_next.field-0)) so.left_is
    (subst (λ z. WritesNext a left h z c.frames.kept.planes to last input output c.write_next.new.player.notes c.write_next.new.text.begun
    c.write_next.new.kept.planes (Ok c.in_ok-write_next.field-0)) so.begun_is
    (subst (λ z. WritesNext z left h c.frames.text.begun c.frames.kept.planes to last input output c.write_next.new.player.notes
    c.write_next.new.text.begun c.write_next.new.kept.planes (Ok c.in_ok-write_next.field-0)) i.1
    c.in_ok-write_next.ensures.answer))) in
    let f = answer.0 in
    let next : c.saturating_add-count.result ≡ saturated (length (so.frames ++ (f ∷ []))) =
    omega (arith, c.saturating_add-count.ensures, so.is, counted_more so.frames f) in
    let all_input = passage g.R.ByteIn.remaining g.R.ByteIn.failures c.args.input.now
    c.write_next.new.input in
    let all_output = passage g.W.ByteOut.contents g.W.ByteOut.failures c.args.output.now
    c.write_next.new.output in
    let unpacked : UnpackedSo s h first c.args.player.now.reader.place all_input all_output
    c.write_next.new.text.begun c.write_next.new.kept.planes c.write_next.new.carried.items c.saturating_add-count.result last =
    record {
      frames = so.frames ++ (f ∷ []);
      is = next;
      un =
          unpacked_more s h i.3 c.requires.colour first c.args.player.now.reader.place to last
          (g.R.ByteIn.remaining c.args.input.now) (g.R.ByteIn.remaining c.frames.input)
          (g.R.ByteIn.remaining c.write_next.new.input)
          (g.W.ByteOut.contents c.args.output.now) (g.W.ByteOut.contents c.frames.output)
          (g.W.ByteOut.contents c.write_next.new.output)
          (g.R.ByteIn.failures c.args.input.now) (g.R.ByteIn.failures c.frames.input)
          (g.R.ByteIn.failures c.write_next.new.input)
          (g.W.ByteOut.failures c.args.output.now) (g.W.ByteOut.failures c.frames.output)
          (g.W.ByteOut.failures c.write_next.new.output)
          so.frames so.un c.frames.kept.planes so.keeps f answer.1 answer.2 answer.3 answer.4;
      begun_is = answer.5 ∙ begun_then a.configuration.depth h so.frames f
          (subst (λ b. AlikeBy b (shown_frames so.frames)) c.requires.colour so.un.alike) answer.2;
      keeps = subst (λ z. KeepsLast z (so.frames ++ (f ∷ []))) (sym answer.6)
          (keeps_next c.frames.kept.planes so.frames f so.keeps);
      left_is = c.in_ok-write_next.ensures.none c.if-not-branch.false ∙ sym (after_more first so.frames f);
    } in
    let head = sym c.in_ok-write_next.ensures.head in (
      c.in_ok-write_next.ensures.sound,
      c.in_ok-write_next.ensures.same ∙ i.1,
      subst (λ z. IsKeptFor z c.write_next.new.kept) i.1 c.in_ok-write_next.ensures.kept,
      subst (λ z. (said : Said) → head_saying z said ≡ video_of s said) head i.3,
      subst (λ z. (so : UnpackedSo s z first c.args.player.now.reader.place all_input all_output
          c.write_next.new.text.begun c.write_next.new.kept.planes c.write_next.new.carried.items c.saturating_add-count.result last)
          × AtMost c.args.most
          (length so.frames)) head (unpacked, one_at_most c.args.most so.frames f room),
      c.in_ok-write_next.ensures.container ∙ i.5,
      (λ scope text stands. c.in_ok-write_next.ensures.reached c.if-not-branch.false scope text
          (i.6 scope text stands)),
    )

pub returns-then-not-branch-clause-ok : goal.returns-then-not-branch-clause-ok
returns-then-not-branch-clause-ok g c =
    let a = c.args.player.now.decoder.accepted in
    let h = c.frames.text.head in
    let i = c.frames.invariant in
    let so = i.4.0 in
    let room = sym (c.has_more.ensures (length so.frames) so.is) ∙ c.frames-test.true in
    let to = c.frames.player.reader.place in
    let last = c.write_next.new.player.reader.place in
    let input = passage g.R.ByteIn.remaining g.R.ByteIn.failures c.frames.input
    c.write_next.new.input in
    let output = passage g.W.ByteOut.contents g.W.ByteOut.failures c.frames.output
    c.write_next.new.output in
    let left = c.frames.carried.items in
    let answer =
    subst (λ b. WritesNext a left h c.frames.text.begun c.frames.kept.planes to last input output c.write_next.new.player.notes
    c.write_next.new.text.begun c.write_next.new.kept.planes (Ok b)) c.if-not-branch.true
    (subst (λ z. WritesNext z left h c.frames.text.begun c.frames.kept.planes to last input output c.write_next.new.player.notes
    c.write_next.new.text.begun c.write_next.new.kept.planes (Ok c.in_ok-write_next.field-0)) i.1
    c.in_ok-write_next.ensures.answer) in (
      so.frames,
      so.is,
      unpacked_over (stream_of c.args.player.now.reader a) h i.3 c.requires.colour
          c.args.carried.now.items c.args.player.now.reader.place to last
          (g.R.ByteIn.remaining c.args.input.now) (g.R.ByteIn.remaining c.frames.input)
          (g.R.ByteIn.remaining c.write_next.new.input)
          (g.W.ByteOut.contents c.args.output.now) (g.W.ByteOut.contents c.frames.output)
          (g.W.ByteOut.contents c.write_next.new.output)
          (g.R.ByteIn.failures c.args.input.now) (g.R.ByteIn.failures c.frames.input)
          (g.R.ByteIn.failures c.write_next.new.input)
          (g.W.ByteOut.failures c.args.output.now) (g.W.ByteOut.failures c.frames.output)
          (g.W.ByteOut.failures c.write_next.new.output)
          so.frames so.un c.frames.kept.planes so.keeps c.write_next.new.player.notes c.args.most room i.4.1 answer.0 answer.1,
    )

pub returns-then-not-branch-clause-noted : goal.returns-then-not-branch-clause-noted
returns-then-not-branch-clause-noted g c = λ k is room scope text stands.
    c.in_ok-write_next.ensures.noted c.if-not-branch.true scope text
    (c.frames.invariant.6 scope text stands)

pub returns-clause-noted : goal.returns-clause-noted
returns-clause-noted g c = λ k is room scope text stands.
    absurd (let no : true ≡ false = sym room ∙ sym (c.has_more.ensures k is)
    ∙ c.frames-test.false in cc)

pub returns-clause-ok : goal.returns-clause-ok
returns-clause-ok g c =
    let i = c.frames.invariant in
    let so = i.4.0 in
    let full = sym (c.has_more.ensures (length so.frames) so.is) ∙ c.frames-test.false in (
      so.frames,
      so.is,
      unpacks_full (stream_of c.args.player.now.reader c.args.player.now.decoder.accepted)
          c.args.carried.now.items c.args.player.now.reader.place c.frames.player.reader.place
          (g.R.ByteIn.remaining c.args.input.now) (g.R.ByteIn.remaining c.frames.input)
          (g.W.ByteOut.contents c.args.output.now) (g.W.ByteOut.contents c.frames.output)
          (g.R.ByteIn.failures c.args.input.now) (g.R.ByteIn.failures c.frames.input)
          (g.W.ByteOut.failures c.args.output.now) (g.W.ByteOut.failures c.frames.output)
          so.frames so.un c.frames.player.notes c.args.most full i.4.1,
    )

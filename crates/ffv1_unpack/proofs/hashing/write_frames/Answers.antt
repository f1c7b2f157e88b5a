-- Decodes all frames that are left, and writes the line of each picture as soon as it is decoded.
use Rattle.std.proofs.Common.{◌≡◌, refl, Ok, Err, ap, not, subst, sym, ◌∙◌, [], ◌∷◌, ◌++◌, length, arith}
use Rattle.std.proofs.lemmas.Result.{err_from_is_err_and}
use Rattle.ffv1_range.specs.Counts.{saturated}
use Rattle.ffv1_wire.specs.Passage.{passage}
use Rattle.ffv1_codec.specs.SliceList.{Said}
use Rattle.ffv1_unpack.specs.FrameMd5.{md5_from}
use Rattle.ffv1_unpack.specs.Internal.FrameMd5.{Md5Answers, begun_by, frame_md5}
use Rattle.ffv1_unpack.specs.Internal.Opens.{stream_of}
use Rattle.ffv1_video.specs.KeptLines.{IsKeptFor}
use Rattle.ffv1_unpack.specs.Internal.PicturesOut.{head_saying}
use Rattle.ffv1_unpack.specs.Ranges.{number_in}
use Rattle.ffv1_unpack.specs.Stream.{IsFrame, frame_payload}
use Rattle.ffv1_unpack.specs.Unpacked.{video_of}
use Rattle.ffv1_unpack.proofs.FramesPlayed.{none_at_most, one_at_most, play_stops, played_more}
use Rattle.ffv1_unpack.proofs.FramesPlayed.{played_none, played_over, plays_full, wants_memory}
use Rattle.ffv1_unpack.proofs.FramesInTurn.{counted_more}
use Rattle.ffv1_unpack.proofs.Md5sSoFar.{begun_more, text_more}
use Rattle.ffv1_unpack.proofs.PicturesWritten.{heads_of}
use Rattle.ffv1_video.proofs.KeptLines.{zeros_kept}
use Rattle.std.proofs.Common.{true, false}
use Rattle.ffv1_unpack.proofs.OwnFaults.{told_on}
use Rattle.ffv1_unpack.proofs.hashing.write_frames.Goals as goal

pub returns-in_err-kept-clause-err : goal.returns-in_err-kept-clause-err
returns-in_err-kept-clause-err g c =
    let p = err_from_is_err_and c.from_residual.result c.from_residual.ensures.1 in
    let a = c.args.player.now.decoder.accepted in
    rw (p.1, p.2)
    (wants_memory a (md5_from c.args.range.first (stream_of c.args.player.now.reader a)) refl
    c.args.player.now.reader.place (g.R.ByteIn.remaining c.args.input.now)
    (g.W.ByteOut.contents c.args.output.now)
    (g.R.ByteIn.failures c.args.input.now) (g.W.ByteOut.failures c.args.output.now)
    c.in_err-kept.field-0.0 c.in_err-kept.ensures.err)

pub frames-init : goal.frames-init
unfolding played_none
frames-init g c =
    let a = c.args.player.now.decoder.accepted in
    let heads = heads_of _ _ _ _ c.text_head.result c.head.ensures.value c.config-checked.ensures
    c.text_head.ensures in (
      c.requires.sound,
      refl,
      zeros_kept a c.config-checked.result.now c.in_ok-kept.kept c.config-checked.ensures
          c.in_ok-kept.ensures.ok,
      heads,
      (
        played_none a (md5_from c.args.range.first (stream_of c.args.player.now.reader a)) refl
            c.args.player.now.reader.place (g.R.ByteIn.remaining c.args.input.now)
            (g.W.ByteOut.contents c.args.output.now)
            (g.R.ByteIn.failures c.args.input.now) (g.W.ByteOut.failures c.args.output.now),
        none_at_most c.args.range.count,
        refl,
      ),
      refl,
      (λ scope text stands. stands),
    )

pub returns-in_err-write_next-clause-err : goal.returns-in_err-write_next-clause-err
returns-in_err-write_next-clause-err g c =
    let p = err_from_is_err_and c.from_residual-in_err-write_next.result
    c.from_residual-in_err-write_next.ensures.1 in
    let a = c.args.player.now.decoder.accepted in
    let s = stream_of c.args.player.now.reader a in
    let h = c.frames.lines.head in
    let i = c.frames.invariant in
    let so = i.4.0 in
    let numbered : c.saturating_add-number.result ≡ number_in c.args.range (length so.frames) =
    omega (arith, c.saturating_add-number.ensures, so.is) in
    let f = c.in_err-write_next.field-0.0 in
    let to = c.frames.player.reader.place in
    let last = c.write_next.new.player.reader.place in
    let input = passage g.R.ByteIn.remaining g.R.ByteIn.failures c.frames.input
    c.write_next.new.input in
    let output = passage g.W.ByteOut.contents g.W.ByteOut.failures c.frames.output
    c.write_next.new.output in
    let answer = subst (λ z. Md5Answers z h c.frames.lines.begun c.saturating_add-number.result to last input output c.write_next.new.player.notes
    c.write_next.new.lines.begun (Err f)) i.1 c.in_err-write_next.ensures.answer in
    rw (p.1, p.2)
    (play_stops a (md5_from c.args.range.first s) c.args.player.now.reader.place to last c.frames.count
    (g.R.ByteIn.remaining c.args.input.now) (g.R.ByteIn.remaining c.frames.input)
    (g.R.ByteIn.remaining c.write_next.new.input)
    (g.W.ByteOut.contents c.args.output.now) (g.W.ByteOut.contents c.frames.output)
    (g.W.ByteOut.contents c.write_next.new.output)
    (g.R.ByteIn.failures c.args.input.now) (g.R.ByteIn.failures c.frames.input)
    (g.R.ByteIn.failures c.write_next.new.input)
    (g.W.ByteOut.failures c.args.output.now) (g.W.ByteOut.failures c.frames.output)
    (g.W.ByteOut.failures c.write_next.new.output)
    so (frame_md5 a h (not c.frames.lines.begun) c.saturating_add-number.result) (λ z. text_more s h i.3 c.args.range so.frames z c.frames.lines.begun
    c.saturating_add-number.result i.4.2 numbered) f answer)

pub returns-in_err-write_next-clause-own : goal.returns-in_err-write_next-clause-own
returns-in_err-write_next-clause-own g c =
    let p = err_from_is_err_and c.from_residual-in_err-write_next.result
    c.from_residual-in_err-write_next.ensures.1 in
    rw (p.1, p.2) (told_on c.args.player.now.reader c.frames.player.reader
    (passage g.R.ByteIn.remaining g.R.ByteIn.failures c.args.input.now c.frames.input)
    c.in_err-write_next.field-0.0 c.frames.invariant.5 c.frames.invariant.6
    c.in_err-write_next.ensures.own)

pub frames-preserved : goal.frames-preserved
unfolding played_more
frames-preserved g c =
    let a = c.args.player.now.decoder.accepted in
    let s = stream_of c.args.player.now.reader a in
    let h = c.frames.lines.head in
    let i = c.frames.invariant in
    let so = i.4.0 in
    let numbered : c.saturating_add-number.result ≡ number_in c.args.range (length so.frames) =
    omega (arith, c.saturating_add-number.ensures, so.is) in
    let room = sym (c.has_more.ensures (length so.frames) so.is) ∙ c.frames-test.true in
    let to = c.frames.player.reader.place in
    let last = c.write_next.new.player.reader.place in
    let input = passage g.R.ByteIn.remaining g.R.ByteIn.failures c.frames.input
    c.write_next.new.input in
    let output = passage g.W.ByteOut.contents g.W.ByteOut.failures c.frames.output
    c.write_next.new.output in
    let answer =
    subst (λ b. Md5Answers a h c.frames.lines.begun c.saturating_add-number.result to last input output c.write_next.new.player.notes
    c.write_next.new.lines.begun (Ok b))
    c.if-not-branch.false
    (subst (λ z. Md5Answers z h c.frames.lines.begun c.saturating_add-number.result to last input output c.write_next.new.player.notes
    c.write_next.new.lines.begun (Ok c.in_ok-write_next.field-0)) i.1 c.in_ok-write_next.ensures.answer) in
    let f = answer.0 in
    let next : c.saturating_add-count.result ≡ saturated (length (so.frames ++ (f ∷ []))) =
    omega (arith, c.saturating_add-count.ensures, so.is, counted_more so.frames f) in (
      c.in_ok-write_next.ensures.sound,
      c.in_ok-write_next.ensures.same ∙ i.1,
      subst (λ z. IsKeptFor z c.write_next.new.kept) i.1 c.in_ok-write_next.ensures.kept,
      subst (λ z. (said : Said) → head_saying z said ≡ video_of s said)
          (sym c.in_ok-write_next.ensures.head) i.3,
      (
        played_more a (md5_from c.args.range.first s) c.args.player.now.reader.place to last c.frames.count
            (g.R.ByteIn.remaining c.args.input.now) (g.R.ByteIn.remaining c.frames.input)
            (g.R.ByteIn.remaining c.write_next.new.input)
            (g.W.ByteOut.contents c.args.output.now) (g.W.ByteOut.contents c.frames.output)
            (g.W.ByteOut.contents c.write_next.new.output)
            (g.R.ByteIn.failures c.args.input.now) (g.R.ByteIn.failures c.frames.input)
            (g.R.ByteIn.failures c.write_next.new.input)
            (g.W.ByteOut.failures c.args.output.now) (g.W.ByteOut.failures c.frames.output)
            (g.W.ByteOut.failures c.write_next.new.output)
            so (frame_md5 a h (not c.frames.lines.begun) c.saturating_add-number.result)
            (λ z. text_more s h i.3 c.args.range so.frames z c.frames.lines.begun
            c.saturating_add-number.result i.4.2 numbered) f
            c.saturating_add-count.result next answer.1 answer.2 answer.3,
        one_at_most c.args.range.count so.frames f room,
        answer.4 ∙ ap (λ b. begun_by b f) i.4.2 ∙ begun_more so.frames f,
      ),
      c.in_ok-write_next.ensures.container ∙ i.5,
      (λ scope text stands. c.in_ok-write_next.ensures.reached c.if-not-branch.false scope text
          (i.6 scope text stands)),
    )

pub returns-then-not-branch-clause-ok : goal.returns-then-not-branch-clause-ok
returns-then-not-branch-clause-ok g c =
    let a = c.args.player.now.decoder.accepted in
    let h = c.frames.lines.head in
    let i = c.frames.invariant in
    let so = i.4.0 in
    let room = sym (c.has_more.ensures (length so.frames) so.is) ∙ c.frames-test.true in
    let to = c.frames.player.reader.place in
    let last = c.write_next.new.player.reader.place in
    let input = passage g.R.ByteIn.remaining g.R.ByteIn.failures c.frames.input
    c.write_next.new.input in
    let output = passage g.W.ByteOut.contents g.W.ByteOut.failures c.frames.output
    c.write_next.new.output in
    let answer =
    subst (λ b. Md5Answers a h c.frames.lines.begun c.saturating_add-number.result to last input output c.write_next.new.player.notes
    c.write_next.new.lines.begun (Ok b))
    c.if-not-branch.true
    (subst (λ z. Md5Answers z h c.frames.lines.begun c.saturating_add-number.result to last input output c.write_next.new.player.notes
    c.write_next.new.lines.begun (Ok c.in_ok-write_next.field-0)) i.1 c.in_ok-write_next.ensures.answer) in (
      so.frames,
      so.is,
      played_over a (md5_from c.args.range.first (stream_of c.args.player.now.reader a))
          c.args.player.now.reader.place to last c.frames.count
          (g.R.ByteIn.remaining c.args.input.now) (g.R.ByteIn.remaining c.frames.input)
          (g.R.ByteIn.remaining c.write_next.new.input)
          (g.W.ByteOut.contents c.args.output.now) (g.W.ByteOut.contents c.frames.output)
          (g.W.ByteOut.contents c.write_next.new.output)
          (g.R.ByteIn.failures c.args.input.now) (g.R.ByteIn.failures c.frames.input)
          (g.R.ByteIn.failures c.write_next.new.input)
          (g.W.ByteOut.failures c.args.output.now) (g.W.ByteOut.failures c.frames.output)
          (g.W.ByteOut.failures c.write_next.new.output)
          so c.write_next.new.player.notes c.args.range.count room i.4.1 answer.0.0 answer.0.1,
    )

pub returns-then-not-branch-clause-noted : goal.returns-then-not-branch-clause-noted
returns-then-not-branch-clause-noted g c = λ k is room scope text stands.
    c.in_ok-write_next.ensures.noted c.if-not-branch.true scope text
    (c.frames.invariant.6 scope text stands)

pub returns-clause-noted : goal.returns-clause-noted
returns-clause-noted g c = λ k is room scope text stands.
    absurd (let no : true ≡ false = sym room ∙ sym (c.has_more.ensures k is)
    ∙ c.frames-test.false in cc)

pub returns-clause-ok : goal.returns-clause-ok
returns-clause-ok g c =
    let a = c.args.player.now.decoder.accepted in
    let i = c.frames.invariant in
    let so = i.4.0 in
    let full = sym (c.has_more.ensures (length so.frames) so.is) ∙ c.frames-test.false in (
      so.frames,
      so.is,
      plays_full (IsFrame a) frame_payload
          (md5_from c.args.range.first (stream_of c.args.player.now.reader a))
          c.args.player.now.reader.place c.frames.player.reader.place
          (g.R.ByteIn.remaining c.args.input.now) (g.R.ByteIn.remaining c.frames.input)
          (g.W.ByteOut.contents c.args.output.now) (g.W.ByteOut.contents c.frames.output)
          (g.R.ByteIn.failures c.args.input.now) (g.R.ByteIn.failures c.frames.input)
          (g.W.ByteOut.failures c.args.output.now) (g.W.ByteOut.failures c.frames.output)
          so.frames so.so c.frames.player.notes c.args.range.count full i.4.1,
    )

-- Decodes all frames that are left, and writes the line of each as soon as it is decoded.
use Rattle.std.proofs.Common.{◌≡◌, refl, Ok, subst, sym, ◌∙◌, [], ◌∷◌, ◌++◌, length, arith}
use Rattle.std.proofs.lemmas.Result.{err_from_is_err_and}
use Rattle.ffv1_range.specs.Counts.{saturated}
use Rattle.ffv1_wire.specs.Passage.{passage}
use Rattle.ffv1_unpack.specs.FrameLines.{lines_from}
use Rattle.ffv1_unpack.specs.Ranges.{number_in}
use Rattle.ffv1_unpack.specs.Stream.{IsFrame, frame_payload}
use Rattle.ffv1_unpack.specs.Internal.Told.{FrameAnswers, told_line}
use Rattle.ffv1_unpack.proofs.FramesInTurn.{counted_more}
use Rattle.ffv1_unpack.proofs.FramesPlayed.{none_at_most, one_at_most, played_more, played_none}
use Rattle.ffv1_unpack.proofs.FramesPlayed.{played_over, plays_full}
use Rattle.ffv1_unpack.proofs.FramesTold.{all_lines, telling_stops}
use Rattle.std.proofs.Common.{true, false}
use Rattle.ffv1_unpack.proofs.OwnFaults.{told_on}
use Rattle.ffv1_unpack.proofs.telling.tell_frames.Goals as goal

pub frames-init : goal.frames-init
unfolding played_none
frames-init g c =
    let a = c.args.player.now.decoder.accepted in (
      c.requires.sound,
      refl,
      (
        played_none a (lines_from c.args.telling.kind a.configuration c.args.range.first) refl
            c.args.player.now.reader.place (g.R.ByteIn.remaining c.args.input.now)
            (g.W.ByteOut.contents c.args.output.now)
            (g.R.ByteIn.failures c.args.input.now) (g.W.ByteOut.failures c.args.output.now),
        none_at_most c.args.range.count,
      ),
      refl,
      (λ scope text begun. begun),
    )

pub returns-in_err-tell_frame-clause-err : goal.returns-in_err-tell_frame-clause-err
returns-in_err-tell_frame-clause-err g c =
    let p = err_from_is_err_and c.from_residual.result c.from_residual.ensures.1 in
    let same = c.frames.invariant.1 in
    let so = c.frames.invariant.2.0 in
    let numbered : c.saturating_add-number.result ≡ number_in c.args.range (length so.frames) =
    omega (arith, c.saturating_add-number.ensures, so.is) in
    rw (p.1, p.2)
    (telling_stops c.args.telling.kind c.args.telling.places.place c.args.telling.places.byte
    c.args.range c.args.player.now.decoder.accepted c.args.player.now.reader c.frames.player.reader
    c.tell_frame.new.player.reader.place c.frames.count c.saturating_add-number.result
    (g.R.ByteIn.remaining c.args.input.now) (g.R.ByteIn.remaining c.frames.input)
    (g.R.ByteIn.remaining c.tell_frame.new.input)
    (g.W.ByteOut.contents c.args.output.now) (g.W.ByteOut.contents c.frames.output)
    (g.W.ByteOut.contents c.tell_frame.new.output)
    (g.R.ByteIn.failures c.args.input.now) (g.R.ByteIn.failures c.frames.input)
    (g.R.ByteIn.failures c.tell_frame.new.input)
    (g.W.ByteOut.failures c.args.output.now) (g.W.ByteOut.failures c.frames.output)
    (g.W.ByteOut.failures c.tell_frame.new.output)
    so numbered c.frames.invariant.4 c.in_err-tell_frame.field-0.0
    (rw same at c.in_err-tell_frame.ensures.answer))

pub returns-in_err-tell_frame-clause-own : goal.returns-in_err-tell_frame-clause-own
returns-in_err-tell_frame-clause-own g c =
    let p = err_from_is_err_and c.from_residual.result c.from_residual.ensures.1 in
    rw (p.1, p.2) (told_on c.args.player.now.reader c.frames.player.reader
    (passage g.R.ByteIn.remaining g.R.ByteIn.failures c.args.input.now c.frames.input)
    c.in_err-tell_frame.field-0.0 c.frames.invariant.3 c.frames.invariant.4
    c.in_err-tell_frame.ensures.own)

pub frames-preserved : goal.frames-preserved
unfolding played_more
frames-preserved g c =
    let a = c.args.player.now.decoder.accepted in
    let same = c.frames.invariant.1 in
    let so = c.frames.invariant.2.0 in
    let numbered : c.saturating_add-number.result ≡ number_in c.args.range (length so.frames) =
    omega (arith, c.saturating_add-number.ensures, so.is) in
    let room = sym (c.has_more.ensures (length so.frames) so.is) ∙ c.frames-test.true in
    let reading = passage g.R.ByteIn.remaining g.R.ByteIn.failures c.frames.input
    c.tell_frame.new.input in
    let writing = passage g.W.ByteOut.contents g.W.ByteOut.failures c.frames.output
    c.tell_frame.new.output in
    let answer = subst (λ b. FrameAnswers c.args.telling.kind c.args.telling.places.place
    c.args.telling.places.byte c.args.player.now.decoder.accepted c.saturating_add-number.result
    c.frames.player.reader c.tell_frame.new.player.reader.place reading writing c.tell_frame.new.player.notes (Ok b))
    c.if-not-branch.false
    (subst (λ z. FrameAnswers c.args.telling.kind c.args.telling.places.place
    c.args.telling.places.byte z c.saturating_add-number.result c.frames.player.reader
    c.tell_frame.new.player.reader.place reading writing c.tell_frame.new.player.notes (Ok c.in_ok-tell_frame.field-0)) same
    c.in_ok-tell_frame.ensures.answer) in
    let f = answer.0 in
    let next : c.saturating_add-count.result ≡ saturated (length (so.frames ++ (f ∷ []))) =
    omega (arith, c.saturating_add-count.ensures, so.is, counted_more so.frames f) in (
      c.in_ok-tell_frame.ensures.sound,
      c.in_ok-tell_frame.ensures.same ∙ same,
      (
        played_more a (lines_from c.args.telling.kind a.configuration c.args.range.first)
            c.args.player.now.reader.place
            c.frames.player.reader.place c.tell_frame.new.player.reader.place
            c.frames.count (g.R.ByteIn.remaining c.args.input.now)
            (g.R.ByteIn.remaining c.frames.input) (g.R.ByteIn.remaining c.tell_frame.new.input)
            (g.W.ByteOut.contents c.args.output.now) (g.W.ByteOut.contents c.frames.output)
            (g.W.ByteOut.contents c.tell_frame.new.output)
            (g.R.ByteIn.failures c.args.input.now) (g.R.ByteIn.failures c.frames.input)
            (g.R.ByteIn.failures c.tell_frame.new.input)
            (g.W.ByteOut.failures c.args.output.now) (g.W.ByteOut.failures c.frames.output)
            (g.W.ByteOut.failures c.tell_frame.new.output)
            so (told_line c.args.telling.kind a.configuration c.saturating_add-number.result)
            (λ z. all_lines c.args.telling.kind a.configuration c.args.range
            c.saturating_add-number.result so.frames z numbered) f
            c.saturating_add-count.result next answer.1 answer.2 answer.3,
        one_at_most c.args.range.count so.frames f room,
      ),
      c.in_ok-tell_frame.ensures.container ∙ c.frames.invariant.3,
      (λ scope text begun. c.in_ok-tell_frame.ensures.reached c.if-not-branch.false scope text
          (c.frames.invariant.4 scope text begun)),
    )

pub returns-then-not-branch-clause-ok : goal.returns-then-not-branch-clause-ok
returns-then-not-branch-clause-ok g c =
    let a = c.args.player.now.decoder.accepted in
    let same = c.frames.invariant.1 in
    let so = c.frames.invariant.2.0 in
    let room = sym (c.has_more.ensures (length so.frames) so.is) ∙ c.frames-test.true in
    let reading = passage g.R.ByteIn.remaining g.R.ByteIn.failures c.frames.input
    c.tell_frame.new.input in
    let writing = passage g.W.ByteOut.contents g.W.ByteOut.failures c.frames.output
    c.tell_frame.new.output in
    let answer = subst (λ b. FrameAnswers c.args.telling.kind c.args.telling.places.place
    c.args.telling.places.byte c.args.player.now.decoder.accepted c.saturating_add-number.result
    c.frames.player.reader c.tell_frame.new.player.reader.place reading writing c.tell_frame.new.player.notes (Ok b))
    c.if-not-branch.true
    (subst (λ z. FrameAnswers c.args.telling.kind c.args.telling.places.place
    c.args.telling.places.byte z c.saturating_add-number.result c.frames.player.reader
    c.tell_frame.new.player.reader.place reading writing c.tell_frame.new.player.notes (Ok c.in_ok-tell_frame.field-0)) same
    c.in_ok-tell_frame.ensures.answer) in (
      so.frames,
      so.is,
      played_over a (lines_from c.args.telling.kind a.configuration c.args.range.first)
          c.args.player.now.reader.place
          c.frames.player.reader.place c.tell_frame.new.player.reader.place
          c.frames.count (g.R.ByteIn.remaining c.args.input.now)
          (g.R.ByteIn.remaining c.frames.input) (g.R.ByteIn.remaining c.tell_frame.new.input)
          (g.W.ByteOut.contents c.args.output.now) (g.W.ByteOut.contents c.frames.output)
          (g.W.ByteOut.contents c.tell_frame.new.output)
          (g.R.ByteIn.failures c.args.input.now) (g.R.ByteIn.failures c.frames.input)
          (g.R.ByteIn.failures c.tell_frame.new.input)
          (g.W.ByteOut.failures c.args.output.now) (g.W.ByteOut.failures c.frames.output)
          (g.W.ByteOut.failures c.tell_frame.new.output)
          so c.tell_frame.new.player.notes c.args.range.count room c.frames.invariant.2.1 answer.0 answer.1,
    )

pub returns-then-not-branch-clause-noted : goal.returns-then-not-branch-clause-noted
returns-then-not-branch-clause-noted g c = λ k is room scope text stands.
    c.in_ok-tell_frame.ensures.noted c.if-not-branch.true scope text
    (c.frames.invariant.4 scope text stands)

pub returns-clause-noted : goal.returns-clause-noted
returns-clause-noted g c = λ k is room scope text stands.
    absurd (let no : true ≡ false = sym room ∙ sym (c.has_more.ensures k is)
    ∙ c.frames-test.false in cc)

pub returns-clause-ok : goal.returns-clause-ok
returns-clause-ok g c =
    let a = c.args.player.now.decoder.accepted in
    let so = c.frames.invariant.2.0 in
    let full = sym (c.has_more.ensures (length so.frames) so.is) ∙ c.frames-test.false in (
      so.frames,
      so.is,
      plays_full (IsFrame a) frame_payload
          (lines_from c.args.telling.kind a.configuration c.args.range.first)
          c.args.player.now.reader.place c.frames.player.reader.place
          (g.R.ByteIn.remaining c.args.input.now) (g.R.ByteIn.remaining c.frames.input)
          (g.W.ByteOut.contents c.args.output.now) (g.W.ByteOut.contents c.frames.output)
          (g.R.ByteIn.failures c.args.input.now) (g.R.ByteIn.failures c.frames.input)
          (g.W.ByteOut.failures c.args.output.now) (g.W.ByteOut.failures c.frames.output)
          so.frames so.so c.frames.player.notes c.args.range.count full c.frames.invariant.2.1,
    )

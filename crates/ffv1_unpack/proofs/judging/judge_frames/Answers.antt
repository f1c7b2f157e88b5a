-- Judges all frames that are left, and writes the lines of each as soon as it is judged.
use Rattle.std.proofs.Common.{◌≡◌, refl, Ok, subst, sym, ◌∙◌, length, arith}
use Rattle.std.proofs.lemmas.Result.{err_from_is_err_and}
use Rattle.ffv1_range.specs.Counts.{saturated}
use Rattle.ffv1_wire.specs.Passage.{passage}
use Rattle.ffv1_video.specs.Faults.{cause_of}
use Rattle.ffv1_unpack.specs.Internal.Judged.{JudgeAnswers}
use Rattle.ffv1_unpack.specs.Judged.{IsJudged, judged_from, payload_of}
use Rattle.ffv1_unpack.specs.Ranges.{number_in}
use Rattle.ffv1_unpack.proofs.FramesJudged.{so_more, so_none, so_over, so_stops}
use Rattle.ffv1_unpack.proofs.FramesPlayed.{none_at_most, one_at_most, plays_full}
use Rattle.std.proofs.Common.{true, false}
use Rattle.ffv1_unpack.proofs.OwnFaults.{told_on}
use Rattle.ffv1_unpack.proofs.judging.judge_frames.Goals as goal

pub frames-init : goal.frames-init
unfolding so_none
frames-init g c =
    let none : 0 ≡ saturated 0 = omega arith in (
      c.requires.sound,
      refl,
      (
        so_none c.args.places.place c.args.range c.args.player.now.decoder.accepted
            c.args.player.now.reader.place
            (g.R.ByteIn.remaining c.args.input.now) (g.W.ByteOut.contents c.args.output.now)
            (g.R.ByteIn.failures c.args.input.now) (g.W.ByteOut.failures c.args.output.now) _
            (record { frames = none; faults = none; first = refl }),
        none_at_most c.args.range.count,
      ),
      refl,
      (λ scope text begun. begun),
    )

pub returns-in_err-judge_frame-clause-err : goal.returns-in_err-judge_frame-clause-err
returns-in_err-judge_frame-clause-err g c =
    let p = err_from_is_err_and c.from_residual.result c.from_residual.ensures.1 in
    let same = c.frames.invariant.1 in
    let so = c.frames.invariant.2.0 in
    let numbered : c.saturating_add-number.result ≡ number_in c.args.range (length so.js) =
    omega (arith, c.saturating_add-number.ensures, so.counted.frames) in
    rw (p.1, p.2)
    (so_stops c.args.places.place c.args.places.byte c.args.range c.args.player.now.decoder.accepted
    c.args.player.now.reader c.frames.player.reader c.judge_frame.new.player.reader.place
    c.frames.counts c.saturating_add-number.result
    (g.R.ByteIn.remaining c.args.input.now) (g.R.ByteIn.remaining c.frames.input)
    (g.R.ByteIn.remaining c.judge_frame.new.input)
    (g.W.ByteOut.contents c.args.output.now) (g.W.ByteOut.contents c.frames.output)
    (g.W.ByteOut.contents c.judge_frame.new.output)
    (g.R.ByteIn.failures c.args.input.now) (g.R.ByteIn.failures c.frames.input)
    (g.R.ByteIn.failures c.judge_frame.new.input)
    (g.W.ByteOut.failures c.args.output.now) (g.W.ByteOut.failures c.frames.output)
    (g.W.ByteOut.failures c.judge_frame.new.output)
    so numbered c.frames.invariant.4 c.in_err-judge_frame.field-0.0
    (cause_of c.in_err-judge_frame.field-0.0) (rw same at c.in_err-judge_frame.ensures.answer))

pub returns-in_err-judge_frame-clause-own : goal.returns-in_err-judge_frame-clause-own
returns-in_err-judge_frame-clause-own g c =
    let p = err_from_is_err_and c.from_residual.result c.from_residual.ensures.1 in
    rw (p.1, p.2) (told_on c.args.player.now.reader c.frames.player.reader
    (passage g.R.ByteIn.remaining g.R.ByteIn.failures c.args.input.now c.frames.input)
    c.in_err-judge_frame.field-0.0 c.frames.invariant.3 c.frames.invariant.4
    c.in_err-judge_frame.ensures.own)

pub frames-preserved : goal.frames-preserved
unfolding so_more
frames-preserved g c =
    let same = c.frames.invariant.1 in
    let so = c.frames.invariant.2.0 in
    let numbered : c.saturating_add-number.result ≡ number_in c.args.range (length so.js) =
    omega (arith, c.saturating_add-number.ensures, so.counted.frames) in
    let room = sym (c.has_more.ensures (length so.js) so.counted.frames) ∙ c.frames-test.true in
    let reading = passage g.R.ByteIn.remaining g.R.ByteIn.failures c.frames.input
    c.judge_frame.new.input in
    let writing = passage g.W.ByteOut.contents g.W.ByteOut.failures c.frames.output
    c.judge_frame.new.output in
    let answer = subst (λ b. JudgeAnswers c.args.places.place c.args.places.byte
    c.args.player.now.decoder.accepted c.saturating_add-number.result c.frames.player.reader
    c.judge_frame.new.player.reader.place reading writing c.judge_frame.new.player.notes c.frames.counts
    c.judge_frame.new.counts (Ok b)) c.if-not-branch.false
    (subst (λ z. JudgeAnswers c.args.places.place c.args.places.byte z c.saturating_add-number.result
    c.frames.player.reader c.judge_frame.new.player.reader.place reading writing c.judge_frame.new.player.notes
    c.frames.counts c.judge_frame.new.counts (Ok c.in_ok-judge_frame.field-0)) same
    c.in_ok-judge_frame.ensures.answer) in (
      c.in_ok-judge_frame.ensures.sound,
      c.in_ok-judge_frame.ensures.same ∙ same,
      (
        so_more c.args.places.place c.args.places.byte c.args.range c.args.player.now.decoder.accepted
            c.args.player.now.reader c.frames.player.reader c.judge_frame.new.player.reader.place
            c.frames.counts c.saturating_add-number.result
            (g.R.ByteIn.remaining c.args.input.now) (g.R.ByteIn.remaining c.frames.input)
            (g.R.ByteIn.remaining c.judge_frame.new.input)
            (g.W.ByteOut.contents c.args.output.now) (g.W.ByteOut.contents c.frames.output)
            (g.W.ByteOut.contents c.judge_frame.new.output)
            (g.R.ByteIn.failures c.args.input.now) (g.R.ByteIn.failures c.frames.input)
            (g.R.ByteIn.failures c.judge_frame.new.input)
            (g.W.ByteOut.failures c.args.output.now) (g.W.ByteOut.failures c.frames.output)
            (g.W.ByteOut.failures c.judge_frame.new.output)
            so numbered c.judge_frame.new.counts answer.0 answer.1 answer.2 answer.3
            answer.4,
        one_at_most c.args.range.count so.js answer.0 room,
      ),
      c.in_ok-judge_frame.ensures.container ∙ c.frames.invariant.3,
      (λ scope text begun. c.in_ok-judge_frame.ensures.reached c.if-not-branch.false scope text
          (c.frames.invariant.4 scope text begun)),
    )

pub returns-then-not-branch-clause-ok : goal.returns-then-not-branch-clause-ok
returns-then-not-branch-clause-ok g c =
    let same = c.frames.invariant.1 in
    let so = c.frames.invariant.2.0 in
    let room = sym (c.has_more.ensures (length so.js) so.counted.frames) ∙ c.frames-test.true in
    let reading = passage g.R.ByteIn.remaining g.R.ByteIn.failures c.frames.input
    c.judge_frame.new.input in
    let writing = passage g.W.ByteOut.contents g.W.ByteOut.failures c.frames.output
    c.judge_frame.new.output in
    let answer = subst (λ b. JudgeAnswers c.args.places.place c.args.places.byte
    c.args.player.now.decoder.accepted c.saturating_add-number.result c.frames.player.reader
    c.judge_frame.new.player.reader.place reading writing c.judge_frame.new.player.notes c.frames.counts
    c.judge_frame.new.counts (Ok b)) c.if-not-branch.true
    (subst (λ z. JudgeAnswers c.args.places.place c.args.places.byte z c.saturating_add-number.result
    c.frames.player.reader c.judge_frame.new.player.reader.place reading writing c.judge_frame.new.player.notes
    c.frames.counts c.judge_frame.new.counts (Ok c.in_ok-judge_frame.field-0)) same
    c.in_ok-judge_frame.ensures.answer) in (
      so.js,
      rw answer.2 so.counted,
      so_over c.args.places.place c.args.places.byte c.args.range c.args.player.now.decoder.accepted
          c.args.player.now.reader c.frames.player.reader c.judge_frame.new.player.reader.place
          c.frames.counts c.saturating_add-number.result
          (g.R.ByteIn.remaining c.args.input.now) (g.R.ByteIn.remaining c.frames.input)
          (g.R.ByteIn.remaining c.judge_frame.new.input)
          (g.W.ByteOut.contents c.args.output.now) (g.W.ByteOut.contents c.frames.output)
          (g.W.ByteOut.contents c.judge_frame.new.output)
          (g.R.ByteIn.failures c.args.input.now) (g.R.ByteIn.failures c.frames.input)
          (g.R.ByteIn.failures c.judge_frame.new.input)
          (g.W.ByteOut.failures c.args.output.now) (g.W.ByteOut.failures c.frames.output)
          (g.W.ByteOut.failures c.judge_frame.new.output)
          so c.judge_frame.new.player.notes c.args.range.count room c.frames.invariant.2.1 answer.0 answer.1,
    )

pub returns-then-not-branch-clause-noted : goal.returns-then-not-branch-clause-noted
returns-then-not-branch-clause-noted g c = λ k is room scope text stands.
    c.in_ok-judge_frame.ensures.noted c.if-not-branch.true scope text
    (c.frames.invariant.4 scope text stands)

pub returns-clause-noted : goal.returns-clause-noted
returns-clause-noted g c = λ k is room scope text stands.
    absurd (let no : true ≡ false = sym room ∙ sym (c.has_more.ensures k is)
    ∙ c.frames-test.false in cc)

pub returns-clause-ok : goal.returns-clause-ok
returns-clause-ok g c =
    let a = c.args.player.now.decoder.accepted in
    let so = c.frames.invariant.2.0 in
    let full = sym (c.has_more.ensures (length so.js) so.counted.frames) ∙
    c.frames-test.false in (
      so.js,
      so.counted,
      plays_full (IsJudged a) payload_of
          (judged_from c.args.places.place a.configuration c.args.range.first)
          c.args.player.now.reader.place c.frames.player.reader.place
          (g.R.ByteIn.remaining c.args.input.now) (g.R.ByteIn.remaining c.frames.input)
          (g.W.ByteOut.contents c.args.output.now) (g.W.ByteOut.contents c.frames.output)
          (g.R.ByteIn.failures c.args.input.now) (g.R.ByteIn.failures c.frames.input)
          (g.W.ByteOut.failures c.args.output.now) (g.W.ByteOut.failures c.frames.output)
          so.js so.so c.frames.player.notes c.args.range.count full c.frames.invariant.2.1,
    )

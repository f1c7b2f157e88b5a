-- Decodes all frames that are left, and compares each picture with the next MD5 of the list as soon
-- as it is decoded.
use Rattle.std.proofs.Common.{refl, Ok, Err, subst, sym, ◌∙◌}
use Rattle.std.proofs.lemmas.Result.{err_from_is_err_and}
use Rattle.ffv1_wire.specs.Passage.{passage}
use Rattle.ffv1_video.specs.KeptLines.{IsKeptFor}
use Rattle.ffv1_video.proofs.KeptLines.{zeros_kept}
use Rattle.ffv1_unpack.specs.Internal.Compared.{CompareAnswers}
use Rattle.ffv1_unpack.specs.declared.comparing.Met.{Met}
use Rattle.ffv1_unpack.proofs.FramesCompared.{ComparedSo, compared_lacks, compared_more, compared_none}
use Rattle.ffv1_unpack.proofs.FramesCompared.{compared_over, compared_stops}
use Rattle.ffv1_unpack.proofs.FramesCompared.{unlike_on}
use Rattle.ffv1_unpack.proofs.comparing.compare_frames.Goals as goal

pub returns-in_err-kept-clause-err : goal.returns-in_err-kept-clause-err
returns-in_err-kept-clause-err g c =
    let p = err_from_is_err_and c.from_residual.result c.from_residual.ensures.1 in
    rw (p.1, p.2)
    (compared_lacks c.args.player.now.decoder.accepted c.args.md5s.now
    c.args.player.now.reader.place (g.R.ByteIn.remaining c.args.input.now)
    (g.R.ByteIn.failures c.args.input.now) c.in_err-kept.field-0.0 c.in_err-kept.ensures.err)

pub loop-kept-init : goal.loop-kept-init
loop-kept-init g c =
    let a = c.args.player.now.decoder.accepted in (
      c.requires.sound,
      refl,
      zeros_kept a c.config-checked.result.now c.in_ok-kept.kept c.config-checked.ensures
          c.in_ok-kept.ensures.ok,
      compared_none a c.args.md5s.now c.args.player.now.reader.place
          (g.R.ByteIn.remaining c.args.input.now) (g.R.ByteIn.failures c.args.input.now),
      refl,
      (λ scope text stands. stands),
    )

pub returns-in_err-next-clause-err : goal.returns-in_err-next-clause-err
returns-in_err-next-clause-err g c =
    let p = err_from_is_err_and c.from_residual-in_err-next.result
    c.from_residual-in_err-next.ensures.1 in
    let i = c.loop-kept.invariant in
    let to = c.loop-kept.player.reader.place in
    let last = c.compare_next.new.player.reader.place in
    let u = c.in_err-next.field-0.0 in
    let input = passage g.R.ByteIn.remaining g.R.ByteIn.failures c.loop-kept.input
    c.compare_next.new.input in
    let answer = subst (λ z. CompareAnswers z c.args.md5s.now c.loop-kept.so_far to last input c.compare_next.new.player.notes
    (Err u)) i.1 c.in_err-next.ensures.answer in
    rw (p.1, p.2)
    (compared_stops c.args.player.now.decoder.accepted c.args.md5s.now
    c.args.player.now.reader.place to last c.loop-kept.so_far
    (g.R.ByteIn.remaining c.args.input.now) (g.R.ByteIn.remaining c.loop-kept.input)
    (g.R.ByteIn.remaining c.compare_next.new.input) (g.R.ByteIn.failures c.args.input.now)
    (g.R.ByteIn.failures c.loop-kept.input) (g.R.ByteIn.failures c.compare_next.new.input) i.3
    c.compare_next.new.player.notes u answer)

pub returns-in_err-next-clause-own : goal.returns-in_err-next-clause-own
returns-in_err-next-clause-own g c =
    let p = err_from_is_err_and c.from_residual-in_err-next.result
    c.from_residual-in_err-next.ensures.1 in
    rw (p.1, p.2) (unlike_on c.args.player.now.reader c.loop-kept.player.reader
    (passage g.R.ByteIn.remaining g.R.ByteIn.failures c.args.input.now c.loop-kept.input)
    c.in_err-next.field-0.0 c.loop-kept.invariant.4 c.loop-kept.invariant.5
    c.in_err-next.ensures.own)

pub loop-kept-preserved : goal.loop-kept-preserved
loop-kept-preserved g c =
    let a = c.args.player.now.decoder.accepted in
    let i = c.loop-kept.invariant in
    let to = c.loop-kept.player.reader.place in
    let last = c.compare_next.new.player.reader.place in
    let input = passage g.R.ByteIn.remaining g.R.ByteIn.failures c.loop-kept.input
    c.compare_next.new.input in
    let whole = passage g.R.ByteIn.remaining g.R.ByteIn.failures c.args.input.now
    c.compare_next.new.input in
    let answer =
    rw c.in-Some.is at
    (subst (λ z. CompareAnswers z c.args.md5s.now c.loop-kept.so_far to last input c.compare_next.new.player.notes
    (Ok c.in_ok-next.field-0)) i.1 c.in_ok-next.ensures.answer) in (
      c.in_ok-next.ensures.sound,
      c.in_ok-next.ensures.same ∙ i.1,
      subst (λ z. IsKeptFor z c.compare_next.new.kept) i.1 c.in_ok-next.ensures.kept,
      subst (λ (m : Met). ComparedSo a c.args.md5s.now c.args.player.now.reader.place whole m last)
          (sym answer.3) (compared_more a c.args.md5s.now c.args.player.now.reader.place to last
          c.loop-kept.so_far (g.R.ByteIn.remaining c.args.input.now)
          (g.R.ByteIn.remaining c.loop-kept.input)
          (g.R.ByteIn.remaining c.compare_next.new.input)
          (g.R.ByteIn.failures c.args.input.now) (g.R.ByteIn.failures c.loop-kept.input)
          (g.R.ByteIn.failures c.compare_next.new.input) i.3 answer.0 answer.1 answer.2),
      c.in_ok-next.ensures.container ∙ i.4,
      (λ scope text stands. (rw c.in-Some.is at c.in_ok-next.ensures.reached) scope text
          (i.5 scope text stands)),
    )

pub returns-clause-noted : goal.returns-clause-noted
returns-clause-noted g c = λ scope text stands.
    c.in_ok-next.ensures.noted c.in_default.is scope text
    (c.loop-kept.invariant.5 scope text stands)

pub returns-clause-ok : goal.returns-clause-ok
returns-clause-ok g c =
    let a = c.args.player.now.decoder.accepted in
    let i = c.loop-kept.invariant in
    let to = c.loop-kept.player.reader.place in
    let last = c.compare_next.new.player.reader.place in
    let input = passage g.R.ByteIn.remaining g.R.ByteIn.failures c.loop-kept.input
    c.compare_next.new.input in
    let answer =
    subst (λ b. CompareAnswers a c.args.md5s.now c.loop-kept.so_far to last input c.compare_next.new.player.notes (Ok b))
    c.in_default.is
    (subst (λ z. CompareAnswers z c.args.md5s.now c.loop-kept.so_far to last input c.compare_next.new.player.notes
    (Ok c.in_ok-next.field-0)) i.1 c.in_ok-next.ensures.answer) in (
      i.3.frames,
      i.3.read,
      i.3.is,
      i.3.within,
      compared_over a c.args.md5s.now c.args.player.now.reader.place to last
          c.loop-kept.so_far (g.R.ByteIn.remaining c.args.input.now)
          (g.R.ByteIn.remaining c.loop-kept.input)
          (g.R.ByteIn.remaining c.compare_next.new.input)
          (g.R.ByteIn.failures c.args.input.now) (g.R.ByteIn.failures c.loop-kept.input)
          (g.R.ByteIn.failures c.compare_next.new.input) i.3
          c.compare_next.new.player.notes answer,
    )

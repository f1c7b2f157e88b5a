-- Reads so many frames, and keeps the last payload that has bytes.
use Rattle.std.proofs.Common.{◌∙◌, ◌<◌, [], ◌∷◌, ◌++◌, length-append, Bool, Ok}
use Rattle.std.proofs.Common.{refl, inr, subst, arith}
use Rattle.std.proofs.lemmas.Result.{err_from_is_err_and}
use Rattle.ffv1_wire.specs.Passage.{passage}
use Rattle.ffv1_video.specs.Faults.{cause_of, of_avi}
use Rattle.ffv1_unpack.specs.Internal.Located.{LocatedPayload}
use Rattle.ffv1_unpack.specs.Internal.Told.{ReadAnswers}
use Rattle.ffv1_unpack.proofs.FramesCarried.{kept_more}
use Rattle.ffv1_unpack.proofs.FramesPassed.{pass_more, pass_none, pass_over, pass_stops}
use Rattle.ffv1_unpack.proofs.OwnFaults.{told_on}
use Rattle.ffv1_unpack.proofs.carrying.pass_keeping.Goals as goal

pub loop-passed-init : goal.loop-passed-init
loop-passed-init g c = (
  c.requires.sound,
  refl,
  refl,
  refl,
  (λ scope text begun. begun),
  (
    [],
    omega arith,
    omega arith,
    pass_none c.args.player.now.reader.place (g.R.ByteIn.remaining c.args.input.now)
        (g.R.ByteIn.failures c.args.input.now),
    c.requires.none,
  ),
)

pub loop-passed-preserved : goal.loop-passed-preserved
loop-passed-preserved g c =
    let i = c.loop-passed.invariant in
    let so = i.5 in
    let from = c.args.player.now.reader.place in
    let to = c.loop-passed.player.reader.place in
    let next = c.read_payload.new.player in
    let last = next.reader.place in
    let payload = next.payload.items in
    let input = passage g.R.ByteIn.remaining g.R.ByteIn.failures c.loop-passed.input
    c.read_payload.new.input in
    let read = subst (λ (b : Bool). ReadAnswers to last payload next.notes input (Ok b))
    c.if-not-branch.false c.in_ok-read_payload.ensures.answer in
    let less = c.loop-passed-test.true in
    let counted = so.1 in
    let long = length-append so.0 (payload ∷ []) in (
      c.in_ok-read_payload.ensures.sound,
      c.in_ok-read_payload.ensures.same ∙ i.1,
      c.in_ok-read_payload.ensures.container ∙ i.2,
      c.in_ok-read_payload.ensures.head ∙ i.3,
      (λ scope text begun. subst (λ (b : Bool). LocatedPayload c.loop-passed.player.reader input
          next.notes (Ok b) next.reader next.offset) c.if-not-branch.false
          c.in_ok-read_payload.ensures.located scope text (i.4 scope text begun)),
      (
        so.0 ++ (payload ∷ []),
        omega (arith, counted, long),
        omega (arith, less),
        pass_more from to last (g.R.ByteIn.remaining c.args.input.now)
            (g.R.ByteIn.remaining c.loop-passed.input)
            (g.R.ByteIn.remaining c.read_payload.new.input)
            (g.R.ByteIn.failures c.args.input.now) (g.R.ByteIn.failures c.loop-passed.input)
            (g.R.ByteIn.failures c.read_payload.new.input) so.0 payload so.3
            read,
        kept_more so.0 payload c.loop-passed.kept.items c.keep_bytes.new.kept.items c.keep_bytes.ensures so.4,
      ),
    )

pub returns-then-not-branch-clause-answer : goal.returns-then-not-branch-clause-answer
returns-then-not-branch-clause-answer g c =
    let i = c.loop-passed.invariant in
    let less : c.loop-passed.passed < c.args.first =
    omega (arith, c.loop-passed-test.true, c.from.ensures) in
    let so = i.5 in
    let to = c.loop-passed.player.reader.place in
    let next = c.read_payload.new.player in
    let input = passage g.R.ByteIn.remaining g.R.ByteIn.failures c.loop-passed.input
    c.read_payload.new.input in
    let read = subst (λ (b : Bool). ReadAnswers to next.reader.place next.payload.items next.notes
    input (Ok b)) c.if-not-branch.true c.in_ok-read_payload.ensures.answer in
    pass_over c.args.first c.args.player.now.reader.place to
    (g.R.ByteIn.remaining c.args.input.now) (g.R.ByteIn.remaining c.loop-passed.input)
    (g.R.ByteIn.remaining c.read_payload.new.input)
    (g.R.ByteIn.failures c.args.input.now) (g.R.ByteIn.failures c.loop-passed.input)
    (g.R.ByteIn.failures c.read_payload.new.input) so.0 c.loop-passed.passed so.1
    less so.3 next.notes read

pub returns-in_err-read_payload-clause-answer : goal.returns-in_err-read_payload-clause-answer
returns-in_err-read_payload-clause-answer g c =
    let p = err_from_is_err_and c.from_residual.result c.from_residual.ensures.1 in
    let i = c.loop-passed.invariant in
    let so = i.5 in
    let to = c.loop-passed.player.reader.place in
    let less : c.loop-passed.passed < c.args.first =
    omega (arith, c.loop-passed-test.true, c.from.ensures) in
    let f = c.in_err-read_payload.field-0.0 in
    rw (p.1, p.2)
    (pass_stops c.args.first c.args.player.now.reader.place to
    (g.R.ByteIn.remaining c.args.input.now) (g.R.ByteIn.remaining c.loop-passed.input)
    (g.R.ByteIn.remaining c.read_payload.new.input)
    (g.R.ByteIn.failures c.args.input.now) (g.R.ByteIn.failures c.loop-passed.input)
    (g.R.ByteIn.failures c.read_payload.new.input) so.0 c.loop-passed.passed so.1
    less so.3 (of_avi f) (cause_of (of_avi f)) c.in_err-read_payload.ensures.answer)

pub returns-in_err-read_payload-clause-own : goal.returns-in_err-read_payload-clause-own
returns-in_err-read_payload-clause-own g c =
    let p = err_from_is_err_and c.from_residual.result c.from_residual.ensures.1 in
    let i = c.loop-passed.invariant in
    rw (p.1, p.2) (inr (told_on c.args.player.now.reader c.loop-passed.player.reader
    (passage g.R.ByteIn.remaining g.R.ByteIn.failures c.args.input.now c.loop-passed.input)
    (of_avi c.in_err-read_payload.field-0.0) i.2 i.4 c.in_err-read_payload.ensures.own))

pub returns-clause-answer : goal.returns-clause-answer
returns-clause-answer g c =
    let so = c.loop-passed.invariant.5 in
    let none = c.loop-passed-test.false in
    let counted = so.1 in
    let least = so.2 in
    (so.0, omega (arith, counted, none, least), so.3, so.4)

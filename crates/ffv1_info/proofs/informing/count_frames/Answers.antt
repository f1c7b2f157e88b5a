-- Reads the frames that are left, and decodes none.
use Rattle.std.proofs.Common.{◌≡◌, ◌∙◌, Ok, suc, [], ◌∷◌, ◌++◌, length, Bool, refl, subst, arith}
use Rattle.std.proofs.lemmas.Result.{err_from_is_err_and}
use Rattle.ffv1_range.specs.Counts.{saturated}
use Rattle.ffv1_wire.specs.Passage.{passage}
use Rattle.ffv1_video.specs.Faults.{cause_of, of_avi}
use Rattle.ffv1_unpack.proofs.FramesInTurn.{counted_more}
use Rattle.ffv1_unpack.proofs.FramesPassed.{pass_more, pass_none}
use Rattle.ffv1_unpack.proofs.OwnFaults.{told_on}
use Rattle.ffv1_info.specs.Internal.Frames.{NextAnswers}
use Rattle.ffv1_info.proofs.FramesRead.{ends_by, others_read}
use Rattle.ffv1_info.proofs.informing.count_frames.Goals as goal

pub frames-init : goal.frames-init
frames-init g c =
    let one : 1 ≡ saturated (suc 0) = omega arith in (
      c.requires.sound,
      refl,
      refl,
      (
        [],
        one,
        pass_none c.args.reader.now.place (g.R.ByteIn.remaining c.args.input.now)
            (g.R.ByteIn.failures c.args.input.now),
      ),
      (λ scope text stands. stands),
    )

pub frames-preserved : goal.frames-preserved
frames-preserved g c =
    let i = c.frames.invariant in
    let so = i.3 in
    let from = c.args.reader.now.place in
    let to = c.frames.reader.place in
    let last = c.read_next.new.reader.place in
    let payload = c.read_next.new.payload.items in
    let input = passage g.R.ByteIn.remaining g.R.ByteIn.failures c.frames.input
    c.read_next.new.input in
    let read = subst (λ (b : Bool). NextAnswers to last payload input (Ok b)) c.if-branch.true
    c.in_ok-read_next.ensures.answer in
    let next : c.saturating_add-count.result ≡ saturated (suc (length (so.0 ++ (payload ∷ [])))) =
    omega (arith, c.saturating_add-count.ensures, so.1, counted_more so.0 payload) in (
      c.in_ok-read_next.ensures.sound,
      c.in_ok-read_next.ensures.head ∙ i.1,
      c.in_ok-read_next.ensures.container ∙ i.2,
      (
        so.0 ++ (payload ∷ []),
        next,
        pass_more from to last (g.R.ByteIn.remaining c.args.input.now)
            (g.R.ByteIn.remaining c.frames.input) (g.R.ByteIn.remaining c.read_next.new.input)
            (g.R.ByteIn.failures c.args.input.now) (g.R.ByteIn.failures c.frames.input)
            (g.R.ByteIn.failures c.read_next.new.input) so.0 payload so.2
            read,
      ),
      (λ scope text stands. c.in_ok-read_next.ensures.stays c.if-branch.true scope text
          (i.4 scope text stands)),
    )

pub returns-in_err-read_next-clause-err : goal.returns-in_err-read_next-clause-err
returns-in_err-read_next-clause-err g c =
    let p = err_from_is_err_and c.from_residual.result c.from_residual.ensures.1 in
    let i = c.frames.invariant in
    let so = i.3 in
    let to = c.frames.reader.place in
    let f = c.in_err-read_next.field-0.0 in
    let input = passage g.R.ByteIn.remaining g.R.ByteIn.failures c.frames.input
    c.read_next.new.input in
    rw (p.1, p.2) (
      c.if-not-some.false,
      (
        so.0,
        ends_by c.args.reader.now.place to (g.R.ByteIn.remaining c.args.input.now)
            (g.R.ByteIn.remaining c.frames.input) (g.R.ByteIn.remaining c.read_next.new.input)
            (g.R.ByteIn.failures c.args.input.now) (g.R.ByteIn.failures c.frames.input)
            (g.R.ByteIn.failures c.read_next.new.input) so.0 so.2 (of_avi f)
            (cause_of (of_avi f)) c.in_err-read_next.ensures.answer,
      ),
    )

pub returns-in_err-read_next-clause-own : goal.returns-in_err-read_next-clause-own
returns-in_err-read_next-clause-own g c =
    let p = err_from_is_err_and c.from_residual.result c.from_residual.ensures.1 in
    let i = c.frames.invariant in
    rw (p.1, p.2) (told_on c.args.reader.now c.frames.reader
    (passage g.R.ByteIn.remaining g.R.ByteIn.failures c.args.input.now c.frames.input)
    (of_avi c.in_err-read_next.field-0.0) i.2 i.4
    c.in_err-read_next.ensures.own)

pub returns-clause-ok : goal.returns-clause-ok
returns-clause-ok g c =
    let i = c.frames.invariant in
    let so = i.3 in
    let to = c.frames.reader.place in
    let input = passage g.R.ByteIn.remaining g.R.ByteIn.failures c.frames.input
    c.read_next.new.input in
    let read = subst (λ (b : Bool). NextAnswers to c.read_next.new.reader.place
    c.read_next.new.payload.items input (Ok b)) c.if-branch.false c.in_ok-read_next.ensures.answer in
    rw c.if-not-some.false (
      so.0,
      so.1,
      others_read c.args.reader.now.place to (g.R.ByteIn.remaining c.args.input.now)
          (g.R.ByteIn.remaining c.frames.input) (g.R.ByteIn.remaining c.read_next.new.input)
          (g.R.ByteIn.failures c.args.input.now) (g.R.ByteIn.failures c.frames.input)
          (g.R.ByteIn.failures c.read_next.new.input) so.0 so.2
          read,
    )

-- The bytes of the next movi of RIFF, and what that has left after it; None at its end.
use Rattle.std.proofs.lemmas.Result.{err_from_is_err_and}
use Rattle.ffv1_avi.specs.Files.{movi_sought}
use Rattle.ffv1_reads.proofs.Reading.{goes_none, goes_read}
use Rattle.ffv1_avi.proofs.ChunkByChunk.{goes_entry}
use Rattle.ffv1_avi.proofs.ChunkReadings.{entry_end, still}
use Rattle.ffv1_avi.proofs.RiffReadings.{movi_next, passed_next, reads_still, riff_entry_refused}
use Rattle.ffv1_avi.proofs.RiffReadings.{riff_visit_refused, stops_here, stops_then}
use Rattle.ffv1_reads.proofs.Answered.{answers_err, answers_first, answers_given}
use Rattle.ffv1_reads.proofs.Answered.{answers_next, answers_ok}
use Rattle.ffv1_avi.proofs.ChunkByChunk.{answers_end, answers_entry, answers_no_entry}
use Rattle.ffv1_avi.proofs.riff.seek_movi.Goals as goal

pub loop-entry-init : goal.loop-entry-init
unfolding movi_sought
loop-entry-init g c = (
  goes_none (movi_sought c.args.place.names c.args.place.riff)
      (g.R.ByteIn.remaining c.args.input.now) (g.R.ByteIn.failures c.args.input.now),
  λ known more.
      reads_still,
)

pub returns-in_err-entry-clause-answer : goal.returns-in_err-entry-clause-answer
returns-in_err-entry-clause-answer g c = answers_err _ _ _ _ c.from_residual.ensures.1
    (answers_no_entry _ _ _ _ _ c.loop-entry.invariant.0 c.in_err-entry.ensures.answer)

pub returns-in_err-movi-clause-answer : goal.returns-in_err-movi-clause-answer
returns-in_err-movi-clause-answer g c = answers_err _ _ _ _ c.from_residual-in_err-movi.ensures.1
    (answers_entry _ _ _ _ _ c.loop-entry.invariant.0
    (rw c.in-Some.is at c.in_ok-entry.ensures.answer) (answers_first _ _ c.in_err-movi.ensures))

pub returns-in-Some-2-clause-answer : goal.returns-in-Some-2-clause-answer
returns-in-Some-2-clause-answer g c = answers_ok (answers_entry _ _ _ _ _ c.loop-entry.invariant.0
    (rw c.in-Some.is at c.in_ok-entry.ensures.answer) (answers_next _
    (rw c.in-Some-2.is at c.in_ok-movi.ensures) answers_given))

pub loop-entry-preserved : goal.loop-entry-preserved
loop-entry-preserved g c =
    let e = c.in-Some.entry in
    let here = goes_entry _ _ _ _ _ _ _ e c.loop-entry.invariant.0
    (rw c.in-Some.is at c.in_ok-entry.ensures.answer) in
    let header = (rw c.in-Some.is at c.in_ok-entry.ensures.answer).1 in
    let visit = (rw c.in_default-2.is at c.in_ok-movi.ensures).1 in (
      goes_read _ _ _ _ _ here (rw c.in_default-2.is at c.in_ok-movi.ensures),
      λ known more. passed_next c.args.place c.loop-entry.left e known more
          (rw c.in-Some.is at c.in_ok-entry.ensures.listed) (c.loop-entry.invariant.1 known more) header
          visit (rw c.padded.ensures at c.saturating_add-in-Some.ensures),
    )

pub returns-clause-answer : goal.returns-clause-answer
returns-clause-answer g c = answers_ok (answers_end _ _ _ _ _ c.loop-entry.invariant.0
    (rw c.in_default.is at c.in_ok-entry.ensures.answer) answers_given)

pub returns-in_err-entry-clause-from : goal.returns-in_err-entry-clause-from
returns-in_err-entry-clause-from g c =
    let p = err_from_is_err_and c.from_residual.result c.from_residual.ensures.1 in
    let f = c.in_err-entry.field-0.0 in
    let inv = c.loop-entry.invariant in
    rw (p.1, p.2) (λ known more. stops_then f inv.0.same (inv.1 known more)
    (stops_here f (riff_entry_refused c.args.place c.loop-entry.left known more _ _ _ _ f
    c.in_err-entry.ensures.answer)))

pub returns-in_err-movi-clause-from : goal.returns-in_err-movi-clause-from
returns-in_err-movi-clause-from g c =
    let p = err_from_is_err_and c.from_residual-in_err-movi.result
    c.from_residual-in_err-movi.ensures.1 in
    let f = c.in_err-movi.field-0.0 in
    let e = c.in-Some.entry in
    let inv = c.loop-entry.invariant in
    rw (p.1, p.2) (λ known more. stops_then f inv.0.same (inv.1 known more)
    (stops_here f (riff_visit_refused c.args.place c.loop-entry.left known more e _ _ _ _ _ _ f
    (rw c.in-Some.is at c.in_ok-entry.ensures.answer) c.in_err-movi.ensures)))

pub returns-in-Some-2-clause-from : goal.returns-in-Some-2-clause-from
returns-in-Some-2-clause-from g c =
    let e = c.in-Some.entry in
    let header = (rw c.in-Some.is at c.in_ok-entry.ensures.answer).1 in
    let visit = (rw c.in-Some-2.is at c.in_ok-movi.ensures).1 in
    λ known more. movi_next c.args.place c.loop-entry.left e c.in-Some-2.movi known more
    (rw c.in-Some.is at c.in_ok-entry.ensures.listed) (c.loop-entry.invariant.1 known more) header
    visit c.saturating_add.ensures

pub returns-clause-from : goal.returns-clause-from
returns-clause-from g c =
    let read = (rw c.in_default.is at c.in_ok-entry.ensures.answer).1 in
    let end = entry_end _ c.loop-entry.left read in
    λ known more. (let h = c.loop-entry.invariant.1 known more in
    (h.0, rw end at (still _ c.loop-entry.left h.1 read), h.2))

-- The size of a stream's next frame, and what movi has left after it; None at its end.
use Rattle.std.proofs.lemmas.Result.{err_from_is_err_and}
use Rattle.ffv1_reads.proofs.Reading.{goes_read}
use Rattle.ffv1_avi.proofs.ChunkByChunk.{goes_entry}
use Rattle.std.proofs.Common.{◌-◌, ◌^◌, ◌∙◌}
use Rattle.ffv1_reads.proofs.OffsetLaws.{counts_more, reads_none, stops_after}
use Rattle.ffv1_reads.proofs.Reading.{goes_none}
use Rattle.ffv1_avi.specs.Files.{movi_found}
use Rattle.ffv1_avi.specs.Offsets.{chunk_taken, movi_left}
use Rattle.ffv1_avi.specs.Padding.{padded}
use Rattle.ffv1_avi.proofs.ChunkReadings.{chunk_passed, entry_end, entry_refused, counts_none}
use Rattle.ffv1_avi.proofs.ChunkReadings.{one_more, still, visit_refused}
use Rattle.ffv1_reads.proofs.Answered.{answers_err, answers_first, answers_given}
use Rattle.ffv1_reads.proofs.Answered.{answers_next, answers_ok}
use Rattle.ffv1_avi.proofs.ChunkByChunk.{answers_end, answers_entry, answers_no_entry}
use Rattle.ffv1_avi.proofs.movi.find_in_movi.Goals as goal

pub returns-in_err-entry-clause-answer : goal.returns-in_err-entry-clause-answer
returns-in_err-entry-clause-answer g c = answers_err _ _ _ _ c.from_residual.ensures.1
    (answers_no_entry _ _ _ _ _ c.loop-entry.invariant.0 c.in_err-entry.ensures.answer)

pub returns-in_err-size-clause-answer : goal.returns-in_err-size-clause-answer
returns-in_err-size-clause-answer g c = answers_err _ _ _ _ c.from_residual-in_err-size.ensures.1
    (answers_entry _ _ _ _ _ c.loop-entry.invariant.0
    (rw c.in-Some.is at c.in_ok-entry.ensures.answer)
    (answers_first _ _ c.in_err-size.ensures.answer))

pub returns-in-Some-2-clause-answer : goal.returns-in-Some-2-clause-answer
returns-in-Some-2-clause-answer g c = answers_ok (answers_entry _ _ _ _ _ c.loop-entry.invariant.0
    (rw c.in-Some.is at c.in_ok-entry.ensures.answer) (answers_next _
    (rw c.in-Some-2.is at c.in_ok-size.ensures.answer) answers_given))

pub loop-entry-preserved : goal.loop-entry-preserved
loop-entry-preserved g c =
    let e = c.in-Some.entry in
    let here = goes_entry _ _ _ _ _ _ _ e c.loop-entry.invariant.0
    (rw c.in-Some.is at c.in_ok-entry.ensures.answer) in
    let inv = c.loop-entry.invariant in
    let now = movi_left c.args.place c.loop-entry.left in
    let header = (rw c.in-Some.is at c.in_ok-entry.ensures.answer).1 in
    let visit = (rw c.in_default-2.is at c.in_ok-size.ensures.answer).1 in (
      goes_read _ _ _ _ _ here (rw c.in_default-2.is at c.in_ok-size.ensures.answer),
      (
        _,
        counts_more inv.1.1 (chunk_passed now e header visit),
        λ n is. c.saturating_add.ensures
            ∙ rw (c.padded.ensures, inv.1.2 n is) (one_more n inv.1.0 (padded e.size) (2 ^ 64 - 1)),
      ),
    )

pub returns-clause-answer : goal.returns-clause-answer
returns-clause-answer g c = answers_ok (answers_end _ _ _ _ _ c.loop-entry.invariant.0
    (rw c.in_default.is at c.in_ok-entry.ensures.answer) answers_given)

pub loop-entry-init : goal.loop-entry-init
unfolding movi_found
loop-entry-init g c = (
  goes_none (movi_found c.args.place.names c.args.place.movi)
      (g.R.ByteIn.remaining c.args.input.now) (g.R.ByteIn.failures c.args.input.now),
  (0, reads_none chunk_taken c.args.place _, λ n is. is ∙ counts_none n (2 ^ 64 - 1)),
)

pub returns-in_err-entry-clause-from : goal.returns-in_err-entry-clause-from
returns-in_err-entry-clause-from g c =
    let p = err_from_is_err_and c.from_residual.result c.from_residual.ensures.1 in
    let inv = c.loop-entry.invariant in
    let f = c.in_err-entry.field-0.0 in
    let now = movi_left c.args.place c.loop-entry.left in
    rw (p.1, p.2) (
      now,
      inv.1.0,
      stops_after _ f inv.0.same inv.1.1
          (entry_refused now _ _ _ _ f c.in_err-entry.ensures.answer),
      inv.1.2,
    )

pub returns-in_err-size-clause-from : goal.returns-in_err-size-clause-from
returns-in_err-size-clause-from g c =
    let p = err_from_is_err_and c.from_residual-in_err-size.result
    c.from_residual-in_err-size.ensures.1 in
    let inv = c.loop-entry.invariant in
    let f = c.in_err-size.field-0.0 in
    let now = movi_left c.args.place c.loop-entry.left in
    let e = c.in-Some.entry in
    rw (p.1, p.2) (
      now,
      inv.1.0,
      stops_after _ f inv.0.same inv.1.1
          (visit_refused now e _ _ _ _ _ _ f (rw c.in-Some.is at c.in_ok-entry.ensures.answer)
          c.in_err-size.ensures.answer),
      inv.1.2,
    )

pub returns-clause-from : goal.returns-clause-from
returns-clause-from g c =
    let inv = c.loop-entry.invariant in
    let read = (rw c.in_default.is at c.in_ok-entry.ensures.answer).1 in
    let end = entry_end _ c.loop-entry.left read in
    (inv.1.0, rw end at (still _ c.loop-entry.left inv.1.1 read), inv.1.2)

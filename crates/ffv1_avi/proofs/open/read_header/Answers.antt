-- The list hdrl of a given size after its own name, with its padding.
use Rattle.ffv1_reads.proofs.Reading.{goes_read}
use Rattle.ffv1_avi.proofs.ChunkByChunk.{goes_entry}
use Rattle.ffv1_reads.proofs.Rooms.{room_kept, room_then}
use Rattle.ffv1_reads.proofs.Answered.{answers_err, answers_first, answers_given}
use Rattle.ffv1_reads.proofs.Answered.{answers_next, answers_ok}
use Rattle.ffv1_avi.proofs.ChunkByChunk.{answers_end, answers_entry, answers_no_entry}
use Rattle.ffv1_avi.proofs.open.read_header.Goals as goal

pub returns-in_err-entry-clause-answer : goal.returns-in_err-entry-clause-answer
returns-in_err-entry-clause-answer g c = answers_err _ _ _ _ c.from_residual.ensures.1
    (answers_no_entry _ _ _ _ _ c.loop-entry.invariant.0 c.in_err-entry.ensures.answer)

pub returns-in_err-found-clause-answer : goal.returns-in_err-found-clause-answer
returns-in_err-found-clause-answer g c = answers_err _ _ _ _ c.from_residual-in_err-found.ensures.1
    (answers_entry _ _ _ _ _ c.loop-entry.invariant.0
    (rw c.in-Some.is at c.in_ok-entry.ensures.answer)
    (answers_first _ _ c.in_err-found.ensures.answer))

pub loop-entry-preserved : goal.loop-entry-preserved
loop-entry-preserved g c = (
  goes_read _ _ _ _ _ (goes_entry _ _ _ _ _ _ _ c.in-Some.entry c.loop-entry.invariant.0
      (rw c.in-Some.is at c.in_ok-entry.ensures.answer)) c.in_ok-found.ensures.answer,
  room_then c.loop-entry.invariant.1 (room_then
      (room_kept _ c.in_ok-entry.ensures.answer.1) c.in_ok-found.ensures.grown),
)

pub returns-in_err-pass-clause-answer : goal.returns-in_err-pass-clause-answer
returns-in_err-pass-clause-answer g c = answers_err _ _ _ _ c.from_residual-in_err-pass.ensures.1
    (answers_end _ _ _ _ _ c.loop-entry.invariant.0
    (rw c.in_default.is at c.in_ok-entry.ensures.answer) (answers_first _ _
    (rw c.from.ensures at c.in_err-pass.ensures)))

pub returns-clause-answer : goal.returns-clause-answer
returns-clause-answer g c = answers_ok (answers_end _ _ _ _ _ c.loop-entry.invariant.0
    (rw c.in_default.is at c.in_ok-entry.ensures.answer) (answers_next _
    (rw c.from.ensures at c.in_ok-pass.ensures) answers_given))

pub returns-clause-grown : goal.returns-clause-grown
returns-clause-grown g c = room_then c.loop-entry.invariant.1
    (room_then (room_kept _ c.in_ok-entry.ensures.answer.1) (room_kept _ c.in_ok-pass.ensures.1))

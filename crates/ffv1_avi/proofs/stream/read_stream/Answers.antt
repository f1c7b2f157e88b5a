-- A stream's list with so many bytes left after its own name; its record in place of what the
-- vector has.
use Rattle.ffv1_reads.proofs.Reading.{goes_read}
use Rattle.ffv1_avi.proofs.ChunkByChunk.{goes_entry}
use Rattle.ffv1_reads.proofs.Results.{on_ok}
use Rattle.ffv1_reads.proofs.Rooms.{room_kept, room_then}
use Rattle.ffv1_reads.proofs.Answered.{answers_err, answers_first}
use Rattle.ffv1_reads.proofs.Answered.{answers_of}
use Rattle.ffv1_reads.proofs.Answered.{answers_tail}
use Rattle.ffv1_avi.proofs.ChunkByChunk.{answers_end, answers_entry, answers_no_entry}
use Rattle.ffv1_avi.proofs.stream.read_stream.Goals as goal

pub returns-in_err-entry-clause-answer : goal.returns-in_err-entry-clause-answer
returns-in_err-entry-clause-answer g c = answers_err _ _ _ _ c.from_residual.ensures.1
    (answers_no_entry _ _ _ _ _ c.loop-entry.invariant.0 c.in_err-entry.ensures.answer)

pub returns-in_err-fields-clause-answer : goal.returns-in_err-fields-clause-answer
returns-in_err-fields-clause-answer g c = answers_err _ _ _ _
    c.from_residual-in_err-fields.ensures.1 (answers_entry _ _ _ _ _ c.loop-entry.invariant.0
    (rw c.in-Some.is at c.in_ok-entry.ensures.answer)
    (answers_first _ _ c.in_err-fields.ensures.answer))

pub loop-entry-preserved : goal.loop-entry-preserved
loop-entry-preserved g c = (
  goes_read _ _ _ _ _ (goes_entry _ _ _ _ _ _ _ c.in-Some.entry c.loop-entry.invariant.0
      (rw c.in-Some.is at c.in_ok-entry.ensures.answer)) c.in_ok-fields.ensures.answer,
  room_then c.loop-entry.invariant.1 (room_then
      (room_kept _ c.in_ok-entry.ensures.answer.1) c.in_ok-fields.ensures.grown),
)

pub returns-clause-answer : goal.returns-clause-answer
returns-clause-answer g c = answers_of _ _ _ _ (answers_end _ _ _ _ _ c.loop-entry.invariant.0
    (rw c.in_default.is at c.in_ok-entry.ensures.answer) (answers_tail _ _ _ _
    (c.judged.ensures c.loop-entry.config.items _ _)))

pub returns-clause-grown : goal.returns-clause-grown
returns-clause-grown g c = on_ok c.judged.result
    (room_then c.loop-entry.invariant.1 (room_kept _ c.in_ok-entry.ensures.answer.1))

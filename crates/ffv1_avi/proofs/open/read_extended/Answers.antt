-- The list odml of a given size after its own name, with its padding.
use Rattle.ffv1_reads.proofs.Reading.{goes_read}
use Rattle.ffv1_avi.proofs.ChunkByChunk.{goes_entry}
use Rattle.ffv1_reads.proofs.Answered.{answers_err, answers_first, answers_given}
use Rattle.ffv1_reads.proofs.Answered.{answers_next, answers_ok}
use Rattle.ffv1_avi.proofs.ChunkByChunk.{answers_end, answers_entry, answers_no_entry}
use Rattle.ffv1_avi.proofs.open.read_extended.Goals as goal

pub returns-in_err-entry : goal.returns-in_err-entry
returns-in_err-entry g c = answers_err _ _ _ _ c.from_residual.ensures.1
    (answers_no_entry _ _ _ _ _ c.loop-entry.invariant c.in_err-entry.ensures.answer)

pub returns-in_err-frames : goal.returns-in_err-frames
returns-in_err-frames g c = answers_err _ _ _ _ c.from_residual-in_err-frames.ensures.1
    (answers_entry _ _ _ _ _ c.loop-entry.invariant (rw c.in-Some.is at c.in_ok-entry.ensures.answer)
    (answers_first _ _ c.in_err-frames.ensures))

pub loop-entry-preserved : goal.loop-entry-preserved
loop-entry-preserved g c = goes_read _ _ _ _ _
    (goes_entry _ _ _ _ _ _ _ c.in-Some.entry c.loop-entry.invariant
    (rw c.in-Some.is at c.in_ok-entry.ensures.answer)) c.in_ok-frames.ensures

pub returns-in_err-pass : goal.returns-in_err-pass
returns-in_err-pass g c = answers_err _ _ _ _ c.from_residual-in_err-pass.ensures.1
    (answers_end _ _ _ _ _ c.loop-entry.invariant (rw c.in_default.is at c.in_ok-entry.ensures.answer)
    (answers_first _ _ (rw c.from.ensures at c.in_err-pass.ensures)))

pub returns : goal.returns
returns g c = answers_ok (answers_end _ _ _ _ _ c.loop-entry.invariant
    (rw c.in_default.is at c.in_ok-entry.ensures.answer) (answers_next _
    (rw c.from.ensures at c.in_ok-pass.ensures) answers_given))

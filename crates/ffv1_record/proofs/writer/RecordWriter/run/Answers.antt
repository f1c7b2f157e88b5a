-- A run less 1, by the states of its table.
use Rattle.ffv1_range.proofs.Unsigned.{unsigned_below}
use Rattle.ffv1_record.proofs.EncoderSteps.{wrote_steps_in}
use Rattle.ffv1_record.proofs.writer.RecordWriter.run.Goals as goal

pub returns-clause-ok : goal.returns-clause-ok
returns-clause-ok g c = rw (← c.self.view_is) (wrote_steps_in _ _ _ _ _ _ c.self.told
    c.requires.held.count (unsigned_below c.args.less)
    (rw c.self.invariant.0 at c.in-Ok.ensures.ok))

-- A number.
use Rattle.ffv1_range.proofs.Unsigned.{unsigned_below}
use Rattle.ffv1_record.proofs.EncoderSteps.{wrote_steps}
use Rattle.ffv1_record.proofs.writer.RecordWriter.number.Goals as goal

pub returns-clause-ok : goal.returns-clause-ok
returns-clause-ok g c = rw (← c.self.view_is) (wrote_steps _ _ _ _ _ c.self.told
    (unsigned_below c.args.number) (rw c.self.invariant.0 at c.in-Ok.ensures.ok))

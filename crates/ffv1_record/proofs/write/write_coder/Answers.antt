-- Coder_type and deltas.
use Rattle.ffv1_record.proofs.EncoderSteps.{wrote_on}
use Rattle.ffv1_record.proofs.write.write_coder.Goals as goal

pub returns-in-Two-clause-ok : goal.returns-in-Two-clause-ok
returns-in-Two-clause-ok g c = rw c.in-Two.is (wrote_on _ _ c.in_ok-number-in-Two.ensures.ok
    c.in_ok-write_deltas-in-Two.ensures.ok)

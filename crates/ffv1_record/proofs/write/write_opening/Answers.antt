-- Version, micro_version and coder.
use Rattle.ffv1_record.proofs.EncoderSteps.{wrote_on}
use Rattle.ffv1_record.proofs.write.write_opening.Goals as goal

pub returns-clause-ok : goal.returns-clause-ok
returns-clause-ok g c = wrote_on _ _ (wrote_on _ _ c.in_ok-number.ensures.ok
    c.in_ok-number-2.ensures.ok) c.in_ok-write_coder.ensures.ok

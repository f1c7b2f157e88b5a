-- Ec and intra.
use Rattle.ffv1_record.proofs.EncoderSteps.{wrote_on}
use Rattle.ffv1_record.proofs.write.write_closing.Goals as goal

pub returns-clause-ok : goal.returns-clause-ok
returns-clause-ok g c = wrote_on _ _ (rw c.one_if.ensures at c.in_ok-number.ensures.ok)
    (rw c.one_if-2.ensures at c.in_ok-number-2.ensures.ok)

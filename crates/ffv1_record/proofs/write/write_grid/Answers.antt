-- Columns and rows.
use Rattle.ffv1_record.proofs.EncoderSteps.{wrote_on}
use Rattle.ffv1_record.proofs.write.write_grid.Goals as goal

pub returns-clause-ok : goal.returns-clause-ok
returns-clause-ok g c = wrote_on _ _ c.in_ok-number.ensures.ok c.in_ok-number-2.ensures.ok

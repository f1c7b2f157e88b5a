-- The state transition table.
use Rattle.ffv1_record.proofs.Checks.{no_table}
use Rattle.ffv1_record.proofs.config.Coder.table.Goals as goal

pub returns-in-Err-clause-refused : goal.returns-in-Err-clause-refused
returns-in-Err-clause-refused c = (
  c.in-Err.ensures.refused.0,
  λ t is. no_table c.in-Two.deltas t
      c.in-Err.ensures.refused.1 (rw c.in-Two.is at is),
)

pub returns-in-Ok-clause-writable : goal.returns-in-Ok-clause-writable
returns-in-Ok-clause-writable c = rw c.in-Two.is (c.in-Ok.ensures.long, c.in-Ok.ensures.writable)

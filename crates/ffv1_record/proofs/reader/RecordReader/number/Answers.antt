-- The number that comes next.
use Rattle.ffv1_record.proofs.CallsGive.{gives_number, refuses_number}
use Rattle.ffv1_record.proofs.reader.RecordReader.number.Goals as goal

pub returns-in_default-clause-gives : goal.returns-in_default-clause-gives
returns-in_default-clause-gives c = rw (← c.self.view_is)
    (refuses_number _ _ _ _ c.self.told (rw c.self.invariant.0 at c.in_default.ensures.refused.1))

pub returns-clause-gives : goal.returns-clause-gives
returns-clause-gives c = rw (← c.self.view_is)
    (gives_number _ _ _ _ _ c.self.told c.in-Ok.ensures.size
    (rw c.self.invariant.0 at c.in-Ok.ensures.follows))

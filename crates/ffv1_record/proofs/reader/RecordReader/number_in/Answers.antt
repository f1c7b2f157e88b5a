-- The number that comes next, by the states of a table.
use Rattle.ffv1_record.proofs.CallsGive.{gives_number_in, refuses_number_in}
use Rattle.ffv1_record.proofs.reader.RecordReader.number_in.Goals as goal

pub returns-in_default-clause-gives : goal.returns-in_default-clause-gives
returns-in_default-clause-gives c = rw (← c.self.view_is)
    (refuses_number_in _ _ _ _ _ c.self.told c.requires.held.count
    (rw c.self.invariant.0 at c.in_default.ensures.refused.1))

pub returns-clause-gives : goal.returns-clause-gives
returns-clause-gives c = rw (← c.self.view_is)
    (gives_number_in _ _ _ _ _ _ c.self.told c.requires.held.count c.in-Ok.ensures.size
    (rw c.self.invariant.0 at c.in-Ok.ensures.follows))

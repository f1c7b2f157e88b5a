-- A run less 1, at most `most`, by the states of its table.
use Rattle.ffv1_record.proofs.CallsGive.{gives_run, refuses_run}
use Rattle.ffv1_record.proofs.reader.RecordReader.run.Goals as goal

pub returns-then-number-most-clause-gives : goal.returns-then-number-most-clause-gives
returns-then-number-most-clause-gives c = gives_run _ _ _ _ _ _ c.in_ok-number.ensures.gives
    c.if-number-most.true

pub returns-clause-gives : goal.returns-clause-gives
returns-clause-gives c = refuses_run _ _ _ _ _ _ c.in_ok-number.ensures.gives c.if-number-most.false

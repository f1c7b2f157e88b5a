-- The number that comes next, from least to most, or a fault.
use Rattle.ffv1_record.proofs.CallsGive.{stopped, gives_within, refuses_within, within_bounds}
use Rattle.ffv1_record.proofs.CallsGive.{above_bounds, below_bounds}
use Rattle.ffv1_record.proofs.reader.RecordReader.number_within.Goals.{else-least-number-via-then-least-number+else-number-most}
use Rattle.ffv1_record.proofs.reader.RecordReader.number_within.Goals.{else-least-number-via-else-least-number}
use Rattle.ffv1_record.proofs.reader.RecordReader.number_within.Goals as goal

pub returns-in_err-number-clause-gives : goal.returns-in_err-number-clause-gives
returns-in_err-number-clause-gives c = stopped c.from_residual.result c.from_residual.ensures.1
    c.in_err-number.ensures.gives

pub returns-then-number-most-clause-gives : goal.returns-then-number-most-clause-gives
returns-then-number-most-clause-gives c = gives_within _ _ _ _ _ _ _ c.in_ok-number.ensures.gives
    (within_bounds _ _ _ c.if-least-number.true c.if-number-most.true)

pub returns-clause-gives : goal.returns-clause-gives
returns-clause-gives c = elim c.else-least-number.branch [
  | else-least-number-via-then-least-number+else-number-most w ↦ refuses_within _ _ _ _ _ _ _
      c.in_ok-number.ensures.gives (above_bounds _ _ _ w.if-number-most.false)
  | else-least-number-via-else-least-number w ↦ refuses_within _ _ _ _ _ _ _
      c.in_ok-number.ensures.gives (below_bounds _ _ _ w.if-least-number.false)
]

-- A truth value that is coded as a number.
use Rattle.ffv1_record.proofs.CallsGive.{stopped, and_then, gives_done}
use Rattle.ffv1_record.proofs.read.read_flag.Goals as goal

pub returns-in_err-number-clause-gives : goal.returns-in_err-number-clause-gives
returns-in_err-number-clause-gives c = stopped c.from_residual.result c.from_residual.ensures.1
    c.in_err-number.ensures.gives

pub returns-clause-gives : goal.returns-clause-gives
returns-clause-gives c = and_then c.in_ok-number.ensures.gives (gives_done _ _ _)

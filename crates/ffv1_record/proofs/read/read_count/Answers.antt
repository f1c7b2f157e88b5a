-- A count that is coded less 1.
use Rattle.ffv1_record.proofs.CallsGive.{and_then, gives_done}
use Rattle.ffv1_record.proofs.read.read_count.Goals as goal

pub returns-clause-gives : goal.returns-clause-gives
returns-clause-gives c = and_then c.in_ok-less.ensures.gives (gives_done _ _ _)

-- The quantisation table sets.
use Rattle.ffv1_record.proofs.CallsGive.{and_then, handed, stop, gives_done, told, read_then}
use Rattle.ffv1_record.proofs.read.read_tables.Goals as goal

pub returns-in_err-count-clause-gives : goal.returns-in_err-count-clause-gives
returns-in_err-count-clause-gives g c = handed c.from_residual.result c.from_residual.ensures.1
    (stop c.in_err-count.ensures.gives)

pub returns-in_err-sets-clause-gives : goal.returns-in_err-sets-clause-gives
returns-in_err-sets-clause-gives g c = handed c.from_residual-in_err-sets.result
    c.from_residual-in_err-sets.ensures.1 (and_then c.in_ok-count.ensures.gives
    (stop c.in_err-sets.ensures.gives))

pub returns-in_err-read_uncoded-clause-gives : goal.returns-in_err-read_uncoded-clause-gives
returns-in_err-read_uncoded-clause-gives g c =
    handed c.from_residual-in_err-read_uncoded.result c.from_residual-in_err-read_uncoded.ensures.1
    (and_then c.in_ok-count.ensures.gives (and_then c.in_ok-sets.ensures.gives
    (stop c.in_err-read_uncoded.ensures.gives)))

pub returns-clause-gives : goal.returns-clause-gives
returns-clause-gives g c = and_then c.in_ok-count.ensures.gives
    (and_then c.in_ok-sets.ensures.gives (and_then c.in_ok-read_uncoded.ensures.gives
    (gives_done _ _ _)))

pub returns-in_err-sets-clause-run : goal.returns-in_err-sets-clause-run
returns-in_err-sets-clause-run g c = told _ c.from_residual-in_err-sets.result
    c.from_residual-in_err-sets.ensures.1 (λ memory. read_then c.in_ok-count.ensures.gives
    (c.in_err-sets.ensures.memory memory))

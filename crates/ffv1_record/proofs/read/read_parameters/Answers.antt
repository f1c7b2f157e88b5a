-- All parameters: a configuration and its depth, which is at most `most`.
use Rattle.ffv1_record.specs.Configuration.{configuration_of, at_depth}
use Rattle.ffv1_record.proofs.CallsGive.{and_then, handed, stop, gives_done, told, read_first}
use Rattle.ffv1_record.proofs.CallsGive.{read_then}
use Rattle.std.proofs.Common.{refl}
use Rattle.ffv1_record.specs.declared.fault.RecordFault.TheVariants as fault
use Rattle.ffv1_record.proofs.FirstRun.{own_told}
use Rattle.ffv1_record.proofs.read.read_parameters.Goals as goal

pub returns-in_err-coder-clause-gives : goal.returns-in_err-coder-clause-gives
returns-in_err-coder-clause-gives g c = handed c.from_residual.result c.from_residual.ensures.1
    (stop c.in_err-coder.ensures.gives)

pub returns-in_err-planes-clause-gives : goal.returns-in_err-planes-clause-gives
returns-in_err-planes-clause-gives g c = handed c.from_residual-in_err-planes.result
    c.from_residual-in_err-planes.ensures.1 (and_then c.in_ok-coder.ensures.gives
    (stop c.in_err-planes.ensures.gives))

pub returns-in_err-columns-clause-gives : goal.returns-in_err-columns-clause-gives
returns-in_err-columns-clause-gives g c = handed c.from_residual-in_err-columns.result
    c.from_residual-in_err-columns.ensures.1 (and_then c.in_ok-coder.ensures.gives
    (and_then c.in_ok-planes.ensures.gives (stop c.in_err-columns.ensures.gives)))

pub returns-in_err-rows-clause-gives : goal.returns-in_err-rows-clause-gives
returns-in_err-rows-clause-gives g c = handed c.from_residual-in_err-rows.result
    c.from_residual-in_err-rows.ensures.1 (and_then c.in_ok-coder.ensures.gives
    (and_then c.in_ok-planes.ensures.gives (and_then c.in_ok-columns.ensures.gives
    (stop c.in_err-rows.ensures.gives))))

pub returns-in_err-sets-clause-gives : goal.returns-in_err-sets-clause-gives
returns-in_err-sets-clause-gives g c = handed c.from_residual-in_err-sets.result
    c.from_residual-in_err-sets.ensures.1 (and_then c.in_ok-coder.ensures.gives
    (and_then c.in_ok-planes.ensures.gives (and_then c.in_ok-columns.ensures.gives
    (and_then c.in_ok-rows.ensures.gives (stop c.in_err-sets.ensures.gives)))))

pub returns-in_err-ec-clause-gives : goal.returns-in_err-ec-clause-gives
returns-in_err-ec-clause-gives g c = handed c.from_residual-in_err-ec.result
    c.from_residual-in_err-ec.ensures.1 (and_then c.in_ok-coder.ensures.gives
    (and_then c.in_ok-planes.ensures.gives (and_then c.in_ok-columns.ensures.gives
    (and_then c.in_ok-rows.ensures.gives (and_then c.in_ok-sets.ensures.gives
    (stop c.in_err-ec.ensures.gives))))))

pub returns-in_err-intra-clause-gives : goal.returns-in_err-intra-clause-gives
returns-in_err-intra-clause-gives g c = handed c.from_residual-in_err-intra.result
    c.from_residual-in_err-intra.ensures.1 (and_then c.in_ok-coder.ensures.gives
    (and_then c.in_ok-planes.ensures.gives (and_then c.in_ok-columns.ensures.gives
    (and_then c.in_ok-rows.ensures.gives (and_then c.in_ok-sets.ensures.gives
    (and_then c.in_ok-ec.ensures.gives (stop c.in_err-intra.ensures.gives)))))))

pub returns-clause-gives : goal.returns-clause-gives
returns-clause-gives g c = (and_then c.in_ok-coder.ensures.gives
    (and_then c.in_ok-planes.ensures.gives (and_then c.in_ok-columns.ensures.gives
    (and_then c.in_ok-rows.ensures.gives (and_then c.in_ok-sets.ensures.gives
    (and_then c.in_ok-ec.ensures.gives (and_then c.in_ok-intra.ensures.gives
    (gives_done (λ r. at_depth (configuration_of r.0) r.1) _ _))))))))

pub returns-in_err-sets-clause-memory : goal.returns-in_err-sets-clause-memory
returns-in_err-sets-clause-memory g c = told _ c.from_residual-in_err-sets.result
    c.from_residual-in_err-sets.ensures.1
    (λ memory. read_then c.in_ok-coder.ensures.gives
    (read_then c.in_ok-planes.ensures.gives
    (read_then c.in_ok-columns.ensures.gives
    (read_then c.in_ok-rows.ensures.gives (c.in_err-sets.ensures.memory memory)))))

pub returns-in_err-ec-clause-memory : goal.returns-in_err-ec-clause-memory
returns-in_err-ec-clause-memory g c = told _ c.from_residual-in_err-ec.result
    c.from_residual-in_err-ec.ensures.1
    (λ memory. read_then c.in_ok-coder.ensures.gives
    (read_then c.in_ok-planes.ensures.gives
    (read_then c.in_ok-columns.ensures.gives
    (read_then c.in_ok-rows.ensures.gives (read_first c.in_ok-sets.ensures.gives)))))

pub returns-in_err-intra-clause-memory : goal.returns-in_err-intra-clause-memory
returns-in_err-intra-clause-memory g c = told _ c.from_residual-in_err-intra.result
    c.from_residual-in_err-intra.ensures.1
    (λ memory. read_then c.in_ok-coder.ensures.gives
    (read_then c.in_ok-planes.ensures.gives
    (read_then c.in_ok-columns.ensures.gives
    (read_then c.in_ok-rows.ensures.gives (read_first c.in_ok-sets.ensures.gives)))))

pub returns-in_err-sets-clause-run : goal.returns-in_err-sets-clause-run
returns-in_err-sets-clause-run g c = told _ c.from_residual-in_err-sets.result
    c.from_residual-in_err-sets.ensures.1
    (λ memory. read_then c.in_ok-coder.ensures.gives
    (read_then c.in_ok-planes.ensures.gives
    (read_then c.in_ok-columns.ensures.gives
    (read_then c.in_ok-rows.ensures.gives (c.in_err-sets.ensures.run memory)))))

pub returns-in_err-ec-clause-run : goal.returns-in_err-ec-clause-run
returns-in_err-ec-clause-run g c = told _ c.from_residual-in_err-ec.result
    c.from_residual-in_err-ec.ensures.1 (λ memory.
    absurd (own_told fault.Ec _ refl c.in_err-ec.ensures.refused memory))

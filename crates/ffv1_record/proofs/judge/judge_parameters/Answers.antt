-- What all parameters say, but for the sets.
use Rattle.std.proofs.Common.{refl}
use Rattle.ffv1_record.specs.declared.fault.RecordFault.TheVariants as fault
use Rattle.ffv1_record.proofs.CallsGive.{told}
use Rattle.ffv1_record.proofs.Judging.{judge_next, judge_stop, judge_handed, judge_done}
use Rattle.ffv1_record.proofs.FirstRun.{own_told}
use Rattle.ffv1_record.proofs.Judging.{and_judge, stop_given}
use Rattle.ffv1_record.proofs.judge.judge_parameters.Goals as goal

pub returns-in_err-coder-clause-judges : goal.returns-in_err-coder-clause-judges
returns-in_err-coder-clause-judges g c = judge_handed c.from_residual.result
    c.from_residual.ensures.1
    (stop_given c.in_err-coder.ensures.gives c.in_err-coder.ensures.told)

pub returns-in_err-planes-clause-judges : goal.returns-in_err-planes-clause-judges
returns-in_err-planes-clause-judges g c = judge_handed c.from_residual-in_err-planes.result
    c.from_residual-in_err-planes.ensures.1 (and_judge c.in_ok-coder.ensures.gives
    (stop_given c.in_err-planes.ensures.gives c.in_err-planes.ensures.told))

pub returns-in_err-columns-clause-judges : goal.returns-in_err-columns-clause-judges
returns-in_err-columns-clause-judges g c = judge_handed c.from_residual-in_err-columns.result
    c.from_residual-in_err-columns.ensures.1 (and_judge c.in_ok-coder.ensures.gives
    (and_judge c.in_ok-planes.ensures.gives
    (stop_given c.in_err-columns.ensures.gives c.in_err-columns.ensures.told)))

pub returns-in_err-rows-clause-judges : goal.returns-in_err-rows-clause-judges
returns-in_err-rows-clause-judges g c = judge_handed c.from_residual-in_err-rows.result
    c.from_residual-in_err-rows.ensures.1 (and_judge c.in_ok-coder.ensures.gives
    (and_judge c.in_ok-planes.ensures.gives (and_judge c.in_ok-columns.ensures.gives
    (stop_given c.in_err-rows.ensures.gives c.in_err-rows.ensures.told))))

pub returns-in_err-count-clause-judges : goal.returns-in_err-count-clause-judges
returns-in_err-count-clause-judges g c = judge_handed c.from_residual-in_err-count.result
    c.from_residual-in_err-count.ensures.1 (and_judge c.in_ok-coder.ensures.gives
    (and_judge c.in_ok-planes.ensures.gives (and_judge c.in_ok-columns.ensures.gives
    (and_judge c.in_ok-rows.ensures.gives (judge_stop c.in_err-count.ensures.judges)))))

pub returns-in_err-ec-clause-judges : goal.returns-in_err-ec-clause-judges
returns-in_err-ec-clause-judges g c = judge_handed c.from_residual-in_err-ec.result
    c.from_residual-in_err-ec.ensures.1 (and_judge c.in_ok-coder.ensures.gives
    (and_judge c.in_ok-planes.ensures.gives (and_judge c.in_ok-columns.ensures.gives
    (and_judge c.in_ok-rows.ensures.gives (judge_next c.in_ok-count.ensures.judges (λ ss many.
    stop_given c.in_err-ec.ensures.gives
    (own_told fault.Ec _ refl c.in_err-ec.ensures.refused)))))))

pub returns-in_err-intra-clause-judges : goal.returns-in_err-intra-clause-judges
returns-in_err-intra-clause-judges g c = judge_handed c.from_residual-in_err-intra.result
    c.from_residual-in_err-intra.ensures.1 (and_judge c.in_ok-coder.ensures.gives
    (and_judge c.in_ok-planes.ensures.gives (and_judge c.in_ok-columns.ensures.gives
    (and_judge c.in_ok-rows.ensures.gives (judge_next c.in_ok-count.ensures.judges (λ ss many.
    and_judge c.in_ok-ec.ensures.gives (stop_given c.in_err-intra.ensures.gives
    (own_told fault.Intra _ refl c.in_err-intra.ensures.refused))))))))

pub returns-clause-judges : goal.returns-clause-judges
returns-clause-judges g c = and_judge c.in_ok-coder.ensures.gives
    (and_judge c.in_ok-planes.ensures.gives (and_judge c.in_ok-columns.ensures.gives
    (and_judge c.in_ok-rows.ensures.gives (judge_next c.in_ok-count.ensures.judges (λ ss many.
    and_judge c.in_ok-ec.ensures.gives (and_judge c.in_ok-intra.ensures.gives
    (judge_done _ (record { rest = refl; count = many }))))))))

pub returns-in_err-ec-clause-told : goal.returns-in_err-ec-clause-told
returns-in_err-ec-clause-told g c = told _ c.from_residual-in_err-ec.result
    c.from_residual-in_err-ec.ensures.1 (own_told fault.Ec _ refl c.in_err-ec.ensures.refused)

pub returns-in_err-intra-clause-told : goal.returns-in_err-intra-clause-told
returns-in_err-intra-clause-told g c = told _ c.from_residual-in_err-intra.result
    c.from_residual-in_err-intra.ensures.1
    (own_told fault.Intra _ refl c.in_err-intra.ensures.refused)

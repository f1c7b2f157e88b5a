-- How many sets there are.
use Rattle.ffv1_record.proofs.Judging.{judge_next, judge_stop, judge_handed, judge_done}
use Rattle.std.proofs.Common.{refl}
use Rattle.ffv1_record.specs.declared.fault.RecordFault.TheVariants as fault
use Rattle.ffv1_record.proofs.FirstRun.{own_told}
use Rattle.ffv1_record.proofs.Judging.{and_judge, stop_given}
use Rattle.ffv1_record.proofs.judge.judge_tables.Goals as goal

pub returns-in_err-count-clause-judges : goal.returns-in_err-count-clause-judges
returns-in_err-count-clause-judges c = judge_handed c.from_residual.result c.from_residual.ensures.1
    (stop_given c.in_err-count.ensures.gives
    (own_told fault.Sets _ refl c.in_err-count.ensures.refused))

pub returns-in_err-judge_sets-clause-judges : goal.returns-in_err-judge_sets-clause-judges
returns-in_err-judge_sets-clause-judges c = judge_handed c.from_residual-in_err-judge_sets.result
    c.from_residual-in_err-judge_sets.ensures.1 (and_judge c.in_ok-count.ensures.gives
    (judge_stop c.in_err-judge_sets.ensures.judges))

pub returns-in_err-read_uncoded-clause-judges : goal.returns-in_err-read_uncoded-clause-judges
returns-in_err-read_uncoded-clause-judges c =
    judge_handed c.from_residual-in_err-read_uncoded.result
    c.from_residual-in_err-read_uncoded.ensures.1 (and_judge c.in_ok-count.ensures.gives
    (judge_next c.in_ok-judge_sets.ensures.judges (λ ss many.
    stop_given c.in_err-read_uncoded.ensures.gives
    c.in_err-read_uncoded.ensures.told)))

pub returns-clause-judges : goal.returns-clause-judges
returns-clause-judges c = and_judge c.in_ok-count.ensures.gives
    (judge_next c.in_ok-judge_sets.ensures.judges (λ ss many.
    and_judge c.in_ok-read_uncoded.ensures.gives (judge_done _ many)))

-- That so many sets come.
use Rattle.std.proofs.Common.{◌≡◌, arith}
use Rattle.ffv1_record.proofs.Judging.{judge_handed, no_sets, one_set_more, set_refused, all_sets}
use Rattle.ffv1_record.proofs.judge.judge_sets.Goals as goal

pub loop-index-init : goal.loop-index-init
loop-index-init c = no_sets _ _

pub returns-in_err-judge_set-clause-judges : goal.returns-in_err-judge_set-clause-judges
returns-in_err-judge_set-clause-judges c = judge_handed c.from_residual.result
    c.from_residual.ensures.1 (set_refused _ _ _ _ _ _ c.loop-index-test.true
    c.loop-index.invariant c.in_err-judge_set.ensures.judges)

pub loop-index-preserved : goal.loop-index-preserved
loop-index-preserved c = one_set_more _ _ _ _ _ c.loop-index-test.true c.loop-index.invariant
    c.in_ok-judge_set.ensures.judges

pub returns-clause-judges : goal.returns-clause-judges
returns-clause-judges c =
    let end : c.loop-index._index ≡ c.args.count = omega arith in
    all_sets _ _ _ (rw end at c.loop-index.invariant)

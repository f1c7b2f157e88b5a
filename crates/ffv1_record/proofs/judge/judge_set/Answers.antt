-- That the set that comes next is one.
use Rattle.std.proofs.Common.{arith}
use Rattle.ffv1_record.proofs.Judging.{judge_next, judge_stop, judge_handed, judge_done}
use Rattle.ffv1_record.proofs.Judging.{judge_required, judge_refused}
use Rattle.ffv1_record.proofs.TableRuns.{few_contexts, many_contexts}
use Rattle.ffv1_record.proofs.judge.judge_set.Goals as goal

pub returns-in_err-first-clause-judges : goal.returns-in_err-first-clause-judges
returns-in_err-first-clause-judges c = judge_handed c.from_residual.result c.from_residual.ensures.1
    (judge_stop c.in_err-first.ensures.judges)

pub returns-in_err-second-clause-judges : goal.returns-in_err-second-clause-judges
returns-in_err-second-clause-judges c = judge_handed c.from_residual-in_err-second.result
    c.from_residual-in_err-second.ensures.1 (judge_next c.in_ok-first.ensures.judges (λ a is_a.
    judge_stop c.in_err-second.ensures.judges))

pub returns-in_err-third-clause-judges : goal.returns-in_err-third-clause-judges
returns-in_err-third-clause-judges c = judge_handed c.from_residual-in_err-third.result
    c.from_residual-in_err-third.ensures.1 (judge_next c.in_ok-first.ensures.judges (λ a is_a.
    judge_next c.in_ok-second.ensures.judges (λ b is_b. judge_stop c.in_err-third.ensures.judges)))

pub returns-in_err-fourth-clause-judges : goal.returns-in_err-fourth-clause-judges
returns-in_err-fourth-clause-judges c = judge_handed c.from_residual-in_err-fourth.result
    c.from_residual-in_err-fourth.ensures.1 (judge_next c.in_ok-first.ensures.judges (λ a is_a.
    judge_next c.in_ok-second.ensures.judges (λ b is_b. judge_next c.in_ok-third.ensures.judges
    (λ x is_x. judge_stop c.in_err-fourth.ensures.judges))))

pub returns-in_err-fifth-clause-judges : goal.returns-in_err-fifth-clause-judges
returns-in_err-fifth-clause-judges c = judge_handed c.from_residual-in_err-fifth.result
    c.from_residual-in_err-fifth.ensures.1 (judge_next c.in_ok-first.ensures.judges (λ a is_a.
    judge_next c.in_ok-second.ensures.judges (λ b is_b. judge_next c.in_ok-third.ensures.judges
    (λ x is_x. judge_next c.in_ok-fourth.ensures.judges
    (λ d is_d. judge_stop c.in_err-fifth.ensures.judges)))))

pub returns-then-contexts_by-gt32768-clause-judges :
    goal.returns-then-contexts_by-gt32768-clause-judges
returns-then-contexts_by-gt32768-clause-judges c = judge_next c.in_ok-first.ensures.judges (λ a is_a.
    judge_next c.in_ok-second.ensures.judges (λ b is_b. judge_next c.in_ok-third.ensures.judges
    (λ x is_x. judge_next c.in_ok-fourth.ensures.judges
    (λ d is_d. judge_next c.in_ok-fifth.ensures.judges (λ e is_e.
    let count = c.contexts_by.ensures a b x d e is_a is_b is_x is_d is_e in
    judge_refused _ _ _ _ _ _ (many_contexts _ (omega (arith, count))))))))

pub returns-clause-judges : goal.returns-clause-judges
returns-clause-judges c = judge_next c.in_ok-first.ensures.judges (λ a is_a.
    judge_next c.in_ok-second.ensures.judges (λ b is_b. judge_next c.in_ok-third.ensures.judges
    (λ x is_x. judge_next c.in_ok-fourth.ensures.judges
    (λ d is_d. judge_next c.in_ok-fifth.ensures.judges (λ e is_e.
    let count = c.contexts_by.ensures a b x d e is_a is_b is_x is_d is_e in
    judge_required _ _ _ _ _ _ _ (few_contexts _ (omega (arith, count))) (judge_done _ tt))))))

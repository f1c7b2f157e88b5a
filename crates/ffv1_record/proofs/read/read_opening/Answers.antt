-- Version, micro_version, coder_type and deltas.
use Rattle.ffv1_record.proofs.CallsGive.{and_then, handed, stop, one_coder, two_kind, two_coder}
use Rattle.ffv1_record.proofs.CallsGive.{rice_coder}
use Rattle.ffv1_record.proofs.CallsGive.{no_coder, stopped_coder}
use Rattle.ffv1_record.proofs.read.read_opening.Goals as goal

pub returns-in_err-number_within-clause-gives : goal.returns-in_err-number_within-clause-gives
returns-in_err-number_within-clause-gives c = handed c.from_residual.result
    c.from_residual.ensures.1 (stop c.in_err-number_within.ensures.gives)

pub returns-in_err-number_within-2-clause-gives : goal.returns-in_err-number_within-2-clause-gives
returns-in_err-number_within-2-clause-gives c = handed c.from_residual-in_err-number_within-2.result
    c.from_residual-in_err-number_within-2.ensures.1
    (and_then c.in_ok-number_within.ensures.gives (stop c.in_err-number_within-2.ensures.gives))

pub returns-in_err-kind-clause-gives : goal.returns-in_err-kind-clause-gives
returns-in_err-kind-clause-gives c =
    handed c.from_residual-in_err-kind.result c.from_residual-in_err-kind.ensures.1
    (and_then c.in_ok-number_within.ensures.gives
    (and_then c.in_ok-number_within-2.ensures.gives (stop (rw c.least_coder-least.ensures.value at c.in_err-kind.ensures.gives))))

pub returns-then-kind-eq0-clause-gives : goal.returns-then-kind-eq0-clause-gives
returns-then-kind-eq0-clause-gives c =
    and_then c.in_ok-number_within.ensures.gives
    (and_then c.in_ok-number_within-2.ensures.gives
    (and_then (rw c.least_coder-least.ensures.value at c.in_ok-kind.ensures.gives)
    (rice_coder _ _ c.if-kind-eq0.true)))

pub returns-then-kind-eq1-clause-gives : goal.returns-then-kind-eq1-clause-gives
returns-then-kind-eq1-clause-gives c =
    and_then c.in_ok-number_within.ensures.gives
    (and_then c.in_ok-number_within-2.ensures.gives
    (and_then (rw c.least_coder-least.ensures.value at c.in_ok-kind.ensures.gives) (one_coder _ _ c.if-kind-eq1.true)))

pub returns-in_err-deltas-clause-gives : goal.returns-in_err-deltas-clause-gives
returns-in_err-deltas-clause-gives c =
    let two = two_kind _ c.in_ok-kind.ensures.most c.if-kind-eq0.false c.if-kind-eq1.false in
    handed c.from_residual-in_err-deltas.result c.from_residual-in_err-deltas.ensures.1
    (and_then c.in_ok-number_within.ensures.gives
    (and_then c.in_ok-number_within-2.ensures.gives
    (and_then (rw c.least_coder-least.ensures.value at c.in_ok-kind.ensures.gives) (stopped_coder _ _ _ _ two
    c.in_err-deltas.ensures.gives))))

pub returns-in_default-clause-gives : goal.returns-in_default-clause-gives
returns-in_default-clause-gives c =
    let two = two_kind _ c.in_ok-kind.ensures.most c.if-kind-eq0.false c.if-kind-eq1.false in
    and_then c.in_ok-number_within.ensures.gives
    (and_then c.in_ok-number_within-2.ensures.gives
    (and_then (rw c.least_coder-least.ensures.value at c.in_ok-kind.ensures.gives) (no_coder _ _ _ _ two c.in_ok-deltas.ensures.gives
    c.in_default.ensures.refused.1)))

pub returns-clause-gives : goal.returns-clause-gives
returns-clause-gives c =
    let two = two_kind _ c.in_ok-kind.ensures.most c.if-kind-eq0.false c.if-kind-eq1.false in
    and_then c.in_ok-number_within.ensures.gives
    (and_then c.in_ok-number_within-2.ensures.gives
    (and_then (rw c.least_coder-least.ensures.value at c.in_ok-kind.ensures.gives) (two_coder _ _ _ _ _ two c.in_ok-deltas.ensures.gives
    c.in-Ok.ensures.ok)))

-- Makes all states fresh.
use Rattle.std.proofs.Common.{sym, subst, arith}
use Rattle.ffv1_rice.specs.States.{IsState}
use Rattle.ffv1_rice.proofs.States.{is_fresh}
use Rattle.ffv1_rice.proofs.kept.reset.Goals as goal

pub returns-clause-states : goal.returns-clause-states
returns-clause-states c = λ depth contexts some long. record {
  each = λ k less. subst (IsState depth) (sym (c.loop-context.invariant k
      (omega (arith, long, less)))) (is_fresh depth some);
}

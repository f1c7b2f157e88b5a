use Rattle.std.proofs.Common.{◌≡◌, ◌<◌, ℕ}
use Rattle.ffv1_rice.specs.States.{fresh}
use Rattle.ffv1_rice.specs.Kept.{state_at}
use Rattle.ffv1_rice.proofs.kept.reset.Given as goal

abbrev pub invariant-loop-context : goal.invariant-loop-context
invariant-loop-context l = (k : ℕ) → k < l.context → state_at l.states k ≡ fresh

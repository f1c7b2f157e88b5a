use Rattle.std.specs.Prelude.{ℕ, ◌<◌}
use Rattle.std.specs.Int.{IsGcd}
use Rattle.ffv1_info.proofs.stream_facts.common.Given as goal

abbrev pub invariant-loop-y : goal.invariant-loop-y
invariant-loop-y l = ((g : ℕ) → IsGcd l.x l.y g → IsGcd l.a l.b g) × (0 < l.x)

abbrev pub decreases-loop-y : goal.decreases-loop-y
decreases-loop-y l = l.y

use Rattle.std.proofs.Common.{ℕ, ◌<◌}
use Rattle.ffv1_range.specs.Table.{IsTable}
use Rattle.ffv1_range.proofs.table.least_floor.Given as goal

abbrev pub invariant-loop-floor : goal.invariant-loop-floor
invariant-loop-floor l = (other : ℕ) → other < l.floor → IsTable other l.one → ⊥

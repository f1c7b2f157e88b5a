use Rattle.std.proofs.Common.{ℕ, ◌+◌, ◌<◌, ◌≤◌, get_or}
use Rattle.ffv1_range.proofs.table.is_floor.Given as goal

abbrev pub invariant-loop-state : goal.invariant-loop-state
invariant-loop-state l = record {
  least : (k : ℕ) → l.floor ≤ k → k < l.state → l.floor ≤ get_or l.one k 0;
  most : (k : ℕ) → l.floor ≤ k → k < l.state → get_or l.one k 0 + l.floor ≤ 256;
}

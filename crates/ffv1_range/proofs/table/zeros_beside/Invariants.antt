use Rattle.std.proofs.Common.{◌≡◌, ℕ, ◌-◌, ◌<◌, length, get_or}
use Rattle.ffv1_range.proofs.table.zeros_beside.Given as goal

abbrev pub invariant-loop-state : goal.invariant-loop-state
invariant-loop-state l = record {
  long : length l.zero ≡ 256;
  each : (k : ℕ) → 0 < k → k < l.state → 0 < get_or l.one (256 - k) 0 → get_or l.zero k 0 ≡ 256 -
      get_or l.one (256 - k) 0;
}

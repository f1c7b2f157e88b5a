use Rattle.std.proofs.Common.{◌≡◌, ℕ, ◌+◌, ◌*◌, ◌<◌, length, get_or}
use Rattle.ffv1_range.proofs.table.both.Given as goal

abbrev pub invariant-loop-state : goal.invariant-loop-state
invariant-loop-state l = record {
  long : length l.pairs ≡ 256;
  each : (k : ℕ) → k < l.state → get_or l.pairs k 0 ≡ get_or l.one k 0 + 256 * get_or l.zero k 0;
}

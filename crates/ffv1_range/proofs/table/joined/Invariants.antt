use Rattle.std.proofs.Common.{◌≡◌, ℕ, ◌+◌, ◌<◌, length, get_or}
use Rattle.ffv1_range.proofs.table.joined.Given as goal

abbrev pub invariant-loop-state : goal.invariant-loop-state
invariant-loop-state l = record {
  long : length l.next ≡ 512;
  zeros : (k : ℕ) → k < l.state → get_or l.next k 0 ≡ get_or l.zero k 0;
  ones : (k : ℕ) → k < l.state → get_or l.next (256 + k) 0 ≡ get_or l.one k 0;
}

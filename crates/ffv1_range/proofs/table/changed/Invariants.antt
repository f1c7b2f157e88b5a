use Rattle.std.proofs.Common.{◌≡◌, ◌≢◌, ℕ, ◌+◌, ◌<◌, length, get_or, pos, negsuc}
use Rattle.ffv1_range.specs.Deltas.{entry_of, byte_of}
use Rattle.ffv1_range.proofs.table.changed.Given as goal

abbrev pub invariant-loop-k : goal.invariant-loop-k
invariant-loop-k l = record {
  long : length l.one ≡ 256;
  sound : (k : ℕ) → k < l.k → get_or l.deltas k (pos 0) ≢ negsuc 2147483647;
  entries : (state : ℕ) → state < l.k + 1 → get_or l.one state 0 ≡ byte_of
      (entry_of l.deltas state);
}

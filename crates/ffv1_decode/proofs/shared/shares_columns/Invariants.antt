use Rattle.std.proofs.Common.{◌≡◌, ℕ, ◌<◌}
use Rattle.ffv1_slice.specs.Grid.{across, shared_of}
use Rattle.ffv1_decode.proofs.shared.shares_columns.Given as goal

abbrev pub invariant-loop-k : goal.invariant-loop-k
invariant-loop-k l = (j : ℕ) → j < l.k → shared_of (across l.grid 1) j ≡ 0

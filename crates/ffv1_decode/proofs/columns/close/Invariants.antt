use Rattle.std.proofs.Common.{◌≡◌, ◌<◌, ℕ, None}
use Rattle.ffv1_decode.specs.Internal.Tied.{column_at}
use Rattle.ffv1_decode.proofs.columns.close.Given as goal

abbrev pub invariant-loop-k : goal.invariant-loop-k
invariant-loop-k l = (k : ℕ) → k < l.k → (column_at l.columns k).parked ≡ None

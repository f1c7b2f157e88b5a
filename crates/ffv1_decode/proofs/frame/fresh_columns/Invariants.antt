use Rattle.std.proofs.Common.{◌≡◌, length}
use Rattle.std.specs.Prelude.{vec_capacity}
use Rattle.ffv1_decode.proofs.frame.fresh_columns.Given as goal

abbrev pub invariant-loop-k : goal.invariant-loop-k
invariant-loop-k g l =
    (length l.columns.items ≡ l.k)
    × (vec_capacity l.columns ≡ l.count)

use Rattle.std.proofs.Common.{◌≡◌, length}
use Rattle.std.specs.Prelude.{vec_capacity}
use Rattle.ffv1_slice.proofs.spans.fresh_offsets.Given as goal

abbrev pub invariant-loop : goal.invariant-loop
invariant-loop g l =
    (length l.offsets.items ≡ l.counter)
    × (vec_capacity l.offsets ≡ l.count)

use Rattle.std.proofs.Common.{◌≡◌, length}
use Rattle.std.specs.Prelude.{vec_capacity}
use Rattle.ffv1_decode.proofs.frame.copies.Given as goal

abbrev pub invariant-loop : goal.invariant-loop
invariant-loop g l =
    (length l.copies.items ≡ l.counter)
    × (vec_capacity l.copies ≡ l.count)

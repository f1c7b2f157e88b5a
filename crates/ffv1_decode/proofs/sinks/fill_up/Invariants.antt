use Rattle.std.proofs.Common.{◌≡◌, ◌++◌, replicate}
use Rattle.std.specs.Vec.{vec_capacity}
use Rattle.ffv1_decode.proofs.sinks.fill_up.Given as goal

abbrev pub invariant-loop : goal.invariant-loop
invariant-loop g l =
    (l.plane.items ≡ l.initial.plane.items ++ replicate l.counter 0)
    × (vec_capacity l.plane ≡ vec_capacity l.initial.plane)

use Rattle.std.proofs.Common.{◌≡◌, ◌++◌, replicate}
use Rattle.std.specs.Vec.{vec_capacity}
use Rattle.ffv1_reads.proofs.bytes.push_zeros.Given as goal

abbrev pub invariant-loop : goal.invariant-loop
invariant-loop g l =
    (l.bytes.items ≡ l.initial.bytes.items ++ replicate l.counter 0)
    × (vec_capacity l.bytes ≡ vec_capacity l.initial.bytes)

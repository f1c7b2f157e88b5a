use Rattle.std.proofs.Common.{◌≡◌, length, take}
use Rattle.std.specs.Vec.{vec_capacity}
use Rattle.ffv1_encode.proofs.frame.bounded.Given as goal

abbrev pub invariant-loop-byte : goal.invariant-loop-byte
invariant-loop-byte g l =
    (l.exact.items ≡ take l.byte-index l.fn.frame.items)
    × (vec_capacity l.exact ≡ length l.fn.frame.items)

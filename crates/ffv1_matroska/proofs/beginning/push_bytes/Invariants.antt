use Rattle.std.proofs.Common.{◌≡◌, ◌++◌, take}
use Rattle.std.specs.Vec.{vec_capacity}
use Rattle.ffv1_matroska.proofs.beginning.push_bytes.Given as goal

abbrev pub invariant-loop-byte : goal.invariant-loop-byte
invariant-loop-byte g l =
    (l.config.items ≡ l.initial.config.items ++ take l.byte-index l.bytes)
    × (vec_capacity l.config ≡ vec_capacity l.initial.config)

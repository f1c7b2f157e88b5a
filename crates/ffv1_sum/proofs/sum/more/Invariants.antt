use Rattle.std.specs.Prelude.{fold}
use Rattle.std.proofs.Common.{◌≡◌, ◌+◌, ◌*◌, ◌/◌, length, take}
use Rattle.ffv1_sum.specs.Sum.{byte_step}
use Rattle.ffv1_sum.proofs.sum.more.Given as goal

abbrev pub invariant-loop-block : goal.invariant-loop-block
invariant-loop-block l = l.sum ≡ fold byte_step l.fn.sum (take (8 * l.block-index) l.bytes)

abbrev pub invariant-loop-byte : goal.invariant-loop-byte
invariant-loop-byte l = l.sum ≡ fold byte_step l.fn.sum
    (take (length l.bytes / 8 * 8 + l.byte-index) l.bytes)

use Rattle.std.proofs.Common.{◌≡◌, ◌+◌, ◌*◌, ◌/◌, ◌^◌, length}
use Rattle.ffv1_record.specs.Parity.{divided}
use Rattle.ffv1_range.specs.Codes.{value}
use Rattle.ffv1_record.proofs.remainder.parity.Given as goal

abbrev pub invariant-loop-block : goal.invariant-loop-block
invariant-loop-block l = l.remainder ≡ divided (8 * (16 * l.block-index))
    (value l.bytes (16 * l.block-index) * 2 ^ 32)

abbrev pub invariant-loop-byte : goal.invariant-loop-byte
invariant-loop-byte l =
    l.remainder ≡ divided (8 * (length l.bytes / 16 * 16 + l.byte-index))
    (value l.bytes (length l.bytes / 16 * 16 + l.byte-index) * 2 ^ 32)

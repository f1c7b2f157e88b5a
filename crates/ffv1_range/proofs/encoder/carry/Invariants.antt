use Rattle.std.proofs.Common.{◌≡◌, ◌+◌, ◌-◌, ◌^◌, ◌≤◌, length}
use Rattle.ffv1_range.specs.Codes.{value, AreBytes}
use Rattle.ffv1_range.proofs.encoder.carry.Given as goal

abbrev pub invariant-loop-at : goal.invariant-loop-at
invariant-loop-at l = record {
  bytes_fit : AreBytes l.bytes;
  in_bytes : l.at ≤ length l.bytes;
  carried : value l.bytes (length l.bytes) + 256 ^ (length l.bytes - l.at) ≡ value l.fn.bytes
      (length l.fn.bytes) + 1;
}

abbrev pub decreases-loop-at : goal.decreases-loop-at
decreases-loop-at l = l.at

-- Adds one to the number that the bytes are.
use Rattle.std.proofs.Common.{arith, length-set, ◌-◌}
use Rattle.ffv1_range.proofs.Values.{carry_stop, carry_step}
use Rattle.ffv1_range.proofs.EmittedBytes.{bytes-set}
use Rattle.ffv1_range.proofs.encoder.carry.Goals as goal

pub returns-then-bytes-at-lt255-clause-carried : goal.returns-then-bytes-at-lt255-clause-carried
returns-then-bytes-at-lt255-clause-carried c =
    carry_stop _ _ _ (omega arith) c.loop-at.invariant.in_bytes c.loop-at.invariant.carried

pub loop-at-preserved : goal.loop-at-preserved
loop-at-preserved c = record {
  bytes_fit = bytes-set _ _ _ c.loop-at.invariant.bytes_fit (omega arith);
  in_bytes = omega (arith, length-set c.loop-at.bytes (c.loop-at.at - 1) 0);
  carried = carry_step _ _ _ (omega arith) c.loop-at.invariant.in_bytes c.loop-at.invariant.carried
      (omega arith);
}

-- Writes bytes in hexadecimal, two upper-case digits each.
use Rattle.std.proofs.Common.{get_or, refl, arith}
use Rattle.ffv1_pack.proofs.Hexadecimal.{hexadecimal-more}
use Rattle.ffv1_pack.proofs.report.write_hexadecimal.Goals as goal

pub loop-x-preserved : goal.loop-x-preserved
loop-x-preserved c =
    hexadecimal-more c.loop-x.digits c.args.bytes.now c.loop-x.x
    (get_or c.args.bytes.now c.loop-x.x 0) _ _ (omega arith) (omega arith) (omega arith) refl
    c.digit.ensures c.digit-in-loop-x.ensures c.loop-x.invariant

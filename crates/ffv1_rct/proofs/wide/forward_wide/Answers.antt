-- The transform of a line of samples of 16 bits in place (RFC 9043, 3.7.2), as `forward_words` has
-- it for fewer: Y is below 2^16, and Cb and Cr below 2^17.
use Rattle.std.proofs.Common.{arith, refl}
use Rattle.ffv1_rct.proofs.LinesMore.{kept_more}
use Rattle.ffv1_rct.proofs.WordLines.{coded_put}
use Rattle.ffv1_rct.proofs.wide.forward_wide.Goals as goal

pub loop-x-preserved : goal.loop-x-preserved
loop-x-preserved c =
    let old = c.loop-x.invariant in
    let long = c.loop-x.auto in
    let q = c.requires in
    let is = c.coded_wide-luma.ensures 16 refl in
    record {
      coded = coded_put 16 c.args.first.now c.args.second.now c.args.third.now c.loop-x.first
          c.loop-x.second c.loop-x.third c.loop-x.x _ _ _
          (omega (arith, c.loop-x-test.true, long.first))
          (omega (arith, c.loop-x-test.true, long.second, q.second))
          (omega (arith, c.loop-x-test.true, long.third, q.third))
          old.first old.second old.third old.coded is;
      first = kept_more _ _ c.loop-x.x _ old.first;
      second = kept_more _ _ c.loop-x.x _ old.second;
      third = kept_more _ _ c.loop-x.x _ old.third;
    }

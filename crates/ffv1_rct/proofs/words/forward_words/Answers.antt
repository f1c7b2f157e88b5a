-- The transform of a line of samples of `depth` bits in place (RFC 9043, 3.7.2), from red, green
-- and blue to Y, Cb and Cr: `Y = g + floor((b - g + r - g) / 4)`, `Cb = b - g + 2^depth` and `Cr =
-- r - g + 2^depth`, so that Y is below `2^depth`, and Cb and Cr below `2^(depth+1)`.
use Rattle.std.proofs.Common.{arith}
use Rattle.ffv1_rct.proofs.LinesMore.{kept_more}
use Rattle.ffv1_rct.proofs.WordLines.{coded_put, top_is}
use Rattle.ffv1_rct.proofs.words.forward_words.Goals as goal

pub loop-x-preserved : goal.loop-x-preserved
loop-x-preserved c =
    let old = c.loop-x.invariant in
    let long = c.loop-x.auto in
    let q = c.requires in
    let is = c.coded_word-luma.ensures c.args.depth
    (top_is c.args.depth (omega (arith, q.depth))) in
    record {
      coded = coded_put c.args.depth c.args.first.now c.args.second.now c.args.third.now
          c.loop-x.first c.loop-x.second c.loop-x.third c.loop-x.x _ _ _
          (omega (arith, c.loop-x-test.true, long.first))
          (omega (arith, c.loop-x-test.true, long.second, q.second))
          (omega (arith, c.loop-x-test.true, long.third, q.third))
          old.first old.second old.third old.coded is;
      first = kept_more _ _ c.loop-x.x _ old.first;
      second = kept_more _ _ c.loop-x.x _ old.second;
      third = kept_more _ _ c.loop-x.x _ old.third;
    }

-- The colour of each place from `at` on, up to the first that has none.
use Rattle.std.proofs.Common.{arith}
use Rattle.ffv1_rct.proofs.LinesMore.{colours_more, kept_more}
use Rattle.ffv1_rct.proofs.inverse.inverse_rest.Goals as goal

pub loop-x-preserved : goal.loop-x-preserved
loop-x-preserved c =
    let long = c.loop-x.auto in
    let q = c.requires in
    let old = c.loop-x.invariant in
    record {
      filled =
          colours_more 8 c.args.line.now.y.now c.args.line.now.cb.now c.args.line.now.cr.now
          c.loop-x.r c.loop-x.g c.loop-x.b c.loop-x.x _ _ _
          (omega (arith, long.r, q.r, c.loop-x-test.true))
          (omega (arith, long.g, q.g, c.loop-x-test.true))
          (omega (arith, long.b, q.b, c.loop-x-test.true))
          old.filled c.in-Some.ensures.some;
      red = kept_more c.args.r.now c.loop-x.r c.loop-x.x _ old.red;
      green = kept_more c.args.g.now c.loop-x.g c.loop-x.x _ old.green;
      blue = kept_more c.args.b.now c.loop-x.b c.loop-x.x _ old.blue;
    }

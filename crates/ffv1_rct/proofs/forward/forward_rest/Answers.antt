-- The transform of each place from `at` on.
use Rattle.std.proofs.Common.{arith}
use Rattle.ffv1_rct.proofs.LinesMore.{coded_more}
use Rattle.ffv1_rct.proofs.forward.forward_rest.Goals as goal

pub loop-x-preserved : goal.loop-x-preserved
loop-x-preserved c =
    let long = c.loop-x.auto in
    let q = c.requires in
    coded_more 8 c.args.line.now.r.now c.args.line.now.g.now c.args.line.now.b.now c.loop-x.y
    c.loop-x.cb c.loop-x.cr c.loop-x.x _ _ _
    (omega (arith, long.y, q.y, c.loop-x-test.true))
    (omega (arith, long.cb, q.cb, c.loop-x-test.true))
    (omega (arith, long.cr, q.cr, c.loop-x-test.true))
    c.loop-x.invariant c.coded_of-luma.ensures

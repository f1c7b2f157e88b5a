-- Whether a line has these samples.
use Rattle.std.proofs.Common.{arith}
use Rattle.ffv1_pack.proofs.Compared.{same_more}
use Rattle.ffv1_pack.proofs.comparison.shows.Goals as goal

pub loop-x-preserved : goal.loop-x-preserved
loop-x-preserved c = rw c.from.ensures (same_more c.args.line.now c.args.samples.now c.loop-x.x
    c.loop-x.same (omega arith) (omega arith) c.loop-x.invariant)

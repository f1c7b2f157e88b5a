-- How many decisions of a list are 1.
use Rattle.std.proofs.Common.{arith}
use Rattle.ffv1_range.proofs.ListedSteps.{ones_next}
use Rattle.ffv1_range.proofs.encoder.batch.ones_of.Goals as goal

pub loop-step-preserved : goal.loop-step-preserved
loop-step-preserved c =
    let next = ones_next c.args.list.now c.loop-step.step-index (omega arith) in
    record {
      ones = omega arith;
      of_all = omega arith;
    }

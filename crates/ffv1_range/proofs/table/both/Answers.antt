-- Where each state goes after either decision: after a 1 in the low byte, and after a 0 in the high
-- one.
use Rattle.std.proofs.Common.{◌∙◌, length-set, arith, ◌+◌, ◌*◌}
use Rattle.ffv1_range.proofs.Standard.{pairs_next}
use Rattle.ffv1_range.proofs.table.both.Goals as goal

pub loop-state-preserved : goal.loop-state-preserved
loop-state-preserved c =
    let long = c.loop-state.invariant.long in
    let first = c.from.ensures in
    let second = c.from-in-loop-state.ensures in
    record {
      long = length-set c.loop-state.pairs c.loop-state.state
          (c.from.result + 256 * c.from-in-loop-state.result) ∙ long;
      each = pairs_next c.args.one.now c.args.zero.now c.loop-state.pairs c.loop-state.state _
          (omega arith) (omega arith) c.loop-state.invariant.each;
    }

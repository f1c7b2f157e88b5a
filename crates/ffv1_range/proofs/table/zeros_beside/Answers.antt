-- Where each state goes after a decision 0: a 0 moves a state as a 1 moves 256 less the state.
use Rattle.std.proofs.Common.{◌∙◌, length-set, arith}
use Rattle.ffv1_range.proofs.Standard.{zeros_next}
use Rattle.ffv1_range.proofs.table.zeros_beside.Goals as goal

pub loop-state-preserved : goal.loop-state-preserved
loop-state-preserved c = record {
  long = length-set c.loop-state.zero c.loop-state.state c.wrapping_neg.result ∙
      c.loop-state.invariant.long;
  each = zeros_next c.args.one.now c.loop-state.zero c.loop-state.state c.wrapping_neg.result
      (omega (arith, c.loop-state.invariant.long))
      (λ some. let negative = c.wrapping_neg.ensures in omega arith) c.loop-state.invariant.each;
}

-- The decisions of a list, with what is held back.
use Rattle.std.proofs.Common.{length, arith}
use Rattle.std.proofs.lemmas.Grind.{common_steps}
use Rattle.ffv1_range.proofs.ListedSteps.{below_at, writes_listed, grows_listed}
use Rattle.ffv1_range.proofs.Growth.{on_err}
use Rattle.ffv1_range.proofs.encoder.batch.put_each.Goals as goal

pub put_listed-requires-clause-slot : goal.put_listed-requires-clause-slot
put_listed-requires-clause-slot g c =
    let below = below_at c.args.list.now (length c.args.states.now) c.loop-step.step-index
    (omega arith) c.requires.slots in
    omega arith

pub returns-in_err-put_listed-clause-refused : goal.returns-in_err-put_listed-clause-refused
returns-in_err-put_listed-clause-refused g c =
    on_err c.from_residual.result (grows_listed _ _ _ _ _ c.args.list.now c.loop-step.step-index
    (omega arith) c.loop-step.invariant.writes c.in_err-put_listed.ensures.refused)

pub loop-step-preserved : goal.loop-step-preserved
loop-step-preserved g c =
    record {
      held = c.put_listed.ensures.held;
      marked = c.in_ok-put_listed.ensures.marked;
      few = c.in_ok-put_listed.ensures.few;
      grown = omega (arith, c.in_ok-put_listed.ensures.grown);
      writes = writes_listed _ _ _ _ _ _ _ c.args.list.now c.loop-step.step-index (omega arith)
          c.loop-step.invariant.writes c.in_ok-put_listed.ensures.writes;
    }

pub returns-clause-writes : goal.returns-clause-writes
returns-clause-writes g c = grind (arith, common_steps)

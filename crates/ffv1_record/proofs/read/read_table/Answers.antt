-- The runs of a quantisation table.
use Rattle.std.proofs.Common.{◌≡◌, ◌-◌, ◌+◌, zero, arith, refl, inr}
use Rattle.ffv1_range.specs.Standard.{standard}
use Rattle.ffv1_range.proofs.Named.{fresh_held}
use Rattle.ffv1_range.proofs.Standard.{standard as standard_table}
use Rattle.ffv1_record.proofs.CallsGive.{handed, told}
use Rattle.ffv1_record.proofs.FirstRun.{none_begun, run_begins}
use Rattle.ffv1_record.proofs.TableRuns.{table_begins, table_next_at, table_refuse_at, table_end}
use Rattle.ffv1_record.proofs.TableRuns.{run_more, run_each, all_filled}
use Rattle.ffv1_record.proofs.read.read_table.Goals as goal

pub loop-left-init : goal.loop-left-init
loop-left-init g c = record {
  held = fresh_held standard standard_table;
  filled = rw c.new-runs.ensures.items (omega arith);
  each = rw c.new-runs.ensures.items refl;
  leads = rw c.new-runs.ensures.items (table_begins _);
  begun = none_begun _;
}

pub returns-in_err-less-clause-gives : goal.returns-in_err-less-clause-gives
returns-in_err-less-clause-gives g c = handed c.from_residual.result c.from_residual.ensures.1
    (table_refuse_at _ c.loop-left.left _ _ _ _ _ _ _ _ (omega arith) c.loop-left.invariant.leads
    c.in_err-less.ensures.gives)

pub loop-left-preserved : goal.loop-left-preserved
loop-left-preserved g c =
    let less = c.in_ok-less.ensures.most in
    let rest : c.loop-left.left - (c.in_ok-less.less + 1) + (c.in_ok-less.less + 1) ≡
    c.loop-left.left = omega arith in
    record {
      held = c.in_ok-less.ensures.held;
      filled = rw c.in_ok-push.ensures.items (run_more c.loop-left.runs.items _ c.loop-left.left _
          c.loop-left.invariant.filled rest);
      each = rw c.in_ok-push.ensures.items (run_each c.loop-left.runs.items _
          c.loop-left.invariant.each (omega arith));
      leads = rw c.in_ok-push.ensures.items (table_next_at c.loop-left.left c.in_ok-less.less _ _ _
          _ _ _ _ _ (omega arith) rest refl c.loop-left.invariant.leads c.in_ok-less.ensures.gives);
      begun = inr (run_begins _ _ _ _ _ _ _ c.loop-left.invariant.begun c.in_ok-less.ensures.gives);
    }

pub returns-clause-gives : goal.returns-clause-gives
returns-clause-gives g c =
    let end : c.loop-left.left ≡ zero = omega arith in
    table_end _ c.loop-left.runs _ _ _ (rw end at c.loop-left.invariant.leads)

pub returns-clause-filled : goal.returns-clause-filled
returns-clause-filled g c = all_filled c.loop-left.runs.items c.loop-left.left
    c.loop-left.invariant.filled (omega arith) c.loop-left.invariant.each

pub returns-in_err-push-clause-memory : goal.returns-in_err-push-clause-memory
returns-in_err-push-clause-memory g c = told _ c.from_residual-in_err-push.result
    c.from_residual-in_err-push.ensures.1 (λ memory. run_begins _ _ _ _ _ _ _
    c.loop-left.invariant.begun c.in_ok-less.ensures.gives)

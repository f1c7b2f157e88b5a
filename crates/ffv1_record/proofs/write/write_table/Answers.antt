-- The runs of a quantisation table.
use Rattle.std.proofs.Common.{◌≡◌, length, take, arith, take_all}
use Rattle.ffv1_range.specs.Standard.{standard}
use Rattle.ffv1_range.proofs.Named.{fresh_held}
use Rattle.ffv1_range.proofs.Standard.{standard as standard_table}
use Rattle.ffv1_record.proofs.EncoderSteps.{running_none, running_next, running_end, taken_more}
use Rattle.ffv1_record.proofs.write.write_table.Goals as goal

pub loop-k-init : goal.loop-k-init
loop-k-init g c = record {
  held = fresh_held standard standard_table;
  running = running_none _;
}

pub loop-k-preserved : goal.loop-k-preserved
loop-k-preserved g c = record {
  held = c.in_ok-run.ensures.held;
  running = rw (taken_more c.args.runs.now c.loop-k.k 0 c.loop-k-test.true)
      (running_next _ _ _ _ _ _ _ c.loop-k.invariant.running
      (rw c.from.ensures at c.in_ok-run.ensures.ok));
}

pub returns-clause-ok : goal.returns-clause-ok
returns-clause-ok g c =
    let end : c.loop-k.k ≡ length c.args.runs.now = omega arith in
    let all : take (length c.args.runs.now) c.args.runs.now ≡ c.args.runs.now = take_all
    (length c.args.runs.now) c.args.runs.now (omega arith) in
    running_end _ _ _ _ (rw (end, all) at c.loop-k.invariant.running)

-- The state transition table of a configuration that is accepted in a profile with a depth of at
-- most `most`.
use Rattle.std.proofs.Common.{sym}
use Rattle.ffv1_record.proofs.Checks.{depth_bounds, depth_up_to}
use Rattle.ffv1_record.proofs.Edges.{passes_wide}
use Rattle.ffv1_record.proofs.config.Config.judged.Goals as goal

pub returns-in-Ok-clause-passes : goal.returns-in-Ok-clause-passes
returns-in-Ok-clause-passes g c = c.in-Ok.ensures.passes c.args.self.now.sets (sym c.len.ensures.count)

pub returns-in-Ok-clause-accepted : goal.returns-in-Ok-clause-accepted
returns-in-Ok-clause-accepted g c =
    let deep = c.in-Ok.ensures.depth in
    record {
      depth = depth_up_to c.args.most 16 c.args.depth deep
          (depth_bounds c.args.most c.args.depth deep).1;
      passes = passes_wide c.args.profile _ (returns-in-Ok-clause-passes g c);
      table = c.in-Ok.ensures.coder;
      closed = c.in-Ok.ensures.closed;
      writable = c.in-Ok.ensures.writable;
      sets = c.as_slice-sets.ensures.sets;
    }

pub returns-in-Err-clause-refused : goal.returns-in-Err-clause-refused
returns-in-Err-clause-refused g c = c.in-Err.ensures.refused c.args.self.now.sets (sym c.len.ensures.count)

use Rattle.std.proofs.Common.{◌≤◌}
use Rattle.ffv1_slice.specs.Grid.{across, division_of, begin_of}
use Rattle.ffv1_decode.proofs.finish.column_of.Given as goal

abbrev pub invariant-loop-k : goal.invariant-loop-k
invariant-loop-k g l = begin_of (across (division_of l.frame.checked.now.configuration) 0) l.k ≤ l.x

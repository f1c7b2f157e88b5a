use Rattle.std.proofs.Common.{◌≤◌, ◌-◌, length}
use Rattle.ffv1_rct.specs.Lines.{AreCoded}
use Rattle.ffv1_rct.proofs.forward.forward_line.Given as goal

abbrev pub invariant-loop-at : goal.invariant-loop-at
invariant-loop-at l = record {
  inside : l.at ≤ length l.r;
  done : AreCoded l.at l.r l.g l.b l.y l.cb l.cr;
}

abbrev pub decreases-loop-at : goal.decreases-loop-at
decreases-loop-at l = length l.r - l.at

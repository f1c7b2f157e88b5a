use Rattle.std.proofs.Common.{◌≤◌, ◌-◌, length}
use Rattle.ffv1_rct.specs.Lines.{AreOnlyColours, IsKeptFrom}
use Rattle.ffv1_rct.proofs.inverse.inverse_line.Given as goal

abbrev pub invariant-loop-at : goal.invariant-loop-at
invariant-loop-at l = record {
  inside : l.at ≤ length l.y;
  done : AreOnlyColours l.at l.y l.cb l.cr l.r l.g l.b;
  red : IsKeptFrom l.at l.initial.r l.r;
  green : IsKeptFrom l.at l.initial.g l.g;
  blue : IsKeptFrom l.at l.initial.b l.b;
}

abbrev pub decreases-loop-at : goal.decreases-loop-at
decreases-loop-at l = length l.y - l.at

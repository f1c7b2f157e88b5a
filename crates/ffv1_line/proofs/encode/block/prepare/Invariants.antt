use Rattle.std.proofs.Common.{◌-◌, ◌≤◌}
use Rattle.ffv1_line.specs.Internal.Parts.{ArePrepared}
use Rattle.ffv1_line.proofs.encode.block.prepare.Given as goal

abbrev pub invariant-loop-at : goal.invariant-loop-at
invariant-loop-at g l = record {
  some : l.at ≤ l.part.count;
  block : ArePrepared l.part l.at l.block.contexts l.block.residuals;
}

abbrev pub decreases-loop-at : goal.decreases-loop-at
decreases-loop-at g l = l.part.count - l.at

use Rattle.ffv1_rct.specs.Lines.{AreOnlyColours, IsKeptFrom}
use Rattle.ffv1_rct.proofs.inverse.inverse_rest.Given as goal

abbrev pub invariant-loop-x : goal.invariant-loop-x
invariant-loop-x l = record {
  filled : AreOnlyColours l.x l.y l.cb l.cr l.r l.g l.b;
  red : IsKeptFrom l.x l.initial.r l.r;
  green : IsKeptFrom l.x l.initial.g l.g;
  blue : IsKeptFrom l.x l.initial.b l.b;
}

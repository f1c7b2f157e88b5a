use Rattle.ffv1_rct.specs.Lines.{AreCoded}
use Rattle.ffv1_rct.proofs.forward.forward_rest.Given as goal

abbrev pub invariant-loop-x : goal.invariant-loop-x
invariant-loop-x l = AreCoded l.x l.r l.g l.b l.y l.cb l.cr

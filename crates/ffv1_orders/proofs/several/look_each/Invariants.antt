use Rattle.ffv1_orders.specs.Looked.{LooksNamed}
use Rattle.ffv1_orders.proofs.Looked.{SoFar}
use Rattle.ffv1_orders.proofs.several.look_each.Given as goal

abbrev pub invariant-loop-path : goal.invariant-loop-path
invariant-loop-path g l = SoFar (LooksNamed g.L.Looks.names g.L.Looks.looks) l.initial.looker
    l.paths l.path-index l.status l.looker

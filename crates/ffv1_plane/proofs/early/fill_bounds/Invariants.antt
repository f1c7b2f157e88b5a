use Rattle.ffv1_plane.specs.Early.{AreBounds}
use Rattle.ffv1_plane.proofs.early.fill_bounds.Given as goal

abbrev pub invariant-loop-i : goal.invariant-loop-i
invariant-loop-i l = AreBounds l.tl l.t l.least l.most l.i

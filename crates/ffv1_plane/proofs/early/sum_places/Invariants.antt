use Rattle.ffv1_plane.specs.Early.{AreEarly}
use Rattle.ffv1_plane.proofs.early.sum_places.Given as goal

abbrev pub invariant-loop-i : goal.invariant-loop-i
invariant-loop-i g l = AreEarly l.set l.two l.one l.from l.sum l.i

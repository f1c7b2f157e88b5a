use Rattle.std.proofs.Common.{◌≡◌, take}
use Rattle.ffv1_pack.proofs.plane.widen.Given as goal

abbrev pub invariant-loop-x : goal.invariant-loop-x
invariant-loop-x l = take l.x l.row ≡ take l.x l.samples

use Rattle.std.proofs.Common.{◌≡◌, take, IsTrue, ◌↔◌}
use Rattle.ffv1_codec.specs.Picture.{planes_of}
use Rattle.ffv1_pack.proofs.verifying.are_same.Given as goal

abbrev pub invariant-loop-plane : goal.invariant-loop-plane
invariant-loop-plane g l = IsTrue l.same ↔ (take l.plane (planes_of l.planes) ≡ take l.plane
    (planes_of l.others))

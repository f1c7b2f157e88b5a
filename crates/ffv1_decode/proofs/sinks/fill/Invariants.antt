use Rattle.std.proofs.Common.{◌≡◌, ◌<◌, ℕ, length}
use Rattle.ffv1_decode.specs.Filled.{filled_planes, plane_size}
use Rattle.ffv1_decode.specs.Internal.Begun.{AreBegun}
use Rattle.ffv1_frame.specs.Picture.{plane, planes_of}
use Rattle.ffv1_decode.proofs.sinks.fill.Given as goal

abbrev pub invariant-loop-plane : goal.invariant-loop-plane
invariant-loop-plane g l =
    AreBegun l.grid l.planes
    × (filled_planes l.grid (planes_of l.planes) ≡ filled_planes l.grid
    (planes_of l.initial.planes))
    × ((p : ℕ) → p < l.plane → length (plane (planes_of l.planes) p) ≡ plane_size l.grid p)

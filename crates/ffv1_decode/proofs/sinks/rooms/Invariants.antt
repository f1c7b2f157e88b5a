use Rattle.std.proofs.Common.{◌≡◌, ◌<◌, ℕ, [], get_or, length}
use Rattle.std.specs.Vec.{vec_capacity}
use Rattle.std.specs.declared.vec.Vec.{Vec}
use Rattle.ffv1_decode.specs.Filled.{plane_size}
use Rattle.ffv1_frame.specs.Picture.{plane, planes_of}
use Rattle.ffv1_decode.proofs.sinks.rooms.Given as goal

abbrev pub invariant-loop-plane : goal.invariant-loop-plane
invariant-loop-plane g l =
    (length l.planes.items ≡ l.plane)
    × ((p : ℕ) → p < l.plane → plane (planes_of l.planes.items) p ≡ [])
    × ((p : ℕ) (v : Vec ℕ _) → p < l.plane → vec_capacity (get_or l.planes.items p v)
    ≡ plane_size l.grid p)

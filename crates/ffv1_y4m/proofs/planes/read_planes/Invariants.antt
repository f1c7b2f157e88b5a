use Rattle.std.proofs.Common.{◌≡◌, length, drop}
use Rattle.ffv1_y4m.specs.State.{HasRoom, samples_of}
use Rattle.ffv1_y4m.specs.VideoHead.{plane_bytes}
use Rattle.ffv1_y4m.proofs.PlaneByPlane.{Partway}
use Rattle.ffv1_y4m.proofs.planes.read_planes.Given as goal

abbrev pub invariant-loop-plane : (g : goal.Over) → goal.Live-loop-plane g → Type 0
invariant-loop-plane g l =
    (length l.planes.items ≡ length (plane_bytes l.depth l.head))
    × (g.R.ByteIn.failures l.input ≡ g.R.ByteIn.failures l.initial.input)
    × Partway l.depth (plane_bytes l.depth l.head) (g.R.ByteIn.remaining l.initial.input)
    (g.R.ByteIn.remaining l.input) l.plane (samples_of l.planes.items)
    × (HasRoom (plane_bytes l.depth l.head) l.fn.planes.items → HasRoom
    (drop l.plane (plane_bytes l.depth l.head)) (drop l.plane l.planes.items))

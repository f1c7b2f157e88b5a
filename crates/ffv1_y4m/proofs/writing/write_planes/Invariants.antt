use Rattle.std.proofs.Common.{◌≡◌, take, flat_map}
use Rattle.std.specs.Io.KnownBytes.{Appends}
use Rattle.ffv1_y4m.proofs.writing.write_planes.Given as goal

abbrev pub invariant-loop-plane : goal.invariant-loop-plane
invariant-loop-plane g l =
    Appends (g.W.ByteOut.contents l.initial.output) (g.W.ByteOut.contents l.output)
    (flat_map (λ plane. plane.items) (take l.plane-index l.planes))
    × (g.W.ByteOut.failures l.output ≡ g.W.ByteOut.failures l.initial.output)

use Rattle.std.proofs.Common.{◌≡◌, take, flat_map}
use Rattle.std.specs.Io.KnownBytes.{Appends}
use Rattle.ffv1_y4m.proofs.writing.write_parts.Given as goal

abbrev pub invariant-loop-part : goal.invariant-loop-part
invariant-loop-part g l =
    Appends (g.W.ByteOut.contents l.initial.output) (g.W.ByteOut.contents l.output)
    (flat_map (λ part. part.now) (take l.part-index l.parts))
    × (g.W.ByteOut.failures l.output ≡ g.W.ByteOut.failures l.initial.output)

use Rattle.std.proofs.Common.{◌≡◌, ◌*◌, take}
use Rattle.std.specs.Io.KnownBytes.{Appends}
use Rattle.ffv1_matroska.specs.Written.{cues_from}
use Rattle.ffv1_matroska.proofs.write.cues.put_cues.Given as goal

abbrev pub invariant-loop-place : goal.invariant-loop-place
invariant-loop-place g l =
    (l.number ≡ l.place-index * l.stride)
    × (g.W.ByteOut.failures l.out ≡ g.W.ByteOut.failures l.initial.out)
    × Appends (g.W.ByteOut.contents l.initial.out) (g.W.ByteOut.contents l.out)
    (cues_from 0 l.stride (take l.place-index l.places))

use Rattle.std.proofs.Common.{◌≡◌, take, flat_map}
use Rattle.std.specs.Io.KnownBytes.{Appends}
use Rattle.ffv1_avi.specs.Written.{frame_chunk}
use Rattle.ffv1_avi.proofs.write.put_movi.Given as goal

abbrev pub invariant-loop-frame : goal.invariant-loop-frame
invariant-loop-frame g l =
    (g.W.ByteOut.failures l.out ≡ g.W.ByteOut.failures l.initial.out)
    × Appends (g.W.ByteOut.contents l.initial.out) (g.W.ByteOut.contents l.out)
    (flat_map (λ v. frame_chunk v.items) (take l.frame-index l.frames))

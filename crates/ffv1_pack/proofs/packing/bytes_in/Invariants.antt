use Rattle.std.proofs.Common.{◌≡◌, take}
use Rattle.ffv1_avi.specs.Written.{frames_of}
use Rattle.ffv1_pack.specs.Packing.{bytes_in}
use Rattle.ffv1_pack.proofs.packing.bytes_in.Given as goal

abbrev pub invariant-loop-frame : goal.invariant-loop-frame
invariant-loop-frame g l = l.bytes ≡ bytes_in (take l.frame (frames_of l.frames))

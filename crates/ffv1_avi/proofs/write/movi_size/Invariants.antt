use Rattle.std.proofs.Common.{◌≡◌, ◌≤◌, take}
use Rattle.ffv1_avi.specs.Written.{frames_of, movi_size}
use Rattle.ffv1_avi.proofs.write.movi_size.Given as goal

abbrev pub invariant-loop-frame : goal.invariant-loop-frame
invariant-loop-frame g l = (l.size ≡ movi_size (frames_of (take l.frame-index l.frames))) ×
    (l.size ≤ 2147483647)

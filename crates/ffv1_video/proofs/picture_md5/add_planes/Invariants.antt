use Rattle.std.proofs.Common.{ℕ, ◌++◌, List, take}
use Rattle.std.specs.List.{concat}
use Rattle.ffv1_frame.specs.Picture.{planes_of}
use Rattle.ffv1_video.specs.Internal.RawPicture.{IsOf}
use Rattle.ffv1_video.proofs.picture_md5.add_planes.Given as goal

abbrev pub invariant-loop-plane : goal.invariant-loop-plane
invariant-loop-plane g l =
    (m : List ℕ) → IsOf l.initial.hashed m → IsOf l.hashed
    (m ++ concat (planes_of (take l.plane-index l.planes)))

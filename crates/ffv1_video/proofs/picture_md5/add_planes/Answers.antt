-- The bytes of these planes after them, plane after plane.
use Rattle.std.proofs.Common.{ℕ, Vec, ◌++◌, take, ap, ◌∙◌}
use Rattle.std.specs.List.{concat}
use Rattle.ffv1_frame.specs.Picture.{planes_of}
use Rattle.ffv1_video.proofs.PixelsHashed.{planes_more}
use Rattle.ffv1_video.proofs.picture_md5.add_planes.Goals as goal

pub loop-plane-preserved : goal.loop-plane-preserved
loop-plane-preserved g c = λ m is.
    planes_more c.add.new.hashed c.args.planes.now c.plane-item.result m _ c.loop-plane.plane-index
    c.loop-plane-test.true (c.deref.ensures.value ∙ ap (λ (v : Vec ℕ _). v.items)
    c.plane-item.is) (c.add.ensures (m ++ concat
    (planes_of (take c.loop-plane.plane-index c.args.planes.now)))
    (c.loop-plane.invariant m is))

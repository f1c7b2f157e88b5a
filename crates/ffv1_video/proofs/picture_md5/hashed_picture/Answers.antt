-- The bytes of a picture.
use Rattle.std.proofs.Common.{arith}
use Rattle.std.proofs.lemmas.Grind.{common_steps}
use Rattle.ffv1_video.proofs.picture_md5.hashed_picture.Goals as goal

pub slice_bounds-add_planes-end : goal.slice_bounds-add_planes-end
slice_bounds-add_planes-end g c = grind (arith, common_steps)

pub returns-else-depth-eq8 : goal.returns-else-depth-eq8
returns-else-depth-eq8 g c = grind (arith, common_steps)

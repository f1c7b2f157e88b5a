-- In a set whose fourth and fifth tables have one level, the context of a sample is 0 where the
-- samples to the left, above, and above to the left and right are one.
use Rattle.ffv1_plane.proofs.Flat.{flat_size}
use Rattle.ffv1_plane.proofs.laws.flat_place_has_first_context.Goals as goal

pub returns : goal.returns
returns c = λ set is three around top left right. flat_size set is three around top left right

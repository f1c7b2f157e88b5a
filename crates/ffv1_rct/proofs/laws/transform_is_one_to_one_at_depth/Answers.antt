-- At any depth the transform of a sample determines its red, green and blue, and they determine the
-- transform.
use Rattle.ffv1_rct.proofs.Places.{only_colour, only_coded}
use Rattle.ffv1_rct.proofs.laws.transform_is_one_to_one_at_depth.Goals as goal

pub returns : goal.returns
returns c = record { colour = only_colour; coded = only_coded }

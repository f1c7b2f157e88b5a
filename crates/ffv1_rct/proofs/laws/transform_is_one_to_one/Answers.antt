-- The transform of a sample determines its red, green and blue, and they determine the transform.
use Rattle.ffv1_rct.proofs.Places.{only_colour, only_coded}
use Rattle.ffv1_rct.proofs.laws.transform_is_one_to_one.Goals as goal

pub returns : goal.returns
returns c = record { colour = only_colour 8; coded = only_coded 8 }

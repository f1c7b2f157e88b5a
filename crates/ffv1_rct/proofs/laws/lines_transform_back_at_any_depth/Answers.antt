-- At any depth the inverse of a line's transform is the line itself, and so is the transform of its
-- inverse.
use Rattle.ffv1_rct.proofs.OneLine.{one_colour, one_coded}
use Rattle.ffv1_rct.proofs.laws.lines_transform_back_at_any_depth.Goals as goal

pub returns : goal.returns
returns c = record { inverse = one_colour; forward = one_coded }

-- The inverse of a line's transform is the line itself: lines of one length with the same transform
-- at each place are the same lines.
use Rattle.ffv1_rct.proofs.OneLine.{one_colour}
use Rattle.ffv1_rct.proofs.laws.inverse_undoes_the_transform.Goals as goal

pub returns : goal.returns
returns c = one_colour 8

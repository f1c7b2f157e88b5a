-- The transform of the inverse of a line is the line itself: two transforms of one line, of its
-- length, are the same lines.
use Rattle.ffv1_rct.proofs.OneLine.{one_coded}
use Rattle.ffv1_rct.proofs.laws.transform_undoes_the_inverse.Goals as goal

pub returns : goal.returns
returns c = one_coded 8

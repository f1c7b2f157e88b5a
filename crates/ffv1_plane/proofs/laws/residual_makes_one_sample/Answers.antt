-- Each residual makes exactly one sample of `bits` bits: the prediction and the residual, its sign
-- flipped or not, modulo 2^bits.
use Rattle.ffv1_plane.proofs.Folding.{one_made}
use Rattle.ffv1_plane.proofs.laws.residual_makes_one_sample.Goals as goal

pub returns-clause-one : goal.returns-clause-one
returns-clause-one c = λ bits p flip q. one_made bits p flip q

pub returns-clause-unfolded : goal.returns-clause-unfolded
returns-clause-unfolded c = λ bits p flip s q suits. suits.makes

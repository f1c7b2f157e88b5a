-- The residual that an encoder takes makes its sample, has a symbol, and lies from -2^(bits-1) to
-- 2^(bits-1) - 1.
use Rattle.ffv1_plane.proofs.Folding.{chosen_suits, chosen_folded}
use Rattle.ffv1_plane.proofs.laws.chosen_residual_makes_its_sample.Goals as goal

pub returns-clause-suits : goal.returns-clause-suits
returns-clause-suits c = λ bits p flip s some few small. chosen_suits bits p flip s some few small

pub returns-clause-folded : goal.returns-clause-folded
returns-clause-folded c = λ bits p flip s some. chosen_folded bits p flip s some

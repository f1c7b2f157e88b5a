-- No other number from -2^(bits-1) to 2^(bits-1) - 1 makes the sample.
use Rattle.ffv1_plane.proofs.Folding.{only_chosen}
use Rattle.ffv1_plane.proofs.laws.no_other_residual_makes_the_sample.Goals as goal

pub returns : goal.returns
returns c = λ bits p flip s q some suits range. only_chosen bits p flip s q some suits range

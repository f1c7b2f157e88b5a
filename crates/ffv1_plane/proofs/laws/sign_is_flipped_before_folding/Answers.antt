-- The sign is flipped first, and the difference folded then.
use Rattle.ffv1_plane.proofs.Folding.{folded_extreme, folded_first, folded_elsewhere}
use Rattle.ffv1_plane.proofs.laws.sign_is_flipped_before_folding.Goals as goal

pub returns-clause-extreme : goal.returns-clause-extreme
returns-clause-extreme c = λ bits flip some. folded_extreme bits flip some

pub returns-clause-other_order : goal.returns-clause-other_order
returns-clause-other_order c = λ bits some. folded_first bits some

pub returns-clause-elsewhere : goal.returns-clause-elsewhere
returns-clause-elsewhere c = λ bits flip d some other. folded_elsewhere bits flip d some other

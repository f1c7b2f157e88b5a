-- The number of each place's context is below the number of contexts.
use Rattle.ffv1_plane.proofs.Bounds.{size_below}
use Rattle.ffv1_plane.proofs.laws.contexts_stay_below_their_count.Goals as goal

pub returns : goal.returns
returns c = λ set is around. size_below set around is

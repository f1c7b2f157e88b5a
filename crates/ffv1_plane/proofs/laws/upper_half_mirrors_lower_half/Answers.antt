-- The upper half of a table is its lower half with the signs flipped, and its middle entry is that
-- before it.
use Rattle.std.proofs.Common.{refl, [], take, slice_index_or}
use Rattle.ffv1_plane.specs.Quantisation.{scale_behind}
use Rattle.ffv1_plane.proofs.Levels.{entry_mirrored}
use Rattle.ffv1_plane.proofs.laws.upper_half_mirrors_lower_half.Goals as goal

pub returns-clause-half : goal.returns-clause-half
returns-clause-half c = λ set i k some low. entry_mirrored (slice_index_or set i [])
    (scale_behind 1 (take i set)) k some low

pub returns-clause-middle : goal.returns-clause-middle
returns-clause-middle c = λ set i. refl

-- A law of each set: it is five filled tables with at most 32768 contexts, and the number of each
-- place's context is below the number of contexts.
use Rattle.ffv1_plane.proofs.Bounds.{size_below}
use Rattle.ffv1_plane.proofs.quantisation.QuantSet.is_a_bounded_set.Goals as goal

pub returns-clause-below : goal.returns-clause-below
returns-clause-below g c = λ around. rw (← c.self.view_is)
    (size_below _ around c.self.invariant.set)

-- The parts of a side have no sample in common exactly where each inner edge is a multiple of the
-- factor.
use Rattle.ffv1_slice.proofs.Sharing.{shares_none, multiples_only, clean_same}
use Rattle.ffv1_slice.proofs.laws.sides_share_nothing_at_multiples.Goals as goal

pub returns-clause-none : goal.returns-clause-none
returns-clause-none c = λ s k some fits multiples inside. shares_none s k some fits multiples inside

pub returns-clause-only : goal.returns-clause-only
returns-clause-only c = λ s some fits none. multiples_only s some fits none

pub returns-clause-same : goal.returns-clause-same
returns-clause-same c = λ s k some fits multiples inside. clean_same s k some fits multiples inside

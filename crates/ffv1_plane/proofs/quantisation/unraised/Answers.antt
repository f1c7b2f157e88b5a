-- The context of a sum of raised entries: its number, which is how far the sum lies from `half`,
-- the sum of the greatest entries, and whether it lies below.
use Rattle.ffv1_plane.proofs.Sums.{negative_size, negative_flip, positive_size, positive_flip}
use Rattle.ffv1_plane.proofs.quantisation.unraised.Goals as goal

pub returns-then-sum-half-clause-size : goal.returns-then-sum-half-clause-size
returns-then-sum-half-clause-size c = λ set a is. negative_size set a _ _ is c.if-sum-half.true

pub returns-then-sum-half-clause-flip : goal.returns-then-sum-half-clause-flip
returns-then-sum-half-clause-flip c = λ set a is. negative_flip set a _ _ is c.if-sum-half.true

pub returns-else-sum-half-clause-size : goal.returns-else-sum-half-clause-size
returns-else-sum-half-clause-size c = λ set a is. positive_size set a _ _ is c.if-sum-half.false

pub returns-else-sum-half-clause-flip : goal.returns-else-sum-half-clause-flip
returns-else-sum-half-clause-flip c = λ set a is. positive_flip set a _ _ is c.if-sum-half.false

-- What passes the checks of `Strict` passes those of `Wide`: multiples of the chroma factor leave no
-- column and no line of chroma out.
use Rattle.ffv1_record.proofs.Edges.{multiples_reach, multiples_sound, multiples_complete, wide_passes}
use Rattle.ffv1_record.proofs.laws.strict_checks_are_the_narrower.Goals as goal

pub returns-clause-edges : goal.returns-clause-edges
returns-clause-edges c = multiples_reach

pub returns-clause-wide : goal.returns-clause-wide
returns-clause-wide c = wide_passes

pub returns-clause-decided : goal.returns-clause-decided
returns-clause-decided c = λ size count log2. (multiples_sound size count log2, multiples_complete size count log2)

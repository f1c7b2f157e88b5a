-- The index of the runs stays small.
use Rattle.ffv1_rice.proofs.RunIndex.{index_begins, index_thirty}
use Rattle.ffv1_rice.proofs.laws.run_index_stays_small.Goals as goal

pub returns : goal.returns
returns c = record {
  most = λ depth limit coder ps run short few. index_begins depth limit coder ps run short few;
  thirty = λ depth coder ps run short few. index_thirty depth coder ps run short few;
}

-- A difference takes few bits.
use Rattle.ffv1_rice.proofs.Differences.{some_difference, length_difference, after_difference}
use Rattle.ffv1_rice.proofs.laws.difference_takes_few_bits.Goals as goal

pub returns : goal.returns
returns c = record {
  some = λ depth s d. some_difference depth s d;
  most = λ depth s d some is. length_difference depth s d some is;
  state = λ depth s d some few is. after_difference depth s d some few is;
}

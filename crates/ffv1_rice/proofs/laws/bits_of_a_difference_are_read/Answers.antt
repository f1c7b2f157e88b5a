-- Bits that begin with a difference are read.
use Rattle.ffv1_rice.proofs.Differences.{difference_ends_not, difference_bad_not}
use Rattle.ffv1_rice.proofs.laws.bits_of_a_difference_are_read.Goals as goal

pub returns : goal.returns
returns c = record {
  whole = λ depth s d text rest some begins ends. difference_ends_not depth s d text rest some
      begins ends;
  good = λ depth s d text rest some begins bad. difference_bad_not depth s d text rest some begins
      bad;
}

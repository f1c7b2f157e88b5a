-- Bits begin with one difference at most.
use Rattle.ffv1_rice.proofs.Differences.{differences_one}
use Rattle.ffv1_rice.proofs.laws.bits_begin_with_one_difference.Goals as goal

pub returns : goal.returns
returns c = λ depth s d e rest others some is is' same.
    differences_one depth s d e rest others some is is' same

-- Bits that are left are the last.
use Rattle.ffv1_rice.proofs.Fields.{last_bits}
use Rattle.ffv1_rice.proofs.laws.bits_that_are_left_are_the_last.Goals as goal

pub returns : goal.returns
returns c = λ bytes read text is. last_bits bytes read text is

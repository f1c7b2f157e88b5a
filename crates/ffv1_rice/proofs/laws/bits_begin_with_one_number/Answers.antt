-- Bits begin with one number at most.
use Rattle.ffv1_rice.proofs.Codes.{numbers_one}
use Rattle.ffv1_rice.proofs.laws.bits_begin_with_one_number.Goals as goal

pub returns : goal.returns
returns c = λ bits k m n rest others small small' is.
    numbers_one bits k m n rest others small small' is

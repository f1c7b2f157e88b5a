-- The check value of the catalogues: the sum of the nine digits `123456789` is 0xCBF43926.
use Rattle.std.proofs.Common.{refl}
use Rattle.ffv1_sum.specs.Sum.{bit_steps}
use Rattle.ffv1_sum.proofs.laws.nine_digits_have_the_check_value.Goals as goal

pub returns : goal.returns
unfolding bit_steps
returns c = refl

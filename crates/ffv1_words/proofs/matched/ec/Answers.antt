use Rattle.ffv1_words.specs.Order.{bit_number}
use Rattle.std.proofs.Common.{refl}
use Rattle.ffv1_words.proofs.matched.ec.Goals as goal

pub returns-in_err-number-clause-none : goal.returns-in_err-number-clause-none
returns-in_err-number-clause-none c = λ _ x named. c.in_err-number.ensures.none refl (bit_number x)
    named

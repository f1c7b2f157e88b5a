use Rattle.ffv1_words.specs.Order.{coder_number}
use Rattle.std.proofs.Common.{refl}
use Rattle.ffv1_words.proofs.matched.coder.Goals as goal

pub returns-in_err-number-clause-none : goal.returns-in_err-number-clause-none
returns-in_err-number-clause-none c = λ _ x named. c.in_err-number.ensures.none refl
    (coder_number x) named

use Rattle.std.proofs.Common.{refl}
use Rattle.ffv1_words.proofs.matched.small_number.Goals as goal

pub returns-in_err-n-clause-none : goal.returns-in_err-n-clause-none
returns-in_err-n-clause-none c = λ _ n named. c.in_err-n.ensures.none refl n named

-- Which frames of a file the words give.
use Rattle.std.proofs.Common.{refl}
use Rattle.ffv1_words.proofs.matched.range_of_frames.Goals as goal

pub returns-in_err-first-clause-none : goal.returns-in_err-first-clause-none
returns-in_err-first-clause-none c = λ _ r named. c.in_err-first.ensures.none refl r.first
    named.first

pub returns-in_err-count-clause-none : goal.returns-in_err-count-clause-none
returns-in_err-count-clause-none c = λ _ r named. c.in_err-count.ensures.none refl r.count
    named.count

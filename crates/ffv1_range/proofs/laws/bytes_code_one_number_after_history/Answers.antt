-- `bytes_code_one_number_after_history`: the same where the states are those of a history, at slots
-- from base on.
use Rattle.ffv1_range.specs.Interval.{start, narrowed}
use Rattle.ffv1_range.specs.Symbols.{signed_steps, unsigned_steps, too_long, shifted}
use Rattle.ffv1_range.specs.History.{decisions_after}
use Rattle.ffv1_range.proofs.Nested.{narrowed-append}
use Rattle.ffv1_range.proofs.Named.{named}
use Rattle.ffv1_range.proofs.OneAfter.{one_after, none_after}
use Rattle.ffv1_range.proofs.Unsigned.{one_unsigned_after, none_unsigned_after}
use Rattle.ffv1_range.proofs.laws.bytes_code_one_number_after_history.Goals as goal

pub returns-clause-one : goal.returns-clause-one
returns-clause-one c = λ bytes t base before past v w are table small_v small_w f g.
    one_after bytes are t base past (narrowed start before) v w small_v small_w
    (named t table past (shifted base (signed_steps v)))
    (named t table past (shifted base (signed_steps w)))
    (rw (narrowed-append start before (decisions_after t past (shifted base (signed_steps v)))) at
    f)
    (rw (narrowed-append start before (decisions_after t past (shifted base (signed_steps w)))) at
    g)

pub returns-clause-refused : goal.returns-clause-refused
returns-clause-refused c = λ bytes t base before past v are table small f g.
    none_after bytes are t base past (narrowed start before) v small
    (named t table past (shifted base (signed_steps v)))
    (named t table past (shifted base too_long))
    (rw (narrowed-append start before (decisions_after t past (shifted base (signed_steps v)))) at
    f)
    (rw (narrowed-append start before (decisions_after t past (shifted base too_long))) at g)

pub returns-clause-unsigned : goal.returns-clause-unsigned
returns-clause-unsigned c = λ bytes t base before past n m are table small_n small_m f g.
    one_unsigned_after bytes are t (narrowed start before) base past n m small_n small_m
    (named t table past (shifted base (unsigned_steps n)))
    (named t table past (shifted base (unsigned_steps m)))
    (rw (narrowed-append start before (decisions_after t past (shifted base (unsigned_steps n)))) at
    f)
    (rw (narrowed-append start before (decisions_after t past (shifted base (unsigned_steps m)))) at
    g)

pub returns-clause-unsigned_refused : goal.returns-clause-unsigned_refused
returns-clause-unsigned_refused c = λ bytes t base before past n are table small f g.
    none_unsigned_after bytes are t (narrowed start before) base past n small
    (named t table past (shifted base (unsigned_steps n)))
    (named t table past (shifted base too_long))
    (rw (narrowed-append start before (decisions_after t past (shifted base (unsigned_steps n)))) at
    f)
    (rw (narrowed-append start before (decisions_after t past (shifted base too_long))) at g)

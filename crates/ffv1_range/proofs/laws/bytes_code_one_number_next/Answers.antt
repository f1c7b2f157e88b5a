-- Bytes code at most one number next, and none where they code a symbol that is refused.
use Rattle.ffv1_range.specs.Interval.{start, narrowed}
use Rattle.ffv1_range.specs.Symbols.{signed_steps, unsigned_steps, too_long, decided}
use Rattle.ffv1_range.proofs.Nested.{narrowed-append}
use Rattle.ffv1_range.proofs.OneValue.{one_value, none_refused}
use Rattle.ffv1_range.proofs.Unsigned.{one_unsigned, none_unsigned}
use Rattle.ffv1_range.proofs.laws.bytes_code_one_number_next.Goals as goal

pub returns-clause-one : goal.returns-clause-one
returns-clause-one c = λ bytes t states past v w are small_v small_w p q f g.
    one_value bytes are t states (narrowed start past) v w small_v small_w p q
    (rw (narrowed-append start past (decided t states (signed_steps v))) at f)
    (rw (narrowed-append start past (decided t states (signed_steps w))) at g)

pub returns-clause-refused : goal.returns-clause-refused
returns-clause-refused c = λ bytes t states past v are small p q f g.
    none_refused bytes are t states (narrowed start past) v small p q
    (rw (narrowed-append start past (decided t states (signed_steps v))) at f)
    (rw (narrowed-append start past (decided t states too_long)) at g)

pub returns-clause-unsigned : goal.returns-clause-unsigned
returns-clause-unsigned c = λ bytes t states past n m are small_n small_m p q f g.
    one_unsigned bytes are t (narrowed start past) states n m small_n small_m p q
    (rw (narrowed-append start past (decided t states (unsigned_steps n))) at f)
    (rw (narrowed-append start past (decided t states (unsigned_steps m))) at g)

pub returns-clause-unsigned_refused : goal.returns-clause-unsigned_refused
returns-clause-unsigned_refused c = λ bytes t states past n are small p q f g.
    none_unsigned bytes are t (narrowed start past) states n small p q
    (rw (narrowed-append start past (decided t states (unsigned_steps n))) at f)
    (rw (narrowed-append start past (decided t states too_long)) at g)

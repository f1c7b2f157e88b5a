-- Bytes of which the first says how many they are, and no others, are read as a variable-size
-- integer.
use Rattle.ffv1_ebml.proofs.VintLaws.{vint_complete, vint_sound}
use Rattle.ffv1_ebml.proofs.laws.integers_are_read_exactly.Goals as goal

pub returns-clause-read : goal.returns-clause-read
returns-clause-read c = vint_complete

pub returns-clause-only : goal.returns-clause-only
returns-clause-only c = λ most left text bytes rest h. let p = vint_sound most left text
    (bytes, rest) h in (p.text_is, p.is, p.few, p.fits)

-- Whether a segment is of the last line that its slice codes, and the slice does not end there.
use Rattle.std.proofs.Common.{refl}
use Rattle.ffv1_decode.proofs.ending.lacks_ending.Goals as goal

pub returns-then-is_last_line-clause-no : goal.returns-then-is_last_line-clause-no
returns-then-is_last_line-clause-no g c = λ no q may is. c.goes_on.ensures.no no q may

pub returns-then-is_last_line-clause-yes : goal.returns-then-is_last_line-clause-yes
returns-then-is_last_line-clause-yes g c = λ yes q may.
    (c.if-is_last_line.ensures.yes refl, c.goes_on.ensures.yes yes q may)

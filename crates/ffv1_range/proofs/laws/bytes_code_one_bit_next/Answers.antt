-- Lists that the bytes code and that part at a decision of one state do not part there.
use Rattle.std.proofs.Common.{◌∷◌}
use Rattle.ffv1_range.specs.Interval.{start, narrowed}
use Rattle.ffv1_range.proofs.Nested.{same_bit, narrowed-append}
use Rattle.ffv1_range.proofs.laws.bytes_code_one_bit_next.Goals as goal

pub returns : goal.returns
returns c = λ bytes past xs ys state a b are is in_xs in_ys p q.
    same_bit bytes are (narrowed start past) state a b xs ys is.most in_xs in_ys
    (rw (narrowed-append start past (record { state = state; bit = a } ∷ xs)) at p)
    (rw (narrowed-append start past (record { state = state; bit = b } ∷ ys)) at q)

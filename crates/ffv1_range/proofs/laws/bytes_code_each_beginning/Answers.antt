-- Bytes that code a list code each beginning of it.
use Rattle.ffv1_range.specs.Interval.{start, narrowed}
use Rattle.ffv1_range.proofs.Nested.{narrowed-inside, narrowed-append}
use Rattle.ffv1_range.proofs.laws.bytes_code_each_beginning.Goals as goal

pub returns : goal.returns
returns c = λ bytes xs ys are states h.
    narrowed-inside bytes are (narrowed start xs) ys states (rw (narrowed-append start xs ys) at h)

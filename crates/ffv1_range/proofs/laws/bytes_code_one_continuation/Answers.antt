-- Bytes that code a list code exactly one of its two continuations, whatever the state.
use Rattle.ffv1_range.specs.Interval.{start, narrowed}
use Rattle.ffv1_range.proofs.Nested.{one-inside, narrowed-append}
use Rattle.ffv1_range.proofs.laws.bytes_code_one_continuation.Goals as goal

pub returns : goal.returns
returns c = λ bytes ds state are is h.
    simp narrowed-append (one-inside bytes are (narrowed start ds) state is.most h)

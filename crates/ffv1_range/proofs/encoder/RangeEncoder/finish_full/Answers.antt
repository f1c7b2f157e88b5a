-- The bytes, by the full ending: all bytes of the interval's low end, two more than the
-- renormalisations.
use Rattle.std.proofs.Common.{arith, ap, ◌∙◌}
use Rattle.ffv1_range.specs.Interval.{narrowed, start, interval_of}
use Rattle.ffv1_range.specs.Codes.{full_of}
use Rattle.ffv1_range.specs.Writing.{Writing}
use Rattle.ffv1_range.proofs.Endings.{full-is}
use Rattle.ffv1_range.proofs.EndingCodes.{fit, full-inside}
use Rattle.ffv1_range.proofs.HistoryLemmas.{kept_is}
use Rattle.ffv1_range.proofs.encoder.RangeEncoder.finish_full.Goals as goal

pub returns-clause-ok : goal.returns-clause-ok
returns-clause-ok g c =
    full-is _ c.self.inside.bytes.items c.self.inside.low c.self.inside.width
    c.in_ok-emit-2.ensures.bytes_fit
    (omega (arith, c.in_ok-emit.ensures.long, c.in_ok-emit-2.ensures.long))
    (omega (arith, c.in_ok-emit.ensures.value, c.in_ok-emit-2.ensures.value))
    ∙ ap (λ (w : Writing). full_of w.interval) c.self.view_is

pub returns-clause-codes : goal.returns-clause-codes
returns-clause-codes g c = λ ds behind states e.
    rw (returns-clause-ok g c, e) (full-inside (interval_of ds) behind (fit ds states))

pub returns-clause-fresh : goal.returns-clause-fresh
returns-clause-fresh g c = λ t slots after steps below puts.
    returns-clause-ok g c ∙ ap full_of (puts.interval ∙ ap (narrowed start)
    (kept_is t slots steps below))

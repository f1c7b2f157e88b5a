-- The bytes, by the sentinel ending: after one more decision 0 by the state 129, the least multiple
-- of 256 that is at least the interval's low end, without its last byte.
use Rattle.std.proofs.Common.{arith, ap, ◌∙◌, ◌≡◌, false}
use Rattle.ffv1_range.specs.Interval.{narrow, narrowed, start, interval_of}
use Rattle.ffv1_range.specs.Codes.{sentinel_of}
use Rattle.ffv1_range.specs.Writing.{Writing}
use Rattle.ffv1_range.specs.Internal.Registers.{interval_from}
use Rattle.ffv1_range.proofs.EndingCodes.{fit, sentinel-inside, sentinel-is}
use Rattle.ffv1_range.proofs.HistoryLemmas.{kept_is}
use Rattle.ffv1_range.proofs.encoder.RangeEncoder.finish_sentinel.Goals as goal

pub returns-clause-ok : goal.returns-clause-ok
returns-clause-ok g c =
    let last : interval_from c.self-2.inside.bytes.items c.self-2.inside.low c.self-2.inside.width ≡
    narrow c.args.self.interval 129 false =
    ap (λ (w : Writing). w.interval) c.self-2.view_is ∙ ap (λ (w : Writing). w.interval)
    c.in_ok-step.ensures.ok in
    sentinel-is c.args.self.interval _ c.self-2.inside.bytes.items c.self-2.inside.low
    c.self-2.inside.width last c.in_ok-emit.ensures.bytes_fit
    (omega (arith, c.in_ok-emit.ensures.long)) (omega (arith, c.in_ok-emit.ensures.value))

pub returns-clause-codes : goal.returns-clause-codes
returns-clause-codes g c = λ ds states e.
    rw (returns-clause-ok g c, e) (sentinel-inside (interval_of ds) (fit ds states))

pub returns-clause-fresh : goal.returns-clause-fresh
returns-clause-fresh g c = λ t slots after steps below puts.
    returns-clause-ok g c ∙ ap sentinel_of (puts.interval ∙ ap (narrowed start)
    (kept_is t slots steps below))

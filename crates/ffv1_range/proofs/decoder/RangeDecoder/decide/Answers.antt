-- The next decision, uncounted, by two arms: for a decision that steers what comes next.
use Rattle.std.proofs.Common.{true, false}
use Rattle.ffv1_range.specs.Interval.{part}
use Rattle.ffv1_range.proofs.DecoderParts.{at_one, at_zero}
use Rattle.ffv1_range.proofs.decoder.RangeDecoder.decide.Goals as goal

pub returns-then-gap-part-clause-at : goal.returns-then-gap-part-clause-at
returns-then-gap-part-clause-at c = λ i h.
    let here = rw (← c.self.view_is) at h in
    let le = rw c.from.ensures at c.if-gap-part.true in
    c.go_on.ensures.at (part i c.args.state.now true)
    (rw (c.from.ensures, ← c.self.view_is) (at_one _ i c.args.state.now c.requires.small
    c.self.invariant.some le here))

pub returns-clause-at : goal.returns-clause-at
returns-clause-at c = λ i h.
    let here = rw (← c.self.view_is) at h in
    let more = rw c.from.ensures at c.if-gap-part.false in
    c.go_on-2.ensures.at (part i c.args.state.now false)
    (rw (c.from.ensures, ← c.self.view_is) (at_zero _ i c.args.state.now c.requires.small
    c.self.invariant.within more here))

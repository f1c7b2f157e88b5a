-- Whether the decision that comes next is 1: then it is read, uncounted.
use Rattle.std.proofs.Common.{true}
use Rattle.ffv1_range.specs.Interval.{part}
use Rattle.ffv1_range.proofs.DecoderParts.{at_one}
use Rattle.ffv1_range.proofs.decoder.RangeDecoder.take_one.Goals as goal

pub returns-clause-at : goal.returns-clause-at
returns-clause-at c = λ one i h.
    let here = rw (← c.self.view_is) at h in
    let le = rw c.from.ensures at c.if-gap-part.false in
    c.go_on.ensures.at (part i c.args.state.now true)
    (rw (c.from.ensures, ← c.self.view_is) (at_one _ i c.args.state.now c.requires.small
    c.self.invariant.some (le) here))

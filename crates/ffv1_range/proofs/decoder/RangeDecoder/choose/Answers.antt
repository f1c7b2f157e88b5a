-- The next decision, uncounted, by one choice of numbers: for a decision that is data, which no
-- branch predicts well.
use Rattle.std.proofs.Common.{true, false}
use Rattle.std.proofs.lemmas.Bool.{lt-ltb, le-ltb}
use Rattle.ffv1_range.specs.Interval.{part}
use Rattle.ffv1_range.proofs.DecoderParts.{at_one, at_zero}
use Rattle.ffv1_range.proofs.decoder.RangeDecoder.choose.Goals as goal
use Rattle.ffv1_range.proofs.decoder.RangeDecoder.choose.Goals.{then-zero, else-zero}

pub returns-clause-at : goal.returns-clause-at
returns-clause-at c = λ i h.
    let here = rw (← c.self.view_is) at h in
    elim c.if-zero.branch [
      | then-zero w ↦
          let more = rw c.from.ensures at w.if-zero.true in
          rw (lt-ltb _ _ w.if-zero.true)
          (c.go_on.ensures.at (part i c.args.state.now false)
          (rw (w.after-is, c.from.ensures, ← c.self.view_is)
          (at_zero _ i c.args.state.now c.requires.small c.self.invariant.within more here)))
      | else-zero w ↦
          let le = rw c.from.ensures at w.if-zero.false in
          rw (le-ltb _ _ w.if-zero.false)
          (c.go_on.ensures.at (part i c.args.state.now true)
          (rw (w.after-is, c.from.ensures, ← c.self.view_is)
          (at_one _ i c.args.state.now c.requires.small c.self.invariant.some le here)))
    ]

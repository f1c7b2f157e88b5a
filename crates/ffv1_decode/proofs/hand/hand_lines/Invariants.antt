use Rattle.std.proofs.Common.{◌≡◌, ℕ, List}
use Rattle.ffv1_wire.specs.Runs.{Grows}
use Rattle.ffv1_frame.specs.Decoding.{State}
use Rattle.ffv1_decode.specs.Internal.Progress.{Handed, StandsIn}
use Rattle.ffv1_decode.proofs.hand.hand_lines.Given as goal

abbrev pub invariant-loop-index : goal.invariant-loop-index
invariant-loop-index g l = record {
  counted : g.S.LineSink.failures l.sink ≡ g.S.LineSink.failures l.fn.sink;
  handed : (coded : ℕ → List ℕ) (initial : _) (s : State) → Grows g.S.LineSink.takes initial s.lines
      l.fn.sink →
      StandsIn l.frame.checked.now.configuration l.line.first l.line.count l.out s →
      Handed g.S.LineSink.takes g.S.LineSink.refuses l.frame.checked.now coded initial l.line.row
      l.line.first l.index l.line.y l.sink s;
}

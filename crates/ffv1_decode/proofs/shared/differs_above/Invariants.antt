use Rattle.std.proofs.Common.{ℕ, ◌*◌, ◌<◌}
use Rattle.ffv1_decode.specs.Internal.Shared.{StandsKept}
use Rattle.ffv1_decode.proofs.shared.differs_above.Given as goal

abbrev pub invariant-loop-x : goal.invariant-loop-x
invariant-loop-x g l = (i : ℕ) → i < l.x → StandsKept l.frame.checked.now.configuration
    l.segment.plane l.segment.column
    (l.segment.index * l.frame.checked.now.configuration.width) (g.W.Word.samples l.kept)
    (g.W.Word.samples l.cur) i

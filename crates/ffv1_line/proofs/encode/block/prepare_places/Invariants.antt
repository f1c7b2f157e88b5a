use Rattle.std.proofs.Common.{◌≡◌, ◌+◌}
use Rattle.ffv1_line.specs.Beside.{before, two_before}
use Rattle.ffv1_line.specs.Internal.Parts.{ArePrepared}
use Rattle.ffv1_line.proofs.encode.block.prepare_places.Given as goal

abbrev pub invariant-loop-k : goal.invariant-loop-k
invariant-loop-k g l = record {
  two_left : l.ll ≡ two_before l.part.one.now l.part.cur.now (l.part.from + l.k);
  left : l.l ≡ before l.part.one.now l.part.cur.now (l.part.from + l.k);
  top_left : l.tl ≡ before l.part.two.now l.part.one.now (l.part.from + l.k);
  block : ArePrepared l.part l.k l.block.contexts l.block.residuals;
}

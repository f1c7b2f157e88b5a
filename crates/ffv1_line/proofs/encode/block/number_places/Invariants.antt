use Rattle.std.proofs.Common.{◌≡◌}
use Rattle.ffv1_line.specs.Internal.Parts.{ArePrepared, AreNumbered}
use Rattle.ffv1_line.proofs.encode.block.number_places.Given as goal

abbrev pub invariant-loop-k : goal.invariant-loop-k
invariant-loop-k g l = record {
  same : l.block.contexts ≡ l.fn.block.contexts;
  block : ArePrepared l.part l.part.count l.block.contexts l.block.residuals;
  numbers : AreNumbered l.part l.block.numbers l.k;
}

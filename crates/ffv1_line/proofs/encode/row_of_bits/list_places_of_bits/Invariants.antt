use Rattle.std.proofs.Common.{◌≡◌, ◌*◌, ◌≤◌, take}
use Rattle.ffv1_range.specs.History.{AreBelow}
use Rattle.ffv1_range.specs.Listed.{steps_of}
use Rattle.ffv1_plane.specs.Quantisation.{contexts_of}
use Rattle.ffv1_line.specs.Beside.{places_steps}
use Rattle.ffv1_line.specs.Internal.Parts.{ArePrepared, AreOfNineBits}
use Rattle.ffv1_line.proofs.encode.row_of_bits.list_places_of_bits.Given as goal

abbrev pub invariant-loop-k : goal.invariant-loop-k
invariant-loop-k g l = record {
  block : ArePrepared l.part l.part.count l.block.contexts l.block.residuals;
  nine : AreOfNineBits l.part.bits l.part.count l.block.residuals;
  short : l.at ≤ 19 * l.k;
  steps : steps_of (take l.at l.block.list) ≡ places_steps l.part.set.now l.part.bits l.part.two.now
      l.part.one.now l.part.cur.now l.part.from l.k;
  below : AreBelow (steps_of (take l.at l.block.list)) (contexts_of l.part.set.now * 32);
}

use Rattle.std.proofs.Common.{◌+◌, ◌-◌, ◌≤◌}
use Rattle.ffv1_range.specs.Reading.{summed}
use Rattle.ffv1_range.specs.Among.{AreNonzeros, sums_among}
use Rattle.ffv1_line.specs.Internal.Places.{IsReady, Carries, ReadOn}
use Rattle.ffv1_line.specs.Coder.{decoder_by}
use Rattle.ffv1_line.proofs.decode.block.decode_block.Given as goal

abbrev pub invariant-places : goal.invariant-places
invariant-places g l = record {
  inside : l.i ≤ l.places.count;
  ready : IsReady l.places l.states l.cur;
  are : AreNonzeros l.nonzeros;
  few : l.nonzeros.symbols ≤ l.i;
  begins : Carries l.places l.i l.cur l.along;
  read : ReadOn l.places l.places.from (decoder_by l.fn.decoder l.fn.states) l.fn.cur
      (l.places.from + l.i) (decoder_by (summed l.decoder (sums_among l.i l.nonzeros)) l.states)
      l.cur;
}

abbrev pub decreases-places : goal.decreases-places
decreases-places g l = l.places.count - l.i

use Rattle.std.proofs.Common.{◌≡◌, ◌*◌, false, length}
use Rattle.ffv1_range.specs.Symbols.{AllHeld}
use Rattle.ffv1_range.specs.Puts.{Puts}
use Rattle.ffv1_plane.specs.Quantisation.{contexts_of}
use Rattle.ffv1_line.specs.Beside.{places_steps}
use Rattle.ffv1_line.proofs.encode.put_places.Given as goal

abbrev pub invariant-loop-k : goal.invariant-loop-k
invariant-loop-k g l = record {
  held : AllHeld l.table l.states;
  rows : length l.states ≡ contexts_of l.part.set.now * 32;
  sound : l.encoder.failed ≡ false;
  puts : Puts l.table l.fn.encoder l.fn.states l.encoder l.states
      (places_steps l.part.set.now l.part.bits l.part.two.now l.part.one.now l.part.cur.now
      l.part.from l.k);
}

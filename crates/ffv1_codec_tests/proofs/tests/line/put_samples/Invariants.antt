use Rattle.std.proofs.Common.{◌≡◌, ◌*◌, length}
use Rattle.ffv1_plane.specs.Quantisation.{contexts_of}
use Rattle.ffv1_range.specs.Symbols.{AllHeld}
use Rattle.ffv1_codec_tests.proofs.tests.line.put_samples.Given as goal

abbrev pub invariant-rows : goal.invariant-rows
invariant-rows l = record {
  held : AllHeld l.coding.table l.states;
  rows : length l.states ≡ contexts_of l.coding.set * 32;
}

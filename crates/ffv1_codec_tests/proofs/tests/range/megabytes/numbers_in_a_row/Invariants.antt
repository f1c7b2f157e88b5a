use Rattle.ffv1_range.specs.Symbols.{AllHeld}
use Rattle.ffv1_codec_tests.proofs.tests.range.megabytes.numbers_in_a_row.Given as goal
use Rattle.std.proofs.Common.{length, ◌≡◌, false}

abbrev pub invariant-loop : goal.invariant-loop
invariant-loop g l = record {
  held : AllHeld l.table l.states;
  sound : l.encoder.failed ≡ false;
  long : length l.states ≡ 64;
}

use Rattle.ffv1_range.specs.Symbols.{AreHeld}
use Rattle.ffv1_codec_tests.proofs.tests.range.megabytes.unsigned_numbers.Given as goal

abbrev pub invariant-loop : goal.invariant-loop
invariant-loop g l = AreHeld l.table l.states

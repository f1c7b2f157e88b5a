use Rattle.ffv1_range.specs.Symbols.{AreHeld}
use Rattle.ffv1_codec_tests.proofs.tests.range.made.put_long_exponent.Given as goal

abbrev pub invariant-loop-k : goal.invariant-loop-k
invariant-loop-k l = AreHeld l.table l.states

use Rattle.ffv1_range.specs.Symbols.{AreHeld}
use Rattle.ffv1_codec_tests.proofs.tests.slice.heads.put_numbers.Given as goal

abbrev pub invariant-loop-number : goal.invariant-loop-number
invariant-loop-number l = AreHeld l.table l.states

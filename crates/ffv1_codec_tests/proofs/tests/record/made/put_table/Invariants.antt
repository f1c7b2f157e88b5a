use Rattle.ffv1_range.specs.Standard.{standard}
use Rattle.ffv1_range.specs.Symbols.{AreHeld}
use Rattle.ffv1_codec_tests.proofs.tests.record.made.put_table.Given as goal

abbrev pub invariant-loop-run : goal.invariant-loop-run
invariant-loop-run l = AreHeld standard l.states

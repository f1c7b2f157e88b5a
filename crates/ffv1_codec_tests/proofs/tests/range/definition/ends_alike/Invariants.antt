use Rattle.ffv1_range.specs.Symbols.{AreHeld}
use Rattle.ffv1_codec_tests.proofs.tests.range.definition.ends_alike.Given as goal

abbrev pub invariant-loop : goal.invariant-loop
invariant-loop l = AreHeld l.table l.states

use Rattle.ffv1_range.specs.Symbols.{AreHeld}
use Rattle.ffv1_codec_tests.proofs.tests.range.parking.parked_after.Given as goal

abbrev pub invariant-loop : goal.invariant-loop
invariant-loop l = AreHeld l.table l.head

use Rattle.ffv1_matroska.specs.Places.{amount}
use Rattle.ffv1_tests.proofs.tests.matroska.reading.smallest.Given as goal

abbrev pub decreases-loop-frame : goal.decreases-loop-frame
decreases-loop-frame g l = amount l.reader.place

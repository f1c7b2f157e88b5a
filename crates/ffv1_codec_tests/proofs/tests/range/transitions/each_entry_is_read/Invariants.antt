use Rattle.ffv1_range.specs.Table.{Holds}
use Rattle.ffv1_codec_tests.proofs.tests.range.transitions.each_entry_is_read.Given as goal

abbrev pub invariant-loop-at : goal.invariant-loop-at
invariant-loop-at g l = Holds l.table l.state

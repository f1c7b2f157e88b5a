-- Writes the runs of a table, the first given, each less 1.
use Rattle.ffv1_range.specs.Standard.{standard}
use Rattle.ffv1_range.proofs.Named.{fresh_held}
use Rattle.ffv1_range.proofs.Standard.{standard as standard_table}
use Rattle.ffv1_codec_tests.proofs.tests.record.made.put_table.Goals as goal

pub run-requires-clause-held : goal.run-requires-clause-held
run-requires-clause-held c = fresh_held standard standard_table

-- What a code is read as by the states of the second row, and what the decoder counts of it.
use Rattle.ffv1_range.proofs.Named.{all_fresh_held}
use Rattle.ffv1_codec_tests.proofs.tests.range.tallied.tallies.Goals as goal

pub tally_signed_in_row-read-requires-clause-held :
    goal.tally_signed_in_row-read-requires-clause-held
tally_signed_in_row-read-requires-clause-held c = all_fresh_held _ c.standard-table.ensures.table 64

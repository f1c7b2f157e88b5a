-- What a code is read as by states of its own, by how many decisions and ones, and what by the
-- states of a row.
use Rattle.ffv1_range.proofs.Named.{all_fresh_held}
use Rattle.ffv1_codec_tests.proofs.tests.range.symbols.reads.Goals as goal

pub get_signed_in_row-in_row-requires-clause-held :
    goal.get_signed_in_row-in_row-requires-clause-held
get_signed_in_row-in_row-requires-clause-held c = all_fresh_held _ c.standard-table.ensures.table 64

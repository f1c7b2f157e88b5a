-- Whether the symbol of a number, by the second row of some states, has this code by the full
-- ending.
use Rattle.ffv1_range.proofs.Named.{all_fresh_held}
use Rattle.ffv1_codec_tests.proofs.tests.range.symbols.codes_in_full.Goals as goal

pub put_signed_in_row-requires-clause-held : goal.put_signed_in_row-requires-clause-held
put_signed_in_row-requires-clause-held c = all_fresh_held _ c.standard-table.ensures.table 64

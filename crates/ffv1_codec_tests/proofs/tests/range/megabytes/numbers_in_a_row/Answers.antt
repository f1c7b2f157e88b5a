use Rattle.std.proofs.Common.{refl}
use Rattle.ffv1_range.proofs.Named.{all_fresh_held}
use Rattle.ffv1_codec_tests.proofs.tests.range.megabytes.numbers_in_a_row.Goals as goal

pub loop-init : goal.loop-init
loop-init g c = record {
  held = all_fresh_held _ c.standard-table.ensures.table 64;
  sound =
      rw c.new-encoder.ensures refl;
  long = refl;
}

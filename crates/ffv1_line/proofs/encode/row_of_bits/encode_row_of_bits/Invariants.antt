use Rattle.std.proofs.Common.{◌≡◌, ◌-◌, ◌*◌, false, length, ◌≤◌}
use Rattle.ffv1_range.specs.Symbols.{AllHeld}
use Rattle.ffv1_plane.specs.Quantisation.{contexts_of}
use Rattle.ffv1_line.specs.Encoded.{Written}
use Rattle.ffv1_line.specs.Coding.{coding_by}
use Rattle.ffv1_line.specs.Coder.{encoder_by}
use Rattle.ffv1_line.specs.Above.{rows_above}
use Rattle.ffv1_line.proofs.encode.row_of_bits.encode_row_of_bits.Given as goal

abbrev pub invariant-parts : goal.invariant-parts
invariant-parts g l = record {
  held : AllHeld l.table.now l.states;
  rows : length l.states ≡ contexts_of l.set.now * 32;
  within : l.from ≤ length l.cur;
  sound : l.encoder.failed ≡ false;
  written : Written (coding_by l.table.now l.set.now l.bits)
      (encoder_by l.fn.encoder l.fn.states) (encoder_by l.encoder l.states)
      (rows_above l.two.now l.one.now) l.cur l.from;
}

abbrev pub decreases-parts : goal.decreases-parts
decreases-parts g l = length l.initial.cur - l.from

use Rattle.std.proofs.Common.{◌≡◌, ◌*◌, length, slice_index, ◌<◌}
use Rattle.ffv1_range.specs.Symbols.{AllHeld}
use Rattle.ffv1_plane.specs.Quantisation.{contexts_of}
use Rattle.ffv1_line.specs.Internal.Along.{AreNeighbours}
use Rattle.ffv1_line.specs.Decoded.{Lined, SameFrom}
use Rattle.ffv1_line.specs.Coding.{coding_by}
use Rattle.ffv1_line.specs.Coder.{decoder_by}
use Rattle.ffv1_line.specs.Above.{rows_above}
use Rattle.ffv1_line.proofs.decode.plain.decode_words.Given as goal

abbrev pub invariant-loop-x : goal.invariant-loop-x
invariant-loop-x g l = record {
  held : AllHeld l.table.now l.states;
  rows : length l.states ≡ contexts_of l.set.now * 32;
  top : l.x < length l.one → l.t ≡ slice_index (g.W.Word.samples l.one) l.x;
  stands : AreNeighbours (rows_above (g.W.Word.samples l.two) (g.W.Word.samples l.one))
      (g.W.Word.samples l.cur) l.x l.ll l.l l.tl l.t;
  behind : SameFrom l.x (g.W.Word.samples l.fn.cur) (g.W.Word.samples l.cur);
  lined : Lined (coding_by l.table.now l.set.now l.bits) (decoder_by l.fn.decoder l.fn.states)
      (decoder_by l.decoder l.states) (rows_above (g.W.Word.samples l.two) (g.W.Word.samples l.one))
      (g.W.Word.samples l.cur) l.x;
}

use Rattle.std.proofs.Common.{◌-◌, ◌^◌, List}
use Rattle.ffv1_wire.specs.Passage.{passage}
use Rattle.ffv1_codec.specs.Picture.{Planes}
use Rattle.ffv1_pack.specs.Internal.VideoReads.{reading_of}
use Rattle.ffv1_pack.proofs.PicturesRead.{ReadSo}
use Rattle.ffv1_pack.proofs.TextLines.{LinedSo}
use Rattle.ffv1_pack.proofs.text_md5.write_lines.Given as goal

abbrev pub invariant-loop-text : goal.invariant-loop-text
invariant-loop-text g l =
    (pictures : List Planes)
    × ReadSo (passage g.R.ByteIn.remaining g.R.ByteIn.failures l.initial.input l.input)
    (reading_of l.initial.reader) (reading_of l.reader) pictures
    × LinedSo (reading_of l.initial.reader) (passage g.W.ByteOut.contents g.W.ByteOut.failures
    l.initial.output l.output) pictures l.count

abbrev pub decreases-loop-text : goal.decreases-loop-text
decreases-loop-text g l = 2 ^ 64 - l.count

use Rattle.std.proofs.Common.{◌≡◌, None, length}
use Rattle.ffv1_wire.specs.Passage.{passage}
use Rattle.ffv1_codec.specs.SliceList.{Said}
use Rattle.ffv1_files.specs.Places.{amount, container_of}
use Rattle.ffv1_unpack.specs.FrameMd5.{md5_from}
use Rattle.ffv1_unpack.specs.Plays.{AtMost}
use Rattle.ffv1_unpack.specs.Internal.FrameMd5.{is_begun}
use Rattle.ffv1_unpack.specs.Internal.Located.{StaysReached}
use Rattle.ffv1_unpack.specs.Internal.Opens.{stream_of}
use Rattle.ffv1_video.specs.KeptLines.{IsKeptFor}
use Rattle.ffv1_unpack.specs.Internal.PicturesOut.{head_saying}
use Rattle.ffv1_unpack.specs.Unpacked.{video_of}
use Rattle.ffv1_unpack.proofs.FramesPlayed.{PlayedSo}
use Rattle.ffv1_unpack.proofs.hashing.write_frames.Given as goal

abbrev pub invariant-frames : goal.invariant-frames
invariant-frames g l =
    (l.player.reader.fault ≡ None) × (l.player.decoder.accepted ≡ l.fn.player.decoder.accepted)
    × IsKeptFor l.fn.player.decoder.accepted l.kept
    × ((said : Said) → head_saying l.lines.head said ≡ video_of
    (stream_of l.fn.player.reader l.fn.player.decoder.accepted) said)
    × ((so : PlayedSo l.fn.player.decoder.accepted (md5_from l.range.first
    (stream_of l.fn.player.reader l.fn.player.decoder.accepted)) l.fn.player.reader.place
    (passage g.R.ByteIn.remaining g.R.ByteIn.failures l.initial.input l.input)
    (passage g.W.ByteOut.contents g.W.ByteOut.failures l.initial.output l.output) l.count
    l.player.reader.place) × AtMost l.range.count (length so.frames)
    × (l.lines.begun ≡ is_begun so.frames))
    × (container_of l.player.reader.place ≡ container_of l.fn.player.reader.place)
    × StaysReached l.fn.player.reader l.player.reader
    (passage g.R.ByteIn.remaining g.R.ByteIn.failures l.initial.input l.input)

abbrev pub decreases-frames : goal.decreases-frames
decreases-frames g l = amount l.player.reader.place

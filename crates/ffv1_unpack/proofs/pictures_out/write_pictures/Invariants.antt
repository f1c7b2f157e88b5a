use Rattle.std.proofs.Common.{◌≡◌, None, length}
use Rattle.ffv1_wire.specs.Passage.{passage}
use Rattle.ffv1_codec.specs.SliceList.{Said}
use Rattle.ffv1_files.specs.Places.{amount, container_of}
use Rattle.ffv1_unpack.specs.Internal.Located.{StaysReached}
use Rattle.ffv1_unpack.specs.Internal.Opens.{stream_of}
use Rattle.ffv1_video.specs.KeptLines.{IsKeptFor}
use Rattle.ffv1_unpack.specs.Internal.PicturesOut.{head_saying}
use Rattle.ffv1_unpack.specs.Plays.{AtMost}
use Rattle.ffv1_unpack.specs.Unpacked.{video_of}
use Rattle.ffv1_unpack.proofs.PicturesWritten.{UnpackedSo}
use Rattle.ffv1_unpack.proofs.pictures_out.write_pictures.Given as goal

abbrev pub invariant-frames : goal.invariant-frames
invariant-frames g l =
    (l.player.reader.fault ≡ None) × (l.player.decoder.accepted ≡ l.fn.player.decoder.accepted)
    × IsKeptFor l.fn.player.decoder.accepted l.kept
    × ((said : Said) → head_saying l.text.head said ≡ video_of
    (stream_of l.fn.player.reader l.fn.player.decoder.accepted) said)
    × ((so : UnpackedSo (stream_of l.fn.player.reader l.fn.player.decoder.accepted) l.text.head
    l.fn.carried.items l.fn.player.reader.place
    (passage g.R.ByteIn.remaining g.R.ByteIn.failures l.initial.input l.input)
    (passage g.W.ByteOut.contents g.W.ByteOut.failures l.initial.output l.output) l.text.begun
    l.kept.planes l.carried.items l.count l.player.reader.place) × AtMost l.most (length so.frames))
    × (container_of l.player.reader.place ≡ container_of l.fn.player.reader.place)
    × StaysReached l.fn.player.reader l.player.reader
    (passage g.R.ByteIn.remaining g.R.ByteIn.failures l.initial.input l.input)

abbrev pub decreases-frames : goal.decreases-frames
decreases-frames g l = amount l.player.reader.place

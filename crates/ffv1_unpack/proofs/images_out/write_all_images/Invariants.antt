use Rattle.std.proofs.Common.{◌≡◌, None, length}
use Rattle.ffv1_wire.specs.Passage.{passage}
use Rattle.ffv1_files.specs.Places.{amount, container_of}
use Rattle.ffv1_unpack.specs.Internal.ImagesOut.{IsLastPayload, IsSinkFor}
use Rattle.ffv1_unpack.specs.Internal.Located.{StaysReached}
use Rattle.ffv1_unpack.specs.Internal.Opens.{stream_of}
use Rattle.ffv1_unpack.specs.Plays.{AtMost}
use Rattle.ffv1_unpack.proofs.ImagesSoFar.{ImagesSo}
use Rattle.ffv1_unpack.proofs.images_out.write_all_images.Given as goal

abbrev pub invariant-frames : goal.invariant-frames
invariant-frames g l =
    (l.player.reader.fault ≡ None) × (l.player.decoder.accepted ≡ l.fn.player.decoder.accepted)
    × IsSinkFor l.fn.player.decoder.accepted.configuration l.sink
    × ((so : ImagesSo (stream_of l.fn.player.reader l.fn.player.decoder.accepted) l.fn.carried.items
    l.fn.player.reader.place (passage g.R.ByteIn.remaining g.R.ByteIn.failures l.initial.input l.input)
    (passage g.W.ByteOut.contents g.W.ByteOut.failures l.initial.sink.out l.sink.out)
    l.carried.items l.count l.player.reader.place) × AtMost l.most (length so.frames)
    × IsLastPayload so.frames l.last.items)
    × (container_of l.player.reader.place ≡ container_of l.fn.player.reader.place)
    × StaysReached l.fn.player.reader l.player.reader
    (passage g.R.ByteIn.remaining g.R.ByteIn.failures l.initial.input l.input)

abbrev pub decreases-frames : goal.decreases-frames
decreases-frames g l = amount l.player.reader.place

use Rattle.std.proofs.Common.{◌≡◌, None}
use Rattle.ffv1_wire.specs.Passage.{passage}
use Rattle.ffv1_files.specs.Places.{amount, container_of}
use Rattle.ffv1_video.specs.KeptLines.{IsKeptFor}
use Rattle.ffv1_unpack.specs.Internal.Located.{StaysReached}
use Rattle.ffv1_unpack.proofs.FramesCompared.{ComparedSo}
use Rattle.ffv1_unpack.proofs.comparing.compare_frames.Given as goal

abbrev pub invariant-loop-kept : goal.invariant-loop-kept
invariant-loop-kept g l =
    (l.player.reader.fault ≡ None) × (l.player.decoder.accepted ≡ l.fn.player.decoder.accepted)
    × IsKeptFor l.fn.player.decoder.accepted l.kept
    × ComparedSo l.fn.player.decoder.accepted l.md5s l.fn.player.reader.place
    (passage g.R.ByteIn.remaining g.R.ByteIn.failures l.initial.input l.input) l.so_far
    l.player.reader.place
    × (container_of l.player.reader.place ≡ container_of l.fn.player.reader.place)
    × StaysReached l.fn.player.reader l.player.reader
    (passage g.R.ByteIn.remaining g.R.ByteIn.failures l.initial.input l.input)

abbrev pub decreases-loop-kept : goal.decreases-loop-kept
decreases-loop-kept g l = amount l.player.reader.place

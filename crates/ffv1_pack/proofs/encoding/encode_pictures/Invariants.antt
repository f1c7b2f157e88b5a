use Rattle.std.proofs.Common.{◌≡◌, ◌-◌, ◌^◌, length}
use Rattle.ffv1_wire.specs.Passage.{passage}
use Rattle.ffv1_avi.specs.Written.{frames_of}
use Rattle.ffv1_pack.specs.Internal.Encoding.{Encoded}
use Rattle.ffv1_pack.specs.Internal.VideoReads.{reading_of}
use Rattle.ffv1_pack.specs.Packing.{AreReadableIn}
use Rattle.ffv1_pack.proofs.encoding.encode_pictures.Given as goal

abbrev pub invariant-loop-planes : goal.invariant-loop-planes
invariant-loop-planes g l =
    Encoded (passage g.R.ByteIn.remaining g.R.ByteIn.failures l.initial.input l.input)
    l.initial.encoder.accepted (reading_of l.initial.reader) (reading_of l.reader)
    (frames_of l.frames.items)
    × (l.encoder.accepted ≡ l.initial.encoder.accepted)
    × AreReadableIn l.initial.encoder.accepted.profile (frames_of l.frames.items)

abbrev pub decreases-loop-planes : goal.decreases-loop-planes
decreases-loop-planes g l = 2 ^ 64 - length l.frames.items

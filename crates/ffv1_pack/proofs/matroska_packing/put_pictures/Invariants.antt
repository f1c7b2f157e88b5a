use Rattle.std.proofs.Common.{◌≡◌, ◌-◌, ◌+◌, ◌^◌, ◌≤◌, ℕ, List}
use Rattle.ffv1_wire.specs.Passage.{passage}
use Rattle.ffv1_pack.specs.Internal.Clusters.{PutAll}
use Rattle.ffv1_pack.specs.Internal.Encoding.{Encoded}
use Rattle.ffv1_pack.specs.Internal.VideoReads.{reading_of}
use Rattle.ffv1_pack.proofs.matroska_packing.put_pictures.Given as goal

abbrev pub invariant-loop-planes : goal.invariant-loop-planes
invariant-loop-planes g l =
    (frames : List (List ℕ))
    × Encoded (passage g.R.ByteIn.remaining g.R.ByteIn.failures l.initial.input l.input)
    l.initial.encoder.accepted (reading_of l.initial.reader) (reading_of l.reader) frames
    × (l.encoder.accepted ≡ l.initial.encoder.accepted)
    × PutAll l.initial.encoder.accepted.profile l.initial.writer l.writer frames (passage g.W.ByteOut.contents g.W.ByteOut.failures
    l.initial.output l.output) l.packed
    × (l.packed.frames + l.packed.bytes ≤ l.writer.at)

abbrev pub decreases-loop-planes : goal.decreases-loop-planes
decreases-loop-planes g l = 2 ^ 56 - l.writer.at

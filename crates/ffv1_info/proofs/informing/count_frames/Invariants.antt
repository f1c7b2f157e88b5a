use Rattle.std.proofs.Common.{◌≡◌, ℕ, suc, None, List, length}
use Rattle.ffv1_wire.specs.Passage.{passage}
use Rattle.ffv1_range.specs.Counts.{saturated}
use Rattle.ffv1_files.specs.Places.{amount, container_of}
use Rattle.ffv1_unpack.specs.Internal.Located.{StaysReached}
use Rattle.ffv1_unpack.specs.Internal.Passing.{Passes}
use Rattle.ffv1_info.proofs.informing.count_frames.Given as goal

abbrev pub invariant-frames : goal.invariant-frames
invariant-frames g l =
    (l.reader.fault ≡ None) × (l.reader.head ≡ l.fn.reader.head)
    × (container_of l.reader.place ≡ container_of l.fn.reader.place)
    × ((others : List (List ℕ)) × (l.count ≡ saturated (suc (length others)))
    × Passes l.fn.reader.place l.reader.place
    (passage g.R.ByteIn.remaining g.R.ByteIn.failures l.initial.input l.input) others)
    × StaysReached l.fn.reader l.reader
    (passage g.R.ByteIn.remaining g.R.ByteIn.failures l.initial.input l.input)

abbrev pub decreases-frames : goal.decreases-frames
decreases-frames g l = amount l.reader.place

use Rattle.std.proofs.Common.{◌≡◌}
use Rattle.ffv1_avi.specs.Files.{frame_found}
use Rattle.ffv1_avi.specs.Offsets.{ReadsUpTo}
use Rattle.ffv1_avi.specs.Places.{amount, extent_of}
use Rattle.ffv1_reads.proofs.Reading.{Goes}
use Rattle.ffv1_avi.proofs.reader.find_frame.Given as goal

abbrev pub invariant-loop-size : goal.invariant-loop-size
invariant-loop-size g l =
    Goes (frame_found l.fn.place) (g.R.ByteIn.remaining l.initial.input)
    (g.R.ByteIn.failures l.initial.input) (frame_found l.place) (g.R.ByteIn.remaining l.input)
    (g.R.ByteIn.failures l.input)
    × (extent_of l.place ≡ extent_of l.fn.place) × (l.place.names ≡ l.fn.place.names)
    × ReadsUpTo l.fn.place (g.R.ByteIn.remaining l.initial.input) (g.R.ByteIn.remaining l.input)
    l.place l.initial.offset l.offset

abbrev pub decreases-loop-size : goal.decreases-loop-size
decreases-loop-size g l = amount l.place

use Rattle.std.proofs.Common.{Option}
use Rattle.ffv1_reads.specs.Head.{Head}
use Rattle.ffv1_avi.specs.declared.place.Extent.{Extent}
use Rattle.ffv1_reads.specs.Reads.{Reading, ◌>>=◌}
use Rattle.ffv1_avi.specs.Streams.{Known, stream_judged, stream_read, visit_field}
use Rattle.ffv1_avi.specs.Internal.Views.{known_with}
use Rattle.ffv1_avi.specs.Walk.{walk}
use Rattle.std.specs.Vec.{vec_capacity}
use Rattle.ffv1_reads.specs.Room.{RoomRead}
use Rattle.ffv1_reads.proofs.Reading.{Goes}
use Rattle.ffv1_avi.proofs.stream.read_stream.Given as goal

abbrev pub judged : Extent → Known × Option ⊥ → Reading (Option Head)
judged extent k = stream_judged extent k.0.rates k.0.format

abbrev pub invariant-loop-entry : goal.invariant-loop-entry
invariant-loop-entry g l =
    (Goes (stream_read l.fn.extent l.fn.room) (g.R.ByteIn.remaining l.initial.input)
    (g.R.ByteIn.failures l.initial.input)
    (walk (visit_field l.fn.extent) l.left (known_with l.fields l.config.items) >>= judged
    l.fn.extent) (g.R.ByteIn.remaining l.input) (g.R.ByteIn.failures l.input))
    × RoomRead (g.R.ByteIn.remaining l.initial.input) (g.R.ByteIn.remaining l.input)
    (vec_capacity l.initial.config) (vec_capacity l.config)

abbrev pub decreases-loop-entry : goal.decreases-loop-entry
decreases-loop-entry g l = l.left

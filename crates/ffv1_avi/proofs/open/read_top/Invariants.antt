use Rattle.std.proofs.Common.{ℕ, Option}
use Rattle.ffv1_avi.specs.Files.{Headers, opened, others_of, top_others, top_read, visit_top}
use Rattle.ffv1_avi.specs.Offsets.{InRiff, ReadsTo, riff_at_size, spot_taken}
use Rattle.ffv1_reads.specs.Head.{Head}
use Rattle.ffv1_avi.specs.declared.place.Place.{Place}
use Rattle.ffv1_reads.specs.Reads.{Reading, ◌>>=◌}
use Rattle.ffv1_avi.specs.Internal.Views.{headers_with}
use Rattle.ffv1_avi.specs.Walk.{walk_in}
use Rattle.ffv1_avi.specs.Names.{riff_rule}
use Rattle.ffv1_avi.specs.declared.place.Extent.{Extent}
use Rattle.std.specs.Vec.{vec_capacity}
use Rattle.ffv1_reads.specs.Room.{RoomRead}
use Rattle.ffv1_reads.proofs.Reading.{Goes}
use Rattle.ffv1_avi.proofs.open.read_top.Given as goal

abbrev pub ended : Extent → ℕ → Headers × Option (Head × Place) → Reading (Head × Place)
ended extent size p = opened extent size p.1

abbrev pub counted : Headers × Option (Head × Place) → Reading ℕ
counted p = others_of p.0.others p.1

abbrev pub invariant-loop-entry : goal.invariant-loop-entry
invariant-loop-entry g l =
    (Goes (top_read l.fn.extent l.fn.size) (g.R.ByteIn.remaining l.initial.input)
    (g.R.ByteIn.failures l.initial.input)
    (walk_in (riff_rule l.fn.extent) (visit_top l.fn.extent) l.left
    (headers_with l.found l.config.items) >>= ended l.fn.extent l.fn.size)
    (g.R.ByteIn.remaining l.input) (g.R.ByteIn.failures l.input))
    × (Goes (top_others l.fn.extent l.fn.size) (g.R.ByteIn.remaining l.initial.input)
    (g.R.ByteIn.failures l.initial.input)
    (walk_in (riff_rule l.fn.extent) (visit_top l.fn.extent) l.left
    (headers_with l.found l.config.items) >>= counted)
    (g.R.ByteIn.remaining l.input) (g.R.ByteIn.failures l.input))
    × RoomRead (g.R.ByteIn.remaining l.initial.input) (g.R.ByteIn.remaining l.input)
    (vec_capacity l.initial.config) (vec_capacity l.config)
    × ReadsTo (spot_taken l.fn.extent) (riff_at_size l.fn.extent l.fn.size)
    (g.R.ByteIn.remaining l.initial.input) (g.R.ByteIn.remaining l.input)
    (InRiff l.fn.size (headers_with l.found l.config.items) l.left) l.initial.offset l.offset

abbrev pub decreases-loop-entry : goal.decreases-loop-entry
decreases-loop-entry g l = l.left

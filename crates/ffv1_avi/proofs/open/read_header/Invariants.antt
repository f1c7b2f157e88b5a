use Rattle.std.proofs.Common.{ℕ, ◌%◌, Option}
use Rattle.ffv1_avi.specs.Files.{Headers, header_read, visit_header}
use Rattle.ffv1_reads.specs.Reads.{Reading, given, passed, ◌>>=◌}
use Rattle.ffv1_avi.specs.Internal.Views.{headers_with}
use Rattle.ffv1_avi.specs.Walk.{walk}
use Rattle.std.specs.Vec.{vec_capacity}
use Rattle.ffv1_reads.specs.Room.{RoomRead}
use Rattle.ffv1_reads.proofs.Reading.{Goes}
use Rattle.ffv1_avi.proofs.open.read_header.Given as goal

abbrev pub ended : ℕ → Headers × Option ⊥ → Reading Headers
ended size p = passed (size % 2) >>= λ _. given p.0

abbrev pub invariant-loop-entry : goal.invariant-loop-entry
invariant-loop-entry g l =
    (Goes (header_read l.fn.extent (headers_with l.fn.found l.initial.config.items) l.fn.size)
    (g.R.ByteIn.remaining l.initial.input) (g.R.ByteIn.failures l.initial.input)
    (walk (visit_header l.fn.extent) l.left (headers_with l.found l.config.items) >>= ended
    l.fn.size) (g.R.ByteIn.remaining l.input) (g.R.ByteIn.failures l.input))
    × RoomRead (g.R.ByteIn.remaining l.initial.input) (g.R.ByteIn.remaining l.input)
    (vec_capacity l.initial.config) (vec_capacity l.config)

abbrev pub decreases-loop-entry : goal.decreases-loop-entry
decreases-loop-entry g l = l.left

use Rattle.std.proofs.Common.{◌≡◌, ◌≤◌, ◌-◌, length, max}
use Rattle.std.specs.Vec.{vec_capacity}
use Rattle.std.specs.Io.KnownBytes.{Consumes}
use Rattle.ffv1_reads.proofs.bytes.fill.Given as goal

abbrev pub invariant-loop-bytes : goal.invariant-loop-bytes
invariant-loop-bytes g l =
    (length l.bytes.items ≤ l.size)
    × (g.R.ByteIn.failures l.input ≡ g.R.ByteIn.failures l.initial.input)
    × Consumes (g.R.ByteIn.remaining l.initial.input) (g.R.ByteIn.remaining l.input) l.bytes.items
    × (vec_capacity l.bytes ≤ max (vec_capacity l.initial.bytes) (length l.bytes.items))

abbrev pub decreases-loop-bytes : goal.decreases-loop-bytes
decreases-loop-bytes g l = l.size - length l.bytes.items

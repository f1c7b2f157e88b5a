use Rattle.std.specs.Prelude.{◌≡◌, ◌+◌, ℕ, suc, ◌≤◌}
use Rattle.std.specs.Vec.{vec_capacity}
use Rattle.ffv1_reads.specs.Offsets.{ReadsWhole}
use Rattle.ffv1_reads.specs.Room.{RoomRead}
use Rattle.ffv1_reads.proofs.Reading.{Goes}
use Rattle.ffv1_matroska.specs.SalvagedAgain.{salvaged_sought}
use Rattle.ffv1_matroska.specs.SalvagedLate.{salvage_sought_up_to, salvage_sought}
use Rattle.ffv1_matroska.specs.Places.{amount}
use Rattle.ffv1_matroska.proofs.late_salvage.seek_salvaged.Given as goal

abbrev pub invariant-loop-element : goal.invariant-loop-element
invariant-loop-element g l =
    (k : ℕ) × (amount l.here ≤ k)
    × Goes (salvage_sought l.fn.place) (g.R.ByteIn.remaining l.initial.input)
    (g.R.ByteIn.failures l.initial.input) (salvage_sought_up_to (suc k) l.here)
    (g.R.ByteIn.remaining l.input) (g.R.ByteIn.failures l.input)
    × (n : ℕ) × ReadsWhole salvaged_sought l.fn.place (g.R.ByteIn.remaining l.initial.input)
    (g.R.ByteIn.remaining l.input) l.here n
    × (l.fn.place.cluster + l.fn.place.group ≡ 0 → (l.here.cluster + l.here.group ≡ 0) ×
    (n + amount l.here ≡ amount l.fn.place))
    × RoomRead (g.R.ByteIn.remaining l.initial.input) (g.R.ByteIn.remaining l.input)
    (vec_capacity l.initial.config) (vec_capacity l.config)

abbrev pub decreases-loop-element : goal.decreases-loop-element
decreases-loop-element g l = amount l.here

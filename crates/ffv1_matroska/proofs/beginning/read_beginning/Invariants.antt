use Rattle.std.specs.Prelude.{◌≡◌, ◌+◌, ℕ, suc, ◌≤◌}
use Rattle.std.specs.Vec.{vec_capacity}
use Rattle.ffv1_reads.specs.Known.{Known}
use Rattle.ffv1_reads.specs.Offsets.{ReadsWhole}
use Rattle.ffv1_reads.specs.Room.{RoomRead}
use Rattle.ffv1_reads.proofs.Reading.{Goes}
use Rattle.ffv1_matroska.specs.Internal.{found_kept}
use Rattle.ffv1_matroska.specs.Offsets.{InSegment, spot_taken}
use Rattle.ffv1_matroska.specs.Opened.{begin_from, begin_up_to}
use Rattle.ffv1_matroska.specs.Places.{amount}
use Rattle.ffv1_matroska.specs.Scales.{scale_from, scale_up_to}
use Rattle.ffv1_matroska.proofs.beginning.read_beginning.Given as goal

abbrev pub invariant-loop-element : goal.invariant-loop-element
invariant-loop-element g l =
    (k : ℕ) × (amount l.here ≤ k)
    × Goes (begin_from (found_kept l.fn.known l.initial.config.items) l.initial.here)
    (g.R.ByteIn.remaining l.initial.input) (g.R.ByteIn.failures l.initial.input)
    (begin_up_to (suc k) (found_kept l.found l.config.items) l.here) (g.R.ByteIn.remaining l.input)
    (g.R.ByteIn.failures l.input)
    × RoomRead (g.R.ByteIn.remaining l.initial.input) (g.R.ByteIn.remaining l.input)
    (vec_capacity l.initial.config) (vec_capacity l.config)
    × (n : ℕ) × ReadsWhole spot_taken
    (InSegment (found_kept l.fn.known l.initial.config.items) l.initial.here) (g.R.ByteIn.remaining l.initial.input) (g.R.ByteIn.remaining l.input)
    (InSegment (found_kept l.found l.config.items) l.here) n
    × (l.initial.here.cluster + l.initial.here.group ≡ 0 → (l.here.cluster + l.here.group ≡ 0) ×
    (n + amount l.here ≡ amount l.initial.here))
    × RoomRead (g.R.ByteIn.remaining l.initial.input) (g.R.ByteIn.remaining l.input)
    (vec_capacity l.initial.content) (vec_capacity l.content)
    × Known (g.R.ByteIn.remaining l.initial.input) (g.R.ByteIn.remaining l.input)
    (λ text rest. scale_from l.initial.scale l.initial.here text
    ≡ scale_up_to (suc k) l.scale l.here rest)

abbrev pub decreases-loop-element : goal.decreases-loop-element
decreases-loop-element g l = amount l.here

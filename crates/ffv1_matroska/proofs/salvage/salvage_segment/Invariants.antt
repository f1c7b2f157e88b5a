use Rattle.std.specs.Prelude.{◌≡◌, ◌+◌, ℕ, suc, ◌≤◌, [], None}
use Rattle.std.specs.Vec.{vec_capacity}
use Rattle.ffv1_reads.specs.Offsets.{ReadsWhole}
use Rattle.ffv1_reads.specs.Room.{RoomRead}
use Rattle.ffv1_reads.proofs.Reading.{Goes}
use Rattle.ffv1_matroska.specs.Internal.{found_kept}
use Rattle.ffv1_matroska.specs.Offsets.{InSegment}
use Rattle.ffv1_matroska.specs.Places.{amount}
use Rattle.ffv1_matroska.specs.SalvageStops.{salvaged_taken}
use Rattle.ffv1_matroska.specs.SalvageTold.{told_from, told_up_to}
use Rattle.ffv1_matroska.specs.Salvaged.{most_told, salvage_from, salvage_up_to}
use Rattle.ffv1_matroska.proofs.SalvagePending.{ToldSoFar}
use Rattle.ffv1_matroska.proofs.SalvageSound.{PlainSoFar}
use Rattle.ffv1_matroska.proofs.salvage.salvage_segment.Given as goal

abbrev pub invariant-loop-element : goal.invariant-loop-element
invariant-loop-element g l =
    (k : ℕ) × (amount l.here ≤ k)
    × Goes (salvage_from l.initial.here l.initial.faults.items)
    (g.R.ByteIn.remaining l.initial.input) (g.R.ByteIn.failures l.initial.input)
    (salvage_up_to (suc k) l.initial.here (found_kept l.found l.config.items) l.here l.faults.items)
    (g.R.ByteIn.remaining l.input) (g.R.ByteIn.failures l.input)
    × RoomRead (g.R.ByteIn.remaining l.initial.input) (g.R.ByteIn.remaining l.input)
    (vec_capacity l.initial.config) (vec_capacity l.config)
    × (amount l.here ≤ amount l.initial.here) × (most_told ≤ vec_capacity l.faults)
    × ToldSoFar (told_from l.initial.here l.initial.faults.items)
    (told_up_to (suc k) l.initial.here (found_kept l.found l.config.items) l.here l.faults.items)
    (g.R.ByteIn.remaining l.initial.input) (g.R.ByteIn.remaining l.input)
    × (n : ℕ) × ReadsWhole salvaged_taken (InSegment None l.initial.here)
    (g.R.ByteIn.remaining l.initial.input) (g.R.ByteIn.remaining l.input)
    (InSegment (found_kept l.found l.config.items) l.here) n
    × (l.initial.here.cluster + l.initial.here.group ≡ 0 → (l.here.cluster + l.here.group ≡ 0) ×
    (n + amount l.here ≡ amount l.initial.here))
    × (l.faults.items ≡ [] → PlainSoFar l.initial.here (suc k) (found_kept l.found l.config.items)
    l.here l.initial.noted.tick l.noted.tick (g.R.ByteIn.remaining l.initial.input)
    (g.R.ByteIn.remaining l.input) (g.R.ByteIn.failures l.initial.input)
    (g.R.ByteIn.failures l.input) n)
    × (l.faults.items ≡ [] → l.initial.faults.items ≡ [])

abbrev pub decreases-loop-element : goal.decreases-loop-element
decreases-loop-element g l = amount l.here

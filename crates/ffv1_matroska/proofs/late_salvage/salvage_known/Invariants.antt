use Rattle.std.specs.Prelude.{◌≡◌, ◌+◌, ℕ, suc, ◌≤◌, Some}
use Rattle.std.specs.Vec.{vec_capacity}
use Rattle.ffv1_reads.specs.Offsets.{ReadsWhole}
use Rattle.ffv1_reads.proofs.Reading.{Goes}
use Rattle.ffv1_matroska.specs.Offsets.{InSegment}
use Rattle.ffv1_matroska.specs.Places.{amount}
use Rattle.ffv1_matroska.specs.SalvageStops.{salvaged_taken}
use Rattle.ffv1_matroska.specs.SalvageTold.{told_up_to}
use Rattle.ffv1_matroska.specs.SalvagedAgain.{known_told_from}
use Rattle.ffv1_matroska.specs.SalvagedLate.{known_from}
use Rattle.ffv1_matroska.specs.Salvaged.{most_told, salvage_up_to}
use Rattle.ffv1_matroska.specs.Tracks.{Track}
use Rattle.ffv1_matroska.proofs.SalvagePending.{ToldSoFar}
use Rattle.ffv1_matroska.proofs.late_salvage.salvage_known.Given as goal

abbrev pub invariant-loop-element : goal.invariant-loop-element
invariant-loop-element g l =
    (k : ℕ) × (amount l.here ≤ k)
    × ((track : Track) → Goes (known_from track l.initial.here l.initial.faults.items)
    (g.R.ByteIn.remaining l.initial.input) (g.R.ByteIn.failures l.initial.input)
    (salvage_up_to (suc k) l.initial.here (Some track) l.here l.faults.items)
    (g.R.ByteIn.remaining l.input) (g.R.ByteIn.failures l.input))
    × (amount l.here ≤ amount l.initial.here) × (most_told ≤ vec_capacity l.faults)
    × (n : ℕ) × ((track : Track) → ReadsWhole salvaged_taken (InSegment (Some track) l.initial.here)
    (g.R.ByteIn.remaining l.initial.input) (g.R.ByteIn.remaining l.input)
    (InSegment (Some track) l.here) n)
    × (l.initial.here.cluster + l.initial.here.group ≡ 0 → (l.here.cluster + l.here.group ≡ 0) ×
    (n + amount l.here ≡ amount l.initial.here))
    × ((track : Track) → ToldSoFar (known_told_from track l.initial.here l.initial.faults.items)
    (told_up_to (suc k) l.initial.here (Some track) l.here l.faults.items)
    (g.R.ByteIn.remaining l.initial.input) (g.R.ByteIn.remaining l.input))

abbrev pub decreases-loop-element : goal.decreases-loop-element
decreases-loop-element g l = amount l.here

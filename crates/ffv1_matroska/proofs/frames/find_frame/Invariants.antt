use Rattle.std.specs.Prelude.{◌≡◌, ℕ, suc, ◌≤◌}
use Rattle.ffv1_reads.specs.Offsets.{ReadsWhole}
use Rattle.ffv1_reads.proofs.Reading.{Goes}
use Rattle.ffv1_matroska.specs.Files.{frame_found, frame_found_up_to}
use Rattle.ffv1_matroska.specs.Offsets.{element_taken}
use Rattle.ffv1_matroska.specs.Places.{amount}
use Rattle.ffv1_matroska.specs.Seen.{seen_taken}
use Rattle.ffv1_matroska.proofs.frames.find_frame.Given as goal

abbrev pub invariant-loop-next : goal.invariant-loop-next
invariant-loop-next g l =
    (k : ℕ) × (amount l.here ≤ k) × (amount l.here ≤ amount l.fn.place)
    × Goes (frame_found l.track l.fn.place) (g.R.ByteIn.remaining l.initial.input)
    (g.R.ByteIn.failures l.initial.input)
    (frame_found_up_to (suc k) l.track l.here) (g.R.ByteIn.remaining l.input)
    (g.R.ByteIn.failures l.input)
    × (n : ℕ) × ReadsWhole (element_taken l.track) l.fn.place (g.R.ByteIn.remaining l.initial.input)
    (g.R.ByteIn.remaining l.input) l.here n
    × (l.came ≡ l.seen.cued) × (m : ℕ) × ReadsWhole (seen_taken l.track)
    (l.fn.place, l.initial.seen) (g.R.ByteIn.remaining l.initial.input)
    (g.R.ByteIn.remaining l.input) (l.here, l.seen) m

abbrev pub decreases-loop-next : goal.decreases-loop-next
decreases-loop-next g l = amount l.here

use Rattle.std.specs.Prelude.{ℕ, ◌≤◌}
use Rattle.ffv1_reads.proofs.Reading.{Goes}
use Rattle.ffv1_matroska.specs.Places.{amount}
use Rattle.ffv1_matroska.specs.Segments.{block_sought}
use Rattle.ffv1_matroska.proofs.segment.seek_block.Given as goal

abbrev pub invariant-loop-place : goal.invariant-loop-place
invariant-loop-place g l =
    (k : ℕ) × (l.place.group ≤ k) × (amount l.place ≤ amount l.fn.start)
    × Goes (block_sought l.fn.start.group l.track l.fn.start) (g.R.ByteIn.remaining l.initial.input)
    (g.R.ByteIn.failures l.initial.input)
    (block_sought k l.track l.place) (g.R.ByteIn.remaining l.input) (g.R.ByteIn.failures l.input)

abbrev pub decreases-loop-place : goal.decreases-loop-place
decreases-loop-place g l = l.place.group

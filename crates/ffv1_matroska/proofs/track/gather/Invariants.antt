use Rattle.std.proofs.Common.{◌≡◌, ℕ, ◌≤◌, length}
use Rattle.ffv1_matroska.specs.Tracks.{known_up_to}
use Rattle.ffv1_matroska.proofs.track.gather.Given as goal

abbrev pub invariant-loop-child : goal.invariant-loop-child
invariant-loop-child l =
    (most : ℕ) × (length l.rest ≤ most)
    × (known_up_to (length l.content) l.initial.known l.content
    ≡ known_up_to most l.known l.rest)

abbrev pub decreases-loop-child : goal.decreases-loop-child
decreases-loop-child l = length l.rest

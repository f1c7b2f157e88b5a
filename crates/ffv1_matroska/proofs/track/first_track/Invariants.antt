use Rattle.std.proofs.Common.{◌≡◌, ℕ, ◌≤◌, length}
use Rattle.ffv1_matroska.specs.Tracks.{track_up_to}
use Rattle.ffv1_matroska.proofs.track.first_track.Given as goal

abbrev pub invariant-loop-child : goal.invariant-loop-child
invariant-loop-child l =
    (most : ℕ) × (length l.rest ≤ most) × (length l.rest ≤ length l.content)
    × (track_up_to (length l.content) l.content ≡ track_up_to most l.rest)

abbrev pub decreases-loop-child : goal.decreases-loop-child
decreases-loop-child l = length l.rest

use Rattle.std.proofs.Common.{◌≡◌, ℕ, ◌≤◌, length}
use Rattle.ffv1_matroska.specs.Tracks.{videos_up_to}
use Rattle.ffv1_matroska.proofs.track.count_videos.Given as goal

abbrev pub invariant-loop-child : goal.invariant-loop-child
invariant-loop-child l =
    (most : ℕ) × (length l.rest ≤ most)
    × (videos_up_to (length l.content) l.initial.count l.content
    ≡ videos_up_to most l.count l.rest)

abbrev pub decreases-loop-child : goal.decreases-loop-child
decreases-loop-child l = length l.rest

use Rattle.std.proofs.Common.{◌≡◌, ◌≤◌, ℕ, length}
use Rattle.ffv1_outline.specs.MatroskaOutline.{after_voids, after_voids_up_to}
use Rattle.ffv1_outline.proofs.matroska_outline.after_voids.Given as goal

abbrev pub invariant-loop-after : goal.invariant-loop-after
invariant-loop-after l =
    (n : ℕ) × (length l.rest ≤ n) × (after_voids_up_to n l.rest ≡ after_voids l.bytes)

abbrev pub decreases-loop-after : goal.decreases-loop-after
decreases-loop-after l = length l.rest

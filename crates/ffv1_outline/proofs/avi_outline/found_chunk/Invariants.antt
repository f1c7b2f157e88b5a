use Rattle.std.proofs.Common.{◌≡◌, ◌≤◌, ℕ, length}
use Rattle.ffv1_outline.specs.AviOutline.{chunk_up_to, found_chunk}
use Rattle.ffv1_outline.proofs.avi_outline.found_chunk.Given as goal

abbrev pub invariant-loop-chunk : goal.invariant-loop-chunk
invariant-loop-chunk l =
    (n : ℕ) × (length l.rest ≤ n) × (chunk_up_to n l.name l.rest ≡ found_chunk l.name l.bytes)

abbrev pub decreases-loop-chunk : goal.decreases-loop-chunk
decreases-loop-chunk l = length l.rest

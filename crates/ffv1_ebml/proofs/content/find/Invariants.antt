use Rattle.std.proofs.Common.{◌≡◌, ◌≤◌, ℕ, length}
use Rattle.ffv1_ebml.specs.Contents.{found, found_up_to}
use Rattle.ffv1_ebml.proofs.content.find.Given as goal

abbrev pub invariant-loop-child : goal.invariant-loop-child
invariant-loop-child l =
    (n : ℕ) × (length l.rest ≤ n) × (length l.rest ≤ length l.content)
    × (found_up_to n l.ident l.rest ≡ found l.ident l.content)

abbrev pub decreases-loop-child : goal.decreases-loop-child
decreases-loop-child l = length l.rest

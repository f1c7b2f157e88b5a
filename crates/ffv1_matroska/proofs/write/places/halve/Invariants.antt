use Rattle.std.proofs.Common.{◌≡◌, ◌≤◌, ◌<◌, ◌*◌, ℕ, length, get_or}
use Rattle.std.specs.Vec.{vec_capacity}
use Rattle.ffv1_matroska.proofs.write.places.halve.Given as goal

abbrev pub invariant-loop-k : goal.invariant-loop-k
invariant-loop-k g l =
    (length l.places.items ≡ length l.initial.places.items)
    × (vec_capacity l.places ≡ vec_capacity l.initial.places)
    × ((j : ℕ) → j < l.k → get_or l.places.items j 0 ≡ get_or l.initial.places.items (2 * j) 0)
    × ((j : ℕ) → l.k ≤ j → get_or l.places.items j 0 ≡ get_or l.initial.places.items j 0)

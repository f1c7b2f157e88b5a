use Rattle.std.proofs.Common.{◌≡◌, ℕ, ◌≤◌, ◌-◌, length, take}
use Rattle.ffv1_y4m.proofs.planes.lend_planes.Given as goal

abbrev pub invariant-loop-alloc : (g : goal.Over) → goal.Live-loop-alloc g → Type 0
invariant-loop-alloc g l =
    (length l.planes.items ≤ l.count)
    × (l.planes.len ≡ length l.planes.items)
    × (l.count ≤ length l.fn.planes.items → l.planes.items ≡ take l.count l.fn.planes.items)

abbrev pub decreases-loop-alloc : (g : goal.Over) → goal.Live-loop-alloc g → ℕ
decreases-loop-alloc g l = l.count - length l.planes.items

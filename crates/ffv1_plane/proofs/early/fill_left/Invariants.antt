use Rattle.std.proofs.Common.{◌≡◌, ℕ, ◌+◌, ◌<◌, get_or}
use Rattle.ffv1_plane.specs.Early.{left_above}
use Rattle.ffv1_plane.proofs.early.fill_left.Given as goal

abbrev pub invariant-loop-i : goal.invariant-loop-i
invariant-loop-i l = (k : ℕ) → k < l.i → get_or l.tl k 0 ≡ left_above l.two l.one (l.from + k)

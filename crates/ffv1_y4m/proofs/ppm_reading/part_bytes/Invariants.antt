use Rattle.std.proofs.Common.{◌≡◌, ℕ, ◌+◌, ◌*◌, ◌<◌, length, get_or}
use Rattle.ffv1_y4m.proofs.ppm_reading.part_bytes.Given as goal

abbrev pub invariant-loop-place : goal.invariant-loop-place
invariant-loop-place l =
    (length l.samples ≡ 3 * length l.plane)
    × ((i : ℕ) → i < l.place → get_or l.plane i 0 ≡ get_or l.samples (3 * i + l.first) 0)

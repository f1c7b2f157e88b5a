-- How many decisions a plane takes.
use Rattle.std.proofs.Common.{◌≡◌, ℕ, ◌+◌, ◌*◌, ◌^◌, ◌≤◌, List, length, refl, ◌∙◌, arith}
use Rattle.ffv1_range.specs.Counts.{Counts, Counted, uncounted, saturated, total}
use Rattle.ffv1_plane.specs.Quantisation.{Set}
use Rattle.ffv1_line.specs.Cell.{cell_of}
use Rattle.ffv1_line.specs.Length.{cell_decisions}
use Rattle.ffv1_line.proofs.lemmas.laws.Lengths.{cell_length, cell_most, chosen_rows_small, chosen_rows_many}
use Rattle.ffv1_pack.specs.Plane.{plane_residuals, plane_steps}

pub plane_length : (set : Set) (w h : ℕ) (samples : List ℕ) → length (plane_steps set w h samples) ≡ cell_decisions (plane_residuals set w h samples)
plane_length set w h samples =
    cell_length set (cell_of w samples) 0 (plane_residuals set w h samples) (chosen_rows_small set 8 (cell_of w samples) h (omega arith) (omega arith))

plane_few : (set : Set) (w h : ℕ) (samples : List ℕ) → w * h ≤ 2 ^ 26 → length (plane_steps set w h samples) ≤ 63 * 2 ^ 26
plane_few set w h samples few =
    let long = plane_length set w h samples in
    let most = cell_most (plane_residuals set w h samples) (chosen_rows_small set 8 (cell_of w samples) h (omega arith) (omega arith)) in
    let many = chosen_rows_many set 8 (cell_of w samples) h in
    omega (arith, long, most, many, few)

-- a counter of 64 bits tells them all
pub plane_counted : (set : Set) (w h : ℕ) (samples : List ℕ) (counts : Counts) → w * h ≤ 2 ^ 26 → Counted uncounted (plane_steps set w h samples) counts → total counts ≡ length (plane_steps set w h samples)
plane_counted set w h samples counts few c =
    let most = plane_few set w h samples few in
    let told = c.of_all 0 refl in
    told ∙ below (length (plane_steps set w h samples)) most
  where
    below : (n : ℕ) → n ≤ 63 * 2 ^ 26 → saturated (0 + n) ≡ n
    below n most = omega arith

use Rattle.std.proofs.Common.{◌-◌, ◌≡◌, ◌≤◌}
use Rattle.std.specs.Prelude.{find}
use Rattle.ffv1_pack.specs.Grids.{Grid, grid_order, grids_of, has_grid}
use Rattle.ffv1_pack.proofs.GridLists.{left_in}
use Rattle.ffv1_pack.proofs.default_grid.first_grid.Given as goal

abbrev pub invariant-loop-slices : goal.invariant-loop-slices
invariant-loop-slices l =
    (left_in (λ (g : Grid). has_grid l.profile l.depth l.head g.0 g.1) (grids_of l.wide) l.slices (1025 - l.slices)
    ≡ find (λ (g : Grid). has_grid l.profile l.depth l.head g.0 g.1) (grid_order l.wide))
    × (4 ≤ l.slices) × (l.slices ≤ 1025)

abbrev pub decreases-loop-slices : goal.decreases-loop-slices
decreases-loop-slices l = 1025 - l.slices

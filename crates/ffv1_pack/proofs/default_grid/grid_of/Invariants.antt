use Rattle.std.proofs.Common.{◌-◌, ◌≡◌, ◌≤◌, ◌*◌, ◌/◌, ◌==◌, ◌&&◌, nat_le}
use Rattle.std.specs.Prelude.{find}
use Rattle.ffv1_pack.specs.Grids.{Grid, grids_of, has_grid, most_rows}
use Rattle.ffv1_pack.proofs.GridLists.{left_of}
use Rattle.ffv1_pack.proofs.default_grid.grid_of.Given as goal

abbrev pub invariant-loop-columns : goal.invariant-loop-columns
invariant-loop-columns l =
    (left_of (λ (g : Grid). has_grid l.profile l.depth l.head g.0 g.1)
    (λ g. (g.0 * g.1 == l.slices) && nat_le g.1 (most_rows l.wide g.0)) (λ columns. (columns, l.slices / columns))
    l.columns (33 - l.columns)
    ≡ find (λ (g : Grid). has_grid l.profile l.depth l.head g.0 g.1) (grids_of l.wide l.slices))
    × (1 ≤ l.columns) × (l.columns ≤ 33)

abbrev pub decreases-loop-columns : goal.decreases-loop-columns
decreases-loop-columns l = 33 - l.columns

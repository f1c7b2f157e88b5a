-- Its cell in a plane, of at least one sample.
use Rattle.std.proofs.Common.{ℕ, ◌<◌, ◌%◌, sym, subst}
use Rattle.ffv1_slice.specs.Grid.{Division, across}
use Rattle.ffv1_frame.proofs.lemmas.picture.Lines.{column_inside}
use Rattle.ffv1_encode.proofs.slice.Slice.cell.Goals as goal

pub returns-clause-some : goal.returns-clause-some
returns-clause-some g c =
    let slice = c.args.self.now in
    let d : Division = slice.grid.now in
    let n : ℕ = c.args.self.now.number in
    let wide = c.parts_follow_one_another.ensures.some (across d c.args.plane) (n % d.columns)
    (c.cells_tile_their_plane.ensures.across d c.args.plane slice.division)
    (column_inside n d.columns d.rows slice.division.some_columns) in
    subst (λ k. 0 < k) (sym c.cell.ensures.width) wide

-- The rectangle of a slice in a plane.
use Rattle.std.proofs.lemmas.Nat.{div_below}
use Rattle.std.proofs.Common.{◌<◌, ◌*◌, sym, subst, arith}
use Rattle.ffv1_slice.specs.Grid.{Division, slices_in}
use Rattle.ffv1_slice.proofs.grid.Grid.cell.Goals as goal

pub coded_of-requires-2-clause-k : goal.coded_of-requires-2-clause-k
coded_of-requires-2-clause-k c =
    let some : 0 < c.self.inside.columns = search in
    let few : c.args.slice < c.self.inside.columns * c.self.inside.rows =
    subst (λ (d : Division). c.args.slice < slices_in d) (sym c.self.view_is) c.requires in
    let below : c.args.slice < c.self.inside.rows * c.self.inside.columns = omega (arith, few) in
    div_below c.args.slice c.self.inside.columns c.self.inside.rows some below

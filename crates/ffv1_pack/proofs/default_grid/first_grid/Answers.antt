-- The first grid that a picture may have, in the order of grids.
use Rattle.std.proofs.Common.{◌≡◌, ◌∙◌, ◌-◌, ◌+◌, suc, refl, sym, arith}
use Rattle.ffv1_pack.specs.Grids.{Grid, grid_order, grids_of, has_grid}
use Rattle.ffv1_pack.proofs.GridLists.{lists_found, lists_more}
use Rattle.ffv1_pack.proofs.default_grid.first_grid.Goals as goal

pub loop-slices-init : goal.loop-slices-init
unfolding grid_order
loop-slices-init c = (refl, omega arith, omega arith)

pub returns-in-Some : goal.returns-in-Some
returns-in-Some c =
    let h = c.args.head.now in
    let left : 1025 - c.loop-slices.slices ≡ suc (1025 - (c.loop-slices.slices + 1)) =
    omega (arith, c.loop-slices-test.true) in
    let here = lists_found (λ (g : Grid). has_grid c.args.profile c.args.depth h g.0 g.1) (grids_of c.args.wide)
    c.loop-slices.slices _ _ c.in-Some.grid left (sym c.grid_of.ensures ∙ c.in-Some.is) in
    sym (sym c.loop-slices.invariant.0 ∙ here)

pub loop-slices-preserved : goal.loop-slices-preserved
loop-slices-preserved c =
    let h = c.args.head.now in
    let left : 1025 - c.loop-slices.slices ≡ suc (1025 - (c.loop-slices.slices + 1)) =
    omega (arith, c.loop-slices-test.true) in
    let so = lists_more (λ (g : Grid). has_grid c.args.profile c.args.depth h g.0 g.1) (grids_of c.args.wide)
    c.loop-slices.slices _ _ left (sym c.grid_of.ensures ∙ c.in_default.is) in (
      sym so ∙ c.loop-slices.invariant.0,
      omega (arith, c.loop-slices.invariant.1),
      omega (arith, c.loop-slices-test.true),
    )

-- The first grid of so many slices that a picture may have, of fewest columns.
use Rattle.std.proofs.Common.{◌≡◌, ◌∙◌, ◌-◌, ◌+◌, ◌*◌, ◌/◌, ◌==◌, ◌&&◌, nat_le, suc, Bool, true}
use Rattle.std.proofs.Common.{false, refl, sym, ap, arith}
use Rattle.std.proofs.lemmas.Bool.{ne_eqb}
use Rattle.std.proofs.lemmas.Bool.Decides.{nat_tests}
use Rattle.ffv1_pack.specs.Grids.{Grid, grids_of, has_grid, most_rows}
use Rattle.ffv1_pack.proofs.GridLists.{left_more}
use Rattle.ffv1_pack.proofs.default_grid.grid_of.Goals as goal
use Rattle.ffv1_pack.proofs.default_grid.grid_of.Goals.{else-columns-rows-via-then-columns-rows+then-rows-most+else-has_grid}
use Rattle.ffv1_pack.proofs.default_grid.grid_of.Goals.{else-columns-rows-via-then-columns-rows+else-rows-most}
use Rattle.ffv1_pack.proofs.default_grid.grid_of.Goals.{else-columns-rows-via-else-columns-rows}

pub loop-columns-init : goal.loop-columns-init
unfolding grids_of
loop-columns-init c = (refl, omega arith, omega arith)

-- one of three tests fails
first : (a b p : Bool) → a ≡ false → ((a && b) && p) ≡ false
first a b p e = ap (λ x. (x && b) && p) e

third : (a b p : Bool) → p ≡ false → ((a && b) && p) ≡ false
third true true p e = e
third true false p e = refl
third false b p e = refl

second : (a b p : Bool) → b ≡ false → ((a && b) && p) ≡ false
second true b p e = ap (λ x. x && p) e
second false b p e = refl

pub loop-columns-preserved : goal.loop-columns-preserved
loop-columns-preserved c =
    let k = c.loop-columns.columns in
    let rows = c.args.slices / k in
    let h = c.args.head.now in
    let few : Bool = nat_le rows (most_rows c.args.wide k) in
    let whole : Bool = k * rows == c.args.slices in
    let none : ((whole && few) && has_grid c.args.profile c.args.depth h k rows) ≡ false =
    elim c.else-columns-rows.branch [
      | else-columns-rows-via-then-columns-rows+then-rows-most+else-has_grid w ↦ third whole few
          (has_grid c.args.profile c.args.depth h k rows) (sym w.has_grid.ensures ∙ w.if-has_grid.false)
      | else-columns-rows-via-then-columns-rows+else-rows-most w ↦ second whole few
          (has_grid c.args.profile c.args.depth h k rows) (grind (arith, nat_tests, w.if-rows-most.false))
      | else-columns-rows-via-else-columns-rows w ↦ first whole few (has_grid c.args.profile c.args.depth h k rows)
          (ne_eqb (k * rows) c.args.slices w.if-columns-rows.false)
    ] in
    let left : 33 - k ≡ suc (33 - (k + 1)) = omega (arith, c.loop-columns-test.true) in
    let so = left_more (λ (g : Grid). has_grid c.args.profile c.args.depth h g.0 g.1)
    (λ g. (g.0 * g.1 == c.args.slices) && nat_le g.1 (most_rows c.args.wide g.0))
    (λ columns. (columns, c.args.slices / columns)) k _ _ left none in (
      sym so ∙ c.loop-columns.invariant.0,
      omega (arith, c.loop-columns.invariant.1),
      omega (arith, c.loop-columns-test.true),
    )

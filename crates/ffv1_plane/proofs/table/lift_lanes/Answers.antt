-- The levels of 16 places of a table, raised by the greatest, which all lanes of `most` have: added
-- in the lower half, else taken away.
use Rattle.std.proofs.Common.{ℕ, ◌≡◌, ◌+◌, ◌-◌, ◌%◌, ◌≤◌, nat_lt, cond, arith, Bool, true, false}
use Rattle.std.proofs.Common.{◌∙◌}
use Rattle.std.proofs.lemmas.Simd.{splat_is_map, zip2_of_maps}
use mir.Syntax.{w8}
use Rattle.ffv1_plane.proofs.LaneValues.{by_values, chosen}
use Rattle.ffv1_plane.proofs.table.lift_lanes.Goals as goal

lifted_is : (lower : Bool) (most level : ℕ) → most ≤ 5 → level ≤ most → cond lower
    ((most + level) % 256) ((most + (256 - level)) % 256) ≡ cond lower (most + level) (most - level)
lifted_is true most level few le = omega arith
lifted_is false most level few le = omega arith

pub returns : goal.returns
returns c = λ xs f g top long places levels is few le.
    let most = is ∙ splat_is_map xs 16 top long in
    by_values xs _ (λ x. cond (nat_lt (f x) 128) ((top + g x) % 256) ((top + (256 - g x)) % 256))
    (λ x. cond (nat_lt (f x) 128) (top + g x) (top - g x))
    (chosen w8 nat_lt xs _ _ _ _ f (λ x. 128) (λ x. (top + g x) % 256)
    (λ x. (top + (256 - g x)) % 256) places (splat_is_map xs 16 128 long)
    (zip2_of_maps (λ a b. (a + b) % 256) (λ x. top) g xs most levels)
    (zip2_of_maps (λ a b. (a + (256 - b)) % 256) (λ x. top) g xs most levels))
    (λ x. lifted_is (nat_lt (f x) 128) top (g x) few (le x))

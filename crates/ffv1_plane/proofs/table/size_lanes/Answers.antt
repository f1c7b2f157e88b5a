-- How far 16 places of a table lie from its first one, from either side.
use Rattle.std.proofs.Common.{ℕ, ◌≡◌, ◌+◌, ◌-◌, ◌%◌, ◌<◌, min, nat_lt, cond, arith, inl, inr}
use Rattle.std.proofs.lemmas.Bool.{cases_lt, lt-ltb, le-ltb}
use Rattle.std.proofs.lemmas.Simd.{splat_is_map, zip2_of_maps}
use mir.Syntax.{w8}
use Rattle.ffv1_plane.proofs.LaneValues.{by_values, chosen}
use Rattle.ffv1_plane.proofs.table.size_lanes.Goals as goal

abbrev opposite : ℕ → ℕ
opposite n = (0 + (256 - n)) % 256

least_is : (n : ℕ) → n < 256 → cond (nat_lt n (opposite n)) n (opposite n) ≡ min n (256 - n)
least_is n below = elim (cases_lt n (opposite n)) [
  | inl less ↦ rw (lt-ltb n (opposite n) less) (omega arith)
  | inr more ↦ rw (le-ltb n (opposite n) more) (omega arith)
]

pub returns : goal.returns
returns c = λ xs f long are below.
    let turned = zip2_of_maps (λ a b. (a + (256 - b)) % 256) (λ x. 0) f xs
    (splat_is_map xs 16 0 long) are in
    by_values xs _ (λ x. cond (nat_lt (f x) (opposite (f x))) (f x) (opposite (f x)))
    (λ x. min (f x) (256 - f x))
    (chosen w8 nat_lt xs _ _ _ _ f (λ x. opposite (f x)) f (λ x. opposite (f x)) are turned are
    turned)
    (λ x. least_is (f x) (below x))

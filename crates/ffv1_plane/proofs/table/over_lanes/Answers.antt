-- 1 for each of 16 sizes above a sample, which all lanes of `places` have, and else 0.
use Rattle.std.proofs.Common.{ℕ, ◌≡◌, ◌-◌, min, nat_le, cond, arith, inl, inr, ◌∙◌}
use Rattle.std.proofs.lemmas.Bool.{cases_lt, lt-leb, le-leb}
use Rattle.std.proofs.lemmas.Simd.{splat_is_map}
use mir.Syntax.{w8}
use Rattle.ffv1_plane.proofs.LaneValues.{by_values, chosen}
use Rattle.ffv1_plane.proofs.table.over_lanes.Goals as goal

over_is : (size place : ℕ) → cond (nat_le size place) 0 1 ≡ min (size - place) 1
over_is size place = elim (cases_lt place size) [
  | inl less ↦ rw (lt-leb size place less) (omega arith)
  | inr more ↦ rw (le-leb size place more) (omega arith)
]

pub returns : goal.returns
returns c = λ xs f place long are is.
    by_values xs _ (λ x. cond (nat_le (f x) place) 0 1) (λ x. min (f x - place) 1)
    (chosen w8 nat_le xs _ _ _ _ f (λ x. place) (λ x. 0) (λ x. 1) are
    (is ∙ splat_is_map xs 16 place long) (splat_is_map xs 16 0 long)
    (splat_is_map xs 16 1 long))
    (λ x. over_is (f x) place)

-- The residual that an encoder takes for a sample: the difference to its prediction, its sign
-- flipped where `flip` holds (RFC 9043, 3.5), then folded (3.8), for every `pred` and `sample`.
use Rattle.std.proofs.Common.{◌≡◌, refl, ap, ◌∙◌, arith, ℕ, ◌+◌, ◌-◌, ◌*◌, ◌%◌, ◌^◌, ◌<◌, pos, ℤ}
use Rattle.std.proofs.Common.{◌+ℤ◌, ◌-ℤ◌, inl, inr}
use Rattle.std.proofs.lemmas.Int.{ints}
use Rattle.std.specs.Int.{w32, int_rem_euclid}
use Rattle.ffv1_plane.proofs.Remainders.{rem-congruent, congruent_factor, congruent_add}
use Rattle.ffv1_plane.proofs.Remainders.{wrapped_sub}
use mir.Val.{to_z, of_z, SFits}
use Rattle.ffv1_plane.proofs.residual.residual_of.Goals as goal

-- the flipped difference, folded
folded_flipped : (half n c : ℕ) (p : ℤ) (s : ℕ) → 0 < n → 4294967296 ≡ c * n → SFits w32 p → s < 2 ^
    16 →
    int_rem_euclid (to_z w32 ((of_z w32 p + (4294967296 - s)) % 4294967296) +ℤ pos half) (pos n) ≡
    int_rem_euclid (pos 0 -ℤ (pos s -ℤ p) +ℤ pos half) (pos n)
folded_flipped half n c p s some whole fits small =
    let turned : pos 0 -ℤ (pos s -ℤ p) ≡ p -ℤ pos s = omega (arith, ints) in
    let near = congruent_factor 4294967296 n c _ _ whole (wrapped_sub p s fits small) in
    rw turned (rem-congruent n _ _ some (congruent_add n _ _ (pos half) near))

pub returns-then-flip-clause-value : goal.returns-then-flip-clause-value
returns-then-flip-clause-value c =
    let same : to_z w32 (of_z w32 c.fold.result) ≡ c.fold.result = omega (arith, ints) in
    same ∙ c.fold.ensures.value ∙ elim c.requires [
      | inl is ↦ rw (is, c.if-flip.true) (ap (λ v. v -ℤ pos 128)
          (folded_flipped 128 256 16777216 c.args.pred c.args.sample (omega arith) refl
          c.ranges.pred (omega arith)))
      | inr is ↦ rw (is, c.if-flip.true) (ap (λ v. v -ℤ pos 256)
          (folded_flipped 256 512 8388608 c.args.pred c.args.sample (omega arith) refl c.ranges.pred
          (omega arith)))
    ]

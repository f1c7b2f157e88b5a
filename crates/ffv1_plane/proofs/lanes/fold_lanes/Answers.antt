-- 16 differences modulo 65536, folded to `bits` bits, modulo 512.
use Rattle.std.proofs.Common.{ℕ, ◌≡◌, refl, ◌*◌, ◌/◌, ◌%◌, ◌^◌, bit_and, arith, inl, inr}
use Rattle.std.proofs.lemmas.Nat.{and_mask}
use Rattle.std.proofs.lemmas.Simd.{zip2_of_maps, splat_is_map}
use Rattle.ffv1_plane.specs.Lanes.{folded_modulo}
use Rattle.ffv1_plane.proofs.LaneValues.{by_values}
use Rattle.ffv1_plane.proofs.LaneSums.{plus}
use Rattle.ffv1_plane.proofs.lanes.fold_lanes.Goals as goal

abbrev right : ℕ → ℕ → ℕ
right x by = x / 2 ^ by

abbrev left : ℕ → ℕ → ℕ
left x by = x * 2 ^ by % 65536

eight_is : (bits n : ℕ) → bits ≡ 8 → plus (bit_and n 255) (left (right (bit_and n 255) 7) 8) ≡
    folded_modulo bits n
unfolding folded_modulo
eight_is bits n is = rw (is, and_mask n 8) (omega arith)

nine_is : (bits n : ℕ) → bits ≡ 9 → bit_and n 511 ≡ folded_modulo bits n
unfolding folded_modulo
nine_is bits n is = rw (is, and_mask n 9) refl

pub returns-then-bits-eq8 : goal.returns-then-bits-eq8
returns-then-bits-eq8 c = λ places f long are.
    let low = zip2_of_maps bit_and f (λ (x : ℕ). 255) places are
    (splat_is_map places 16 255 long) in
    by_values places _ _ (λ (x : ℕ). folded_modulo c.args.bits (f x))
    (zip2_of_maps plus _ _ places low (zip2_of_maps left _ _ places
    (zip2_of_maps right _ _ places low (splat_is_map places 16 7 long))
    (splat_is_map places 16 8 long)))
    (λ x. eight_is c.args.bits (f x) c.if-bits-eq8.true)

pub returns : goal.returns
returns c = λ places f long are.
    by_values places _ _ (λ (x : ℕ). folded_modulo c.args.bits (f x))
    (zip2_of_maps bit_and f (λ (x : ℕ). 511) places are (splat_is_map places 16 511 long))
    (λ x. nine_is c.args.bits (f x) (elim c.requires
    [ inl is ↦ absurd (c.if-bits-eq8.false is) | inr is ↦ is ]))

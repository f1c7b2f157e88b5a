-- Predictions and residuals of a sample, as lanes have them.
use Rattle.std.proofs.Common.{◌≡◌, refl, ap, ◌∙◌, sym, ℕ, ◌+◌, ◌-◌, ◌*◌, ◌/◌, ◌%◌, ◌<◌, ◌≤◌, ◌⊎◌, unsigned_abs, arith, ℤ, pos, ◌-ℤ◌, ◌+ℤ◌, ◌^◌, nat_lt, cond, Bool, true, false, inl, inr, min, max}
use Rattle.std.proofs.lemmas.Int.{ints, int_min_is, int_max_is}
use Rattle.std.proofs.lemmas.Bool.{cases_lt, lt-ltb, le-ltb}
use Rattle.std.proofs.Math.Nat.{mod-lt, mod-add-div', mod-eq_of_lt, add-mul-mod_self_right, mul_comm, mul_assoc}
use Rattle.std.proofs.lemmas.Nat.{pow-add, pow_pos, and_mask}
use Rattle.std.proofs.Common.{bit_and, pow_mono}
use Rattle.std.specs.Int.{int_min, int_max}
use Rattle.ffv1_plane.specs.declared.prediction.Around.{Around}
use Rattle.ffv1_plane.specs.Quantisation.{Set}
use Rattle.ffv1_plane.specs.Context.{context_of, size_of, flip_of}
use Rattle.ffv1_plane.specs.Prediction.{predicted, median}
use Rattle.ffv1_plane.specs.Residual.{turned, folded, chosen_of}
use Rattle.ffv1_plane.specs.Lanes.{AreSamples, modulo_512, folded_modulo, difference_modulo, raised_modulo, raised_residual}
use Rattle.ffv1_plane.proofs.Remainders.{IsCongruent, congruent_factor, rem_is}
use Rattle.ffv1_plane.proofs.Folding.{folded_near, folded_is, congruent_sym, congruent_trans}
use Rattle.ffv1_plane.proofs.Sums.{negative_size, negative_flip, positive_size, positive_flip}

-- difference of two lanes of 16 bits
abbrev pub minus : ℕ → ℕ → ℕ
minus x y = (x + (65536 - y)) % 65536

-- the prediction by lanes
abbrev pub lane_prediction : Around → ℕ
lane_prediction a = minus (max a.l a.t) (minus (min (max a.tl (min a.l a.t)) (max a.l a.t)) (min a.l a.t))

-- the same over numbers without a limit
abbrev plain : ℕ → ℕ → ℕ → ℕ
plain l t tl = max l t - (min (max tl (min l t)) (max l t) - min l t)

uncut : (l t tl : ℕ) → l < 65536 → t < 65536 → minus (max l t) (minus (min (max tl (min l t)) (max l t)) (min l t)) ≡ plain l t tl
uncut l t tl fits fits' = omega arith

least_of : (a b : ℕ) → int_min (pos a) (pos b) ≡ pos (min a b)
least_of a b = omega (arith, ints, int_min_is)

most_of : (a b : ℕ) → int_max (pos a) (pos b) ≡ pos (max a b)
most_of a b = omega (arith, ints, int_max_is)

between : (least most tl : ℕ) (x : ℤ) → least ≤ most → x ≡ pos (least + most) -ℤ pos tl → pos (most - (min (max tl least) most - least)) ≡ int_max (pos least) (int_min (pos most) x)
between least most tl x ordered is =
    let inner : int_min (pos most) x ≡ pos (least + most) -ℤ pos (max tl least) = omega (arith, ints, int_min_is) in
    rw inner (omega (arith, ints, int_max_is))

middle : (l t tl : ℕ) → pos (plain l t tl) ≡ median (pos l) (pos t) (pos (l + t) -ℤ pos tl)
middle l t tl =
    let sum : min l t + max l t ≡ l + t = omega arith in
    rw (least_of l t, most_of l t) (between (min l t) (max l t) tl _ (omega arith) (ap (λ n. pos n -ℤ pos tl) (sym sum)))

pub prediction_is : (a : Around) → AreSamples a → pos (lane_prediction a) ≡ predicted a
prediction_is a fits = ap pos (uncut a.l a.t a.tl fits.l fits.t) ∙ middle a.l a.t a.tl

pub prediction_size : (a : Around) → AreSamples a → lane_prediction a ≡ unsigned_abs (predicted a)
prediction_size a fits = ap unsigned_abs (prediction_is a fits)

-- the number of the context
pub lane_size : (set : Set) (a : Around) (s half : ℕ) → context_of set a ≡ pos s -ℤ pos half → s < 65536 → half < 65536 →
    cond (nat_lt s half) (minus half s) (minus s half) ≡ size_of set a
lane_size set a s half is small few = elim (cases_lt s half) [
  | inl less ↦ let size = negative_size set a s half is less in rw (lt-ltb s half less, ← size) (omega arith)
  | inr more ↦ let size = positive_size set a s half is more in rw (le-ltb s half more, ← size) (omega arith)
]

pub lane_flip : (set : Set) (a : Around) (s half : ℕ) → context_of set a ≡ pos s -ℤ pos half → nat_lt s half ≡ flip_of set a
lane_flip set a s half is = elim (cases_lt s half) [
  | inl less ↦ lt-ltb s half less ∙ negative_flip set a s half is less
  | inr more ↦ le-ltb s half more ∙ positive_flip set a s half is more
]

-- the difference, turned or not
pub difference_near : (flip : Bool) (p s : ℕ) → p < 65536 → s < 65536 → IsCongruent 65536 (turned flip (pos s -ℤ pos p)) (pos (cond flip (minus p s) (minus s p)))
difference_near true p s few small = record { down = 1; up = (p + (65536 - s)) / 65536; same = omega (arith, ints) }
difference_near false p s few small = record { down = 1; up = (s + (65536 - p)) / 65536; same = omega (arith, ints) }

congruent_plus : (n half : ℕ) (x y : ℤ) → IsCongruent n x y → IsCongruent n (x +ℤ pos half) (y +ℤ pos half)
congruent_plus n half x y is = let same = is.same in record { down = is.down; up = is.up; same = omega (arith, ints) }

rest_of : (n m : ℕ) → IsCongruent n (pos m) (pos (m % n))
rest_of n m = let whole = mod-add-div' m n in record { down = 0; up = m / n; same = omega (arith, ints) }

nine_is : (z : ℤ) (n : ℕ) → IsCongruent 65536 z (pos n) → modulo_512 (folded 9 z) ≡ n % 512
nine_is z n near =
    let at = folded_near 9 z (omega arith) in
    let whole = congruent_factor 65536 512 128 z (pos n) refl near in
    let rest : IsCongruent 512 (pos n) (pos (n % 512)) = record { down = 0; up = n / 512; same = omega (arith, ints) } in
    ap unsigned_abs (rem_is 512 (folded 9 z) (n % 512) (omega arith) (congruent_trans 512 _ _ _ (congruent_sym 512 _ _ at.near) (congruent_trans 512 _ _ _ whole rest)))

eight_is : (z : ℤ) (n : ℕ) → IsCongruent 65536 z (pos n) → modulo_512 (folded 8 z) ≡ n % 256 + n % 256 / 128 * 256
eight_is z n near =
    let whole = congruent_factor 65536 256 256 z (pos n) refl near in
    let rest : IsCongruent 256 (pos n) (pos (n % 256)) = record { down = 0; up = n / 256; same = omega (arith, ints) } in
    let low = congruent_trans 256 _ _ _ whole rest in
    elim (cases_lt (n % 256) 128) [
      | inl less ↦
          let is = folded_is 8 z (pos (n % 256)) (omega arith) low (omega (arith, ints)) (omega (arith, ints)) in
          let same : n % 256 + n % 256 / 128 * 256 ≡ n % 256 = omega (arith, less) in
          rw (is, same) (ap unsigned_abs (rem_is 512 (pos (n % 256)) (n % 256) (omega arith) (record { down = 0; up = 0; same = refl })))
      | inr more ↦
          let down : IsCongruent 256 (pos (n % 256)) (pos (n % 256) -ℤ pos 256) = record { down = 0; up = 1; same = omega (arith, ints) } in
          let is = folded_is 8 z (pos (n % 256) -ℤ pos 256) (omega arith) (congruent_trans 256 _ _ _ low down) (omega (arith, ints)) (omega (arith, ints)) in
          let same : n % 256 + n % 256 / 128 * 256 ≡ n % 256 + 256 = omega (arith, more) in
          rw (is, same) (ap unsigned_abs (rem_is 512 (pos (n % 256) -ℤ pos 256) (n % 256 + 256) (omega arith) (record { down = 1; up = 0; same = omega (arith, ints) })))
    ]

powers_whole : (bits : ℕ) → bits ≤ 15 → 2 ^ bits * 2 ^ (16 - bits) ≡ 65536
powers_whole bits few =
    let sum : bits + (16 - bits) ≡ 16 = omega arith in
    sym (pow-add 2 bits (16 - bits)) ∙ ap (λ k. 2 ^ k) sum

-- a power of two that is taken in 16 bits
word_power : (bits : ℕ) → bits ≤ 15 → 1 * 2 ^ bits % 65536 ≡ 2 ^ bits
word_power bits few =
    let most = pow_mono {i = bits} {j = 15} few in
    let one : 1 * 2 ^ bits ≡ 2 ^ bits = omega arith in
    rw one (mod-eq_of_lt (omega (arith, most)))

word_rest : (bits m : ℕ) → bits ≤ 15 → m % 65536 % 2 ^ bits ≡ m % 2 ^ bits
word_rest bits m few =
    let split = mod-add-div' m 65536 in
    let times : m / 65536 * 2 ^ (16 - bits) * 2 ^ bits ≡ m / 65536 * 65536 =
    mul_assoc (m / 65536) (2 ^ (16 - bits)) (2 ^ bits) ∙ ap (λ k. m / 65536 * k) (mul_comm (2 ^ (16 - bits)) (2 ^ bits) ∙ powers_whole bits few) in
    sym (add-mul-mod_self_right (m % 65536) (m / 65536 * 2 ^ (16 - bits)) (2 ^ bits)) ∙ ap (λ k. k % 2 ^ bits) (ap (λ k. m % 65536 + k) times ∙ split)

-- a difference that a lane folds and raises
pub raised_lane : (bits n : ℕ) → 0 < bits → bits ≤ 15 → bit_and ((n + 1 * 2 ^ (bits - 1) % 65536) % 65536) (1 * 2 ^ bits % 65536 - 1) ≡ raised_modulo bits n
unfolding raised_modulo
raised_lane bits n some few =
    rw (word_power (bits - 1) (omega arith), word_power bits few, and_mask ((n + 2 ^ (bits - 1)) % 65536) bits) (word_rest bits (n + 2 ^ (bits - 1)) few)

-- the difference by lanes
pub difference_is : (flip : Bool) (p s : ℕ) → cond flip (minus p s) (minus s p) ≡ difference_modulo flip p s
unfolding difference_modulo
difference_is flip p s = refl

-- a difference that is folded and raised
pub raised_is : (bits : ℕ) (flip : Bool) (p s : ℕ) → 0 < bits → bits ≤ 15 → p < 65536 → s < 65536 →
    raised_modulo bits (difference_modulo flip p s) ≡ raised_residual bits (chosen_of bits (pos p) flip s)
unfolding raised_modulo difference_modulo
raised_is bits flip p s some few fits small =
    let n = cond flip (minus p s) (minus s p) in
    let half = 2 ^ (bits - 1) in
    let z = turned flip (pos s -ℤ pos p) in
    let whole = powers_whole bits few in
    let near = congruent_factor 65536 (2 ^ bits) (2 ^ (16 - bits)) z (pos n) (sym whole ∙ mul_comm (2 ^ bits) (2 ^ (16 - bits))) (difference_near flip p s fits small) in
    let raised = congruent_plus (2 ^ bits) half z (pos n) near in
    let rest = rest_of (2 ^ bits) (n + half) in
    let is = rem_is (2 ^ bits) (z +ℤ pos half) ((n + half) % 2 ^ bits) (mod-lt (n + half) (pow_pos bits)) (congruent_trans (2 ^ bits) _ _ _ raised rest) in
    let back : chosen_of bits (pos p) flip s +ℤ pos half ≡ pos ((n + half) % 2 ^ bits) = omega (arith, ints, is) in
    sym (ap unsigned_abs back)

-- the residual modulo 512
pub residual_is : (bits : ℕ) (flip : Bool) (p s : ℕ) → (bits ≡ 8) ⊎ (bits ≡ 9) → p < 65536 → s < 65536 →
    folded_modulo bits (difference_modulo flip p s) ≡ modulo_512 (chosen_of bits (pos p) flip s)
unfolding folded_modulo difference_modulo
residual_is bits flip p s (inl is) few small = rw is (sym (eight_is _ _ (difference_near flip p s few small)))
residual_is bits flip p s (inr is) few small = rw is (sym (nine_is _ _ (difference_near flip p s few small)))

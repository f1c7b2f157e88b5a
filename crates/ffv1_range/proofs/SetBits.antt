-- The ones of a mantissa are the bits of its number that are set, but for the highest.
use Rattle.std.proofs.Common.{◌≡◌, refl, ℕ, zero, suc, ◌+◌, ◌-◌, ◌/◌, ◌%◌, ◌^◌, ◌<◌, ◌≤◌, ◌==◌, [], ◌∷◌, min, arith, ap, ◌∙◌, zero-add, inl, inr}
use Rattle.std.proofs.lemmas.Nat.{shr-shr}
use Rattle.std.proofs.Math.Nat.{pow-zero, div-eq_of_lt}
use Rattle.std.proofs.lemmas.Bool.{cases_lt}
use Rattle.std.specs.Int.Count
use Rattle.ffv1_range.specs.Symbols.{exponent, mantissa_steps}
use Rattle.ffv1_range.specs.Counts.{ones_in}
use Rattle.ffv1_range.proofs.Counting.{ones_in-append}
use Rattle.ffv1_range.proofs.Exponents.{below_power}
use Rattle.ffv1_range.proofs.Mantissa.{one_if_odd}
use Rattle.ffv1_range.proofs.Prefix.{exponent_of}
use Rattle.std.proofs.Math.Pow.{pow_pos}

set_bits_suc : (d n : ℕ) → Count.ones_in (suc d) n ≡ n % 2 + Count.ones_in d (n / 2)
unfolding Count.ones_in
set_bits_suc d n = refl

set_bits_more : (d c n : ℕ) → Count.ones_in (d + suc c) n ≡ n % 2 + Count.ones_in (d + c) (n / 2)
set_bits_more d c n =
    let up : d + suc c ≡ suc (d + c) = omega arith in
    rw up (set_bits_suc (d + c) n)

set_bits_zero : (d : ℕ) → Count.ones_in d 0 ≡ 0
unfolding Count.ones_in
set_bits_zero zero = refl
set_bits_zero (suc d) = let rest = set_bits_zero d in omega arith

set_bits_one : (d : ℕ) → 0 < d → Count.ones_in d 1 ≡ 1
unfolding Count.ones_in
set_bits_one zero h = absurd (omega arith)
set_bits_one (suc d) h = let rest = set_bits_zero d in omega arith

mantissa_set : (c place d n : ℕ) → ones_in (mantissa_steps c place n) + Count.ones_in d (n / 2 ^ c) ≡ Count.ones_in (d + c) n
mantissa_set zero place d n =
    let whole : n / 2 ^ 0 ≡ n = rw (pow-zero 2) (omega arith) in
    let same : d + 0 ≡ d = omega arith in
    rw (whole, same) (zero-add (Count.ones_in d n))
mantissa_set (suc c) place d n =
    let rest = mantissa_set c (suc place) d (n / 2) in
    let down : n / 2 / 2 ^ c ≡ n / 2 ^ suc c = shr-shr n 1 c ∙ ap (λ j. n / 2 ^ j) (omega arith) in
    let here = rw down at rest in
    let bit = one_if_odd n in
    let more = ones_in-append (mantissa_steps c (suc place) (n / 2)) (record { slot = 22 + min place 9; bit = (n % 2) == 1 } ∷ []) in
    let step = set_bits_more d c n in
    omega arith

pub mantissa_bits : (e n : ℕ) → 2 ^ e ≤ n → n / 2 ^ e ≡ 1 → ones_in (mantissa_steps e 0 n) + 1 ≡ Count.ones_in n n
mantissa_bits e n least top =
    let small = below_power e in
    let one = set_bits_one (n - e) (omega arith) in
    let all = mantissa_set e 0 (n - e) n in
    let whole : n - e + e ≡ n = omega arith in
    let bits = rw (top, whole) at all in
    omega arith

-- a quotient of 1 is of no larger number
quotient_one : (n p : ℕ) → 0 < p → n / p ≡ 1 → p ≤ n
quotient_one n p positive e = elim (cases_lt n p) [
  | inl less ↦ let none = div-eq_of_lt {n = n} {m = p} less in absurd (omega arith)
  | inr more ↦ more
]

pub number_bits : (n : ℕ) → 0 < n → n < 2 ^ 31 → ones_in (mantissa_steps (exponent n) 0 n) + 1 ≡ Count.ones n
unfolding Count.ones
number_bits n positive small =
    let is = exponent_of n positive small in
    mantissa_bits (exponent n) n (quotient_one n (2 ^ exponent n) (pow_pos (exponent n)) is.top) is.top

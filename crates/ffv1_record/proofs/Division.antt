-- Long division is additive, goes place by place, and leaves a remainder of 32 bits.
use Rattle.std.specs.Prelude.{bit_xor}
use Rattle.std.proofs.Common.{◌≡◌, refl, ℕ, zero, suc, ◌+◌, ◌*◌, ◌/◌, ◌%◌, ◌^◌, ◌<◌, ◌≤◌, arith, ap, sym, ◌∙◌, inl, inr}
use Rattle.std.specs.Int.{bit_at}
use Rattle.std.specs.Int.Bits.{xor_assoc, xor_self, xor_zero_l}
use Rattle.std.proofs.lemmas.Bool.{cases_eq}
use Rattle.std.proofs.Math.Nat.{mul-le-mul_left, pow-suc, div-add-mod, div-eq_of_lt, div-div-eq-div-mul, mul-div_cancel}
use Rattle.std.proofs.lemmas.Nat.{xor_block, xor_lt, xor_comm, pow-add, pow_pos, div_below, mod_below}
use Rattle.std.proofs.lemmas.Nat.Bits.{bit_at_xor}
use Rattle.ffv1_record.specs.Parity.{generator, struck, divided}

pub divided-suc : (place n : ℕ) → divided (suc place) n ≡ divided place (struck place n)
unfolding divided
divided-suc place n = refl

pub divided-zero : (n : ℕ) → divided 0 n ≡ n
unfolding divided
divided-zero n = refl

-- ---- a coefficient that is 1 or 0

pub struck_one : (place n : ℕ) → bit_at n (32 + place) ≡ 1 → struck place n ≡ bit_xor n (generator * 2 ^ place)
struck_one place n one = rw one refl

pub struck_none : (place n : ℕ) → bit_at n (32 + place) ≡ 0 → struck place n ≡ n
struck_none place n none = rw none refl

-- ---- additive

-- of two sums with the same number, the number falls out
xor_both : (a b g : ℕ) → bit_xor (bit_xor a g) (bit_xor b g) ≡ bit_xor a b
xor_both a b g =
    xor_assoc a g (bit_xor b g) ∙ ap (bit_xor a) (ap (bit_xor g) (xor_comm b g) ∙ sym (xor_assoc g g b) ∙ ap (λ x. bit_xor x b) (xor_self g) ∙ xor_zero_l b)

xor_left : (a b g : ℕ) → bit_xor (bit_xor a g) b ≡ bit_xor (bit_xor a b) g
xor_left a b g = xor_assoc a g b ∙ ap (bit_xor a) (xor_comm g b) ∙ sym (xor_assoc a b g)

pub bit_is : (n place : ℕ) → bit_at n place < 2
bit_is n place = omega arith

struck_xor : (place a b : ℕ) → struck place (bit_xor a b) ≡ bit_xor (struck place a) (struck place b)
struck_xor place a b =
    let g = generator * 2 ^ place in
    let sum = bit_at_xor a b (32 + place) in
    let of_a = bit_is a (32 + place) in
    let of_b = bit_is b (32 + place) in
    elim (cases_eq (bit_at a (32 + place)) 1) [
      | inl one_a ↦ elim (cases_eq (bit_at b (32 + place)) 1) [
        | inl one_b ↦
            let none : bit_at (bit_xor a b) (32 + place) ≡ 0 = sum ∙ rw (one_a, one_b) refl in
            rw (struck_none place _ none, struck_one place a one_a, struck_one place b one_b) (sym (xor_both a b g))
        | inr not_b ↦
            let zero_b : bit_at b (32 + place) ≡ 0 = omega arith in
            let one : bit_at (bit_xor a b) (32 + place) ≡ 1 = sum ∙ rw (one_a, zero_b) refl in
            rw (struck_one place _ one, struck_one place a one_a, struck_none place b zero_b) (sym (xor_left a b g))
      ]
      | inr not_a ↦
          let zero_a : bit_at a (32 + place) ≡ 0 = omega arith in
          elim (cases_eq (bit_at b (32 + place)) 1) [
            | inl one_b ↦
                let one : bit_at (bit_xor a b) (32 + place) ≡ 1 = sum ∙ rw (zero_a, one_b) refl in
                rw (struck_one place _ one, struck_none place a zero_a, struck_one place b one_b) (xor_assoc a b g)
            | inr not_b ↦
                let zero_b : bit_at b (32 + place) ≡ 0 = omega arith in
                let none : bit_at (bit_xor a b) (32 + place) ≡ 0 = sum ∙ rw (zero_a, zero_b) refl in
                rw (struck_none place _ none, struck_none place a zero_a, struck_none place b zero_b) refl
          ]
    ]

pub divided_xor : (count a b : ℕ) → divided count (bit_xor a b) ≡ bit_xor (divided count a) (divided count b)
unfolding divided
divided_xor zero a b = refl
divided_xor (suc place) a b = ap (divided place) (struck_xor place a b) ∙ divided_xor place (struck place a) (struck place b)

-- ---- what is below the places is left as it is

struck_small : (place n : ℕ) → n < 2 ^ (32 + place) → struck place n ≡ n
struck_small place n small =
    let none : n / 2 ^ (32 + place) ≡ 0 = div-eq_of_lt small in
    struck_none place n (ap (λ x. x % 2) none)

pub divided_small : (more count n : ℕ) → n < 2 ^ (32 + count) → divided (more + count) n ≡ divided count n
unfolding divided
divided_small zero count n small = let same : 0 + count ≡ count = omega arith in ap (λ k. divided k n) same
divided_small (suc more) count n small =
    let next : suc more + count ≡ suc (more + count) = omega arith in
    let wide : 2 ^ (32 + (more + count)) ≡ 2 ^ (32 + count) * 2 ^ more = ap (λ k. 2 ^ k) (omega arith) ∙ pow-add 2 (32 + count) more in
    let positive = pow_pos more in
    let bound : 2 ^ (32 + count) * 1 ≤ 2 ^ (32 + count) * 2 ^ more = mul-le-mul_left {m = 1} {n = 2 ^ more} (2 ^ (32 + count)) positive in
    ap (λ k. divided k n) next ∙ ap (divided (more + count)) (struck_small (more + count) n (omega (arith, wide, bound))) ∙ divided_small more count n small

-- ---- places from the top

shifted_bit : (n place count : ℕ) → bit_at (n * 2 ^ count) (32 + (place + count)) ≡ bit_at n (32 + place)
shifted_bit n place count =
    let wide : 2 ^ (32 + (place + count)) ≡ 2 ^ count * 2 ^ (32 + place) = ap (λ k. 2 ^ k) (omega arith) ∙ pow-add 2 count (32 + place) in
    let through : n * 2 ^ count / (2 ^ count * 2 ^ (32 + place)) ≡ n / 2 ^ (32 + place) =
    sym (div-div-eq-div-mul (n * 2 ^ count) (2 ^ count) (2 ^ (32 + place))) ∙ ap (λ x. x / 2 ^ (32 + place)) (mul-div_cancel n (pow_pos count)) in
    ap (λ x. x % 2) (ap (λ x. n * 2 ^ count / x) wide ∙ through)

pub xor_scaled : (a b count : ℕ) → bit_xor (a * 2 ^ count) (b * 2 ^ count) ≡ bit_xor a b * 2 ^ count
xor_scaled a b count =
    let plain = xor_block count a b 0 0 (pow_pos count) (pow_pos count) in
    let left : a * 2 ^ count + 0 ≡ a * 2 ^ count = omega arith in
    let right : b * 2 ^ count + 0 ≡ b * 2 ^ count = omega arith in
    let sum : bit_xor a b * 2 ^ count + 0 ≡ bit_xor a b * 2 ^ count = omega arith in
    sym (ap (λ x. bit_xor x (b * 2 ^ count)) left) ∙ sym (ap (bit_xor (a * 2 ^ count + 0)) right) ∙ plain ∙ sum

pub struck_scaled : (place count n : ℕ) → struck (place + count) (n * 2 ^ count) ≡ struck place n * 2 ^ count
struck_scaled place count n =
    let same = shifted_bit n place count in
    let bit = bit_is n (32 + place) in
    let wide : generator * 2 ^ (place + count) ≡ generator * 2 ^ place * 2 ^ count = omega (arith, ap (λ k. generator * k) (pow-add 2 place count)) in
    elim (cases_eq (bit_at n (32 + place)) 1) [
      | inl one ↦
          rw (struck_one (place + count) (n * 2 ^ count) (same ∙ one), struck_one place n one, wide) (xor_scaled n (generator * 2 ^ place) count)
      | inr not_one ↦
          let none : bit_at n (32 + place) ≡ 0 = omega arith in
          rw (struck_none (place + count) (n * 2 ^ count) (same ∙ none), struck_none place n none) refl
    ]

pub divided_scaled : (more count n : ℕ) → divided (more + count) (n * 2 ^ count) ≡ divided count (divided more n * 2 ^ count)
unfolding divided
divided_scaled zero count n = let same : 0 + count ≡ count = omega arith in ap (λ k. divided k (n * 2 ^ count)) same
divided_scaled (suc more) count n =
    let next : suc more + count ≡ suc (more + count) = omega arith in
    ap (λ k. divided k (n * 2 ^ count)) next ∙ ap (divided (more + count)) (struck_scaled more count n) ∙ divided_scaled more count (struck more n)

-- ---- the remainder has 32 bits

-- the generator takes the highest term away
without_top : (place n : ℕ) → bit_at n (32 + place) ≡ 1 → n / 2 ^ (32 + place) < 2 → bit_xor n (generator * 2 ^ place) < 2 ^ (32 + place)
without_top place n one top =
    let p = 2 ^ (32 + place) in
    let quotient : n / p ≡ 1 = omega arith in
    let rest : n % p < p = mod_below n p (pow_pos (32 + place)) in
    let parts : n ≡ 1 * p + n % p = omega (arith, div-add-mod n p, quotient, ap (λ x. p * x) quotient) in
    let wide : p ≡ 4294967296 * 2 ^ place = pow-add 2 32 place in
    let under : 79764919 * 2 ^ place < p = omega (arith, wide, pow_pos place) in
    let of_generator : generator * 2 ^ place ≡ 1 * p + 79764919 * 2 ^ place = omega (arith, wide) in
    let sum : bit_xor n (generator * 2 ^ place) ≡ bit_xor (n % p) (79764919 * 2 ^ place) =
    ap (λ x. bit_xor x (generator * 2 ^ place)) parts ∙ ap (bit_xor (1 * p + n % p)) of_generator ∙ xor_block (32 + place) 1 1 (n % p) (79764919 * 2 ^ place) rest under ∙ omega arith in
    rw sum (xor_lt (32 + place) (n % p) (79764919 * 2 ^ place) rest under)

pub struck_below : (place n : ℕ) → n < 2 ^ (32 + suc place) → struck place n < 2 ^ (32 + place)
struck_below place n below =
    let next : 2 ^ (32 + suc place) ≡ 2 * 2 ^ (32 + place) = ap (λ k. 2 ^ k) (omega arith) ∙ pow-suc 2 (32 + place) ∙ omega arith in
    let bit = bit_is n (32 + place) in
    let top : n / 2 ^ (32 + place) < 2 = div_below n (2 ^ (32 + place)) 2 (pow_pos (32 + place)) (omega (arith, next)) in
    elim (cases_eq (bit_at n (32 + place)) 1) [
      | inl one ↦ rw (struck_one place n one) (without_top place n one top)
      | inr not_one ↦
          let none : bit_at n (32 + place) ≡ 0 = omega arith in
          let quotient : n / 2 ^ (32 + place) ≡ 0 = omega arith in
          let rest : n % 2 ^ (32 + place) < 2 ^ (32 + place) = mod_below n (2 ^ (32 + place)) (pow_pos (32 + place)) in
          let all : n ≡ 2 ^ (32 + place) * 0 + n % 2 ^ (32 + place) = sym (div-add-mod n (2 ^ (32 + place))) ∙ ap (λ x. 2 ^ (32 + place) * x + n % 2 ^ (32 + place)) quotient in
          rw (struck_none place n none) (omega (arith, rest, all))
    ]

pub divided_below : (count n : ℕ) → n < 2 ^ (32 + count) → divided count n < 2 ^ 32
unfolding divided
divided_below zero n below = below
divided_below (suc place) n below = divided_below place (struck place n) (struck_below place n below)

-- Quotients to the nearest number, and powers of two in them.
use Rattle.std.proofs.Common.{◌≡◌, ◌<◌, ◌≤◌, ◌+◌, ◌-◌, ◌*◌, ◌/◌, ◌%◌, ◌^◌, ◌∙◌, ℕ, Some, None, inl, inr, refl, sym, ap, arith}
use Rattle.std.proofs.Math.Nat.{mul-le-mul_left}
use Rattle.std.proofs.Math.Pow.{pow_mono, pow_pos}
use Rattle.std.proofs.lemmas.Bool.{cases_lt, le-ltb}
use Rattle.std.proofs.lemmas.Nat.{div-mul-add, div_below, le-div, pow-add, shl_whole}
use native.Mathlib.Nat as nat
use Rattle.ffv1_outline.specs.Durations.{fitting, rounded}

-- what both numbers have as a factor falls out
rounded_cancel : (n d k : ℕ) → 0 < k → rounded (n * k) (d * k) ≡ rounded n d
unfolding rounded
rounded_cancel n d k some =
    let top : 2 * (n * k) + d * k ≡ (2 * n + d) * k + 0 = omega arith in
    let low : 2 * (d * k) ≡ k * (2 * d) = omega arith in
    let cancel : ((2 * n + d) * k + 0) / k ≡ 2 * n + d = div-mul-add (2 * n + d) k 0 some in
    rw (top, low) (sym (nat.div-div-eq-div-mul ((2 * n + d) * k + 0) k (2 * d)) ∙ ap (λ z. z / (2 * d)) cancel)

-- a power of two that is not less than the other one
pub rounded_raised : (n m power bias : ℕ) → bias ≤ power → rounded (n * 2 ^ power) (m * 2 ^ bias) ≡ rounded (n * 2 ^ (power - bias)) m
rounded_raised n m power bias most =
    let parts : power ≡ power - bias + bias = omega (arith, most) in
    let whole : 2 ^ power ≡ 2 ^ (power - bias) * 2 ^ bias = ap (λ k. 2 ^ k) parts ∙ pow-add 2 (power - bias) bias in
    let grouped : n * 2 ^ power ≡ n * 2 ^ (power - bias) * 2 ^ bias = regrouped n _ _ _ whole in
    ap (λ z. rounded z (m * 2 ^ bias)) grouped ∙ rounded_cancel (n * 2 ^ (power - bias)) m (2 ^ bias) (pow_pos bias)
  where
    regrouped : (n p a b : ℕ) → p ≡ a * b → n * p ≡ n * a * b
    regrouped n p a b is = rw is (omega arith)

-- one that is less
pub rounded_lowered : (n m power bias : ℕ) → power ≤ bias → rounded (n * 2 ^ power) (m * 2 ^ bias) ≡ rounded n (m * 2 ^ (bias - power))
rounded_lowered n m power bias most =
    let parts : bias ≡ bias - power + power = omega (arith, most) in
    let whole : 2 ^ bias ≡ 2 ^ (bias - power) * 2 ^ power = ap (λ k. 2 ^ k) parts ∙ pow-add 2 (bias - power) power in
    let grouped : m * 2 ^ bias ≡ m * 2 ^ (bias - power) * 2 ^ power = regrouped m _ _ _ whole in
    ap (rounded (n * 2 ^ power)) grouped ∙ rounded_cancel n (m * 2 ^ (bias - power)) (2 ^ power) (pow_pos power)
  where
    regrouped : (n p a b : ℕ) → p ≡ a * b → n * p ≡ n * a * b
    regrouped n p a b is = rw is (omega arith)

-- none of anything is none
pub none_fits : (power : ℕ) → fitting (rounded (0 * 2 ^ power) 1000000) ≡ Some 0
unfolding rounded
none_fits power = let none : 0 * 2 ^ power ≡ 0 = omega arith in rw none refl

-- so many have no room
pub many_fit_not : (n : ℕ) → 2 ^ 84 ≤ n → fitting (rounded n 1000000) ≡ None
unfolding rounded
many_fit_not n many =
    let least = le-div (2 ^ 64) (2 * n + 1000000) (2 * 1000000) (omega arith) (omega (arith, many)) in
    let test = le-ltb ((2 * n + 1000000) / (2 * 1000000)) (2 ^ 64) least in
    rw test refl

-- a power of two that is too great alone
pub high_power : (n power : ℕ) → 0 < n → 84 < power → 2 ^ 84 ≤ n * 2 ^ power
high_power n power some high =
    let least : 2 ^ 84 ≤ 2 ^ power = pow_mono {i = 84} {j = power} (omega (arith, high)) in
    let more : 1 * 2 ^ power ≤ n * 2 ^ power = mul_right (2 ^ power) 1 n (omega (arith, some)) in
    omega (arith, least, more)
  where
    mul_right : (k m n : ℕ) → m ≤ n → m * k ≤ n * k
    mul_right k m n h = let p = mul-le-mul_left {m = m} {n = n} k h in omega (arith, p)

-- both together are too great
pub high_bits : (n power : ℕ) → power ≤ 84 → (n / 2 ^ (84 - power) ≡ 0 → ⊥) → 2 ^ 84 ≤ n * 2 ^ power
high_bits n power few some =
    let parts : 84 ≡ 84 - power + power = omega (arith, few) in
    let whole : 2 ^ 84 ≡ 2 ^ (84 - power) * 2 ^ power = ap (λ k. 2 ^ k) parts ∙ pow-add 2 (84 - power) power in
    elim (cases_lt n (2 ^ (84 - power))) [
      | inl less ↦
          let none = div_below n (2 ^ (84 - power)) 1 (pow_pos (84 - power)) (omega (arith, less)) in
          absurd (some (omega (arith, none)))
      | inr enough ↦
          let more = mul-le-mul_left {m = 2 ^ (84 - power)} {n = n} (2 ^ power) enough in
          omega (arith, whole, more)
    ]

-- and if not, they fit
pub low_bits : (n power : ℕ) → power ≤ 84 → n / 2 ^ (84 - power) ≡ 0 → n * 2 ^ power < 2 ^ 84
low_bits n power few none =
    let parts : 84 ≡ 84 - power + power = omega (arith, few) in
    let whole : 2 ^ 84 ≡ 2 ^ (84 - power) * 2 ^ power = ap (λ k. 2 ^ k) parts ∙ pow-add 2 (84 - power) power in
    elim (cases_lt n (2 ^ (84 - power))) [
      | inl less ↦
          let more = mul-le-mul_left {m = n + 1} {n = 2 ^ (84 - power)} (2 ^ power) (omega (arith, less)) in
          let some = pow_pos power in
          omega (arith, whole, more, some)
      | inr enough ↦
          let more = le-div 1 n (2 ^ (84 - power)) (pow_pos (84 - power)) (omega (arith, enough)) in
          absurd (omega (arith, more, none))
    ]

-- the shift loses no bits
pub shifted : (n power : ℕ) → n * 2 ^ power < 2 ^ 84 → (n * 2 ^ power) % 2 ^ 128 ≡ n * 2 ^ power
shifted n power few = nat.mod-eq_of_lt (omega (arith, few))

-- a divisor that is too great
pub little_rounds : (n power : ℕ) → n < 2 ^ 117 → 100 < power → fitting (rounded n (1000000 * 2 ^ power)) ≡ Some 0
unfolding rounded
little_rounds n power few high =
    let least : 2 ^ 101 ≤ 2 ^ power = pow_mono {i = 101} {j = power} (omega (arith, high)) in
    let under : 2 * n + 1000000 * 2 ^ power < 1 * (2 * (1000000 * 2 ^ power)) = omega (arith, few, least) in
    let some : 0 < 2 * (1000000 * 2 ^ power) = omega (arith, least) in
    let below = div_below (2 * n + 1000000 * 2 ^ power) (2 * (1000000 * 2 ^ power)) 1 some under in
    let none : (2 * n + 1000000 * 2 ^ power) / (2 * (1000000 * 2 ^ power)) ≡ 0 = omega (arith, below) in
    rw none refl

-- one that is not
pub divisor_fits : (power : ℕ) → power ≤ 100 → (1000000 * 2 ^ power < 2 ^ 120) × ((1000000 * 2 ^ power) % 2 ^ 128 ≡ 1000000 * 2 ^ power) × (0 < 1000000 * 2 ^ power)
divisor_fits power few =
    let most : 2 ^ power ≤ 2 ^ 100 = pow_mono {i = power} {j = 100} few in
    let some = pow_pos power in
    (omega (arith, most), shl_whole 1000000 20 power 128 (omega arith) (omega (arith, few)), omega (arith, some))

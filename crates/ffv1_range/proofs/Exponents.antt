-- The exponent of a number is the place of its highest bit.
use Rattle.std.proofs.Common.{◌≡◌, refl, ℕ, zero, suc, ◌+◌, ◌-◌, ◌*◌, ◌/◌, ◌^◌, ◌<◌, ◌≤◌, arith, ap, lt-ltb, le-ltb, inl, inr}
use Rattle.std.proofs.lemmas.Bool.{cases_lt}
use Rattle.std.proofs.lemmas.Nat.{leading_top}
use Rattle.std.proofs.Math.Nat.{pow-succ'}
use Rattle.std.proofs.Math.Pow.{pow_pos}
use Rattle.std.specs.Int.{w32, leading_zeros}
use Rattle.ffv1_range.specs.Symbols.{halvings, exponent}

halvings_place : (most e n : ℕ) → e ≤ most → 2 ^ e ≤ n → n < 2 * 2 ^ e → halvings most n ≡ e
unfolding halvings
halvings_place zero zero n few least below = refl
halvings_place zero (suc e) n few least below = absurd (omega arith)
halvings_place (suc most) zero n few least below = rw (lt-ltb n 2 below) refl
halvings_place (suc most) (suc e) n few least below =
    let twice = pow-succ' 2 e in
    let some = pow_pos e in
    let two : 2 ≤ n = omega arith in
    rw (le-ltb n 2 two) (ap suc (halvings_place most e (n / 2) (omega arith) (omega arith) (omega arith)))

lowest : (n : ℕ) → 0 < n → n < 2 → (2 ^ 0 ≤ n) × (n < 2 ^ 1)
lowest zero some less = absurd (omega arith)
lowest (suc zero) some less = (omega arith, omega arith)
lowest (suc (suc n)) some less = absurd (omega arith)

halvings_bounds : (most n : ℕ) → 0 < n → n ≤ most → (2 ^ halvings most n ≤ n) × (n < 2 ^ suc (halvings most n))
unfolding halvings
halvings_bounds zero n some few = absurd (omega arith)
halvings_bounds (suc most) n some few = elim (cases_lt n 2) [
  | inl less ↦ rw (lt-ltb n 2 less) (lowest n some less)
  | inr more ↦
      let rest = halvings_bounds most (n / 2) (omega arith) (omega arith) in
      let least = rest.0 in
      let below = rest.1 in
      let twice = pow-succ' 2 (halvings most (n / 2)) in
      let again = pow-succ' 2 (suc (halvings most (n / 2))) in
      rw (le-ltb n 2 more) (omega arith, omega arith)
]

pub below_power : (e : ℕ) → e < 2 ^ e
below_power zero = omega arith
below_power (suc e) = let rest = below_power e in let power = pow-succ' 2 e in omega arith

-- it is the only one of these bounds
pub exponent_is : (e n : ℕ) → 2 ^ e ≤ n → n < 2 * 2 ^ e → exponent n ≡ e
exponent_is e n least below =
    let small = below_power e in
    halvings_place n e n (omega arith) least below

-- and each number above 0 has these bounds
pub exponent_place : (n : ℕ) → 0 < n → (2 ^ exponent n ≤ n) × (n < 2 ^ suc (exponent n))
exponent_place n some = halvings_bounds n n some (omega arith)

-- of 32 bits, by the zeros before the highest that is set
pub exponent_zeros : (n : ℕ) → 0 < n → n < 2 ^ 32 → exponent n ≡ 31 - leading_zeros w32 n
exponent_zeros n some wide =
    let top = leading_top 32 n some wide in
    let zeros : leading_zeros w32 n + suc top.0 ≡ 32 = top.1 in
    let twice = pow-succ' 2 top.0 in
    let is : exponent n ≡ top.0 = exponent_is top.0 n top.2 (omega (arith, twice, top.3)) in
    omega (arith, is, zeros)

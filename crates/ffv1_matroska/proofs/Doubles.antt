-- A whole number as binary64: its parts fit.
use Rattle.std.proofs.Common.{◌≡◌, ◌≤◌, ◌<◌, ◌+◌, ◌-◌, ◌*◌, ◌^◌, ◌∙◌, ℕ, suc, inl, inr, sym, ap, arith}
use Rattle.std.proofs.Math.Nat.{pow-le-pow_right}
use Rattle.std.proofs.lemmas.Bool.{cases_lt}
use Rattle.std.proofs.lemmas.Nat.{leading_top, pow-add, pow_pos}
use Rattle.ffv1_matroska.specs.Written.{exponent_of}

pub record Parts (n : ℕ) : Type 0 where
  pub few : exponent_of n ≤ 52
  pub low : 2 ^ exponent_of n ≤ n
  pub high : n < 2 ^ suc (exponent_of n)
  pub unit : 2 ^ exponent_of n < 2 ^ 53
  pub fraction : (n - 2 ^ exponent_of n) * 2 ^ (52 - exponent_of n) < 2 ^ 52

-- an exponent is at most 52
few_by : (j n : ℕ) → 2 ^ j ≤ n → n < 2 ^ 53 → j ≤ 52
few_by j n low most = elim (cases_lt 52 j) [
  | inl more ↦ let up : 2 ^ 53 ≤ 2 ^ j = pow-le-pow_right {n = 2} (omega arith) {i = 53} {j = j} (omega (arith, more)) in absurd (omega (arith, up, low, most))
  | inr fewer ↦ omega (arith, fewer)
]

fraction_by : (j n : ℕ) → j ≤ 52 → 2 ^ j ≤ n → n < 2 ^ suc j → (n - 2 ^ j) * 2 ^ (52 - j) < 2 ^ 52
fraction_by j n few low high =
    let whole : j + (52 - j) ≡ 52 = omega (arith, few) in
    let both : 2 ^ j * 2 ^ (52 - j) ≡ 2 ^ 52 = sym (pow-add 2 j (52 - j)) ∙ ap (λ k. 2 ^ k) whole in
    let twice : 2 ^ suc j ≡ 2 ^ j + 2 ^ j = grind arith in
    let some = pow_pos (52 - j) in
    let below : n - 2 ^ j < 2 ^ j = omega (arith, twice, low, high) in
    scaled (n - 2 ^ j) (2 ^ j) (2 ^ (52 - j)) (2 ^ 52) below some both
  where
    scaled : (a b k m : ℕ) → a < b → 0 < k → b * k ≡ m → a * k < m
    scaled a b k m h some e = rw (← e) (grind arith)

parts_by : (n j : ℕ) → exponent_of n ≡ j → 2 ^ j ≤ n → n < 2 ^ suc j → n < 2 ^ 53 → Parts n
parts_by n j e low high most =
    let few = few_by j n low most in
    record {
      few = rw e few;
      low = rw e low;
      high = rw e high;
      unit = rw e (omega (arith, low, most));
      fraction = rw e (fraction_by j n few low high);
    }

pub parts_of : (n : ℕ) → 0 < n → n < 2 ^ 53 → Parts n
parts_of n some most =
    let t = leading_top 64 n some (omega (arith, most)) in
    let e : exponent_of n ≡ t.0 = omega (arith, t.1) in
    parts_by n t.0 e t.2 t.3 most

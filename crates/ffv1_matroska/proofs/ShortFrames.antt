-- Frames that do not fill a second last long enough for their number to have 32 bits.
use Rattle.std.proofs.Common.{◌≡◌, ℕ, ◌+◌, ◌*◌, ◌^◌, ◌<◌, ◌≤◌, ◌==◌, Bool, true, false, if◌then◌else◌, Some, None, inl, inr, arith, refl}
use Rattle.std.proofs.Math.Nat.{div-mul-le_self, lt-div-mul-add, mul-le-mul_left}
use Rattle.std.proofs.lemmas.Bool.{cases_lt, lt-ltb}
use Rattle.ffv1_matroska.specs.Rates.{nearest, fills, frames_in, nearly_in}

fill : (period n d : ℕ) → n * d < period + n → period < n * d + n → fills period n d ≡ true
fill period n d above below = rw (lt-ltb _ _ above, lt-ltb _ _ below) refl

-- a short frame fills a second nearly
short_fill : (d : ℕ) → 0 < d → d < 16384 → fills 1000000000 (nearest 1000000000 d) d ≡ true
short_fill d some short =
    let n = nearest 1000000000 d in
    let low : n * (2 * d) ≤ 2 * 1000000000 + d = div-mul-le_self (2 * 1000000000 + d) (2 * d) in
    let high : 2 * 1000000000 + d < n * (2 * d) + 2 * d = lt-div-mul-add {a = 2 * 1000000000 + d} {b = 2 * d} (omega (arith, some)) in
    let same : n * (2 * d) ≡ 2 * (n * d) = omega arith in
    let many : d < 2 * n = elim (cases_lt n 8193) [
      | inl few ↦
          let most : n * d ≤ n * 16384 = mul-le-mul_left {m = d} {n = 16384} n (omega (arith, short)) in
          absurd (omega (arith, most, few, high, same, short))
      | inr more ↦ omega (arith, more, short)
    ] in
    fill 1000000000 n d (omega (arith, low, same, many)) (omega (arith, high, same, many))

some_in : (period d : ℕ) → fills period (nearest period d) d ≡ true → frames_in period d ≡ None → ⊥
some_in period d filled none = cc (filled, none)

-- those that fill no second exactly or nearly last longer
long_frames : (d : ℕ) → 0 < d → frames_in 1000000000 d ≡ None → 16384 ≤ d
long_frames d some none = elim (cases_lt d 16384) [
  | inl short ↦ absurd (some_in 1000000000 d (short_fill d some short) none)
  | inr long ↦ long
]

few_frames : (period d : ℕ) → 16384 ≤ d → period < 2 ^ 41 → nearest period d < 2 ^ 32
few_frames period d long short =
    let n = nearest period d in
    let low : n * (2 * d) ≤ 2 * period + d = div-mul-le_self (2 * period + d) (2 * d) in
    elim (cases_lt n (2 ^ 32)) [
      | inl few ↦ few
      | inr many ↦
          let least : 2 * d * 2 ^ 32 ≤ 2 * d * n = mul-le-mul_left {m = 2 ^ 32} {n = n} (2 * d) many in
          let same : n * (2 * d) ≡ 2 * d * n = omega arith in
          absurd (omega (arith, least, same, low, long, short))
    ]

picked : (b c : Bool) (m n : ℕ) → (if b then None else (if c then Some m else None)) ≡ Some n → m ≡ n
picked true c m n h = cc
picked false true m n h = cc
picked false false m n h = cc

-- as many as are found
pub counted : (period d n : ℕ) → 0 < d → period < 2 ^ 41 → frames_in 1000000000 d ≡ None → nearly_in period d ≡ Some n → n < 2 ^ 32
counted period d n some short none found =
    let few = few_frames period d (long_frames d some none) short in
    let is : nearest period d ≡ n = picked (nearest period d * d == period) (fills period (nearest period d) d) (nearest period d) n found in
    omega (arith, few, is)

-- The least number of decisions that leave less than 256 of any width.
use Rattle.std.proofs.Common.{◌≡◌, refl, ℕ, zero, suc, ◌+◌, ◌-◌, ◌*◌, ◌^◌, ◌<◌, ◌≤◌, arith, inl, inr, subst, sym}
use Rattle.std.proofs.lemmas.Bool.{cases_lt, lt-ltb, le-ltb, ltb-true, ltb-false}
use Rattle.std.proofs.Math.Nat.{mul-le-mul_left, mul-lt-mul_of_pos_left, mul-le-mul, pow-succ', pow-zero, one-le-pow}
use Rattle.ffv1_range.specs.Renormalising.{parts_of, left_of, AreEnough, first_enough, decisions_a_byte}

-- what is left, and the square of the floor, are all parts
pub parts_are : (floor : ℕ) → floor ≤ 128 → left_of floor + floor * floor ≡ parts_of floor
parts_are floor most =
    let square = mul-le-mul {n₁ = floor} {m₁ = floor} {n₂ = floor} {m₂ = 128} (omega arith) most in
    omega arith

pub left_positive : (floor : ℕ) → floor ≤ 128 → 0 < left_of floor
left_positive floor most =
    let square = mul-le-mul {n₁ = floor} {m₁ = floor} {n₂ = floor} {m₂ = 128} (omega arith) most in
    omega arith

-- one more is enough where so many are
enough_next : (l p n : ℕ) → l ≤ p → 0 < p → 255 * l ^ n < p ^ n → 255 * l ^ suc n < p ^ suc n
enough_next l p n le positive enough =
    let small = mul-le-mul {n₁ = l} {m₁ = 255 * l ^ n} {n₂ = p} {m₂ = 255 * l ^ n} le (omega arith) in
    let large = mul-lt-mul_of_pos_left {m = 255 * l ^ n} {n = p ^ n} {k = p} enough positive in
    rw (pow-succ' l n, pow-succ' p n) (omega arith)

enough_by : (l p n more : ℕ) → l ≤ p → 0 < p → 255 * l ^ n < p ^ n → 255 * l ^ (n + more) < p ^ (n + more)
enough_by l p n zero le positive enough = let same : n + 0 ≡ n = omega arith in rw same enough
enough_by l p n (suc more) le positive enough =
    let up : n + suc more ≡ suc (n + more) = omega arith in
    rw up (enough_next l p (n + more) le positive (enough_by l p n more le positive enough))

pub enough_on : (floor n k : ℕ) → floor ≤ 128 → n ≤ k → AreEnough floor n → AreEnough floor k
enough_on floor n k most le enough =
    let parts = parts_are floor most in
    let all : n + (k - n) ≡ k = omega arith in
    subst (λ j. AreEnough floor j) all (enough_by (left_of floor) (parts_of floor) n (k - n) (omega arith) (omega arith) enough)

-- a power of 1 and a part grows by that part at least
power_grows : (l d n : ℕ) → l ^ n * (l + n * d) ≤ (l + d) ^ n * l
power_grows l d zero = rw (pow-zero l, pow-zero (l + d)) (omega arith)
power_grows l d (suc n) = step l d n (l ^ n) ((l + d) ^ n) (l ^ suc n) ((l + d) ^ suc n) (pow-succ' l n) (pow-succ' (l + d) n) (power_grows l d n)
  where
    step : (l d n x y u v : ℕ) → u ≡ l * x → v ≡ (l + d) * y → x * (l + n * d) ≤ y * l → u * (l + suc n * d) ≤ v * l
    step l d n x y u v ux vy before =
        let more = mul-le-mul_left {m = x * (l + n * d)} {n = y * l} (l + d) before in
        rw (ux, vy) (omega arith)

-- a number of tries that is always enough
enough_at : (l d n : ℕ) → 0 < l → 255 * l ≤ n * d → 255 * l ^ n < (l + d) ^ n
enough_at l d n positive many =
    let grows = power_grows l d n in
    let some = one-le-pow n l positive in
    let more = mul-le-mul_left {m = 255 * l} {n = n * d} (l ^ n) many in
    elim (cases_lt (255 * l ^ n) ((l + d) ^ n)) [
      | inl enough ↦ enough
      | inr few ↦
          let less = mul-le-mul_left {m = (l + d) ^ n} {n = 255 * l ^ n} l few in
          let own = mul-lt-mul_of_pos_left {m = 0} {n = l ^ n} {k = l} some positive in
          absurd (omega arith)
    ]

pub always_enough : (floor : ℕ) → 0 < floor → floor ≤ 128 → AreEnough floor (2 ^ 17)
always_enough floor positive most =
    let parts = parts_are floor most in
    let square = mul-le-mul {n₁ = 1} {m₁ = floor} {n₂ = floor} {m₂ = floor} positive (omega arith) in
    let enough = enough_at (left_of floor) (floor * floor) (2 ^ 17) (left_positive floor most) (omega arith) in
    subst (λ p. 255 * left_of floor ^ (2 ^ 17) < p ^ (2 ^ 17)) parts enough

-- the search finds one that is enough, if the last one is
first_is : (tries floor n : ℕ) → AreEnough floor (n + tries) → AreEnough floor (first_enough tries floor n)
unfolding first_enough
first_is zero floor n last = let same : n + 0 ≡ n = omega arith in subst (λ k. AreEnough floor k) same last
first_is (suc tries) floor n last =
    let up : n + suc tries ≡ suc n + tries = omega arith in
    elim (cases_lt (255 * left_of floor ^ n) (parts_of floor ^ n)) [
      | inl enough ↦ rw (lt-ltb _ _ enough) enough
      | inr few ↦ rw (le-ltb _ _ few) (first_is tries floor (suc n) (subst (λ k. AreEnough floor k) up last))
    ]

later : (floor n k : ℕ) → n ≤ k → parts_of floor ^ n ≤ 255 * left_of floor ^ n → AreEnough floor k → suc n ≤ k
later floor n k le few enough = elim (cases_lt n k) [
  | inl less ↦ less
  | inr least ↦
      let same : k ≡ n = omega arith in
      let here = subst (λ j. AreEnough floor j) same enough in
      absurd (omega arith)
]

-- and none before it is
first_least : (tries floor n k : ℕ) → n ≤ k → AreEnough floor k → first_enough tries floor n ≤ k
unfolding first_enough
first_least zero floor n k le enough = le
first_least (suc tries) floor n k le enough = elim (cases_lt (255 * left_of floor ^ n) (parts_of floor ^ n)) [
  | inl here ↦ rw (lt-ltb _ _ here) le
  | inr few ↦ rw (le-ltb _ _ few) (first_least tries floor (suc n) k (later floor n k le few enough) enough)
]

pub are_enough : (floor : ℕ) → 0 < floor → floor ≤ 128 → AreEnough floor (decisions_a_byte floor)
unfolding decisions_a_byte
are_enough floor positive most =
    let all : 0 + 2 ^ 17 ≡ 2 ^ 17 = omega arith in
    first_is (2 ^ 17) floor 0 (subst (λ k. AreEnough floor k) (sym all) (always_enough floor positive most))

pub are_least : (floor n : ℕ) → AreEnough floor n → decisions_a_byte floor ≤ n
unfolding decisions_a_byte
are_least floor n enough = first_least (2 ^ 17) floor 0 n (omega arith) enough

-- so many are enough, and one fewer is not
is_value : (floor n : ℕ) → 0 < floor → floor ≤ 128 → AreEnough floor (n + 1) → parts_of floor ^ n ≤ 255 * left_of floor ^ n → decisions_a_byte floor ≡ n + 1
is_value floor n positive most enough few =
    let above = are_least floor (n + 1) enough in
    elim (cases_lt n (decisions_a_byte floor)) [
      | inl more ↦ omega arith
      | inr less ↦
          let now = enough_on floor (decisions_a_byte floor) n most less (are_enough floor positive most) in
          absurd (omega (arith, now, few))
    ]

pub for_lowest : decisions_a_byte 1 ≡ 2835
for_lowest = is_value 1 2834 (omega arith) (omega arith) (ltb-true _ _ refl) (ltb-false _ _ refl)

pub for_standard : decisions_a_byte 8 ≡ 197
unfolding decisions_a_byte first_enough
for_standard = refl

pub for_highest : decisions_a_byte 128 ≡ 9
unfolding decisions_a_byte first_enough
for_highest = refl

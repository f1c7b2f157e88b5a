-- The numbers of tracks, in one number.
use Rattle.std.proofs.Common.{◌≡◌, ◌≤◌, ◌<◌, ◌+◌, ◌-◌, ◌*◌, ◌/◌, ◌%◌, ◌^◌, ◌==◌, ◌∙◌, ℕ, suc, Bool, true, false, nat_le, inl, inr, ap, refl, arith}
use Rattle.std.proofs.Math.Nat.{pow-succ', mul-le-mul_left}
use Rattle.std.proofs.Math.Pow.{pow_pos}
use Rattle.std.proofs.lemmas.Bool.{cases_lt, eqb-true, leb-true, ne_eqb}
use Rattle.std.proofs.lemmas.Nat.{pow-add, div_below, le-div}
use Rattle.ffv1_matroska.specs.Blocks.{bit_of, is_unknown}
use Rattle.ffv1_matroska.specs.Tracks.{with_number}

-- how often a number is in another one
least : (s d : ℕ) → 0 < d → s / d * d ≤ s
least s d pos = elim (cases_lt s (s / d * d)) [
  | inl few ↦ let less = div_below s d (s / d) pos few in absurd (omega (arith, less))
  | inr enough ↦ enough
]

most : (s d : ℕ) → 0 < d → s < (s / d + 1) * d
most s d pos = elim (cases_lt s ((s / d + 1) * d)) [
  | inl few ↦ few
  | inr enough ↦ let more = le-div (s / d + 1) s d pos enough in absurd (omega (arith, more))
]

-- a number without this power of two has room for it
room_for : (s d e : ℕ) → 0 < d → s < 2 * e * d → s / d % 2 ≡ 0 → s + d < 2 * e * d
room_for s d e pos fits none =
    let few : s / d < 2 * e = div_below s d (2 * e) pos fits in
    let two : s / d + 2 ≤ 2 * e = omega (arith, few, none) in
    let all = mul-le-mul_left {m = s / d + 2} {n = 2 * e} d two in
    let more = most s d pos in
    omega (arith, all, more)

pub no_carry : (s n m : ℕ) → n < m → s < 2 ^ m → s / 2 ^ n % 2 ≡ 0 → s + 2 ^ n < 2 ^ m
no_carry s n m less fits none =
    let e = m - suc n in
    let parts : m ≡ suc n + e = omega (arith, less) in
    let whole : 2 ^ m ≡ 2 ^ suc n * 2 ^ e = ap (λ k. 2 ^ k) parts ∙ pow-add 2 (suc n) e in
    let twice : 2 ^ suc n ≡ 2 * 2 ^ n = pow-succ' 2 n in
    let same : 2 ^ m ≡ 2 * 2 ^ e * 2 ^ n = whole ∙ ap (λ k. k * 2 ^ e) twice ∙ regrouped (2 ^ n) (2 ^ e) in
    rw same (room_for s (2 ^ n) (2 ^ e) (pow_pos n) (rw same at fits) none)
  where
    regrouped : (a b : ℕ) → 2 * a * b ≡ 2 * b * a
    regrouped a b = omega arith

-- with one more of them
one_more : (s d : ℕ) → 0 < d → (s + d) / d ≡ s / d + 1
one_more s d pos =
    let low = least s d pos in
    let high = most s d pos in
    let below : (s + d) / d < s / d + 2 = div_below (s + d) d (s / d + 2) pos (omega (arith, high)) in
    let above : s / d + 1 ≤ (s + d) / d = le-div (s / d + 1) (s + d) d pos (omega (arith, low)) in
    omega (arith, below, above)

odd_next : (q : ℕ) → q % 2 ≡ 0 → ((q + 1) % 2 == 0) ≡ false
odd_next q even = ne_eqb _ _ (λ e. omega (arith, even, e))

-- one that no track had and is there now is known
now_known : (known number : ℕ) → is_unknown known number ≡ true → is_unknown (known + 2 ^ bit_of number) number ≡ false
unfolding is_unknown
now_known known number unknown =
    let e = bit_of number in
    rw (one_more known (2 ^ e) (pow_pos e), odd_next (known / 2 ^ e) (eqb-true _ _ unknown)) refl

pub added_known : (known number : ℕ) → is_unknown (with_number known number) number ≡ false
unfolding with_number
added_known known number = on_test (is_unknown known number) refl
  where
    on_test : (b : Bool) → is_unknown known number ≡ b → is_unknown (with_number known number) number ≡ false
    on_test false p = rw (p, p) refl
    on_test true p = rw p (now_known known number p)

pub bit_small : (number : ℕ) → bit_of number < 128
bit_small number = on_test (nat_le number 127) refl
  where
    on_test : (b : Bool) → nat_le number 127 ≡ b → bit_of number < 128
    on_test true p = let few = leb-true _ _ p in rw p (omega (arith, few))
    on_test false p = rw p (omega arith)

-- what a power of two that is added makes of a number of 128 bits
pub unknown_fits : (known number : ℕ) → known < 2 ^ 128 → is_unknown known number ≡ true → known + 2 ^ bit_of number < 2 ^ 128
unfolding is_unknown
unknown_fits known number fits unknown = no_carry known (bit_of number) 128 (bit_small number) fits (eqb-true _ _ unknown)

-- a 1 that is moved to its place stays whole
pub moved_one : (number : ℕ) → number < 128 → 1 * 2 ^ number % 340282366920938463463374607431768211456 ≡ 2 ^ number
moved_one number few =
    let none : 0 / 2 ^ number < 1 = div_below 0 (2 ^ number) 1 (pow_pos number) (omega (arith, pow_pos number)) in
    let less : 0 + 2 ^ number < 2 ^ 128 = no_carry 0 number 128 few (omega arith) (omega (arith, none)) in
    omega (arith, less)

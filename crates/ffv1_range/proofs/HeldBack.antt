-- Bytes of an encoder's low end that are held back.
use Rattle.std.proofs.Common.{◌≡◌, refl, ℕ, zero, suc, ◌+◌, ◌-◌, ◌*◌, ◌/◌, ◌%◌, ◌^◌, ◌<◌, ◌≤◌, List, [], ◌∷◌, ◌++◌, length, arith, ap, ◌∙◌, sym, inl, inr, append_assoc, add-one}
use Rattle.std.proofs.lemmas.Bool.{lt-ltb, cases_lt}
use Rattle.std.proofs.Math.Nat.{pow-succ', mul-le-mul_left}
use Rattle.std.proofs.lemmas.Nat.{pow-add, div_below}
use Rattle.ffv1_range.specs.Interval.{renormalised}
use Rattle.ffv1_range.specs.Codes.{value, AreBytes}
use Rattle.ffv1_range.specs.Internal.Registers.{interval_held, IsHolding, IsHoldingPart}
use Rattle.ffv1_range.proofs.EmittedBytes.{same_interval, value-pushed}

pub power_next : (held : ℕ) → 256 ^ (held + 1) ≡ 256 * 256 ^ held
power_next held = rw add-one (pow-succ' 256 held)

pub power_thrice : (held : ℕ) → held ≤ 3 → 256 ^ held ≤ 16777216
power_thrice zero few = omega arith
power_thrice (suc zero) few = omega arith
power_thrice (suc (suc zero)) few = omega arith
power_thrice (suc (suc (suc zero))) few = omega arith
power_thrice (suc (suc (suc (suc held)))) few = absurd (omega arith)

-- the place of the first byte that is held back
pub places_are : (held : ℕ) → 0 < held → held < 4 → 2 ^ (8 * held + 8) ≡ 65536 * 256 ^ (held - 1)
places_are zero some few = absurd (omega arith)
places_are (suc zero) some few = refl
places_are (suc (suc zero)) some few = refl
places_are (suc (suc (suc zero))) some few = refl
places_are (suc (suc (suc (suc held)))) some few = absurd (omega arith)

pub renormalised_held : (bytes : List ℕ) (low width held : ℕ) → width < 256 →
    interval_held bytes (low * 256) (width * 256) (held + 1) ≡ renormalised (interval_held bytes low width held)
renormalised_held bytes low width held h =
    let number : 256 ^ (held + 1) * value bytes (length bytes) ≡ 256 * 256 ^ held * value bytes (length bytes) = ap (λ p. p * value bytes (length bytes)) (power_next held) in
    rw (lt-ltb width 256 h) (same_interval _ _ (omega (arith, number)) (omega arith) (omega arith))

pub renormalised_holding : (bytes : List ℕ) (low width held : ℕ) → width < 256 → IsHoldingPart bytes low width held → IsHolding bytes (low * 256) (width * 256) (held + 1)
renormalised_holding bytes low width held h is =
    let power = power_next held in
    let number : 256 ^ (held + 1) * value bytes (length bytes) ≡ 256 * 256 ^ held * value bytes (length bytes) = ap (λ p. p * value bytes (length bytes)) power in
    let all : 256 ^ (held + 1) * 256 ^ length bytes ≡ 256 * 256 ^ held * 256 ^ length bytes = ap (λ p. p * 256 ^ length bytes) power in
    let old = is.room in
    record {
      bytes_fit = is.bytes_fit;
      few = omega (arith, is.few);
      below = omega (arith, is.below, power);
      least = omega (arith, is.least);
      most = omega arith;
      room = omega (arith, number, all, old);
    }

-- four bytes were given out
pub emptied_holding : (xs ys : List ℕ) (low width held : ℕ) → held ≡ 4 → IsHolding ys low width held → value xs (length xs) ≡ 4294967296 * value ys (length ys) + low / 65536 →
    length xs ≡ length ys + 4 → AreBytes xs → IsHolding xs (low % 65536) width 0
emptied_holding xs ys low width held four is number long are =
    let old : 65536 * (4294967296 * value ys (length ys)) + low + width ≤ 65536 * (4294967296 * 256 ^ length ys) = rw four at is.room in
    let power : 256 ^ length xs ≡ 256 ^ length ys * 4294967296 = ap (λ n. 256 ^ n) long ∙ pow-add 256 (length ys) 4 in
    record {
      bytes_fit = are;
      few = omega arith;
      below = omega (arith, is.most);
      least = is.least;
      most = is.most;
      room = omega (arith, old, power, number, is.most, is.least);
    }

-- one byte is given out
pub unit_is : (held : ℕ) → 0 < held → held < 4 → 1 * 2 ^ (8 * held + 8) % 18446744073709551616 ≡ 65536 * 256 ^ (held - 1)
unit_is zero some few = absurd (omega arith)
unit_is (suc zero) some few = refl
unit_is (suc (suc zero)) some few = refl
unit_is (suc (suc (suc zero))) some few = refl
unit_is (suc (suc (suc (suc held)))) some few = absurd (omega arith)

power_before : (held : ℕ) → 0 < held → 256 ^ held ≡ 256 * 256 ^ (held - 1)
power_before held some = let up : held ≡ suc (held - 1) = omega arith in ap (λ n. 256 ^ n) up ∙ pow-succ' 256 (held - 1)

pub power_some : (held : ℕ) → 1 ≤ 256 ^ held
power_some zero = omega arith
power_some (suc held) = let rest = power_some held in omega (arith, pow-succ' 256 held)

-- a top in units
top_room : (unit number all top rest low width : ℕ) → low ≡ unit * top + rest → unit * (256 * number) + low + width ≤ unit * (256 * all) → 0 < width → 256 * number + top < 256 * all
top_room unit number all top rest low width is room some = elim (cases_lt (256 * number + top) (256 * all)) [
  | inl less ↦ less
  | inr more ↦ let scaled = mul-le-mul_left {m = 256 * all} {n = 256 * number + top} unit more in absurd (omega (arith, scaled))
]

abbrev pub unit_at : ℕ → ℕ
unit_at held = 65536 * 256 ^ (held - 1)

module _ (bytes : List ℕ) (low width held : ℕ) (some : 0 < held) (few : held < 4) (is : IsHolding bytes low width held) where
  whole : low ≡ (unit_at held) * (low / (unit_at held)) + low % (unit_at held)
  whole = let positive = power_some (held - 1) in omega arith

  scaled_room : (unit_at held) * (256 * value bytes (length bytes)) + low + width ≤ (unit_at held) * (256 * 256 ^ length bytes)
  scaled_room =
      let power = power_before held some in
      let number : 256 ^ held * value bytes (length bytes) ≡ 256 * 256 ^ (held - 1) * value bytes (length bytes) = ap (λ p. p * value bytes (length bytes)) power in
      let all : 256 ^ held * 256 ^ length bytes ≡ 256 * 256 ^ (held - 1) * 256 ^ length bytes = ap (λ p. p * 256 ^ length bytes) power in
      omega (arith, number, all, is.room)

  pub released_room : 256 * value bytes (length bytes) + low / (unit_at held) < 256 * 256 ^ length bytes
  released_room = top_room (unit_at held) (value bytes (length bytes)) (256 ^ length bytes) (low / (unit_at held)) (low % (unit_at held)) low width whole scaled_room (omega (arith, is.least))

  pub released_top : low / (unit_at held) < 512
  released_top =
      let positive = power_some (held - 1) in
      let power = power_before held some in
      div_below low (unit_at held) 512 (omega arith) (omega (arith, is.below, is.least, power))

  pub released_holding : (xs : List ℕ) → value xs (length xs) ≡ 256 * value bytes (length bytes) + low / (unit_at held) → length xs ≡ length bytes + 1 → AreBytes xs →
      IsHolding xs (low % (unit_at held)) width (held - 1)
  released_holding xs number long are =
      let positive = power_some (held - 1) in
      let more : length xs ≡ suc (length bytes) = omega arith in
      let power : 256 ^ length xs ≡ 256 * 256 ^ length bytes = ap (λ n. 256 ^ n) more ∙ pow-succ' 256 (length bytes) in
      let all : 256 ^ (held - 1) * 256 ^ length xs ≡ 256 ^ (held - 1) * (256 * 256 ^ length bytes) = ap (λ p. 256 ^ (held - 1) * p) power in
      let now : 256 ^ (held - 1) * value xs (length xs) ≡ 256 ^ (held - 1) * (256 * value bytes (length bytes) + low / (unit_at held)) = ap (λ p. 256 ^ (held - 1) * p) number in
      let room = scaled_room in
      let parts = whole in
      record {
        bytes_fit = are;
        few = omega arith;
        below = omega (arith, is.most);
        least = is.least;
        most = is.most;
        room = omega (arith, all, now, room, parts);
      }

  pub released_same : (xs : List ℕ) → value xs (length xs) ≡ 256 * value bytes (length bytes) + low / (unit_at held) → length xs ≡ length bytes + 1 →
      interval_held xs (low % (unit_at held)) width (held - 1) ≡ interval_held bytes low width held
  released_same xs number long =
      let power = power_before held some in
      let old : 256 ^ held * value bytes (length bytes) ≡ 256 * 256 ^ (held - 1) * value bytes (length bytes) = ap (λ p. p * value bytes (length bytes)) power in
      let now : 256 ^ (held - 1) * value xs (length xs) ≡ 256 ^ (held - 1) * (256 * value bytes (length bytes) + low / (unit_at held)) = ap (λ p. 256 ^ (held - 1) * p) number in
      let parts = whole in
      same_interval _ _ (omega (arith, old, now, parts)) refl (omega arith)

-- a number of four bytes more
pub value_word : (xs : List ℕ) (a b c d : ℕ) → value (xs ++ (a ∷ b ∷ c ∷ d ∷ [])) (length (xs ++ (a ∷ b ∷ c ∷ d ∷ []))) ≡
    4294967296 * value xs (length xs) + (16777216 * a + 65536 * b + 256 * c + d)
value_word xs a b c d =
    let one = xs ++ (a ∷ []) in
    let two = one ++ (b ∷ []) in
    let three = two ++ (c ∷ []) in
    let all : xs ++ (a ∷ b ∷ c ∷ d ∷ []) ≡ three ++ (d ∷ []) = sym (simp append_assoc) in
    let first = value-pushed xs a in
    let second = value-pushed one b in
    let third = value-pushed two c in
    let last = value-pushed three d in
    rw all (omega (arith, first, second, third, last))

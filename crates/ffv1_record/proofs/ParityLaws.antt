-- What the remainder guards.
use Rattle.std.specs.Prelude.{bit_xor, ◌↔◌}
use Rattle.std.proofs.Common.{◌≡◌, refl, ℕ, zero, suc, ◌+◌, ◌-◌, ◌*◌, ◌%◌, ◌^◌, ◌<◌, ◌≤◌, List, ◌++◌, length, drop, pow_mono, arith, ap, sym, ◌∙◌, inl, inr}
use Rattle.std.specs.Int.{bit_at}
use Rattle.std.specs.Int.Bits.{xor_shifted, xor_self, xor_zero_r, xor_assoc}
use Rattle.std.proofs.Math.Nat.{pow-suc, mul-le-mul_left, lt_of_mul-lt-mul_right, le_refl}
use Rattle.std.proofs.Math.Seq.{take-append_seam, drop-append_seam}
use Rattle.std.proofs.lemmas.List.{length-append}
use Rattle.std.proofs.lemmas.Bool.{cases_eq, cases_lt}
use Rattle.std.proofs.lemmas.Nat.{pow-add, pow_pos, xor_lt}
use Rattle.std.proofs.lemmas.Nat.Bits.{bit_at_xor}
use Rattle.ffv1_range.specs.Codes.{value, digits, AreBytes}
use Rattle.ffv1_record.specs.Parity.{generator, struck, divided, remainder_of, parity_of, remainder_behind}
use Rattle.ffv1_record.proofs.Division.{divided-suc, divided-zero, divided_xor, divided_small, divided_scaled, divided_below, struck_below, struck_scaled, struck_one, struck_none, bit_is}
use Rattle.ffv1_record.proofs.Numbers.{value_in_parts, value_taken, value_below, behind}

-- ---- no remainder but 0 becomes 0 by bits 0 after it

odd_sum : (n : ℕ) → 0 < bit_xor (n * 2) generator
odd_sum n =
    let last = bit_at_xor (n * 2) generator 0 in
    let even : bit_at (n * 2) 0 ≡ 0 = omega arith in
    let one : bit_at (bit_xor (n * 2) generator) 0 ≡ 1 = last ∙ ap (λ x. (x + 1) % 2) even in
    omega (arith, one)

struck_positive : (n : ℕ) → 0 < n → 0 < struck 0 (n * 2)
struck_positive n positive =
    let bit = bit_is (n * 2) (32 + 0) in
    elim (cases_eq (bit_at (n * 2) (32 + 0)) 1) [
      | inl one ↦ rw (struck_one 0 (n * 2) one) (odd_sum n)
      | inr not_one ↦
          let none : bit_at (n * 2) (32 + 0) ≡ 0 = omega arith in
          rw (struck_none 0 (n * 2) none) (omega (arith, positive))
    ]

pub kept_apart : (count n : ℕ) → 0 < n → n < 2 ^ 32 → 0 < divided count (n * 2 ^ count)
kept_apart zero n positive small = rw (divided-zero (n * 2 ^ 0)) (omega (arith, positive))
kept_apart (suc count) n positive small =
    let wide : n * 2 ^ suc count ≡ n * 2 * 2 ^ count = omega (arith, ap (λ p. n * p) (pow-suc 2 count)) in
    let place : 0 + count ≡ count = omega arith in
    let first : struck count (n * 2 * 2 ^ count) ≡ struck 0 (n * 2) * 2 ^ count = sym (ap (λ k. struck k (n * 2 * 2 ^ count)) place) ∙ struck_scaled 0 count (n * 2) in
    let all : divided (suc count) (n * 2 ^ suc count) ≡ divided count (struck 0 (n * 2) * 2 ^ count) =
    ap (divided (suc count)) wide ∙ divided-suc count (n * 2 * 2 ^ count) ∙ ap (divided count) first in
    rw all (kept_apart count (struck 0 (n * 2)) (struck_positive n positive) (struck_below 0 (n * 2) (omega (arith, small))))

none_left : (count : ℕ) → divided count 0 ≡ 0
none_left count = let same : count + 0 ≡ count = omega arith in sym (ap (λ k. divided k 0) same) ∙ divided_small count 0 0 (omega arith) ∙ divided-zero 0

-- bits 0 after a remainder leave 0 only of 0
from_zero : (count n : ℕ) → n < 2 ^ 32 → divided count (n * 2 ^ count) ≡ 0 → n ≡ 0
from_zero count zero small none = refl
from_zero count (suc n) small none = absurd (omega (arith, kept_apart count (suc n) (omega arith) small, none))

to_zero : (count n : ℕ) → n ≡ 0 → divided count (n * 2 ^ count) ≡ 0
to_zero count n none = ap (λ x. divided count (x * 2 ^ count)) none ∙ ap (divided count) (omega arith) ∙ none_left count

-- ---- bytes

wide_as : (n : ℕ) → 256 ^ n ≡ 2 ^ (8 * n)
wide_as zero = refl
wide_as (suc n) =
    let next : 8 * suc n ≡ 8 * n + 8 = omega arith in
    omega (arith, wide_as n, pow-suc 256 n, ap (λ k. 2 ^ k) next ∙ pow-add 2 (8 * n) 8)

value_fits : (bytes : List ℕ) → AreBytes bytes → value bytes (length bytes) < 2 ^ (32 + (8 * length bytes - 32))
value_fits bytes are =
    let n = length bytes in
    let below = value_below bytes are n in
    let wide = wide_as n in
    elim (cases_lt n 4) [
      | inl short ↦
          let none : 8 * n - 32 ≡ 0 = omega (arith, short) in
          let most : 2 ^ (8 * n) ≤ 2 ^ 32 = pow_mono {i = 8 * n} {j = 32} (omega (arith, short)) in
          rw none (omega (arith, below, wide, most))
      | inr long ↦
          let all : 32 + (8 * n - 32) ≡ 8 * n = omega (arith, long) in
          rw all (omega (arith, below, wide))
    ]

pub remainder_small : (bytes : List ℕ) → AreBytes bytes → remainder_of bytes < 2 ^ 32
unfolding remainder_of
remainder_small bytes are = divided_below (8 * length bytes - 32) (value bytes (length bytes)) (value_fits bytes are)

pub parity_small : (bytes : List ℕ) → AreBytes bytes → parity_of bytes < 2 ^ 32
unfolding parity_of
parity_small bytes are =
    let fits : value bytes (length bytes) * 2 ^ 32 < 2 ^ (32 + 8 * length bytes) =
    omega (arith, value_below bytes are (length bytes), wide_as (length bytes), pow-add 2 32 (8 * length bytes)) in
    divided_below (8 * length bytes) (value bytes (length bytes) * 2 ^ 32) fits

-- the parity is that of the remainder
parity_long : (bytes : List ℕ) → 4 ≤ length bytes → parity_of bytes ≡ divided 32 (remainder_of bytes * 2 ^ 32)
unfolding remainder_of parity_of
parity_long bytes long =
    let n = length bytes in
    let places : 8 * n ≡ 8 * n - 32 + 32 = omega (arith, long) in
    ap (λ k. divided k (value bytes n * 2 ^ 32)) places ∙ divided_scaled (8 * n - 32) 32 (value bytes n)

remainder_short : (bytes : List ℕ) → length bytes < 4 → remainder_of bytes ≡ value bytes (length bytes)
unfolding remainder_of
remainder_short bytes short =
    let none : 8 * length bytes - 32 ≡ 0 = omega (arith, short) in
    ap (λ k. divided k (value bytes (length bytes))) none ∙ divided-zero (value bytes (length bytes))

parity_short : (bytes : List ℕ) → length bytes < 4 → parity_of bytes ≡ divided (8 * length bytes) (remainder_of bytes * 2 ^ (32 - 8 * length bytes) * 2 ^ (8 * length bytes))
unfolding parity_of
parity_short bytes short =
    let n = length bytes in
    let v = value bytes n in
    let places : 32 - 8 * n + 8 * n ≡ 32 = omega (arith, short) in
    let wide : 2 ^ (32 - 8 * n) * 2 ^ (8 * n) ≡ 2 ^ 32 = sym (pow-add 2 (32 - 8 * n) (8 * n)) ∙ ap (λ k. 2 ^ k) places in
    let all : v * 2 ^ 32 ≡ v * 2 ^ (32 - 8 * n) * 2 ^ (8 * n) = omega (arith, ap (λ p. v * p) wide) in
    ap (divided (8 * n)) (all ∙ ap (λ r. r * 2 ^ (32 - 8 * n) * 2 ^ (8 * n)) (sym (remainder_short bytes short)))

short_fits : (bytes : List ℕ) → AreBytes bytes → length bytes < 4 → remainder_of bytes * 2 ^ (32 - 8 * length bytes) < 2 ^ 32
short_fits bytes are short =
    let n = length bytes in
    let below : value bytes n < 2 ^ (8 * n) = omega (arith, value_below bytes are n, wide_as n) in
    let places : 32 - 8 * n + 8 * n ≡ 32 = omega (arith, short) in
    let wide : 2 ^ (32 - 8 * n) * 2 ^ (8 * n) ≡ 2 ^ 32 = sym (pow-add 2 (32 - 8 * n) (8 * n)) ∙ ap (λ k. 2 ^ k) places in
    let more : 2 ^ (32 - 8 * n) * suc (value bytes n) ≤ 2 ^ (32 - 8 * n) * 2 ^ (8 * n) = mul-le-mul_left {m = suc (value bytes n)} {n = 2 ^ (8 * n)} (2 ^ (32 - 8 * n)) below in
    rw (remainder_short bytes short) (omega (arith, more, wide, pow_pos (32 - 8 * n)))

pub parity_zero : (bytes : List ℕ) → AreBytes bytes → (parity_of bytes ≡ 0) ↔ (remainder_of bytes ≡ 0)
parity_zero bytes are =
    let n = length bytes in
    elim (cases_lt n 4) [
      | inl short ↦
          let same = parity_short bytes short in
          let wide = 2 ^ (32 - 8 * n) in
          let fits : remainder_of bytes * wide < 2 ^ 32 = short_fits bytes are short in
          let at_least : remainder_of bytes * 1 ≤ remainder_of bytes * wide = mul-le-mul_left {m = 1} {n = wide} (remainder_of bytes) (pow_pos (32 - 8 * n)) in (
            (λ none. let all = from_zero (8 * n) (remainder_of bytes * wide) fits (sym same ∙ none) in omega (arith, all, at_least)),
            (λ none. same ∙ to_zero (8 * n) (remainder_of bytes * wide) (ap (λ x. x * wide) none ∙ omega arith)),
          )
      | inr long ↦
          let same = parity_long bytes (omega (arith, long)) in
          ((λ none. from_zero 32 (remainder_of bytes) (remainder_small bytes are) (sym same ∙ none)), (λ none. same ∙ to_zero 32 (remainder_of bytes) none))
    ]

-- ---- followed by their parity

stored_value : (bytes : List ℕ) (n : ℕ) → n < 2 ^ 32 → value (bytes ++ digits 4 n) (length bytes + 4) ≡ value bytes (length bytes) * 2 ^ 32 + n
stored_value bytes n small =
    let all = value_in_parts (bytes ++ digits 4 n) (length bytes) 4 in
    let first : value (bytes ++ digits 4 n) (length bytes) ≡ value bytes (length bytes) =
    sym (value_taken (bytes ++ digits 4 n) (length bytes) (length bytes) (le_refl (length bytes))) ∙ ap (λ (l : List ℕ). value l (length bytes)) (take-append_seam bytes (digits 4 n)) in
    let last : value (drop (length bytes) (bytes ++ digits 4 n)) 4 ≡ n = ap (λ (l : List ℕ). value l 4) (drop-append_seam bytes (digits 4 n)) ∙ omega (arith, small) in
    all ∙ ap (λ x. x * 256 ^ 4 + value (drop (length bytes) (bytes ++ digits 4 n)) 4) first ∙ ap (λ x. value bytes (length bytes) * 2 ^ 32 + x) last

stored_remainder : (bytes : List ℕ) (n : ℕ) → n < 2 ^ 32 → remainder_of (bytes ++ digits 4 n) ≡ bit_xor (parity_of bytes) n
unfolding remainder_of parity_of
stored_remainder bytes n small =
    let m = length bytes in
    let v = value bytes m in
    let long : length (bytes ++ digits 4 n) ≡ m + 4 = length-append bytes (digits 4 n) in
    let places : 8 * (m + 4) - 32 ≡ 8 * m = omega arith in
    let apart : v * 2 ^ 32 + n ≡ bit_xor (v * 2 ^ 32) n = sym (xor_shifted v 32 n small) in
    let plain : 8 * m + 0 ≡ 8 * m = omega arith in
    let last : divided (8 * m) n ≡ n = sym (ap (λ k. divided k n) plain) ∙ divided_small (8 * m) 0 n small ∙ divided-zero n in
    ap (λ k. divided (8 * k - 32) (value (bytes ++ digits 4 n) k)) long ∙ ap (λ k. divided k (value (bytes ++ digits 4 n) (m + 4))) places
    ∙ ap (divided (8 * m)) (stored_value bytes n small ∙ apart) ∙ divided_xor (8 * m) (v * 2 ^ 32) n ∙ ap (bit_xor (divided (8 * m) (v * 2 ^ 32))) last

same_of_none : (a b : ℕ) → bit_xor a b ≡ 0 → b ≡ a
same_of_none a b none =
    let twice : bit_xor a (bit_xor a b) ≡ b = sym (xor_assoc a a b) ∙ ap (λ x. bit_xor x b) (xor_self a) in
    sym twice ∙ ap (bit_xor a) none ∙ xor_zero_r a

pub stored : (bytes : List ℕ) (n : ℕ) → n < 2 ^ 32 → (remainder_of (bytes ++ digits 4 n) ≡ 0) ↔ (n ≡ parity_of bytes)
stored bytes n small =
    let sum = stored_remainder bytes n small in
    ((λ none. same_of_none (parity_of bytes) n (sym sum ∙ none)), (λ same. sum ∙ ap (bit_xor (parity_of bytes)) same ∙ xor_self (parity_of bytes)))

-- ---- one behind the other

joined_value : (xs ys : List ℕ) → value (xs ++ ys) (length xs + length ys) ≡ value xs (length xs) * 2 ^ (8 * length ys) + value ys (length ys)
joined_value xs ys =
    let m = length xs in
    let n = length ys in
    let all = value_in_parts (xs ++ ys) m n in
    let first : value (xs ++ ys) m ≡ value xs m =
    sym (value_taken (xs ++ ys) m m (le_refl m)) ∙ ap (λ (l : List ℕ). value l m) (take-append_seam xs ys) in
    let last : value (drop m (xs ++ ys)) n ≡ value ys n = ap (λ (l : List ℕ). value l n) (drop-append_seam xs ys) in
    all ∙ ap (λ x. x * 256 ^ n + value (drop m (xs ++ ys)) n) first ∙ ap (λ x. value xs m * 256 ^ n + x) last ∙ ap (λ w. value xs m * w + value ys n) (wide_as n)

-- the parity of bytes and of more behind them, by that of the bytes
pub parity_goes_on : (xs ys : List ℕ) → AreBytes ys → parity_of (xs ++ ys) ≡ remainder_behind (8 * length ys) (parity_of xs) (value ys (length ys))
unfolding parity_of
parity_goes_on xs ys are =
    let m = length xs in
    let n = length ys in
    let long : length (xs ++ ys) ≡ m + n = length-append xs ys in
    let below : value ys n < 2 ^ (8 * n) = omega (arith, value_below ys are n, wide_as n) in
    let places : 8 * (m + n) ≡ 8 * m + 8 * n = omega arith in
    ap (λ c. divided (8 * c) (value (xs ++ ys) c * 2 ^ 32)) long
    ∙ ap (λ v. divided (8 * (m + n)) (v * 2 ^ 32)) (joined_value xs ys)
    ∙ ap (λ k. divided k ((value xs m * 2 ^ (8 * n) + value ys n) * 2 ^ 32)) places
    ∙ behind (8 * m) (8 * n) (value xs m) (value ys n) below

pub sound_in_a_row : (xs ys : List ℕ) → AreBytes ys → 4 ≤ length xs → 4 ≤ length ys → remainder_of xs ≡ 0 → remainder_of ys ≡ 0 → remainder_of (xs ++ ys) ≡ 0
unfolding remainder_of
sound_in_a_row xs ys are long_x long_y none_x none_y =
    let m = length xs in
    let n = length ys in
    let k = 8 * m - 32 + 8 * n in
    let v = value xs m in
    let w = value ys n in
    let long : length (xs ++ ys) ≡ m + n = length-append xs ys in
    let places : 8 * (m + n) - 32 ≡ k = omega (arith, long_x) in
    let below : w < 2 ^ (8 * n) = omega (arith, value_below ys are n, wide_as n) in
    let apart : v * 2 ^ (8 * n) + w ≡ bit_xor (v * 2 ^ (8 * n)) w = sym (xor_shifted v (8 * n) w below) in
    let first : divided k (v * 2 ^ (8 * n)) ≡ 0 =
    divided_scaled (8 * m - 32) (8 * n) v ∙ to_zero (8 * n) (divided (8 * m - 32) v) none_x in
    let split : k ≡ 8 * m + (8 * n - 32) = omega (arith, long_x, long_y) in
    let last : divided k w ≡ 0 =
    ap (λ c. divided c w) split ∙ divided_small (8 * m) (8 * n - 32) w (value_fits ys are) ∙ none_y in
    ap (λ c. divided (8 * c - 32) (value (xs ++ ys) c)) long ∙ ap (λ c. divided c (value (xs ++ ys) (m + n))) places
    ∙ ap (divided k) (joined_value xs ys ∙ apart) ∙ divided_xor k (v * 2 ^ (8 * n)) w ∙ ap (λ x. bit_xor x (divided k w)) first ∙ ap (bit_xor 0) last

-- ---- sums and differences

pub added : (xs ys zs : List ℕ) → length xs ≡ length zs → length ys ≡ length zs → value zs (length zs) ≡ bit_xor (value xs (length xs)) (value ys (length ys)) →
    remainder_of zs ≡ bit_xor (remainder_of xs) (remainder_of ys)
unfolding remainder_of
added xs ys zs long_x long_y sum =
    let k = 8 * length zs - 32 in
    let of : ℕ → List ℕ → ℕ = λ n l. divided (8 * n - 32) (value l n) in
    let of_x : divided k (value xs (length xs)) ≡ divided (8 * length xs - 32) (value xs (length xs)) = ap (λ n. divided (8 * n - 32) (value xs (length xs))) (sym long_x) in
    let of_y : divided k (value ys (length ys)) ≡ divided (8 * length ys - 32) (value ys (length ys)) = ap (λ n. divided (8 * n - 32) (value ys (length ys))) (sym long_y) in
    ap (divided k) sum ∙ divided_xor k (value xs (length xs)) (value ys (length ys)) ∙ ap (λ x. bit_xor x (divided k (value ys (length ys)))) of_x
    ∙ ap (bit_xor (divided (8 * length xs - 32) (value xs (length xs)))) of_y

-- a number within 32 places leaves a remainder
within : (count bits place : ℕ) → 0 < bits → bits < 2 ^ 32 → bits * 2 ^ place < 2 ^ (32 + count) → 0 < divided count (bits * 2 ^ place)
within count bits place positive small fits =
    elim (cases_lt count place) [
      | inl beyond ↦
          let wide = 2 ^ (place - count) in
          let places : place - count + count ≡ place = omega (arith, beyond) in
          let power : wide * 2 ^ count ≡ 2 ^ place = sym (pow-add 2 (place - count) count) ∙ ap (λ k. 2 ^ k) places in
          let all : bits * 2 ^ place ≡ bits * wide * 2 ^ count = omega (arith, ap (λ p. bits * p) power) in
          let below : bits * wide < 2 ^ 32 = lt_of_mul-lt-mul_right (2 ^ count) {m = bits * wide} {n = 2 ^ 32} (omega (arith, fits, all, pow-add 2 32 count)) in
          let at_least : bits * 1 ≤ bits * wide = mul-le-mul_left {m = 1} {n = wide} bits (pow_pos (place - count)) in
          rw all (kept_apart count (bits * wide) (omega (arith, positive, at_least)) below)
      | inr inside ↦
          let places : count - place + place ≡ count = omega (arith, inside) in
          let plain : count - place + 0 ≡ count - place = omega arith in
          let kept : divided (count - place) bits ≡ bits = sym (ap (λ k. divided k bits) plain) ∙ divided_small (count - place) 0 bits small ∙ divided-zero bits in
          let all : divided count (bits * 2 ^ place) ≡ divided place (bits * 2 ^ place) =
          sym (ap (λ k. divided k (bits * 2 ^ place)) places) ∙ divided_scaled (count - place) place bits ∙ ap (λ r. divided place (r * 2 ^ place)) kept in
          rw all (kept_apart place bits positive small)
    ]

pub different : (xs ys : List ℕ) (bits place : ℕ) → AreBytes xs → AreBytes ys → length xs ≡ length ys → 0 < bits → bits < 2 ^ 32 →
    bit_xor (value xs (length xs)) (value ys (length ys)) ≡ bits * 2 ^ place → remainder_of xs ≡ remainder_of ys → ⊥
unfolding remainder_of
different xs ys bits place are_x are_y long positive small differs same =
    let n = length xs in
    let k = 8 * n - 32 in
    let of_y : value ys (length ys) < 2 ^ (32 + k) = rw long (value_fits ys are_y) in
    let fits : bits * 2 ^ place < 2 ^ (32 + k) = rw (sym differs) (xor_lt (32 + k) (value xs n) (value ys (length ys)) (value_fits xs are_x) of_y) in
    let rest_y : divided k (value ys (length ys)) ≡ remainder_of ys = ap (λ m. divided (8 * m - 32) (value ys (length ys))) long in
    let none : divided k (bits * 2 ^ place) ≡ 0 =
    sym (ap (divided k) differs) ∙ divided_xor k (value xs n) (value ys (length ys)) ∙ ap (bit_xor (divided k (value xs n))) (rest_y ∙ sym same) ∙ xor_self (divided k (value xs n)) in
    absurd (omega (arith, within k bits place positive small fits, none))

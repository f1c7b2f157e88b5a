-- Remainders by the table of single bytes.
use Rattle.std.specs.Prelude.{bit_xor, bit_and, slice_index}
use Rattle.std.specs.List.{range_with_len}
use Rattle.std.proofs.Common.{◌≡◌, refl, ℕ, suc, ◌+◌, ◌*◌, ◌/◌, ◌%◌, ◌^◌, ◌<◌, ◌≤◌, List, [], ◌∷◌, length, map, get_or, arith, ap, sym, ◌∙◌}
use Rattle.std.specs.Int.Bits.{xor_assoc, xor_shifted, xor_zero_r}
use Rattle.std.proofs.Math.Nat.{mul-le-mul_right}
use Rattle.std.proofs.lemmas.List.{get_or-map}
use Rattle.std.proofs.lemmas.List.FromFn.{get_or-range_with_len, length-range_with_len}
use Rattle.std.proofs.lemmas.Nat.{xor_block, xor_lt, xor_comm, pow-add, and_mask, mod_below}
use Rattle.ffv1_record.specs.declared.tables.TheConstants.{REMAINDERS}
use Rattle.ffv1_record.specs.Parity.{divided, byte_remainder}
use Rattle.ffv1_record.proofs.Division.{divided-zero, divided_xor, divided_small, xor_scaled}

-- ---- the tables

abbrev row : ℕ → List ℕ
row behind = map (λ byte. divided (8 * behind + 8) (byte * 2 ^ (8 * behind + 32))) (range_with_len 0 256)

rows : REMAINDERS ≡ map row (range_with_len 0 16)
unfolding divided
rows = refl

pub table : (behind byte : ℕ) → behind < 16 → byte < 256 → slice_index (get_or REMAINDERS behind []) byte ≡ byte_remainder behind byte
table behind byte few small =
    let behinds = range_with_len 0 16 in
    let bytes = range_with_len 0 256 in
    let number : get_or behinds behind 0 ≡ behind = get_or-range_with_len 0 16 behind 0 few ∙ omega arith in
    let long : behind < length behinds = rw (length-range_with_len 0 16) few in
    let place : get_or bytes byte 0 ≡ byte = get_or-range_with_len 0 256 byte 0 small ∙ omega arith in
    let wide : byte < length bytes = rw (length-range_with_len 0 256) small in
    ap (λ (l : List (List ℕ)). slice_index (get_or l behind []) byte) rows ∙ ap (λ (l : List ℕ). slice_index l byte) (get_or-map row behinds behind 0 [] long ∙ ap row number)
    ∙ get_or-map (λ b. byte_remainder behind b) bytes byte 0 0 wide ∙ ap (byte_remainder behind) place

-- ---- some bytes, followed by 32 bits 0

pub shifted_xor : (count a b : ℕ) → divided count (bit_xor a b * 2 ^ 32) ≡ bit_xor (divided count (a * 2 ^ 32)) (divided count (b * 2 ^ 32))
shifted_xor count a b = ap (divided count) (sym (xor_scaled a b 32)) ∙ divided_xor count (a * 2 ^ 32) (b * 2 ^ 32)

abbrev AreSmall : List ℕ → Type 0
AreSmall [] = Unit {0}
AreSmall (b ∷ bs) = (b < 256) × AreSmall bs

-- the number of bytes, from the first
abbrev number_of : List ℕ → ℕ
number_of [] = 0
number_of (b ∷ bs) = b * 2 ^ (8 * length bs) + number_of bs

-- the remainders of each alone
abbrev sum_of : List ℕ → ℕ
sum_of [] = 0
sum_of (b ∷ bs) = bit_xor (divided (8 * length bs + 8) (b * 2 ^ (8 * length bs + 32))) (sum_of bs)

number_below : (bs : List ℕ) → AreSmall bs → number_of bs < 2 ^ (8 * length bs)
number_below [] small = omega arith
number_below (b ∷ bs) small =
    let rest = number_below bs small.1 in
    let wide : 2 ^ (8 * suc (length bs)) ≡ 2 ^ (8 * length bs) * 256 = ap (λ k. 2 ^ k) (omega arith) ∙ pow-add 2 (8 * length bs) 8 in
    let all : b * 2 ^ (8 * length bs) ≤ 255 * 2 ^ (8 * length bs) = mul-le-mul_right {m = b} {n = 255} (2 ^ (8 * length bs)) (omega (arith, small.0)) in
    omega (arith, wide, rest, all)

pub by_bytes : (bs : List ℕ) → AreSmall bs → divided (8 * length bs) (number_of bs * 2 ^ 32) ≡ sum_of bs
unfolding divided
by_bytes [] small = refl
by_bytes (b ∷ bs) small =
    let n = 8 * length bs in
    let m = number_of bs in
    let below = number_below bs small.1 in
    let next : 8 * suc (length bs) ≡ n + 8 = omega arith in
    let turned : n + 8 ≡ 8 + n = omega arith in
    let apart : b * 2 ^ n + m ≡ bit_xor (b * 2 ^ n) m = sym (xor_shifted b n m below) in
    let high : b * 2 ^ n * 2 ^ 32 ≡ b * 2 ^ (n + 32) = omega (arith, ap (λ k. b * k) (pow-add 2 n 32)) in
    let bound : m * 2 ^ 32 < 2 ^ (32 + n) = omega (arith, below, pow-add 2 32 n) in
    ap (λ k. divided k ((b * 2 ^ n + m) * 2 ^ 32)) next ∙ ap (λ x. divided (n + 8) (x * 2 ^ 32)) apart ∙ shifted_xor (n + 8) (b * 2 ^ n) m
    ∙ ap (λ x. bit_xor (divided (n + 8) x) (divided (n + 8) (m * 2 ^ 32))) high
    ∙ ap (bit_xor (divided (n + 8) (b * 2 ^ (n + 32)))) (ap (λ k. divided k (m * 2 ^ 32)) turned ∙ divided_small 8 n (m * 2 ^ 32) bound ∙ by_bytes bs small.1)

-- ---- a block after some bytes

sixteen : (a b c d e f g h i j k l m n o p : ℕ) → a < 256 → b < 256 → c < 256 → d < 256 → e < 256 → f < 256 → g < 256 → h < 256 → i < 256 → j < 256 → k < 256 → l < 256 → m < 256 → n < 256 → o < 256 → p < 256 →
    bit_xor (byte_remainder 15 a) (bit_xor (byte_remainder 14 b) (bit_xor (byte_remainder 13 c) (bit_xor (byte_remainder 12 d) (bit_xor (byte_remainder 11 e) (bit_xor (byte_remainder 10 f) (bit_xor (byte_remainder 9 g) (bit_xor (byte_remainder 8 h) (bit_xor (byte_remainder 7 i) (bit_xor (byte_remainder 6 j) (bit_xor (byte_remainder 5 k) (bit_xor (byte_remainder 4 l) (bit_xor (byte_remainder 3 m) (bit_xor (byte_remainder 2 n) (bit_xor (byte_remainder 1 o) (byte_remainder 0 p)))))))))))))))
    ≡ divided 128 (((a * 2 ^ 24 + b * 2 ^ 16 + c * 2 ^ 8 + d) * 2 ^ 96 + (e * 2 ^ 88 + f * 2 ^ 80 + g * 2 ^ 72 + h * 2 ^ 64 + i * 2 ^ 56 + j * 2 ^ 48 + k * 2 ^ 40 + l * 2 ^ 32 + m * 2 ^ 24 + n * 2 ^ 16 + o * 2 ^ 8 + p)) * 2 ^ 32)
sixteen a b c d e f g h i j k l m n o p sa sb sc sd se sf sg sh si sj sk sl sm sn so sp =
    let all = by_bytes (a ∷ b ∷ c ∷ d ∷ e ∷ f ∷ g ∷ h ∷ i ∷ j ∷ k ∷ l ∷ m ∷ n ∷ o ∷ p ∷ []) (sa, (sb, (sc, (sd, (se, (sf, (sg, (sh, (si, (sj, (sk, (sl, (sm, (sn, (so, (sp, tt)))))))))))))))) in
    let number : (a * 2 ^ 24 + b * 2 ^ 16 + c * 2 ^ 8 + d) * 2 ^ 96 + (e * 2 ^ 88 + f * 2 ^ 80 + g * 2 ^ 72 + h * 2 ^ 64 + i * 2 ^ 56 + j * 2 ^ 48 + k * 2 ^ 40 + l * 2 ^ 32 + m * 2 ^ 24 + n * 2 ^ 16 + o * 2 ^ 8 + p) ≡ number_of (a ∷ b ∷ c ∷ d ∷ e ∷ f ∷ g ∷ h ∷ i ∷ j ∷ k ∷ l ∷ m ∷ n ∷ o ∷ p ∷ []) = omega arith in
    let last : byte_remainder 0 p ≡ bit_xor (divided 8 (p * 2 ^ 32)) 0 = sym (xor_zero_r (divided 8 (p * 2 ^ 32))) in
    rw last
    (sym all ∙ ap (λ x. divided 128 (x * 2 ^ 32)) (sym number))

-- the same in the order of a program
in_order : (a b c d e f g h i j k l m n o p : ℕ) →
    bit_xor (bit_xor (bit_xor (bit_xor (bit_xor (bit_xor (bit_xor (bit_xor (bit_xor (bit_xor (bit_xor (bit_xor (bit_xor (bit_xor (bit_xor a b) c) d) e) f) g) h) i) j) k) l) m) n) o) p ≡
    bit_xor a (bit_xor b (bit_xor c (bit_xor d (bit_xor e (bit_xor f (bit_xor g (bit_xor h (bit_xor i (bit_xor j (bit_xor k (bit_xor l (bit_xor m (bit_xor n (bit_xor o p))))))))))))))
in_order a b c d e f g h i j k l m n o p = simp xor_assoc

-- the four bytes of a number
bytes_of : (n : ℕ) → n / 16777216 * 2 ^ 24 + bit_and (n / 65536) 255 * 2 ^ 16 + bit_and (n / 256) 255 * 2 ^ 8 + bit_and n 255 ≡ n
bytes_of n =
    let second : bit_and (n / 65536) 255 ≡ n / 65536 % 256 = and_mask (n / 65536) 8 in
    let third : bit_and (n / 256) 255 ≡ n / 256 % 256 = and_mask (n / 256) 8 in
    let fourth : bit_and n 255 ≡ n % 256 = and_mask n 8 in
    omega (arith, second, third, fourth)

-- a block of a number of four bytes and one of twelve, after bytes of a remainder
pub block : (remainder high low e f g h i j k l m n o p : ℕ) → remainder < 2 ^ 32 → high < 2 ^ 32 → e < 256 → f < 256 → g < 256 → h < 256 → i < 256 → j < 256 → k < 256 → l < 256 → m < 256 → n < 256 → o < 256 → p < 256 →
    low ≡ e * 2 ^ 88 + f * 2 ^ 80 + g * 2 ^ 72 + h * 2 ^ 64 + i * 2 ^ 56 + j * 2 ^ 48 + k * 2 ^ 40 + l * 2 ^ 32 + m * 2 ^ 24 + n * 2 ^ 16 + o * 2 ^ 8 + p →
    bit_xor (bit_xor (bit_xor (bit_xor (bit_xor (bit_xor (bit_xor (bit_xor (bit_xor (bit_xor (bit_xor (bit_xor (bit_xor (bit_xor (bit_xor (byte_remainder 15 (bit_xor remainder high / 16777216)) (byte_remainder 14 (bit_and (bit_xor remainder high / 65536) 255))) (byte_remainder 13 (bit_and (bit_xor remainder high / 256) 255))) (byte_remainder 12 (bit_and (bit_xor remainder high) 255))) (byte_remainder 11 e)) (byte_remainder 10 f)) (byte_remainder 9 g)) (byte_remainder 8 h)) (byte_remainder 7 i)) (byte_remainder 6 j)) (byte_remainder 5 k)) (byte_remainder 4 l)) (byte_remainder 3 m)) (byte_remainder 2 n)) (byte_remainder 1 o)) (byte_remainder 0 p)
    ≡ bit_xor (divided 128 (remainder * 2 ^ 128)) (divided 128 ((high * 2 ^ 96 + low) * 2 ^ 32))
block remainder high low e f g h i j k l m n o p small_r small_h se sf sg sh si sj sk sl sm sn so sp is_low =
    let first = bit_xor remainder high in
    let below : first < 2 ^ 32 = xor_lt 32 remainder high small_r small_h in
    let second : bit_and (first / 65536) 255 ≡ first / 65536 % 256 = and_mask (first / 65536) 8 in
    let third : bit_and (first / 256) 255 ≡ first / 256 % 256 = and_mask (first / 256) 8 in
    let fourth : bit_and first 255 ≡ first % 256 = and_mask first 8 in
    let by_table = sixteen (first / 16777216) (bit_and (first / 65536) 255) (bit_and (first / 256) 255) (bit_and first 255) e f g h i j k l m n o p
    (omega (arith, below)) (omega (arith, second)) (omega (arith, third)) (omega (arith, fourth)) se sf sg sh si sj sk sl sm sn so sp in
    let whole : (first / 16777216 * 2 ^ 24 + bit_and (first / 65536) 255 * 2 ^ 16 + bit_and (first / 256) 255 * 2 ^ 8 + bit_and first 255) * 2 ^ 96 + (e * 2 ^ 88 + f * 2 ^ 80 + g * 2 ^ 72 + h * 2 ^ 64 + i * 2 ^ 56 + j * 2 ^ 48 + k * 2 ^ 40 + l * 2 ^ 32 + m * 2 ^ 24 + n * 2 ^ 16 + o * 2 ^ 8 + p) ≡ first * 2 ^ 96 + low =
    ap (λ x. x * 2 ^ 96 + (e * 2 ^ 88 + f * 2 ^ 80 + g * 2 ^ 72 + h * 2 ^ 64 + i * 2 ^ 56 + j * 2 ^ 48 + k * 2 ^ 40 + l * 2 ^ 32 + m * 2 ^ 24 + n * 2 ^ 16 + o * 2 ^ 8 + p)) (bytes_of first) ∙ ap (λ x. first * 2 ^ 96 + x) (sym is_low) in
    let low_below : low < 2 ^ 96 = omega (arith, is_low) in
    let sums : bit_xor (remainder * 2 ^ 96 + 0) (high * 2 ^ 96 + low) ≡ first * 2 ^ 96 + low = xor_block 96 remainder high 0 low (omega arith) low_below in
    let plain : remainder * 2 ^ 96 + 0 ≡ remainder * 2 ^ 96 = omega arith in
    let wide : remainder * 2 ^ 128 ≡ remainder * 2 ^ 96 * 2 ^ 32 = omega arith in
    in_order (byte_remainder 15 (first / 16777216)) (byte_remainder 14 (bit_and (first / 65536) 255)) (byte_remainder 13 (bit_and (first / 256) 255)) (byte_remainder 12 (bit_and first 255)) (byte_remainder 11 e) (byte_remainder 10 f) (byte_remainder 9 g) (byte_remainder 8 h) (byte_remainder 7 i) (byte_remainder 6 j) (byte_remainder 5 k) (byte_remainder 4 l) (byte_remainder 3 m) (byte_remainder 2 n) (byte_remainder 1 o) (byte_remainder 0 p)
    ∙ by_table ∙ ap (λ x. divided 128 (x * 2 ^ 32)) (whole ∙ sym sums ∙ ap (λ x. bit_xor x (high * 2 ^ 96 + low)) plain)
    ∙ shifted_xor 128 (remainder * 2 ^ 96) (high * 2 ^ 96 + low) ∙ sym (ap (λ x. bit_xor x (divided 128 ((high * 2 ^ 96 + low) * 2 ^ 32))) (ap (divided 128) wide))

-- a byte after bytes of a remainder
pub single : (remainder byte : ℕ) → remainder < 2 ^ 32 → byte < 256 →
    bit_xor (remainder * 256 % 4294967296) (byte_remainder 0 (bit_xor (remainder / 16777216) byte)) ≡ bit_xor (divided 8 (remainder * 256)) (divided 8 (byte * 4294967296))
single remainder byte small_r small_b =
    let high = remainder / 16777216 in
    let low = remainder * 256 % 4294967296 in
    let of_high : high < 256 = omega (arith, small_r) in
    let low_below : low < 2 ^ 32 = mod_below (remainder * 256) 4294967296 (omega arith) in
    let parts : remainder * 256 ≡ bit_xor (high * 2 ^ 32) low = omega arith ∙ sym (xor_shifted high 32 low low_below) in
    let kept : divided 8 low ≡ low = divided_small 8 0 low low_below ∙ divided-zero low in
    let first : divided 8 (remainder * 256) ≡ bit_xor (divided 8 (high * 2 ^ 32)) low = ap (divided 8) parts ∙ divided_xor 8 (high * 2 ^ 32) low ∙ ap (bit_xor (divided 8 (high * 2 ^ 32))) kept in
    ap (bit_xor low) (shifted_xor 8 high byte) ∙ sym (xor_assoc low (divided 8 (high * 2 ^ 32)) (divided 8 (byte * 2 ^ 32)))
    ∙ ap (λ x. bit_xor x (divided 8 (byte * 2 ^ 32))) (xor_comm low (divided 8 (high * 2 ^ 32)) ∙ sym first)

-- Bits of bytes.
use Rattle.std.proofs.Common.{◌≡◌, refl, sym, ◌∙◌, ap, ℕ, zero, suc, ◌+◌, ◌-◌, ◌*◌, ◌/◌, ◌%◌, ◌^◌}
use Rattle.std.proofs.Common.{◌<◌, ◌≤◌, Bool, false, List, [], ◌∷◌, ◌++◌, ◌==◌, length}
use Rattle.std.proofs.Common.{drop, arith, append-nil, slice_index, pow_mono}
use Rattle.std.proofs.lemmas.Nat.{pow_pos, pow-add, div_below, shr_high, mod_low, shl_below}
use Rattle.std.proofs.lemmas.Nat.{mul-add-lt}
use Rattle.std.proofs.lemmas.List.{drop_at, get_or_past}
use Rattle.std.proofs.Common.{length-append}
use Rattle.std.proofs.Math.Seq.{drop-append_seam}
use Rattle.ffv1_rice.specs.Bits.{bit_of, bits_from, bits_of, binary, number_of}
use Rattle.ffv1_rice.proofs.Binary.{number-append, number-below, number-binary}

pub length-bits_from : (bytes : List ℕ) (place n : ℕ) → length (bits_from bytes place n) ≡ n
unfolding bits_from
length-bits_from bytes place zero = refl
length-bits_from bytes place (suc n) = ap suc (length-bits_from bytes (suc place) n)

pub bits_from-add : (bytes : List ℕ) (place next n a b : ℕ) → n ≡ a + b → next ≡ place + a →
    bits_from bytes place n ≡ bits_from bytes place a ++ bits_from bytes next b
unfolding bits_from
bits_from-add bytes place next n zero b is at =
    let same : n ≡ b = omega arith in
    let here : next ≡ place = omega arith in
    rw (same, here) refl
bits_from-add bytes place next zero (suc a) b is at = absurd (omega (arith, is))
bits_from-add bytes place next (suc n) (suc a) b is at =
    ap (λ rest. bit_of bytes place ∷ rest)
    (bits_from-add bytes (suc place) next n a b (omega (arith, is)) (omega (arith, at)))

pub drop-bits_from : (bytes : List ℕ) (place next n a b : ℕ) → n ≡ a + b → next ≡ place + a →
    drop a (bits_from bytes place n) ≡ bits_from bytes next b
drop-bits_from bytes place next n a b is at =
    ap (drop a) (bits_from-add bytes place next n a b is at)
    ∙ drop_at (bits_from bytes place a) (bits_from bytes next b) a (length-bits_from bytes place a)

zero_div : (k : ℕ) → 0 / 2 ^ k ≡ 0
zero_div k =
    let some = pow_pos k in
    let less = div_below 0 (2 ^ k) 1 some (omega (arith, some)) in
    omega (arith, less)

-- after the last byte all bits are 0
bit_past : (bytes : List ℕ) (place : ℕ) → 8 * length bytes ≤ place → bit_of bytes place ≡ false
bit_past bytes place past =
    let beyond : length bytes ≤ place / 8 = omega (arith, past) in
    let none : slice_index bytes (place / 8) ≡ 0 = get_or_past bytes (place / 8) 0 beyond in
    rw (none, zero_div (7 - place % 8)) refl

number_past : (bytes : List ℕ) (place n : ℕ) → 8 * length bytes ≤ place →
    number_of n (bits_from bytes place n) ≡ 0
unfolding number_of bits_from
number_past bytes place zero past = refl
number_past bytes place (suc n) past =
    let none = bit_past bytes place past in
    let rest = number_past bytes (suc place) n (omega (arith, past)) in
    rw (none, rest) (omega arith)

-- the number of the first of all bits that are left
pub number_left : (bytes : List ℕ) (place m n : ℕ) → 8 * length bytes ≡ place + m →
    number_of n (bits_from bytes place m) ≡ number_of n (bits_from bytes place n)
unfolding number_of bits_from
number_left bytes place m zero is = refl
number_left bytes place zero (suc n) is = sym (number_past bytes place (suc n) (omega (arith, is)))
number_left bytes place (suc m) (suc n) is =
    let rest = number_left bytes (suc place) m n (omega (arith, is)) in
    rw rest refl

-- the bits of one byte from one of them on
byte_bits : (bytes : List ℕ) (q j n : ℕ) → j + n ≡ 8 →
    bits_from bytes (8 * q + j) n ≡ binary n (slice_index bytes q)
unfolding bits_from binary
byte_bits bytes q j zero is = refl
byte_bits bytes q j (suc n) is =
    let own : (8 * q + j) / 8 ≡ q = omega (arith, is) in
    let turn : (8 * q + j) % 8 ≡ j = omega (arith, is) in
    let shift : 7 - j ≡ n = omega (arith, is) in
    let next : suc (8 * q + j) ≡ 8 * q + suc j = omega arith in
    rw (own, turn, shift, next)
    (ap (λ rest. (slice_index bytes q / 2 ^ n % 2 == 1) ∷ rest)
    (byte_bits bytes q (suc j) n (omega (arith, is))))

pub number_byte : (bytes : List ℕ) (q : ℕ) → slice_index bytes q < 256 →
    number_of 8 (bits_from bytes (8 * q) 8) ≡ slice_index bytes q
number_byte bytes q small =
    let at : 8 * q + 0 ≡ 8 * q = omega arith in
    let bits : bits_from bytes (8 * q) 8 ≡ binary 8 (slice_index bytes q) =
    ap (λ place. bits_from bytes place 8) (sym at) ∙ byte_bits bytes q 0 8 refl in
    let number = number-binary 8 (slice_index bytes q) [] in
    ap (number_of 8) (bits ∙ sym (append-nil (binary 8 (slice_index bytes q)))) ∙ number
    ∙ (omega (arith, small))

-- the number of some bytes and one more
pub number_bytes : (bytes : List ℕ) (q n : ℕ) → slice_index bytes (q + n) < 256 →
    number_of (8 * (n + 1)) (bits_from bytes (8 * q) (8 * (n + 1)))
    ≡ number_of (8 * n) (bits_from bytes (8 * q) (8 * n)) * 256 + slice_index bytes (q + n)
number_bytes bytes q n small =
    let bits = bits_from-add bytes (8 * q) (8 * (q + n)) (8 * (n + 1)) (8 * n) 8 (omega arith)
    (omega arith) in
    let parts = number-append (8 * (n + 1)) (8 * n) 8 (bits_from bytes (8 * q) (8 * n))
    (bits_from bytes (8 * (q + n)) 8) (omega arith) (length-bits_from bytes (8 * q) (8 * n)) in
    ap (number_of (8 * (n + 1))) bits ∙ parts
    ∙ ap (λ k. number_of (8 * n) (bits_from bytes (8 * q) (8 * n)) * 256 + k)
    (number_byte bytes (q + n) small)

regrouped : (first high rest a b c n h : ℕ) → a * c ≡ n → b * c ≡ h →
    (first * a + (high * b + rest)) * c ≡ first * n + (high * h + rest * c)
regrouped first high rest a b c n h all some =
    let one : first * (a * c) ≡ first * n = ap (λ k. first * k) all in
    let two : high * (b * c) ≡ high * h = ap (λ k. high * k) some in
    omega (arith, one, two)

-- two windows: of n bits at a byte, and of the upper half of them some bits further on
pub shifted : (bytes : List ℕ) (place turn n half : ℕ) → n ≡ half + half → turn ≤ half →
    number_of n (bits_from bytes place n) * 2 ^ turn % 2 ^ n / 2 ^ half
    ≡ number_of half (bits_from bytes (place + turn) half)
shifted bytes place turn n half is few =
    let at = place + turn in
    let low = half - turn in
    let first = number_of turn (bits_from bytes place turn) in
    let high = number_of half (bits_from bytes at half) in
    let rest = number_of low (bits_from bytes (at + half) low) in
    let begins = bits_from-add bytes place at n turn (half + low) (omega (arith, is, few)) refl in
    let ends = bits_from-add bytes at (at + half) (half + low) half low refl refl in
    let one : number_of n (bits_from bytes place n) ≡ first * 2 ^ (half + low) + number_of
    (half + low) (bits_from bytes at (half + low)) =
    ap (number_of n) begins ∙ number-append n turn (half + low) (bits_from bytes place turn)
    (bits_from bytes at (half + low)) (omega (arith, is, few))
    (length-bits_from bytes place turn) in
    let two : number_of (half + low) (bits_from bytes at (half + low)) ≡ high * 2 ^ low + rest =
    ap (number_of (half + low)) ends ∙ number-append (half + low) half low
    (bits_from bytes at half) (bits_from bytes (at + half) low) refl
    (length-bits_from bytes at half) in
    let all : 2 ^ (half + low) * 2 ^ turn ≡ 2 ^ n = sym (pow-add 2 (half + low) turn) ∙
    ap (λ k. 2 ^ k) (omega (arith, is, few)) in
    let some : 2 ^ low * 2 ^ turn ≡ 2 ^ half = sym (pow-add 2 low turn) ∙ ap (λ k. 2 ^ k)
    (omega (arith, few)) in
    let squared : 2 ^ n ≡ 2 ^ half * 2 ^ half = ap (λ k. 2 ^ k) is ∙ pow-add 2 half half in
    let small : rest * 2 ^ turn < 2 ^ half =
    let below = shl_below rest low turn (number-below low (bits_from bytes (at + half) low)) in
    let sum : low + turn ≡ half = omega (arith, few) in
    rw sum at below in
    let inner = mul-add-lt high (2 ^ half) (rest * 2 ^ turn) (2 ^ half)
    (number-below half (bits_from bytes at half)) small in
    let whole : number_of n (bits_from bytes place n) * 2 ^ turn ≡ first * 2 ^ n +
    (high * 2 ^ half + rest * 2 ^ turn) =
    ap (λ k. k * 2 ^ turn) (one ∙ ap (λ k. first * 2 ^ (half + low) + k) two) ∙ regrouped first high
    rest (2 ^ (half + low)) (2 ^ low) (2 ^ turn) (2 ^ n) (2 ^ half) all some in
    ap (λ k. k % 2 ^ n / 2 ^ half) whole
    ∙ ap (λ k. k / 2 ^ half) (mod_low first n (high * 2 ^ half + rest * 2 ^ turn)
    (omega (arith, inner, squared)))
    ∙ shr_high high half (rest * 2 ^ turn) small

pub none_read : (bits : List Bool) → 0 ≡ number_of 0 bits
unfolding number_of
none_read bits = refl

-- there is room for one byte more
pub window_small : (bytes : List ℕ) (place k window : ℕ) → k < 8 →
    window ≡ number_of (8 * k) (bits_from bytes place (8 * k)) → window < 2 ^ 56
window_small bytes place k window few is =
    let below = number-below (8 * k) (bits_from bytes place (8 * k)) in
    let most : 2 ^ (8 * k) ≤ 2 ^ 56 = pow_mono {i = 8 * k} {j = 56} (omega (arith, few)) in
    omega (arith, is, below, most)

-- eight bytes one after the other
pub eight_bytes : (bytes : List ℕ) (q : ℕ) → ((k : ℕ) → slice_index bytes k < 256) →
    number_of 64 (bits_from bytes (8 * q) 64) ≡ slice_index bytes q * 72057594037927936
    + slice_index bytes (q + 1) * 281474976710656 + slice_index bytes (q + 2) * 1099511627776
    + slice_index bytes (q + 3) * 4294967296 + slice_index bytes (q + 4) * 16777216
    + slice_index bytes (q + 5) * 65536 + slice_index bytes (q + 6) * 256 + slice_index bytes
    (q + 7)
eight_bytes bytes q small =
    let none = none_read (bits_from bytes (8 * q) 0) in
    let here : slice_index bytes (q + 0) ≡ slice_index bytes q = ap (slice_index bytes)
    (omega arith) in
    let one = number_bytes bytes q 0 (small (q + 0)) in
    let two = number_bytes bytes q 1 (small (q + 1)) in
    let three = number_bytes bytes q 2 (small (q + 2)) in
    let four = number_bytes bytes q 3 (small (q + 3)) in
    let five = number_bytes bytes q 4 (small (q + 4)) in
    let six = number_bytes bytes q 5 (small (q + 5)) in
    let seven = number_bytes bytes q 6 (small (q + 6)) in
    let eight = number_bytes bytes q 7 (small (q + 7)) in
    omega (arith, none, here, one, two, three, four, five, six, seven, eight)

-- bits that are left after some others
pub last_bits : (bytes : List ℕ) (read text : List Bool) → bits_of bytes ≡ read ++ text →
    (length text ≤ 8 * length bytes) × (drop (8 * length bytes - length text) (bits_of bytes) ≡
    text)
last_bits bytes read text is =
    let long : 8 * length bytes ≡ length read + length text =
    sym (length-bits_from bytes 0 (8 * length bytes)) ∙ ap length is ∙ length-append read text in
    let at : 8 * length bytes - length text ≡ length read = omega (arith, long) in (
      omega (arith, long),
      ap (λ k. drop k (bits_of bytes)) at ∙ ap (drop (length read)) is ∙ drop-append_seam read text,
    )

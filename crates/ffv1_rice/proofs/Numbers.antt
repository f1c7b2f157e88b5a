-- Numbers in a window of 32 bits.
use Rattle.std.proofs.Common.{◌≡◌, refl, sym, ◌∙◌, ap, ℕ, suc, ◌+◌, ◌-◌, ◌*◌, ◌/◌, ◌%◌, ◌^◌}
use Rattle.std.proofs.Common.{◌<◌, ◌≤◌, ◌⊎◌, Bool, true, false, List, ◌∷◌, ◌++◌, length, take}
use Rattle.std.proofs.Common.{drop, replicate, inl, inr, arith, append_assoc, length-append, lt-ltb}
use Rattle.std.proofs.Common.{le-ltb, take-append-drop, subst, lt_trans}
use Rattle.std.proofs.lemmas.Bool.{cases_lt}
use Rattle.std.proofs.Math.Nat.{pow-succ'}
use Rattle.std.proofs.lemmas.Nat.{leading_length, shr_high, mod_below, pow_pos, pow_below}
use Rattle.std.proofs.lemmas.Nat.{shr_split, div_below}
use Rattle.std.proofs.lemmas.List.{take_at, length-replicate}
use Rattle.std.specs.Int.{w32, leading_zeros}
use Rattle.ffv1_rice.specs.Bits.{binary, number_of}
use Rattle.ffv1_rice.specs.Number.{limit, number_bits, IsShort, IsWhole}
use Rattle.ffv1_rice.specs.Number.{IsCode, Ends, IsBad}
use Rattle.ffv1_rice.proofs.Binary.{binary-add, binary_low, binary-mod, binary_padded, binary_full}
use Rattle.ffv1_rice.proofs.Binary.{length-binary, window_within, window_beyond}

-- a window that begins with few zeros
first_one : (window zeros j : ℕ) → window < 2 ^ 32 → zeros ≡ leading_zeros w32 window →
    zeros + suc j ≡ 32 → (2 ^ j ≤ window) × (window < 2 ^ suc j)
first_one window zeros j small are is =
    let top = leading_length 32 window small in
    let sum = top.1 in
    let same : top.0 ≡ suc j = omega (arith, sum, are, is) in
    let most = top.2 in
    let least = top.3 in
    let twice = pow-succ' 2 j in
    let power : 2 ^ top.0 ≡ 2 * 2 ^ j = ap (λ k. 2 ^ k) same ∙ twice in
    (omega (arith, least, power), omega (arith, most, power, twice))

-- a number that is after its zeros and their 1
pub short_window : (window zeros k low : ℕ) → window < 2 ^ 32 →
    zeros ≡ leading_zeros w32 window → zeros < limit → k ≤ 9 →
    low ≡ window / 2 ^ (31 - zeros - k) % 2 ^ k →
    IsShort k (zeros * 2 ^ k + low) (take (zeros + 1 + k) (binary 32 window))
short_window window zeros k low small are few least is =
    let r = 31 - zeros - k in
    let j = k + r in
    let bounds = first_one window zeros j small are (omega (arith, few, least)) in
    let below : low < 2 ^ k = rw is (mod_below (window / 2 ^ r) (2 ^ k) (pow_pos k)) in
    let high = shr_high zeros k low below in
    let own : binary k (zeros * 2 ^ k + low) ≡ binary k (window / 2 ^ r) =
    binary_low k zeros low below ∙ ap (binary k) is ∙ sym (binary-mod k (window / 2 ^ r)) in
    let begin = replicate zeros false ++ (true ∷ binary k (window / 2 ^ r)) in
    let all : binary 32 window ≡ begin ++ binary r window =
    binary_padded 32 zeros (suc j) window (omega (arith, few, least)) bounds.1
    ∙ ap (λ bits. replicate zeros false ++ bits) (binary_full j window bounds.0 bounds.1
    ∙ ap (λ bits. true ∷ bits) (binary-add j k r window refl))
    ∙ sym (append_assoc (replicate zeros false) (true ∷ binary k (window / 2 ^ r))
    (binary r window)) in
    let long : length begin ≡ zeros + 1 + k =
    length-append (replicate zeros false) (true ∷ binary k (window / 2 ^ r))
    ∙ omega (arith, length-replicate zeros false, length-binary k (window / 2 ^ r)) in
    record {
      few = rw high few;
      is =
          ap (take (zeros + 1 + k)) all
          ∙ take_at begin (binary r window) (zeros + 1 + k) long
          ∙ rw (high, own) refl;
    }

-- zeros at the beginning of a window, and some bits after them
pub field_window : (window zeros count r low : ℕ) → 32 ≡ zeros + (count + r) → window < 2 ^
    (count + r) →
    low ≡ window / 2 ^ r % 2 ^ count →
    take (zeros + count) (binary 32 window) ≡ replicate zeros false ++ binary count low
field_window window zeros count r low sum within is =
    let own : binary count low ≡ binary count (window / 2 ^ r) =
    ap (binary count) is ∙ sym (binary-mod count (window / 2 ^ r)) in
    let begin = replicate zeros false ++ binary count (window / 2 ^ r) in
    let all : binary 32 window ≡ begin ++ binary r window =
    binary_padded 32 zeros (count + r) window sum within
    ∙ ap (λ rest. replicate zeros false ++ rest) (binary-add (count + r) count r window refl)
    ∙ sym (append_assoc (replicate zeros false) (binary count (window / 2 ^ r))
    (binary r window)) in
    let long : length begin ≡ zeros + count =
    length-append (replicate zeros false) (binary count (window / 2 ^ r))
    ∙ omega (arith, length-replicate zeros false, length-binary count (window / 2 ^ r)) in
    ap (take (zeros + count)) all ∙ take_at begin (binary r window) (zeros + count) long
    ∙ sym (ap (λ rest. replicate zeros false ++ rest) own)

-- a number that is written whole
pub whole_window : (window bits low : ℕ) → window < 2 ^ 32 →
    limit ≤ leading_zeros w32 window → bits ≤ 9 →
    low ≡ window / 2 ^ (20 - bits) % 2 ^ bits →
    IsWhole bits (11 + low) (take (12 + bits) (binary 32 window))
whole_window window bits low small zeros few is =
    let r = 20 - bits in
    let top = leading_length 32 window small in
    let sum = top.1 in
    let most = top.2 in
    let within : window < 2 ^ 20 = elim (cases_lt top.0 20) [
      | inl less ↦ lt_trans most (pow_below top.0 20 less)
      | inr more ↦ let same : top.0 ≡ 20 = omega (arith, sum, zeros, more) in rw same at most
    ] in
    let room : 20 ≡ bits + r = omega (arith, few) in
    let below : low < 2 ^ bits = rw is (mod_below (window / 2 ^ r) (2 ^ bits) (pow_pos bits)) in
    let less : 11 + low - 11 ≡ low = omega arith in
    record {
      least = omega arith;
      most = omega (arith, below);
      is = field_window window 12 bits r low (omega (arith, few))
          (subst (λ k. window < 2 ^ k) room within) is
          ∙ ap (λ k. replicate 12 false ++ binary bits k) (sym less);
    }

-- what a window on some bits says of them: it has a code, and so do they, if they are long enough
pub ends_within : (bits k number long : ℕ) (text : List Bool) → long ≤ 32 → length text < long →
    IsCode bits k number (take long (binary 32 (number_of 32 text))) → Ends bits k text
ends_within bits k number long text few less is = record {
  number = number;
  more = replicate (long - length text) false;
  some = rw (length-replicate (long - length text) false) (omega (arith, less));
  is = subst (IsCode bits k number) (window_beyond 32 long text few (omega (arith, less))) is;
}

pub bad_within : (bits k number long : ℕ) (text : List Bool) → long ≤ 32 → long ≤ length text →
    IsCode bits k number (take long (binary 32 (number_of 32 text))) →
    (2 ^ bits ≤ number) ⊎ ((number / 2 ^ k < limit) × IsWhole bits number
    (take long (binary 32 (number_of 32 text)))) →
    IsBad bits k text
bad_within bits k number long text few within is bad =
    let same = window_within 32 long text few within in
    record {
      number = number;
      code = take long text;
      rest = drop long text;
      begins = sym (take-append-drop long text);
      is = subst (IsCode bits k number) same is;
      bad = subst (λ code. (2 ^ bits ≤ number) ⊎
          ((number / 2 ^ k < limit) × IsWhole bits number code)) same bad;
    }

pub short_within : (bits k number long : ℕ) (text : List Bool) → long ≤ 32 → long ≤ length text →
    IsShort k number (take long (binary 32 (number_of 32 text))) →
    text ≡ number_bits bits k number ++ drop long text
short_within bits k number long text few within is =
    let same = window_within 32 long text few within in
    let code : take long text ≡ number_bits bits k number = sym same ∙ is.is ∙
    rw (lt-ltb (number / 2 ^ k) limit is.few) refl in
    sym (take-append-drop long text) ∙ ap (λ code. code ++ drop long text) code

pub whole_within : (bits k number long : ℕ) (text : List Bool) → long ≤ 32 → long ≤ length text →
    IsWhole bits number (take long (binary 32 (number_of 32 text))) → limit ≤ number / 2 ^ k →
    text ≡ number_bits bits k number ++ drop long text
whole_within bits k number long text few within is many =
    let same = window_within 32 long text few within in
    let code : take long text ≡ number_bits bits k number = sym same ∙ is.is ∙
    rw (le-ltb (number / 2 ^ k) limit many) refl in
    sym (take-append-drop long text) ∙ ap (λ code. code ++ drop long text) code

-- what is left of a number without its low bits
pub none_above : (bits n : ℕ) → n / 2 ^ bits ≡ 0 → n < 2 ^ bits
none_above bits n none =
    let some = pow_pos bits in
    let split = shr_split n bits in
    let product : n / 2 ^ bits * 2 ^ bits ≡ 0 * 2 ^ bits = ap (λ k. k * 2 ^ bits) none in
    let low = mod_below n (2 ^ bits) some in
    omega (arith, split, product, low)

pub some_above : (bits n : ℕ) → (n / 2 ^ bits ≡ 0 → ⊥) → 2 ^ bits ≤ n
some_above bits n above = elim (cases_lt n (2 ^ bits)) [
  | inl less ↦
      let one = div_below n (2 ^ bits) 1 (pow_pos bits) (omega (arith, less)) in
      absurd (above (omega (arith, one)))
  | inr more ↦ more
]

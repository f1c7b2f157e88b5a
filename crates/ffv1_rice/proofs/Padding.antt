-- Zeros to the end of a byte.
use Rattle.std.proofs.Common.{◌≡◌, refl, sym, ◌∙◌, ap, ℕ, zero, suc, ◌+◌, ◌-◌, ◌*◌, ◌<◌}
use Rattle.std.proofs.Common.{◌≤◌, Bool, true, false, List, [], ◌∷◌, ◌++◌, length, drop, replicate}
use Rattle.std.proofs.Common.{arith, length-append, slice_index, IsTrue, nat_eq, eq-eqb}
use Rattle.std.proofs.lemmas.Bool.{eqb-true}
use Rattle.std.proofs.lemmas.Nat.{pow_pos}
use Rattle.std.proofs.lemmas.List.{ext_get_or}
use Rattle.ffv1_rice.specs.Bits.{bits_of, number_of, IsPadding}
use Rattle.ffv1_rice.proofs.Fields.{length-bits_from, drop-bits_from, number_left, number_byte}

pub zeros_of : (n : ℕ) (bits : List Bool) → length bits ≤ n → number_of n bits ≡ 0 → bits ≡
    replicate (length bits) false
unfolding number_of
zeros_of n [] few is = refl
zeros_of zero (bit ∷ bits) few is = absurd (omega (arith, few))
zeros_of (suc n) (false ∷ bits) few is =
    ap (λ rest. false ∷ rest) (zeros_of n bits (omega (arith, few)) (omega (arith, is)))
zeros_of (suc n) (true ∷ bits) few is = let some = pow_pos n in absurd (omega (arith, is, some))

pub number_zeros : (n k : ℕ) → number_of n (replicate k false) ≡ 0
unfolding number_of
number_zeros zero k = refl
number_zeros (suc n) zero = refl
number_zeros (suc n) (suc k) = let none = number_zeros n k in omega (arith, none)

padding_same : (a b : List Bool) → IsPadding a → IsPadding b → length a ≡ length b → a ≡ b
padding_same a b one two long = one.zeros ∙ ap (λ k. replicate k false) long ∙ sym two.zeros

-- a byte by the bits from it on
byte_left : (bytes : List ℕ) (k : ℕ) → slice_index bytes k < 256 → k < length bytes →
    number_of 8 (drop (8 * k) (bits_of bytes)) ≡ slice_index bytes k
byte_left bytes k small less =
    let n = 8 * length bytes in
    let m = n - 8 * k in
    ap (number_of 8) (drop-bits_from bytes 0 (8 * k) n (8 * k) m (omega (arith, less))
    (omega arith))
    ∙ number_left bytes (8 * k) m 8 (omega (arith, less)) ∙ number_byte bytes k small

pub bytes_same : (xs ys : List ℕ) → ((k : ℕ) → slice_index xs k < 256) →
    ((k : ℕ) → slice_index ys k < 256) → bits_of xs ≡ bits_of ys → xs ≡ ys
bytes_same xs ys small small' is =
    let long : 8 * length xs ≡ 8 * length ys = sym (length-bits_from xs 0 (8 * length xs))
    ∙ ap length is ∙ length-bits_from ys 0 (8 * length ys) in
    let same : length xs ≡ length ys = omega (arith, long) in
    ext_get_or 0 xs ys same (λ k less. sym (byte_left xs k (small k) less)
    ∙ ap (λ bits. number_of 8 (drop (8 * k) bits)) is
    ∙ byte_left ys k (small' k) (omega (arith, less, same)))

pub padded_one : (code rest others : List Bool) (xs ys : List ℕ) →
    ((k : ℕ) → slice_index xs k < 256) → ((k : ℕ) → slice_index ys k < 256) →
    bits_of xs ≡ code ++ rest → bits_of ys ≡ code ++ others → IsPadding rest → IsPadding others →
    xs ≡ ys
padded_one code rest others xs ys small small' one two padding padding' =
    let long : 8 * length xs ≡ length code + length rest =
    sym (length-bits_from xs 0 (8 * length xs)) ∙ ap length one ∙ length-append code rest in
    let long' : 8 * length ys ≡ length code + length others =
    sym (length-bits_from ys 0 (8 * length ys)) ∙ ap length two ∙ length-append code others in
    let few = padding.few in
    let few' = padding'.few in
    let same = padding_same rest others padding padding' (omega (arith, long, long', few, few')) in
    bytes_same xs ys small small' (one ∙ ap (λ bits. code ++ bits) same ∙ sym two)

-- whether bits that do not fill a byte are padding is seen in a window of them
pub padding_seen : (window : ℕ) (bits : List Bool) → length bits < 8 → window ≡ number_of 32 bits →
    (IsTrue (nat_eq window 0) → IsPadding bits) × (IsPadding bits → IsTrue (nat_eq window 0))
padding_seen window bits few is = (
  λ test. record {
    few = few;
    zeros = zeros_of 32 bits (omega (arith, few)) (sym is ∙ eqb-true window 0 test);
  },
  λ padding. eq-eqb window 0 (is ∙ ap (number_of 32) padding.zeros ∙ number_zeros 32
      (length bits)),
)

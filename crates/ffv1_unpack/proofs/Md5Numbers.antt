-- Numbers of a list of MD5s, by their digits.
use Rattle.std.proofs.Common.{◌≡◌, ◌==◌, ℕ, zero, suc, ap, ◌<◌, ◌≤◌, ◌^◌, ◌&&◌, Bool, true, false, Some, None, List, [], ◌∷◌, length, nat_lt, refl, sym, ◌∙◌, cond, arith, true≢false}
use Rattle.std.specs.List.{list_all}
use Rattle.std.specs.Char.{digit_value, is_digit}
use Rattle.std.specs.Str.{IsAscii, IsUtf8}
use Rattle.std.specs.Prelude.{slice_index}
use Rattle.std.specs.Str.Parse.{AllDigits, IsNumeral, digits_value, without_leading_plus}
use Rattle.std.proofs.lemmas.Bool.{lt-ltb, ltb-true, and_from}
use Rattle.std.proofs.lemmas.Bool.Decides.{nat_tests}
use Rattle.std.proofs.lemmas.Str.{IsUtf8-from_ascii}
use Rattle.ffv1_unpack.specs.Md5Line.{is_numeral, number_of}

both : (x y : Bool) → (x && y) ≡ true → (x ≡ true) × (y ≡ true)
both true y e = (refl, e)
both false y e = absurd (true≢false (sym e))

digits_pass : (radix : ℕ) (text : List ℕ) → AllDigits radix text → list_all (λ c. is_digit c radix) text ≡ true
digits_pass radix [] h = refl
digits_pass radix (c ∷ cs) h = and_from (is_digit c radix) (list_all (λ d. is_digit d radix) cs) (lt-ltb (digit_value c) radix h.0) (digits_pass radix cs h.1)

are_digits : (radix : ℕ) (text : List ℕ) → list_all (λ c. is_digit c radix) text ≡ true → AllDigits radix text
are_digits radix [] e = tt
are_digits radix (c ∷ cs) e =
    let parts = both (is_digit c radix) (list_all (λ d. is_digit d radix) cs) e in
    (ltb-true (digit_value c) radix parts.0, are_digits radix cs parts.1)

-- a digit below 16 is ASCII
below : (c : ℕ) → digit_value c < 16 → c < 128
below c h = elim (nat_lt c 123) as (λ b. nat_lt c 123 ≡ b → c < 128) [
  | true ↦ λ small. let less = ltb-true c 123 small in omega (arith, less)
  | false ↦ λ large. grind (arith, nat_tests)
] refl

ascii : (radix : ℕ) (text : List ℕ) → radix ≤ 16 → AllDigits radix text → IsAscii text
ascii radix [] most h i = grind arith
ascii radix (c ∷ cs) most h zero = below c (let small = h.0 in omega (arith, small, most))
ascii radix (c ∷ cs) most h (suc i) = ascii radix cs most h.1 i

pub digits_are_text : (radix : ℕ) (text : List ℕ) → radix ≤ 16 → IsNumeral radix text → IsUtf8 text
digits_are_text radix text most h = IsUtf8-from_ascii text (ascii radix text most h.1)

-- a numeral of 128 bits is its number
pub number_is : (radix : ℕ) (text : List ℕ) → IsNumeral radix text → digits_value radix text < 2 ^ 128 → number_of radix text ≡ Some (digits_value radix text)
unfolding number_of
number_is radix text h small =
    let numeral : is_numeral radix text ≡ true = and_from (nat_lt 0 (length text)) (list_all (λ c. is_digit c radix) text) (lt-ltb 0 (length text) h.0) (digits_pass radix text h.1) in
    let fits : nat_lt (digits_value radix text) (2 ^ 128) ≡ true = lt-ltb (digits_value radix text) (2 ^ 128) small in
    rw (numeral, fits) refl

-- what is none has no number
pub number_none : (radix : ℕ) (text : List ℕ) → (IsNumeral radix text → digits_value radix text < 2 ^ 128 → ⊥) → number_of radix text ≡ None
unfolding number_of
number_none radix text none = chosen (is_numeral radix text) (nat_lt (digits_value radix text) (2 ^ 128)) refl refl
  where
    chosen : (b c : Bool) → is_numeral radix text ≡ b → nat_lt (digits_value radix text) (2 ^ 128) ≡ c → cond (b && c) (Some (digits_value radix text)) None ≡ None
    chosen false c p q = refl
    chosen true false p q = refl
    chosen true true p q =
        let parts = both (nat_lt 0 (length text)) (list_all (λ c. is_digit c radix) text) p in
        absurd (none (ltb-true 0 (length text) parts.0, are_digits radix text parts.1) (ltb-true (digits_value radix text) (2 ^ 128) q))

plain : (text : List ℕ) → (slice_index text 0 == 43) ≡ false → without_leading_plus text ≡ text
plain text none = rw none refl

-- the same of digits that were read, before which a plus might stand
pub parsed_is : (radix n : ℕ) (text : List ℕ) → (slice_index text 0 == 43) ≡ false
    → (IsNumeral radix (without_leading_plus text) × (digits_value radix (without_leading_plus text) < 2 ^ 128)) × (n ≡ digits_value radix (without_leading_plus text))
    → Some n ≡ number_of radix text
parsed_is radix n text none h =
    let same = plain text none in
    let g = rw same at h in
    ap Some g.1 ∙ sym (number_is radix text g.0.0 g.0.1)

pub parsed_none : (radix : ℕ) (text : List ℕ) → (slice_index text 0 == 43) ≡ false
    → (IsNumeral radix (without_leading_plus text) × (digits_value radix (without_leading_plus text) < 2 ^ 128) → ⊥) → None ≡ number_of radix text
parsed_none radix text none h =
    let same = plain text none in
    let g = rw same at h in
    sym (number_none radix text (λ numeral small. g (numeral, small)))

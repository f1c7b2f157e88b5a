-- Numbers by their decimal spelling.
use Rattle.std.proofs.Common.{◌≡◌, ℕ, ◌<◌, ◌^◌, ◌&&◌, Bool, true, false, Some, None, List, nat_eq, nat_lt, decimal, refl, sym, ◌∙◌, ap, cond, arith}
use Rattle.std.specs.Str.Parse.{digits_value}
use Rattle.std.specs.Cmp.Lexicographic.{same_text, other_text}
use lib.Pointwise.{pointwise}
use Rattle.std.proofs.lemmas.Fmt.{decimal_is_IsNumeral}
use Rattle.std.proofs.lemmas.Bool.{ltb-true}
use Rattle.ffv1_y4m.specs.Header.{number_of}

-- a text equals itself
same_test : (xs ys : List ℕ) → xs ≡ ys → pointwise nat_eq xs ys ≡ true
same_test xs ys e =
    let cases = λ (b : Bool). λ (is : pointwise nat_eq xs ys ≡ b). elim b as (λ v. pointwise nat_eq xs ys ≡ v → pointwise nat_eq xs ys ≡ true) [ true ↦ λ h. h | false ↦ λ h. absurd (other_text xs ys (sym h) e) ] is in
    cases (pointwise nat_eq xs ys) refl

-- the spelling of a number is that number
pub number_is : (n : ℕ) (text : List ℕ) → n < 2 ^ 32 → text ≡ decimal n → number_of text ≡ Some n
unfolding number_of
number_is n text small spelled =
    let wide : n < 2 ^ 64 = omega arith in
    let value : digits_value 10 text ≡ n = ap (digits_value 10) spelled ∙ (decimal_is_IsNumeral n wide).1 in
    let below : nat_lt (digits_value 10 text) (2 ^ 32) ≡ true = rw value (grind arith) in
    let same : pointwise nat_eq text (decimal (digits_value 10 text)) ≡ true = rw value (same_test text (decimal n) spelled) in
    rw (below, same, value) refl

-- what spells no number is none
pub number_none : (text : List ℕ) → ((n : ℕ) → n < 2 ^ 32 → text ≡ decimal n → ⊥) → number_of text ≡ None
unfolding number_of
number_none text none = chosen (nat_lt (digits_value 10 text) (2 ^ 32)) (pointwise nat_eq text (decimal (digits_value 10 text))) refl refl
  where
    chosen : (b c : Bool) → nat_lt (digits_value 10 text) (2 ^ 32) ≡ b → pointwise nat_eq text (decimal (digits_value 10 text)) ≡ c → cond (b && c) (Some (digits_value 10 text)) None ≡ None
    chosen false c p q = refl
    chosen true false p q = refl
    chosen true true p q = absurd (none (digits_value 10 text) (ltb-true _ _ p) (same_text _ _ (sym q)))

-- No symbol begins another one.
use Rattle.std.proofs.Common.{◌≡◌, refl, ℕ, zero, suc, ◌+◌, ◌/◌, ◌%◌, ◌^◌, ◌<◌, ◌≤◌, ◌==◌, Bool, true, false, List, [], ◌∷◌, ◌++◌, min, arith, ap, sym, ◌∙◌, zero-add, append_assoc, append-nil, pos, negsuc, ℤ, pow_mono, inl, inr}
use Rattle.std.proofs.lemmas.Bool.Decides.{nat_tests}
use Rattle.std.proofs.lemmas.Nat.{shr-shr, pow_pos, le-div, div_below}
use Rattle.std.proofs.lemmas.Bool.{cases_lt}
use Rattle.std.proofs.Math.Nat.{pow-succ'}
use Rattle.std.proofs.Math.IntN.{nat_abs}
use Rattle.ffv1_range.specs.Symbols.{Step, raising, exponent, exponent_steps, mantissa_steps, sized_steps, signed_steps, too_long}
use Rattle.ffv1_range.proofs.Exponents.{exponent_place}

-- ones from place k on, and a 0
unfoldable pub exps : ℕ → ℕ → List Step
exps k zero = record { slot = 1 + min k 9; bit = false } ∷ []
exps k (suc d) = record { slot = 1 + min k 9; bit = true } ∷ exps (suc k) d

-- ones from place k on
unfoldable pub ups : ℕ → ℕ → List Step
ups k zero = []
ups k (suc d) = record { slot = 1 + min k 9; bit = true } ∷ ups (suc k) d

raising-exps : (k d : ℕ) → raising k ++ exps k d ≡ exps 0 (k + d)
unfolding raising exps
raising-exps zero d = ap (exps 0) (sym (zero-add d))
raising-exps (suc k) d =
    append_assoc (raising k) (record { slot = 1 + min k 9; bit = true } ∷ []) (exps (suc k) d)
    ∙ raising-exps k (suc d)
    ∙ ap (exps 0) (omega arith)

raising-ups : (k d : ℕ) → raising k ++ ups k d ≡ ups 0 (k + d)
unfolding raising ups
raising-ups zero d = ap (ups 0) (sym (zero-add d))
raising-ups (suc k) d =
    append_assoc (raising k) (record { slot = 1 + min k 9; bit = true } ∷ []) (ups (suc k) d)
    ∙ raising-ups k (suc d)
    ∙ ap (ups 0) (omega arith)

pub exponent_steps-exps : (e : ℕ) → exponent_steps e ≡ exps 0 e
unfolding exps
exponent_steps-exps e = raising-exps e zero ∙ ap (exps 0) (omega arith)

pub raising_is : (e : ℕ) → raising e ≡ ups 0 e
unfolding ups
raising_is e = sym (append-nil (raising e)) ∙ raising-ups e zero ∙ ap (ups 0) (omega arith)

pub different : false ≡ true → ⊥
different e = cc

pub same_head : (x y : Step) (xs ys : List Step) → x ∷ xs ≡ y ∷ ys → x ≡ y
same_head x y xs ys e = cc

pub same_tail : (x y : Step) (xs ys : List Step) → x ∷ xs ≡ y ∷ ys → xs ≡ ys
same_tail x y xs ys e = cc

pub exps_apart : (k d e : ℕ) (xs ys : List Step) → exps k d ++ xs ≡ exps k e ++ ys → (d ≡ e) × (xs ≡ ys)
unfolding exps
exps_apart k zero zero xs ys h = (refl, same_tail _ _ _ _ h)
exps_apart k zero (suc e) xs ys h = absurd (different (ap (λ (s : Step). s.bit) (same_head _ _ _ _ h)))
exps_apart k (suc d) zero xs ys h = absurd (different (sym (ap (λ (s : Step). s.bit) (same_head _ _ _ _ h))))
exps_apart k (suc d) (suc e) xs ys h =
    let rest = exps_apart (suc k) d e xs ys (same_tail _ _ _ _ h) in (ap suc rest.0, rest.1)

pub exps-ups_apart : (k d e : ℕ) (xs ys : List Step) → d < e → exps k d ++ xs ≡ ups k e ++ ys → ⊥
unfolding exps ups
exps-ups_apart k d zero xs ys below h = omega arith
exps-ups_apart k zero (suc e) xs ys below h = different (ap (λ (s : Step). s.bit) (same_head _ _ _ _ h))
exps-ups_apart k (suc d) (suc e) xs ys below h = exps-ups_apart (suc k) d e xs ys (omega arith) (same_tail _ _ _ _ h)

-- a bit says what the remainder is
same_rest : (n m : ℕ) → ((n % 2) == 1) ≡ ((m % 2) == 1) → n % 2 ≡ m % 2
same_rest n m e = grind (arith, nat_tests)

pub mantissa_apart : (count place n m : ℕ) (xs ys : List Step) → n / 2 ^ count ≡ m / 2 ^ count →
    mantissa_steps count place n ++ xs ≡ mantissa_steps count place m ++ ys → (n ≡ m) × (xs ≡ ys)
mantissa_apart zero place n m xs ys top h = (omega arith, h)
mantissa_apart (suc c) place n m xs ys top h =
    let down : (k : ℕ) → k / 2 / 2 ^ c ≡ k / 2 ^ suc c = λ k. shr-shr k 1 c ∙ ap (λ j. k / 2 ^ j) (omega arith) in
    let first = append_assoc (mantissa_steps c (suc place) (n / 2)) (record { slot = 22 + min place 9; bit = (n % 2) == 1 } ∷ []) xs in
    let second = append_assoc (mantissa_steps c (suc place) (m / 2)) (record { slot = 22 + min place 9; bit = (m % 2) == 1 } ∷ []) ys in
    let rest = mantissa_apart c (suc place) (n / 2) (m / 2) _ _ (down n ∙ top ∙ sym (down m)) (sym first ∙ h ∙ second) in
    let last = same_rest n m (ap (λ (s : Step). s.bit) (same_head _ _ _ _ rest.1)) in
    let high = rest.0 in
    (omega arith, same_tail _ _ _ _ rest.1)

-- what the exponent says of a number
pub record IsExponent (e n : ℕ) : Type 0 where
  pub small : e < 31
  pub top : n / 2 ^ e ≡ 1

pub exponent_of : (n : ℕ) → 0 < n → n < 2 ^ 31 → IsExponent (exponent n) n
exponent_of n positive below = placed (exponent n) (exponent_place n positive).0 (exponent_place n positive).1
  where
    placed : (e : ℕ) → 2 ^ e ≤ n → n < 2 ^ suc e → IsExponent e n
    placed e least most =
        let power = pow_pos e in
        let up = pow-succ' 2 e in
        let one = le-div 1 n (2 ^ e) power (omega arith) in
        let two = div_below n (2 ^ e) 2 power (omega arith) in
        record {
          small = elim (cases_lt e 31) [ inl h ↦ h | inr h ↦ let big = pow_mono {i = 31} {j = e} h in absurd (omega arith) ];
          top = omega arith;
        }

regrouped : (a b c d e : List Step) → (((a ++ b) ++ c) ++ d) ++ e ≡ a ++ (b ++ (c ++ (d ++ e)))
regrouped a b c d e = simp append_assoc

-- a symbol with its parts grouped to the right
pub grouped : (n : ℕ) (b : Bool) (xs : List Step) →
    sized_steps n b ++ xs ≡ record { slot = 0; bit = false } ∷ (exps 0 (exponent n) ++ (mantissa_steps (exponent n) 0 n ++ (record { slot = 11 + min (exponent n) 10; bit = b } ∷ xs)))
grouped n b xs =
    regrouped (record { slot = 0; bit = false } ∷ []) (exponent_steps (exponent n)) (mantissa_steps (exponent n) 0 n) (record { slot = 11 + min (exponent n) 10; bit = b } ∷ []) xs
    ∙ ap (λ zs. record { slot = 0; bit = false } ∷ (zs ++ (mantissa_steps (exponent n) 0 n ++ (record { slot = 11 + min (exponent n) 10; bit = b } ∷ xs)))) (exponent_steps-exps (exponent n))

sized_apart : (n m : ℕ) (b c : Bool) (xs ys : List Step) → IsExponent (exponent n) n → IsExponent (exponent m) m →
    sized_steps n b ++ xs ≡ sized_steps m c ++ ys → (n ≡ m) × (b ≡ c) × (xs ≡ ys)
sized_apart n m b c xs ys in_n in_m h =
    let tails = same_tail _ _ _ _ (sym (grouped n b xs) ∙ h ∙ grouped m c ys) in
    let exponents = exps_apart 0 (exponent n) (exponent m) _ _ tails in
    let same = exponents.0 in
    let mantissas = mantissa_apart (exponent n) 0 n m _ _ (in_n.top ∙ sym in_m.top ∙ ap (λ e. m / 2 ^ e) (sym same))
    (exponents.1 ∙ ap (λ e. mantissa_steps e 0 m ++ (record { slot = 11 + min (exponent m) 10; bit = c } ∷ ys)) (sym same)) in
    (mantissas.0, ap (λ (s : Step). s.bit) (same_head _ _ _ _ mantissas.1), same_tail _ _ _ _ mantissas.1)

-- the size of a number below 2 ^ 31
pub fits_of : (n : ℕ) → suc n < 2 ^ 31 → IsExponent (exponent (suc n)) (suc n)
fits_of n h = exponent_of (suc n) (omega arith) h

pub symbols_apart : (v w : ℤ) (xs ys : List Step) → nat_abs v < 2 ^ 31 → nat_abs w < 2 ^ 31 → signed_steps v ++ xs ≡ signed_steps w ++ ys → (v ≡ w) × (xs ≡ ys)
symbols_apart (pos zero) (pos zero) xs ys f g h = (refl, same_tail _ _ _ _ h)
symbols_apart (pos zero) (pos (suc m)) xs ys f g h = absurd (different (sym (ap (λ (s : Step). s.bit) (same_head _ _ _ _ (h ∙ grouped (suc m) false ys)))))
symbols_apart (pos zero) (negsuc m) xs ys f g h = absurd (different (sym (ap (λ (s : Step). s.bit) (same_head _ _ _ _ (h ∙ grouped (suc m) true ys)))))
symbols_apart (pos (suc n)) (pos zero) xs ys f g h = absurd (different (ap (λ (s : Step). s.bit) (same_head _ _ _ _ (sym (grouped (suc n) false xs) ∙ h))))
symbols_apart (negsuc n) (pos zero) xs ys f g h = absurd (different (ap (λ (s : Step). s.bit) (same_head _ _ _ _ (sym (grouped (suc n) true xs) ∙ h))))
symbols_apart (pos (suc n)) (pos (suc m)) xs ys f g h =
    let r = sized_apart (suc n) (suc m) false false xs ys (fits_of n f) (fits_of m g) h in (ap pos r.0, r.2)
symbols_apart (pos (suc n)) (negsuc m) xs ys f g h =
    absurd (different (sized_apart (suc n) (suc m) false true xs ys (fits_of n f) (fits_of m g) h).1)
symbols_apart (negsuc n) (pos (suc m)) xs ys f g h =
    absurd (different (sym (sized_apart (suc n) (suc m) true false xs ys (fits_of n f) (fits_of m g) h).1))
symbols_apart (negsuc n) (negsuc m) xs ys f g h =
    let r = sized_apart (suc n) (suc m) true true xs ys (fits_of n f) (fits_of m g) h in
    let same : n ≡ m = omega (arith, r.0) in
    (ap negsuc same, r.2)

sized_refused : (n : ℕ) (b : Bool) (xs ys : List Step) → IsExponent (exponent n) n → sized_steps n b ++ xs ≡ too_long ++ ys → ⊥
sized_refused n b xs ys in_n h =
    exps-ups_apart 0 (exponent n) 31 _ ys in_n.small
    (same_tail _ _ _ _ (sym (grouped n b xs) ∙ h) ∙ ap (λ zs. zs ++ ys) (raising_is 31))

pub refused_apart : (v : ℤ) (xs ys : List Step) → nat_abs v < 2 ^ 31 → signed_steps v ++ xs ≡ too_long ++ ys → ⊥
refused_apart (pos zero) xs ys f h = different (sym (ap (λ (s : Step). s.bit) (same_head _ _ _ _ h)))
refused_apart (pos (suc n)) xs ys f h = sized_refused (suc n) false xs ys (fits_of n f) h
refused_apart (negsuc n) xs ys f h = sized_refused (suc n) true xs ys (fits_of n f) h

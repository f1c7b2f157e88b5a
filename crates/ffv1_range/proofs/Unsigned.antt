-- No symbol of a number without a sign begins another one, and bytes code at most one next.
use Rattle.std.proofs.Common.{◌≡◌, refl, ℕ, zero, suc, ◌/◌, ◌^◌, ◌<◌, false, List, [], ◌∷◌, ◌++◌, arith, ap, sym, subst, ◌∙◌, append_assoc, append-nil, ◌⊎◌, inl, inr}
use Rattle.ffv1_range.specs.Table.{Table}
use Rattle.ffv1_range.specs.Interval.{Interval, narrowed}
use Rattle.ffv1_range.specs.Codes.{Inside, AreBytes, AreStates}
use Rattle.ffv1_range.specs.Symbols.{Step, exponent, exponent_steps, mantissa_steps, magnitude_steps, unsigned_steps, too_long, decided, shifted}
use Rattle.ffv1_range.specs.History.{decisions_after, AreBelow}
use Rattle.ffv1_range.proofs.Prefix.{exps, IsExponent, different, exponent_steps-exps, raising_is, same_head, same_tail, exps_apart, exps-ups_apart, mantissa_apart, fits_of}
use Rattle.ffv1_range.proofs.OneValue.{SameSlots, Begins, exps_slots, ups_slots, mantissa_slots, one_begins}
use Rattle.ffv1_range.proofs.OneAfter.{begins_after}
use Rattle.ffv1_range.proofs.Windows.{magnitude_below}

regrouped : (a b c d : List Step) → ((a ++ b) ++ c) ++ d ≡ a ++ (b ++ (c ++ d))
regrouped a b c d = simp append_assoc

-- a symbol with its parts grouped to the right
grouped : (n : ℕ) (xs : List Step) →
    magnitude_steps n ++ xs ≡ record { slot = 0; bit = false } ∷ (exps 0 (exponent n) ++ (mantissa_steps (exponent n) 0 n ++ xs))
grouped n xs =
    regrouped (record { slot = 0; bit = false } ∷ []) (exponent_steps (exponent n)) (mantissa_steps (exponent n) 0 n) xs
    ∙ ap (λ zs. record { slot = 0; bit = false } ∷ (zs ++ (mantissa_steps (exponent n) 0 n ++ xs))) (exponent_steps-exps (exponent n))

magnitudes_apart : (n m : ℕ) (xs ys : List Step) → IsExponent (exponent n) n → IsExponent (exponent m) m →
    magnitude_steps n ++ xs ≡ magnitude_steps m ++ ys → (n ≡ m) × (xs ≡ ys)
magnitudes_apart n m xs ys in_n in_m h =
    let tails = same_tail _ _ _ _ (sym (grouped n xs) ∙ h ∙ grouped m ys) in
    let exponents = exps_apart 0 (exponent n) (exponent m) _ _ tails in
    let same = exponents.0 in
    mantissa_apart (exponent n) 0 n m _ _ (in_n.top ∙ sym in_m.top ∙ ap (λ e. m / 2 ^ e) (sym same))
    (exponents.1 ∙ ap (λ e. mantissa_steps e 0 m ++ ys) (sym same))

pub unsigned_apart : (n m : ℕ) (xs ys : List Step) → n < 2 ^ 31 → m < 2 ^ 31 → unsigned_steps n ++ xs ≡ unsigned_steps m ++ ys → (n ≡ m) × (xs ≡ ys)
unsigned_apart zero zero xs ys f g h = (refl, same_tail _ _ _ _ h)
unsigned_apart zero (suc m) xs ys f g h = absurd (different (sym (ap (λ (s : Step). s.bit) (same_head _ _ _ _ (h ∙ grouped (suc m) ys)))))
unsigned_apart (suc n) zero xs ys f g h = absurd (different (ap (λ (s : Step). s.bit) (same_head _ _ _ _ (sym (grouped (suc n) xs) ∙ h))))
unsigned_apart (suc n) (suc m) xs ys f g h = magnitudes_apart (suc n) (suc m) xs ys (fits_of n f) (fits_of m g) h

pub unsigned_refused : (n : ℕ) (xs ys : List Step) → n < 2 ^ 31 → unsigned_steps n ++ xs ≡ too_long ++ ys → ⊥
unsigned_refused zero xs ys f h = different (sym (ap (λ (s : Step). s.bit) (same_head _ _ _ _ h)))
unsigned_refused (suc n) xs ys f h =
    exps-ups_apart 0 (exponent (suc n)) 31 _ ys (fits_of n f).small
    (same_tail _ _ _ _ (sym (grouped (suc n) xs) ∙ h) ∙ ap (λ zs. zs ++ ys) (raising_is 31))

whole : (n : ℕ) → magnitude_steps n ≡ record { slot = 0; bit = false } ∷ (exps 0 (exponent n) ++ (mantissa_steps (exponent n) 0 n ++ []))
whole n = sym (append-nil (magnitude_steps n)) ∙ grouped n []

tails_slots : (e f n m : ℕ) → e ≡ f → SameSlots (mantissa_steps e 0 n ++ []) (mantissa_steps f 0 m ++ [])
unfolding SameSlots
tails_slots e f n m h = subst (λ g. SameSlots (mantissa_steps e 0 n ++ []) (mantissa_steps g 0 m ++ [])) h (mantissa_slots e 0 n m [] [] tt)

pub unsigned_slots : (n m : ℕ) → SameSlots (unsigned_steps n) (unsigned_steps m)
unfolding SameSlots
unsigned_slots zero zero = (refl, λ _. tt)
unsigned_slots zero (suc m) = (refl, λ h. absurd (different (sym h)))
unsigned_slots (suc n) zero = (refl, λ h. absurd (different h))
unsigned_slots (suc n) (suc m) =
    subst (λ l. SameSlots l (magnitude_steps (suc m))) (sym (whole (suc n)))
    (subst (SameSlots (record { slot = 0; bit = false } ∷ (exps 0 (exponent (suc n)) ++ (mantissa_steps (exponent (suc n)) 0 (suc n) ++ [])))) (sym (whole (suc m)))
    (refl, λ _. exps_slots 0 (exponent (suc n)) (exponent (suc m)) _ _ (tails_slots (exponent (suc n)) (exponent (suc m)) (suc n) (suc m))))

pub unsigned_refused_slots : (n : ℕ) → SameSlots (unsigned_steps n) too_long
unfolding SameSlots
unsigned_refused_slots zero = (refl, λ h. absurd (different (sym h)))
unsigned_refused_slots (suc n) =
    subst (λ l. SameSlots l too_long) (sym (whole (suc n)))
    (refl, λ _. subst (SameSlots (exps 0 (exponent (suc n)) ++ (mantissa_steps (exponent (suc n)) 0 (suc n) ++ []))) (sym (raising_is 31)) (ups_slots 0 (exponent (suc n)) 31 _))

-- what begins one of two symbols is the other
begun : (n m : ℕ) → n < 2 ^ 31 → m < 2 ^ 31 → Begins (unsigned_steps n) (unsigned_steps m) ⊎ Begins (unsigned_steps m) (unsigned_steps n) → n ≡ m
unfolding Begins
begun n m small_n small_m (inl b) = (unsigned_apart n m b.0 [] small_n small_m (b.1 ∙ sym (append-nil (unsigned_steps m)))).0
begun n m small_n small_m (inr b) = (unsigned_apart n m [] b.0 small_n small_m (append-nil (unsigned_steps n) ∙ sym b.1)).0

refused_begun : (n : ℕ) → n < 2 ^ 31 → Begins (unsigned_steps n) too_long ⊎ Begins too_long (unsigned_steps n) → ⊥
unfolding Begins
refused_begun n small (inl b) = unsigned_refused n b.0 [] small (b.1 ∙ sym (append-nil too_long))
refused_begun n small (inr b) = unsigned_refused n [] b.0 small (append-nil (unsigned_steps n) ∙ sym b.1)

module _ (bytes : List ℕ) (are : AreBytes bytes) (t : Table) (i : Interval) where
  pub one_unsigned : (states : List ℕ) (n m : ℕ) → n < 2 ^ 31 → m < 2 ^ 31 →
      AreStates (decided t states (unsigned_steps n)) → AreStates (decided t states (unsigned_steps m)) →
      Inside bytes (narrowed i (decided t states (unsigned_steps n))) → Inside bytes (narrowed i (decided t states (unsigned_steps m))) → n ≡ m
  one_unsigned states n m small_n small_m p q f g =
      begun n m small_n small_m (one_begins bytes are t states i (unsigned_steps n) (unsigned_steps m) (unsigned_slots n m) p q f g)

  pub none_unsigned : (states : List ℕ) (n : ℕ) → n < 2 ^ 31 →
      AreStates (decided t states (unsigned_steps n)) → AreStates (decided t states too_long) →
      Inside bytes (narrowed i (decided t states (unsigned_steps n))) → Inside bytes (narrowed i (decided t states too_long)) → ⊥
  none_unsigned states n small p q f g =
      refused_begun n small (one_begins bytes are t states i (unsigned_steps n) too_long (unsigned_refused_slots n) p q f g)

  pub one_unsigned_after : (base : ℕ) (past : List Step) (n m : ℕ) → n < 2 ^ 31 → m < 2 ^ 31 →
      AreStates (decisions_after t past (shifted base (unsigned_steps n))) → AreStates (decisions_after t past (shifted base (unsigned_steps m))) →
      Inside bytes (narrowed i (decisions_after t past (shifted base (unsigned_steps n)))) → Inside bytes (narrowed i (decisions_after t past (shifted base (unsigned_steps m)))) → n ≡ m
  one_unsigned_after base past n m small_n small_m p q f g =
      begun n m small_n small_m (begins_after bytes are t base past i (unsigned_steps n) (unsigned_steps m) (unsigned_slots n m) p q f g)

  pub none_unsigned_after : (base : ℕ) (past : List Step) (n : ℕ) → n < 2 ^ 31 →
      AreStates (decisions_after t past (shifted base (unsigned_steps n))) → AreStates (decisions_after t past (shifted base too_long)) →
      Inside bytes (narrowed i (decisions_after t past (shifted base (unsigned_steps n)))) → Inside bytes (narrowed i (decisions_after t past (shifted base too_long))) → ⊥
  none_unsigned_after base past n small p q f g =
      refused_begun n small (begins_after bytes are t base past i (unsigned_steps n) too_long (unsigned_refused_slots n) p q f g)

pub unsigned_below : (n : ℕ) → AreBelow (unsigned_steps n) 32
unsigned_below zero = (omega arith, tt)
unsigned_below (suc n) = magnitude_below (suc n)

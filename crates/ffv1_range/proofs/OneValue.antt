-- Bytes code at most one number next.
use Rattle.std.proofs.Common.{◌≡◌, refl, ℕ, zero, suc, ◌+◌, ◌/◌, ◌%◌, ◌^◌, ◌<◌, ◌==◌, Bool, true, false, List, [], ◌∷◌, ◌++◌, min, ap, sym, subst, ◌∙◌, append_assoc, append-nil, pos, negsuc, ℤ, ◌⊎◌, inl, inr, get_or}
use Rattle.std.proofs.Math.IntN.{nat_abs}
use Rattle.ffv1_range.specs.Table.{Table}
use Rattle.ffv1_range.specs.Interval.{Interval, narrow, narrowed}
use Rattle.ffv1_range.specs.Codes.{Inside, AreBytes, AreStates}
use Rattle.ffv1_range.specs.Symbols.{Step, exponent, mantissa_steps, sized_steps, signed_steps, too_long, decided, stepped}
use Rattle.ffv1_range.proofs.Nested.{same_bit}
use Rattle.ffv1_range.proofs.Prefix.{exps, ups, different, grouped, raising_is, symbols_apart, refused_apart}

-- where two lists of steps part, they part in a bit
unfoldable pub SameSlots : List Step → List Step → Type 0
SameSlots [] ys = Unit {0}
SameSlots (x ∷ xs) [] = Unit {0}
SameSlots (x ∷ xs) (y ∷ ys) = (x.slot ≡ y.slot) × (x.bit ≡ y.bit → SameSlots xs ys)

pub exps_slots : (k d e : ℕ) (xs ys : List Step) → (d ≡ e → SameSlots xs ys) → SameSlots (exps k d ++ xs) (exps k e ++ ys)
unfolding SameSlots exps
exps_slots k zero zero xs ys f = (refl, λ _. f refl)
exps_slots k zero (suc e) xs ys f = (refl, λ h. absurd (different h))
exps_slots k (suc d) zero xs ys f = (refl, λ h. absurd (different (sym h)))
exps_slots k (suc d) (suc e) xs ys f = (refl, λ _. exps_slots (suc k) d e xs ys (λ h. f (ap suc h)))

pub ups_slots : (k d n : ℕ) (xs : List Step) → SameSlots (exps k d ++ xs) (ups k n)
unfolding SameSlots exps ups
ups_slots k zero zero xs = tt
ups_slots k (suc d) zero xs = tt
ups_slots k zero (suc n) xs = (refl, λ h. absurd (different h))
ups_slots k (suc d) (suc n) xs = (refl, λ _. ups_slots (suc k) d n xs)

pub mantissa_slots : (count place n m : ℕ) (xs ys : List Step) → SameSlots xs ys → SameSlots (mantissa_steps count place n ++ xs) (mantissa_steps count place m ++ ys)
unfolding SameSlots
mantissa_slots zero place n m xs ys h = h
mantissa_slots (suc c) place n m xs ys h =
    let first = append_assoc (mantissa_steps c (suc place) (n / 2)) (record { slot = 22 + min place 9; bit = (n % 2) == 1 } ∷ []) xs in
    let second = append_assoc (mantissa_steps c (suc place) (m / 2)) (record { slot = 22 + min place 9; bit = (m % 2) == 1 } ∷ []) ys in
    subst (λ l. SameSlots l (mantissa_steps (suc c) place m ++ ys)) (sym first)
    (subst (SameSlots (mantissa_steps c (suc place) (n / 2) ++ (record { slot = 22 + min place 9; bit = (n % 2) == 1 } ∷ xs))) (sym second)
    (mantissa_slots c (suc place) (n / 2) (m / 2) _ _ (refl, λ _. h)))

parts : ℕ → ℕ → Bool → List Step
parts e n b = mantissa_steps e 0 n ++ (record { slot = 11 + min e 10; bit = b } ∷ [])

whole : (n : ℕ) (b : Bool) → sized_steps n b ≡ record { slot = 0; bit = false } ∷ (exps 0 (exponent n) ++ parts (exponent n) n b)
unfolding parts
whole n b = sym (append-nil (sized_steps n b)) ∙ grouped n b []

parts_slots : (e f n m : ℕ) (b c : Bool) → e ≡ f → SameSlots (parts e n b) (parts f m c)
unfolding SameSlots parts
parts_slots e f n m b c h = subst (λ g. SameSlots (parts e n b) (parts g m c)) h (mantissa_slots e 0 n m _ _ (refl, λ _. tt))

sized_slots : (n m : ℕ) (b c : Bool) → SameSlots (sized_steps n b) (sized_steps m c)
unfolding SameSlots
sized_slots n m b c =
    subst (λ l. SameSlots l (sized_steps m c)) (sym (whole n b))
    (subst (SameSlots (record { slot = 0; bit = false } ∷ (exps 0 (exponent n) ++ parts (exponent n) n b))) (sym (whole m c))
    (refl, λ _. exps_slots 0 (exponent n) (exponent m) _ _ (parts_slots (exponent n) (exponent m) n m b c)))

pub signed_slots : (v w : ℤ) → SameSlots (signed_steps v) (signed_steps w)
unfolding SameSlots
signed_slots (pos zero) (pos zero) = (refl, λ _. tt)
signed_slots (pos zero) (pos (suc m)) = (refl, λ h. absurd (different (sym h)))
signed_slots (pos zero) (negsuc m) = (refl, λ h. absurd (different (sym h)))
signed_slots (pos (suc n)) (pos zero) = (refl, λ h. absurd (different h))
signed_slots (negsuc n) (pos zero) = (refl, λ h. absurd (different h))
signed_slots (pos (suc n)) (pos (suc m)) = sized_slots (suc n) (suc m) false false
signed_slots (pos (suc n)) (negsuc m) = sized_slots (suc n) (suc m) false true
signed_slots (negsuc n) (pos (suc m)) = sized_slots (suc n) (suc m) true false
signed_slots (negsuc n) (negsuc m) = sized_slots (suc n) (suc m) true true

-- xs begins ys
unfoldable pub Begins : List Step → List Step → Type 0
Begins xs ys = (zs : List Step) × (xs ++ zs ≡ ys)

pub same_step : (x y : Step) → x.slot ≡ y.slot → x.bit ≡ y.bit → x ≡ y
same_step x y s b =
    let f : ℕ → Step = λ slot. record { slot = slot; bit = x.bit } in
    let g : Bool → Step = λ bit. record { slot = y.slot; bit = bit } in
    ap f s ∙ ap g b

pub one_begins : (bytes : List ℕ) → AreBytes bytes → (t : Table) (states : List ℕ) (i : Interval) (xs ys : List Step) → SameSlots xs ys →
    AreStates (decided t states xs) → AreStates (decided t states ys) → Inside bytes (narrowed i (decided t states xs)) → Inside bytes (narrowed i (decided t states ys)) →
    Begins xs ys ⊎ Begins ys xs
unfolding SameSlots Begins
one_begins bytes are t states i [] ys s p q f g = inl (ys, refl)
one_begins bytes are t states i (x ∷ xs) [] s p q f g = inr (x ∷ xs, refl)
one_begins bytes are t states i (x ∷ xs) (y ∷ ys) s p q f g =
    let state : get_or states y.slot 0 ≡ get_or states x.slot 0 = ap (λ k. get_or states k 0) (sym s.0) in
    let g_here = subst (λ k. Inside bytes (narrowed (narrow i k y.bit) (decided t (stepped t states y) ys))) state g in
    let bit = same_bit bytes are i (get_or states x.slot 0) x.bit y.bit (decided t (stepped t states x) xs) (decided t (stepped t states y) ys) p.0.most p.1 q.1 f g_here in
    let same = same_step x y s.0 bit in
    let q_rest = subst (λ (z : Step). AreStates (decided t (stepped t states z) ys)) (sym same) q.1 in
    let g_rest = subst (λ (z : Step). Inside bytes (narrowed (narrow i (get_or states z.slot 0) z.bit) (decided t (stepped t states z) ys))) (sym same) g in
    elim (one_begins bytes are t (stepped t states x) (narrow i (get_or states x.slot 0) x.bit) xs ys (s.1 bit) p.1 q_rest f g_rest) [
      | inl b ↦ inl (b.0, ap (λ l. x ∷ l) b.1 ∙ ap (λ z. z ∷ ys) same)
      | inr b ↦ inr (b.0, ap (λ l. y ∷ l) b.1 ∙ ap (λ z. z ∷ xs) (sym same))
    ]

pub one_value : (bytes : List ℕ) → AreBytes bytes → (t : Table) (states : List ℕ) (i : Interval) (v w : ℤ) → nat_abs v < 2 ^ 31 → nat_abs w < 2 ^ 31 →
    AreStates (decided t states (signed_steps v)) → AreStates (decided t states (signed_steps w)) →
    Inside bytes (narrowed i (decided t states (signed_steps v))) → Inside bytes (narrowed i (decided t states (signed_steps w))) → v ≡ w
unfolding Begins
one_value bytes are t states i v w small_v small_w p q f g =
    elim (one_begins bytes are t states i (signed_steps v) (signed_steps w) (signed_slots v w) p q f g) [
      | inl b ↦ (symbols_apart v w b.0 [] small_v small_w (b.1 ∙ sym (append-nil (signed_steps w)))).0
      | inr b ↦ (symbols_apart v w [] b.0 small_v small_w (append-nil (signed_steps v) ∙ sym b.1)).0
    ]

pub refused_slots : (v : ℤ) → SameSlots (signed_steps v) too_long
unfolding SameSlots
refused_slots (pos zero) = (refl, λ h. absurd (different (sym h)))
refused_slots (pos (suc n)) =
    subst (λ l. SameSlots l too_long) (sym (whole (suc n) false))
    (refl, λ _. subst (SameSlots (exps 0 (exponent (suc n)) ++ parts (exponent (suc n)) (suc n) false)) (sym (raising_is 31)) (ups_slots 0 (exponent (suc n)) 31 _))
refused_slots (negsuc n) =
    subst (λ l. SameSlots l too_long) (sym (whole (suc n) true))
    (refl, λ _. subst (SameSlots (exps 0 (exponent (suc n)) ++ parts (exponent (suc n)) (suc n) true)) (sym (raising_is 31)) (ups_slots 0 (exponent (suc n)) 31 _))

pub none_refused : (bytes : List ℕ) → AreBytes bytes → (t : Table) (states : List ℕ) (i : Interval) (v : ℤ) → nat_abs v < 2 ^ 31 →
    AreStates (decided t states (signed_steps v)) → AreStates (decided t states too_long) →
    Inside bytes (narrowed i (decided t states (signed_steps v))) → Inside bytes (narrowed i (decided t states too_long)) → ⊥
unfolding Begins
none_refused bytes are t states i v small p q f g =
    elim (one_begins bytes are t states i (signed_steps v) too_long (refused_slots v) p q f g) [
      | inl b ↦ refused_apart v b.0 [] small (b.1 ∙ sym (append-nil too_long))
      | inr b ↦ refused_apart v [] b.0 small (append-nil (signed_steps v) ∙ sym b.1)
    ]

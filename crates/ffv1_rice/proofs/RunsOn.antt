-- Bits of a run that goes on.
use Rattle.std.proofs.Common.{◌≡◌, refl, sym, ◌∙◌, ap, ap₂, subst, ℕ, suc, ◌+◌, ◌^◌, ◌<◌}
use Rattle.std.proofs.Common.{◌≤◌, ◌⊎◌, Bool, true, false, List, [], ◌∷◌, ◌++◌, length, drop}
use Rattle.std.proofs.Common.{get_or}
use Rattle.std.proofs.Common.{Some, inl, inr, arith, append_assoc}
use Rattle.std.proofs.Common.{◌%◌}
use Rattle.std.proofs.Common.{eq-eqb, ne_eqb, true≢false, mod-eq_of_lt}
use Rattle.std.proofs.lemmas.Bool.{cases_eq, cases_Bool}
use Rattle.ffv1_rice.specs.Bits.{binary}
use Rattle.ffv1_rice.specs.Run.{run_log}
use Rattle.ffv1_rice.specs.Scalar.{scalar_bits}
use Rattle.ffv1_rice.specs.Row.{Place, Coder, begun, shortened, is_zero, bits_in, place_bits}
use Rattle.ffv1_rice.specs.Row.{after_in, place_after}
use Rattle.ffv1_rice.specs.Row.{places_bits, places_after}
use Rattle.ffv1_rice.proofs.Codes.{binary_one}

-- ---- a run that goes on

-- the bits go on by a 1, or by a 0 and so many differences as there are before the one that breaks
-- the run: at least n, and fewer than n and those that are left
pub record IsBroken (log n left : ℕ) (text : List Bool) : Type 0 where
  pub zeros : ℕ
  pub rest : List Bool
  pub is : text ≡ false ∷ (binary log zeros ++ rest)
  pub least : n ≤ zeros
  pub few : zeros < 2 ^ log
  pub within : zeros < n + left

abbrev pub GoesOn : ℕ → ℕ → ℕ → List Bool → Type 0
GoesOn log n left text = ((rest : List Bool) × (text ≡ true ∷ rest)) ⊎ IsBroken log n left text

-- what may stand after some places
pub record IsTail (c : Coder) (left : ℕ) (text : List Bool) : Type 0 where
  pub some : (m : ℕ) → c.run ≡ Some (suc m) → GoesOn (run_log c.index) (suc m) left text

goes_further : (log m n left more : ℕ) (text : List Bool) → m ≤ n → n + left ≤ m + more → GoesOn log
    n left text → GoesOn log m more text
goes_further log m n left more text few less (inl whole) = inl whole
goes_further log m n left more text few less (inr broken) =
    let least = broken.least in
    let within = broken.within in
    inr (record {
      zeros = broken.zeros;
      rest = broken.rest;
      is = broken.is;
      least = omega (arith, least, few);
      few = broken.few;
      within = omega (arith, within, less);
    })

pub binary_same : (log m n : ℕ) (a b : List Bool) → m < 2 ^ log → n < 2 ^ log → binary log m ++ a ≡
    binary log n ++ b → (m ≡ n) × (a ≡ b)
binary_same log m n a b few few' is =
    let same = binary_one log m n a b is in
    let one : m % 2 ^ log ≡ m = mod-eq_of_lt few in
    let two : n % 2 ^ log ≡ n = mod-eq_of_lt few' in
    (sym one ∙ same.0 ∙ two, same.1)

-- no run that goes on is broken before its place
pub goes_past : (log n left : ℕ) (text rest : List Bool) → GoesOn log (suc n) left text → n < 2 ^
    log →
    text ≡ false ∷ (binary log n ++ rest) → ⊥
goes_past log n left text rest (inl whole) few is =
    true≢false (ap (λ bits. get_or bits 0 false) (sym whole.1 ∙ is))
goes_past log n left text rest (inr broken) few is =
    let same = (binary_same log broken.zeros n broken.rest rest broken.few few
    (ap (drop 1) (sym broken.is ∙ is))).0 in
    let least = broken.least in
    absurd (omega (arith, same, least))

-- the bits of the first place, and what is after it
pub head : (depth : ℕ) (c : Coder) (p : Place) (ps : List Place) (t bits : List Bool) (next :
    Coder) →
    place_bits depth c p ≡ bits → place_after depth c p ≡ next →
    places_bits depth c (p ∷ ps) ++ t ≡ bits ++ (places_bits depth next ps ++ t)
unfolding places_bits
head depth c p ps t bits next is after =
    append_assoc (place_bits depth c p) (places_bits depth (place_after depth c p) ps) t
    ∙ ap₂ (λ b d. b ++ (places_bits depth d ps ++ t)) is after

tail_next : (depth : ℕ) (c : Coder) (p : Place) (ps : List Place) (left : ℕ) (t : List Bool)
    (next : Coder) → place_after depth c p ≡ next → IsTail (places_after depth c (p ∷ ps)) left t →
    IsTail (places_after depth next ps) left t
unfolding places_after
tail_next depth c p ps left t next after tail =
    subst (λ d. IsTail (places_after depth d ps) left t) after tail

tail_none : (depth : ℕ) (c : Coder) (left : ℕ) (t : List Bool) → IsTail (places_after depth c [])
    left t → IsTail c left (places_bits depth c [] ++ t)
unfolding places_after places_bits
tail_none depth c left t tail = tail

-- a place in a run that is not the one that breaks it
zero_next : (depth : ℕ) (c : Coder) (p : Place) (ps : List Place) (n left : ℕ) (t : List Bool) →
    begun c.run p.context ≡ Some n → n < 2 ^ run_log c.index → is_zero p.difference ≡ true →
    IsTail (places_after depth c (p ∷ ps)) left t →
    (suc n < 2 ^ run_log c.index → IsTail (places_after depth (record {
      states = c.states;
      index = c.index;
      run = Some (suc n);
    }) ps) left t → GoesOn (run_log c.index) (suc n) (length ps + left) (places_bits depth (record {
      states = c.states;
      index = c.index;
      run = Some (suc n);
    }) ps ++ t)) →
    GoesOn (run_log c.index) (suc n) (length ps + left) (places_bits depth c (p ∷ ps) ++ t)
zero_next depth c p ps n left t begins few flat tail go =
    elim (cases_eq (suc n) (2 ^ run_log c.index)) [
      | inl full ↦
          let bits : place_bits depth c p ≡ true ∷ [] = ap (bits_in depth c p) begins ∙
          rw (flat, eq-eqb (suc n) (2 ^ run_log c.index) full) refl in
          let next = place_after depth c p in
          inl (places_bits depth next ps ++ t, head depth c p ps t (true ∷ []) next bits refl)
      | inr part ↦
          let next : Coder = record { states = c.states; index = c.index; run = Some (suc n) } in
          let bits : place_bits depth c p ≡ [] = ap (bits_in depth c p) begins ∙
          rw (flat, ne_eqb (suc n) (2 ^ run_log c.index) part) refl in
          let after : place_after depth c p ≡ next = ap (after_in depth c p) begins ∙
          rw (flat, ne_eqb (suc n) (2 ^ run_log c.index) part) refl in
          subst (GoesOn (run_log c.index) (suc n) (length ps + left))
          (sym (head depth c p ps t [] next bits after))
          (go (omega (arith, few, part)) (tail_next depth c p ps left t next after tail))
    ]

-- the place that breaks it
pub break_next : (depth : ℕ) (c : Coder) (p : Place) (ps : List Place) (n : ℕ) (t : List Bool) →
    begun c.run p.context ≡ Some n → is_zero p.difference ≡ false →
    places_bits depth c (p ∷ ps) ++ t ≡ false ∷ (binary (run_log c.index) n ++ (scalar_bits depth
    (c.states p.context) (shortened p.difference) ++ (places_bits depth (place_after depth c p) ps
    ++ t)))
break_next depth c p ps n t begins some =
    let code = scalar_bits depth (c.states p.context) (shortened p.difference) in
    let bits : place_bits depth c p ≡ false ∷ (binary (run_log c.index) n ++ code) =
    ap (bits_in depth c p) begins ∙ rw some refl in
    head depth c p ps t (false ∷ (binary (run_log c.index) n ++ code)) (place_after depth c p) bits
    refl
    ∙ ap (λ b. false ∷ b) (append_assoc (binary (run_log c.index) n) code
    (places_bits depth (place_after depth c p) ps ++ t))

pub run_goes_on : (depth : ℕ) (c : Coder) (ps : List Place) (m left : ℕ) (t : List Bool) → c.run ≡
    Some (suc m) → suc m < 2 ^ run_log c.index →
    IsTail (places_after depth c ps) left t → GoesOn (run_log c.index) (suc m) (length ps + left)
    (places_bits depth c ps ++ t)
unfolding places_after places_bits
run_goes_on depth c [] m left t run few tail =
    let none : left ≡ 0 + left = omega arith in
    subst (λ n. GoesOn (run_log c.index) (suc m) n (places_bits depth c [] ++ t)) none
    ((tail_none depth c left t tail).some m run)
run_goes_on depth c (p ∷ ps) m left t run few tail =
    let begins : begun c.run p.context ≡ Some (suc m) = ap (λ run. begun run p.context) run in
    elim (cases_Bool (is_zero p.difference)) [
      | inl flat ↦ goes_further (run_log c.index) (suc m) (suc (suc m)) (length ps + left)
          (suc (length ps) + left) (places_bits depth c (p ∷ ps) ++ t) (omega arith) (omega arith)
          (zero_next depth c p ps (suc m) left t begins few flat tail
          (λ less rest. run_goes_on depth (record {
            states = c.states;
            index = c.index;
            run = Some (suc (suc m));
          }) ps (suc m) left t refl less rest))
      | inr some ↦ inr (record {
        zeros = suc m;
        rest = scalar_bits depth (c.states p.context) (shortened p.difference) ++
            (places_bits depth (place_after depth c p) ps ++ t);
        is = break_next depth c p ps (suc m) t begins some;
        least = omega arith;
        few = few;
        within = omega arith;
      })
    ]

-- the same of a place whose difference is 0, wherever the run is
pub zero_goes_on : (depth : ℕ) (c : Coder) (p : Place) (ps : List Place) (n left : ℕ)
    (t : List Bool) → begun c.run p.context ≡ Some n → n < 2 ^ run_log c.index → is_zero
    p.difference ≡ true →
    IsTail (places_after depth c (p ∷ ps)) left t → GoesOn (run_log c.index) (suc n)
    (length ps + left) (places_bits depth c (p ∷ ps) ++ t)
zero_goes_on depth c p ps n left t begins few flat tail =
    zero_next depth c p ps n left t begins few flat tail
    (λ less rest. run_goes_on depth (record {
      states = c.states;
      index = c.index;
      run = Some (suc n);
    }) ps n left t refl less rest)

-- and of any place
pub place_goes_on : (depth : ℕ) (c : Coder) (p : Place) (ps : List Place) (n left : ℕ)
    (t : List Bool) → begun c.run p.context ≡ Some n → n < 2 ^ run_log c.index →
    IsTail (places_after depth c (p ∷ ps)) left t → GoesOn (run_log c.index) n
    (suc (length ps) + left) (places_bits depth c (p ∷ ps) ++ t)
place_goes_on depth c p ps n left t begins few tail = elim (cases_Bool (is_zero p.difference)) [
  | inl flat ↦ goes_further (run_log c.index) n (suc n) (length ps + left) (suc (length ps) + left)
      (places_bits depth c (p ∷ ps) ++ t) (omega arith) (omega arith)
      (zero_goes_on depth c p ps n left t begins few flat tail)
  | inr some ↦ inr (record {
    zeros = n;
    rest = scalar_bits depth (c.states p.context) (shortened p.difference) ++
        (places_bits depth (place_after depth c p) ps ++ t);
    is = break_next depth c p ps n t begins some;
    least = omega arith;
    few = few;
    within = omega arith;
  })
]

-- An array of states has the state of each slot.
use Rattle.std.proofs.Common.{◌≡◌, ◌≢◌, refl, ℕ, ◌+◌, ◌<◌, ◌≤◌, ◌==◌, ◌⊎◌, Bool, true, false, List, [], ◌∷◌, ◌++◌, length, get_or, replicate, arith, ap, sym, subst, append_assoc, zero-add, ◌∙◌, inl, inr, length-set, get_or-set_same, get_or-set_other}
use Rattle.std.proofs.lemmas.Bool.Decides.{nat_tests}
use Rattle.std.proofs.lemmas.Bool.{cases_eq}
use Rattle.std.proofs.lemmas.List.{map-append, append-nil, get_or-replicate, length-replicate}
use Rattle.std.proofs.lemmas.List.Elements.{filter-append}
use Rattle.ffv1_range.specs.Table.{Table, moved}
use Rattle.ffv1_range.specs.Symbols.{Step, stepped, decided, moved_by, shifted}
use Rattle.ffv1_range.specs.History.{bits_at, moved_along, decisions_after, AreBelow, AreOutside, HasStates}

moved_along-append : (t : Table) (state : ℕ) (xs ys : List Bool) → moved_along t state (xs ++ ys) ≡ moved_along t (moved_along t state xs) ys
moved_along-append t state [] ys = refl
moved_along-append t state (x ∷ xs) ys = moved_along-append t (moved t state x) xs ys

bits_at-same : (slot : ℕ) (past : List Step) (s : Step) → s.slot ≡ slot → bits_at slot (past ++ (s ∷ [])) ≡ bits_at slot past ++ (s.bit ∷ [])
bits_at-same slot past s e =
    let test : (s.slot == slot) ≡ true = grind (arith, nat_tests) in
    simp (filter-append, map-append, test)

bits_at-other : (slot : ℕ) (past : List Step) (s : Step) → s.slot ≢ slot → bits_at slot (past ++ (s ∷ [])) ≡ bits_at slot past
bits_at-other slot past s e =
    let test : (s.slot == slot) ≡ false = grind (arith, nat_tests) in
    simp (filter-append, map-append, test, append-nil)

-- a step after base
abbrev pub behind : ℕ → Step → Step
behind base s = record { slot = base + s.slot; bit = s.bit }

length-stepped : (t : Table) (states : List ℕ) (s : Step) → length (stepped t states s) ≡ length states
length-stepped t states s = length-set states s.slot (moved t (get_or states s.slot 0) s.bit)

stepped-has : (t : Table) (states : List ℕ) (base : ℕ) (past : List Step) (s : Step) → s.slot < length states → HasStates t states base past →
    HasStates t (stepped t states s) base (past ++ (behind base s ∷ []))
stepped-has t states base past s below has = record {
  each = λ slot h. elim (cases_eq s.slot slot) [
    | inl same ↦
        let now = get_or-set_same states s.slot (moved t (get_or states s.slot 0) s.bit) 0 below in
        let before = has.each s.slot below in
        let bits = bits_at-same (base + s.slot) past (behind base s) refl in
        let along = moved_along-append t 128 (bits_at (base + s.slot) past) (s.bit ∷ []) in
        rw (← same) (rw bits (now ∙ ap (λ k. moved t k s.bit) before ∙ sym along))
    | inr other ↦
        let apart : slot ≢ s.slot = λ e. other (sym e) in
        let now = get_or-set_other states s.slot slot (moved t (get_or states s.slot 0) s.bit) 0 apart in
        let long = length-stepped t states s in
        let elsewhere : base + s.slot ≢ base + slot = omega arith in
        rw (bits_at-other (base + slot) past (behind base s) elsewhere) (now ∙ has.each slot (omega arith))
  ];
}

-- a longer list stands below as many slots
still_below : (t : Table) (states : List ℕ) (s : Step) (ss : List Step) → AreBelow ss (length states) → AreBelow ss (length (stepped t states s))
still_below t states s ss below = subst (AreBelow ss) (sym (length-stepped t states s)) below

-- the states of an array give each decision the state of its history
pub decided_is : (t : Table) (states : List ℕ) (base : ℕ) (past ss : List Step) → AreBelow ss (length states) → HasStates t states base past →
    decided t states ss ≡ decisions_after t past (shifted base ss)
decided_is t states base past [] below has = refl
decided_is t states base past (s ∷ ss) below has =
    let first = has.each s.slot below.0 in
    let rest = decided_is t (stepped t states s) base (past ++ (behind base s ∷ [])) ss (still_below t states s ss below.1) (stepped-has t states base past s below.0 has) in
    rw (rest, first) refl

-- and they are still the states of the history after the steps
pub moved_has : (t : Table) (states : List ℕ) (base : ℕ) (past ss : List Step) → AreBelow ss (length states) → HasStates t states base past →
    HasStates t (moved_by t states ss) base (past ++ shifted base ss)
moved_has t states base past [] below has = rw (append-nil past) has
moved_has t states base past (s ∷ ss) below has =
    subst (HasStates t (moved_by t states (s ∷ ss)) base) (append_assoc past (behind base s ∷ []) (shifted base ss))
    (moved_has t (stepped t states s) base (past ++ (behind base s ∷ [])) ss (still_below t states s ss below.1) (stepped-has t states base past s below.0 has))

-- steps at other slots leave them alone
outside_has : (t : Table) (states : List ℕ) (base : ℕ) (past : List Step) (s : Step) → (s.slot < base) ⊎ (base + length states ≤ s.slot) → HasStates t states base past →
    HasStates t states base (past ++ (s ∷ []))
outside_has t states base past s outside has = record {
  each = λ slot h.
      let elsewhere : s.slot ≢ base + slot = elim outside [ inl front ↦ omega arith | inr back ↦ omega arith ] in
      rw (bits_at-other (base + slot) past s elsewhere) (has.each slot h);
}

pub others_have : (t : Table) (states : List ℕ) (base : ℕ) (past ss : List Step) → AreOutside ss base (length states) → HasStates t states base past →
    HasStates t states base (past ++ ss)
others_have t states base past [] outside has = rw (append-nil past) has
others_have t states base past (s ∷ ss) outside has =
    subst (HasStates t states base) (append_assoc past (s ∷ []) ss)
    (others_have t states base (past ++ (s ∷ [])) ss outside.1 (outside_has t states base past s outside.0 has))

-- fresh states are those of no history
pub fresh_has : (t : Table) (count base : ℕ) → HasStates t (replicate count 128) base []
fresh_has t count base = record {
  each = λ slot h. get_or-replicate count slot 128 0 (omega (arith, length-replicate {A = ℕ} count 128));
}

pub shifted_none : (ss : List Step) → shifted 0 ss ≡ ss
shifted_none [] = refl
shifted_none (s ∷ ss) =
    let f : ℕ → Step = λ n. record { slot = n; bit = s.bit } in
    ap (λ z. z ∷ shifted 0 ss) (ap f (zero-add s.slot)) ∙ ap (λ zs. s ∷ zs) (shifted_none ss)

-- states that are fresh at first, and moved at each decision, are those of the history
pub kept_is : (t : Table) (count : ℕ) (ss : List Step) → AreBelow ss count → decided t (replicate count 128) ss ≡ decisions_after t [] ss
kept_is t count ss below =
    decided_is t (replicate count 128) 0 [] ss (subst (AreBelow ss) (sym (length-replicate {A = ℕ} count 128)) below) (fresh_has t count 0)
    ∙ ap (decisions_after t []) (shifted_none ss)

-- Where each state is named from the decisions before, bytes code one list of each length.
use Rattle.std.proofs.Common.{◌≡◌, refl, ℕ, zero, suc, ◌<◌, Bool, true, false, List, [], ◌∷◌, ◌++◌, length, inl, inr, ap, sym, subst, ◌∙◌}
use Rattle.ffv1_range.specs.Interval.{Interval, Decision, narrow, narrowed}
use Rattle.ffv1_range.specs.Codes.{Inside, AreBytes, IsState, AreStates, AreNamed}
use Rattle.ffv1_range.proofs.Nested.{one-inside, narrowed-inside}

-- a list that goes on from past and i
pub record GoesOn (bytes : List ℕ) (name : List Decision → ℕ) (past : List Decision) (i : Interval) (count : ℕ) (ds : List Decision) : Type 0 where
  pub long : length ds ≡ count
  pub named : AreNamed name past ds
  pub inside : Inside bytes (narrowed i ds)

same_decision : (x y : Decision) → x.state ≡ y.state → x.bit ≡ y.bit → x ≡ y
same_decision x y s b =
    let f : ℕ → Decision = λ state. record { state = state; bit = x.bit } in
    let g : Bool → Decision = λ bit. record { state = y.state; bit = bit } in
    ap f s ∙ ap g b

module _ (bytes : List ℕ) (are : AreBytes bytes) (name : List Decision → ℕ) (is : (ds : List Decision) → IsState (name ds)) where
  pub with_first :
      (past : List Decision) (i : Interval) (count : ℕ) (bit : Bool) →
      (ds : List Decision) × GoesOn bytes name (past ++ (record { state = name past; bit = bit } ∷ [])) (narrow i (name past) bit) count ds →
      (ds : List Decision) × GoesOn bytes name past i (suc count) ds
  with_first past i count bit rest =
      (record { state = name past; bit = bit } ∷ rest.0, record { long = ap suc rest.1.long; named = (refl, rest.1.named); inside = rest.1.inside })

  pub goes_on : (count : ℕ) (past : List Decision) (i : Interval) → Inside bytes i → (ds : List Decision) × GoesOn bytes name past i count ds
  goes_on zero past i h = ([], record { long = refl; named = tt; inside = h })
  goes_on (suc count) past i h =
      elim (one-inside bytes are i (name past) (is past).most h).one [
        | inl lower ↦ with_first past i count false (goes_on count _ _ lower)
        | inr upper ↦ with_first past i count true (goes_on count _ _ upper)
      ]

  pub states : (past ds : List Decision) → AreNamed name past ds → AreStates ds
  states past [] n = tt
  states past (d ∷ ds) n = (subst IsState (sym n.0) (is past), states _ ds n.1)

  pub same_first :
      (i : Interval) (state : ℕ) (b c : Bool) → state < 256 → Inside bytes i → Inside bytes (narrow i state b) → Inside bytes (narrow i state c) → b ≡ c
  same_first i state false false small h p q = refl
  same_first i state true true small h p q = refl
  same_first i state false true small h p q = absurd ((one-inside bytes are i state small h).apart p q)
  same_first i state true false small h p q = absurd ((one-inside bytes are i state small h).apart q p)

  pub same : (past ds es : List Decision) (i : Interval) → Inside bytes i → length ds ≡ length es →
      AreNamed name past ds → AreNamed name past es → Inside bytes (narrowed i ds) → Inside bytes (narrowed i es) → ds ≡ es
  same past [] [] i h e m n p q = refl
  same past [] (y ∷ es) i h e m n p q = cc
  same past (x ∷ ds) [] i h e m n p q = cc
  same past (x ∷ ds) (y ∷ es) i h e m n p q =
      let x_in = narrowed-inside bytes are (narrow i x.state x.bit) ds (states _ ds m.1) p in
      let y_in = narrowed-inside bytes are (narrow i y.state y.bit) es (states _ es n.1) q in
      let st : x.state ≡ y.state = m.0 ∙ sym n.0 in
      let small : x.state < 256 = subst (λ s. s < 256) (sym m.0) (is past).most in
      let bit = same_first i x.state x.bit y.bit small h x_in (subst (λ s. Inside bytes (narrow i s y.bit)) (sym st) y_in) in
      let eq = same_decision x y st bit in
      let rest = same (past ++ (x ∷ [])) ds es (narrow i x.state x.bit) x_in (cc) m.1
      (subst (λ d. AreNamed name (past ++ (d ∷ [])) es) (sym eq) n.1) p
      (subst (λ (d : Decision). Inside bytes (narrowed (narrow i d.state d.bit) es)) (sym eq) q) in
      cc

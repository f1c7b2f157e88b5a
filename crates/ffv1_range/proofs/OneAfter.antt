-- Bytes code at most one number next, with the states that the history names, at slots after base.
use Rattle.std.proofs.Common.{◌≡◌, refl, ℕ, ◌+◌, ◌^◌, ◌<◌, List, [], ◌∷◌, ◌++◌, ap, sym, subst, ◌∙◌, append-nil, append_assoc, ℤ, ◌⊎◌, inl, inr}
use Rattle.std.proofs.Math.IntN.{nat_abs}
use Rattle.ffv1_range.specs.Table.{Table}
use Rattle.ffv1_range.specs.Interval.{Interval, narrow, narrowed}
use Rattle.ffv1_range.specs.Codes.{Inside, AreBytes, AreStates}
use Rattle.ffv1_range.specs.Symbols.{Step, signed_steps, too_long, shifted}
use Rattle.ffv1_range.specs.History.{state_of, decisions_after}
use Rattle.ffv1_range.proofs.Nested.{same_bit}
use Rattle.ffv1_range.proofs.Prefix.{symbols_apart, refused_apart}
use Rattle.ffv1_range.proofs.HistoryLemmas.{behind}
use Rattle.ffv1_range.proofs.OneValue.{SameSlots, Begins, same_step, signed_slots, refused_slots}

pub begins_after : (bytes : List ℕ) → AreBytes bytes → (t : Table) (base : ℕ) (past : List Step) (i : Interval) (xs ys : List Step) → SameSlots xs ys →
    AreStates (decisions_after t past (shifted base xs)) → AreStates (decisions_after t past (shifted base ys)) →
    Inside bytes (narrowed i (decisions_after t past (shifted base xs))) → Inside bytes (narrowed i (decisions_after t past (shifted base ys))) →
    Begins xs ys ⊎ Begins ys xs
unfolding SameSlots Begins
begins_after bytes are t base past i [] ys s p q f g = inl (ys, refl)
begins_after bytes are t base past i (x ∷ xs) [] s p q f g = inr (x ∷ xs, refl)
begins_after bytes are t base past i (x ∷ xs) (y ∷ ys) s p q f g =
    let state : state_of t (base + y.slot) past ≡ state_of t (base + x.slot) past = ap (λ k. state_of t (base + k) past) (sym s.0) in
    let g_here = subst (λ k. Inside bytes (narrowed (narrow i k y.bit) (decisions_after t (past ++ (behind base y ∷ [])) (shifted base ys)))) state g in
    let bit = same_bit bytes are i (state_of t (base + x.slot) past) x.bit y.bit (decisions_after t (past ++ (behind base x ∷ [])) (shifted base xs)) (decisions_after t (past ++ (behind base y ∷ [])) (shifted base ys)) p.0.most p.1 q.1 f g_here in
    let same = same_step x y s.0 bit in
    let q_rest = subst (λ (z : Step). AreStates (decisions_after t (past ++ (behind base z ∷ [])) (shifted base ys))) (sym same) q.1 in
    let g_rest = subst (λ (z : Step). Inside bytes (narrowed (narrow i (state_of t (base + z.slot) past) z.bit) (decisions_after t (past ++ (behind base z ∷ [])) (shifted base ys)))) (sym same) g in
    elim (begins_after bytes are t base (past ++ (behind base x ∷ [])) (narrow i (state_of t (base + x.slot) past) x.bit) xs ys (s.1 bit) p.1 q_rest f g_rest) [
      | inl b ↦ inl (b.0, ap (λ l. x ∷ l) b.1 ∙ ap (λ z. z ∷ ys) same)
      | inr b ↦ inr (b.0, ap (λ l. y ∷ l) b.1 ∙ ap (λ z. z ∷ xs) (sym same))
    ]

pub one_after : (bytes : List ℕ) → AreBytes bytes → (t : Table) (base : ℕ) (past : List Step) (i : Interval) (v w : ℤ) → nat_abs v < 2 ^ 31 → nat_abs w < 2 ^ 31 →
    AreStates (decisions_after t past (shifted base (signed_steps v))) → AreStates (decisions_after t past (shifted base (signed_steps w))) →
    Inside bytes (narrowed i (decisions_after t past (shifted base (signed_steps v)))) → Inside bytes (narrowed i (decisions_after t past (shifted base (signed_steps w)))) → v ≡ w
unfolding Begins
one_after bytes are t base past i v w small_v small_w p q f g =
    elim (begins_after bytes are t base past i (signed_steps v) (signed_steps w) (signed_slots v w) p q f g) [
      | inl b ↦ (symbols_apart v w b.0 [] small_v small_w (b.1 ∙ sym (append-nil (signed_steps w)))).0
      | inr b ↦ (symbols_apart v w [] b.0 small_v small_w (append-nil (signed_steps v) ∙ sym b.1)).0
    ]

pub none_after : (bytes : List ℕ) → AreBytes bytes → (t : Table) (base : ℕ) (past : List Step) (i : Interval) (v : ℤ) → nat_abs v < 2 ^ 31 →
    AreStates (decisions_after t past (shifted base (signed_steps v))) → AreStates (decisions_after t past (shifted base too_long)) →
    Inside bytes (narrowed i (decisions_after t past (shifted base (signed_steps v)))) → Inside bytes (narrowed i (decisions_after t past (shifted base too_long))) → ⊥
unfolding Begins
none_after bytes are t base past i v small p q f g =
    elim (begins_after bytes are t base past i (signed_steps v) too_long (refused_slots v) p q f g) [
      | inl b ↦ refused_apart v b.0 [] small (b.1 ∙ sym (append-nil too_long))
      | inr b ↦ refused_apart v [] b.0 small (append-nil (signed_steps v) ∙ sym b.1)
    ]

-- decisions after a history, in two parts
pub after_append : (t : Table) (past xs ys : List Step) → decisions_after t past (xs ++ ys) ≡ decisions_after t past xs ++ decisions_after t (past ++ xs) ys
after_append t past [] ys = ap (λ p. decisions_after t p ys) (sym (append-nil past))
after_append t past (x ∷ xs) ys =
    ap (λ ds. record { state = state_of t x.slot past; bit = x.bit } ∷ ds)
    (after_append t (past ++ (x ∷ [])) xs ys ∙ ap (λ p. decisions_after t (past ++ (x ∷ [])) xs ++ decisions_after t p ys) (append_assoc past (x ∷ []) xs))

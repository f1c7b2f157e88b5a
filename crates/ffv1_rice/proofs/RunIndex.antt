-- How large the index of a run gets.
use Rattle.std.proofs.Common.{◌≡◌, refl, sym, ◌∙◌, ap, subst, ℕ, suc, ◌+◌, ◌-◌, ◌^◌, ◌<◌, ◌≤◌}
use Rattle.std.proofs.Common.{◌⊎◌, List, [], ◌∷◌, length, Option, Some, None}
use Rattle.std.proofs.Common.{inl, inr, arith, eq-eqb, ne_eqb}
use Rattle.std.proofs.lemmas.Bool.{cases_eq, cases_lt, cases_Bool}
use Rattle.ffv1_rice.specs.Run.{run_log}
use Rattle.ffv1_rice.specs.Row.{Place, Coder, begun, is_zero, after_in, place_after, places_after}
use Rattle.ffv1_rice.proofs.RowCodes.{length_of}

-- a run that begins has no difference yet, and one that goes on has as many as before
pub begun_has : (context : ℕ) (run : Option ℕ) → (begun run context ≡ None) ⊎ ((n : ℕ) ×
    (begun run context ≡ Some n) × (n ≡ length_of run))
unfolding length_of
begun_has context None = elim (cases_eq context 0) [
  | inl first ↦ inr (0, rw (eq-eqb context 0 first) refl, refl)
  | inr other ↦ inl (rw (ne_eqb context 0 other) refl)
]
begun_has context (Some n) = inr (n, refl, refl)

pub length_some : (n : ℕ) → length_of (Some n) ≡ n
unfolding length_of
length_some n = refl

pub length_none : length_of None ≡ 0
unfolding length_of
length_none = refl

-- where the row is too short for a whole run of the greatest index
pub index_stays : (depth limit : ℕ) (c : Coder) (ps : List Place) → c.index ≤ limit →
    length_of c.run + length ps < 2 ^ run_log limit → (places_after depth c ps).index ≤ limit
unfolding places_after
index_stays depth limit c [] few short = few
index_stays depth limit c (p ∷ ps) few short = elim (begun_has p.context c.run) [
  | inl none ↦
      let after : place_after depth c p ≡ after_in depth c p None = ap (after_in depth c p) none in
      subst (λ d. (places_after depth d ps).index ≤ limit) (sym after)
      (index_stays depth limit (after_in depth c p None) ps few
      (let zero = length_none in omega (arith, short, zero)))
  | inr on ↦
      let n = on.0 in
      let same = on.2 in
      elim (cases_Bool (is_zero p.difference)) [
        | inl flat ↦ elim (cases_eq (suc n) (2 ^ run_log c.index)) [
          | inl full ↦
              let next : Coder = record { states = c.states; index = c.index + 1; run = Some 0 } in
              let after : place_after depth c p ≡ next = ap (after_in depth c p) on.1 ∙
              rw (flat, eq-eqb (suc n) (2 ^ run_log c.index) full) refl in
              let less : c.index < limit = elim (cases_lt c.index limit) [
                | inl less ↦ less
                | inr more ↦
                    let at : c.index ≡ limit = omega (arith, few, more) in
                    let whole : 2 ^ run_log c.index ≡ 2 ^ run_log limit =
                    ap (λ k. 2 ^ run_log k) at in
                    absurd (omega (arith, full, whole, same, short))
              ] in
              subst (λ d. (places_after depth d ps).index ≤ limit) (sym after)
              (index_stays depth limit next ps (omega (arith, less))
              (let zero = length_some 0 in omega (arith, short, zero)))
          | inr part ↦
              let next : Coder = record { states = c.states; index = c.index; run = Some (suc n) }
              in
              let after : place_after depth c p ≡ next = ap (after_in depth c p) on.1 ∙
              rw (flat, ne_eqb (suc n) (2 ^ run_log c.index) part) refl in
              subst (λ d. (places_after depth d ps).index ≤ limit) (sym after)
              (index_stays depth limit next ps few
              (let some = length_some (suc n) in omega (arith, short, same, some)))
        ]
        | inr other ↦
            let next = place_after depth c p in
            let run : next.run ≡ None = ap (λ d. d.run) (ap (after_in depth c p) on.1) ∙ rw other
            refl in
            let index : next.index ≡ c.index - 1 = ap (λ d. d.index) (ap (after_in depth c p) on.1)
            ∙ rw other refl in
            index_stays depth limit next ps (omega (arith, index, few))
            (let none = ap length_of run ∙ length_none in omega (arith, short, none))
      ]
]

pub run_log_thirty : run_log 30 ≡ 14
unfolding run_log
run_log_thirty = refl

pub index_begins : (depth limit : ℕ) (c : Coder) (ps : List Place) → c.run ≡ None → length ps < 2 ^
    run_log limit → c.index ≤ limit → (places_after depth c ps).index ≤ limit
index_begins depth limit c ps run short few =
    let none = ap length_of run ∙ length_none in
    index_stays depth limit c ps few (omega (arith, none, short))

pub index_thirty : (depth : ℕ) (c : Coder) (ps : List Place) → c.run ≡ None → length ps ≤ 8192 →
    c.index ≤ 30 → (places_after depth c ps).index ≤ 30
index_thirty depth c ps run short few =
    let whole : 2 ^ run_log 30 ≡ 2 ^ 14 = ap (λ k. 2 ^ k) run_log_thirty in
    index_begins depth 30 c ps run (omega (arith, whole, short)) few

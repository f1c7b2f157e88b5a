-- How many bits a row takes.
use Rattle.std.proofs.Common.{◌≡◌, sym, ◌∙◌, ap, subst, ℕ, suc, ◌+◌, ◌-◌, ◌*◌, ◌^◌, ◌<◌, ◌≤◌}
use Rattle.std.proofs.Common.{◌⊎◌, List, [], ◌∷◌, length, Option, Some, None}
use Rattle.std.proofs.Common.{inl, inr, arith, eq-eqb, ne_eqb, length-append}
use Rattle.std.proofs.lemmas.Bool.{cases_eq, cases_lt, cases_Bool}
use Rattle.ffv1_rice.specs.declared.state.State.{State}
use Rattle.ffv1_rice.specs.Run.{run_log}
use Rattle.ffv1_rice.specs.States.{IsState}
use Rattle.ffv1_rice.specs.Scalar.{scalar_after}
use Rattle.ffv1_rice.specs.Row.{Place, Coder, begun, is_zero, shortened, place_bits, place_after}
use Rattle.ffv1_rice.specs.Row.{end_bits, row_bits, with_state, AreContexts, IsRunning}
use Rattle.ffv1_rice.proofs.Differences.{after_difference}
use Rattle.ffv1_rice.proofs.RowCodes.{length_of, begun_cases, running_after, zero_is, length_place}
use Rattle.ffv1_rice.proofs.RowCodes.{row_first, row_none, running_none}
use Rattle.ffv1_rice.proofs.RowOutcomes.{not_none, same_run}
use Rattle.ffv1_rice.proofs.Rows.{scalar_after_is, zero_bits_is, zero_after_is, full_bits_is}
use Rattle.ffv1_rice.proofs.Rows.{full_after_is, broken_after_is}
use Rattle.ffv1_rice.proofs.RunIndex.{begun_has, length_none, length_some, run_log_thirty}

-- what is known of a coder before so many places
pub record IsSound (depth contexts limit n : ℕ) (c : Coder) : Type 0 where
  pub running : IsRunning c.index c.run
  pub index : c.index ≤ limit
  pub room : length_of c.run + n < 2 ^ run_log limit
  pub states : (k : ℕ) → k < contexts → IsState depth (c.states k)

with_kept : (depth k context : ℕ) (states : ℕ → State) (s : State) → IsState depth s → IsState depth
    (states k) → IsState depth (with_state states context s k)
with_kept depth k context states s own other = elim (cases_eq k context) [
  | inl here ↦ rw (eq-eqb k context here) own
  | inr apart ↦ rw (ne_eqb k context apart) other
]

-- a run that goes on has as many differences as before, and one that begins has none
begun_from : (context n : ℕ) (run : Option ℕ) → begun run context ≡ Some n →
    (n ≡ length_of run) ⊎ (n ≡ 0)
begun_from context n run is = elim (begun_has context run) [
  | inl none ↦ absurd (not_none n (sym is ∙ none))
  | inr has ↦ inl (same_run n has.0 (sym is ∙ has.1) ∙ has.2)
]

-- a place, and what it leaves
record Step (depth contexts limit n : ℕ) (c : Coder) (p : Place) : Type 0 where
  few : length (place_bits depth c p) + length (end_bits (place_after depth c p).run) ≤ 27 + depth
  index : (place_after depth c p).index ≤ limit
  room : length_of (place_after depth c p).run + n < 2 ^ run_log limit
  states : (k : ℕ) → k < contexts → IsState depth ((place_after depth c p).states k)

stepped : (depth contexts limit n : ℕ) (c : Coder) (p : Place) → 3 ≤ depth → depth ≤ 9 → limit ≤ 30
    → p.context < contexts → IsSound depth contexts limit (suc n) c → Step depth contexts limit n c
    p
stepped depth contexts limit n c p some few top inside sound =
    let own = after_difference depth (c.states p.context) in
    let is = sound.states p.context inside in
    let small = sound.index in
    let room = sound.room in
    let long = length_place depth c p (omega (arith, some)) (omega (arith, small, top))
    sound.running is in
    elim (begun_cases c.index p.context c.run sound.running) [
      | inl none ↦
          let after = scalar_after_is depth c p none in
          let run : (place_after depth c p).run ≡ None = ap (λ d. d.run) after in
          let bits = ap (λ r. length (end_bits r)) run in
          let held = ap length_of run ∙ length_none in
          let same : (place_after depth c p).index ≡ c.index = ap (λ d. d.index) after in
          record {
            few = omega (arith, long, bits);
            index = omega (arith, same, small);
            room = omega (arith, held, room);
            states = λ k less. subst (λ d. IsState depth (d.states k)) (sym after)
                (with_kept depth k p.context c.states (scalar_after depth (c.states p.context)
                p.difference) (own p.difference some few is) (sound.states k less));
          }
      | inr on ↦
          let m = on.0 in
          let held : m ≡ length_of c.run ⊎ (m ≡ 0) = begun_from p.context m c.run on.1 in
          elim (cases_Bool (is_zero p.difference)) [
            | inl flat ↦
                let zero = zero_is p.difference flat in
                elim (cases_eq (suc m) (2 ^ run_log c.index)) [
                  | inl full ↦
                      let bits = ap length (full_bits_is depth c p m on.1 zero full) in
                      let after = full_after_is depth c p m on.1 zero full in
                      let run = ap (λ d. length (end_bits d.run)) after in
                      let left = ap (λ d. length_of d.run) after ∙ length_some 0 in
                      let next : (place_after depth c p).index ≡ c.index + 1 = ap (λ d. d.index)
                      after in
                      let less : c.index < limit = elim (cases_lt c.index limit) [
                        | inl less ↦ less
                        | inr more ↦
                            let at : c.index ≡ limit = omega (arith, small, more) in
                            let whole : 2 ^ run_log c.index ≡ 2 ^ run_log limit =
                            ap (λ k. 2 ^ run_log k) at in
                            elim held [
                              | inl same ↦ absurd (omega (arith, full, whole, same, room))
                              | inr none ↦ absurd (omega (arith, full, whole, none, room))
                            ]
                      ] in
                      record {
                        few = omega (arith, bits, run);
                        index = omega (arith, next, less);
                        room = omega (arith, left, room);
                        states = λ k less. subst (λ d. IsState depth (d.states k)) (sym after)
                            (sound.states k less);
                      }
                  | inr part ↦
                      let less : suc m < 2 ^ run_log c.index = let under = on.2 in
                      omega (arith, under, part) in
                      let bits = ap length (zero_bits_is depth c p m on.1 zero less) in
                      let after = zero_after_is depth c p m on.1 zero less in
                      let run = ap (λ d. length (end_bits d.run)) after in
                      let left = ap (λ d. length_of d.run) after ∙ length_some (suc m) in
                      let same : (place_after depth c p).index ≡ c.index = ap (λ d. d.index) after
                      in
                      record {
                        few = omega (arith, bits, run);
                        index = omega (arith, same, small);
                        room = elim held [
                          | inl equal ↦ omega (arith, left, room, equal)
                          | inr none ↦ omega (arith, left, room, none)
                        ];
                        states = λ k less. subst (λ d. IsState depth (d.states k)) (sym after)
                            (sound.states k less);
                      }
                ]
            | inr other ↦
                let after = broken_after_is depth c p m on.1 other in
                let run : (place_after depth c p).run ≡ None = ap (λ d. d.run) after in
                let bits = ap (λ r. length (end_bits r)) run in
                let left = ap length_of run ∙ length_none in
                let less : (place_after depth c p).index ≡ c.index - 1 = ap (λ d. d.index) after in
                record {
                  few = omega (arith, long, bits);
                  index = omega (arith, less, small);
                  room = omega (arith, left, room);
                  states = λ k less. subst (λ d. IsState depth (d.states k)) (sym after)
                      (with_kept depth k p.context c.states (scalar_after depth
                      (c.states p.context) (shortened p.difference))
                      (own (shortened p.difference) some few is) (sound.states k less));
                }
          ]
    ]

pub length_row : (depth contexts limit : ℕ) (c : Coder) (ps : List Place) → 3 ≤ depth → depth ≤ 9 →
    limit ≤ 30 → AreContexts contexts ps → IsSound depth contexts limit (length ps) c → length
    (row_bits depth c ps) ≤ (27 + depth) * length ps + length (end_bits c.run)
length_row depth contexts limit c [] some few top inside sound =
    let long = ap length (row_none depth c) in omega (arith, long)
length_row depth contexts limit c (p ∷ ps) some few top inside sound =
    let step = stepped depth contexts limit (length ps) c p some few top inside.0 sound in
    let rest = length_row depth contexts limit (place_after depth c p) ps some few top inside.1
    (record {
      running = running_after depth c p sound.running;
      index = step.index;
      room = step.room;
      states = step.states;
    }) in
    let all = ap length (row_first depth c p ps) ∙ length-append (place_bits depth c p)
    (row_bits depth (place_after depth c p) ps) in
    let own = step.few in
    omega (arith, all, rest, own)

pub row_few : (depth contexts : ℕ) (c : Coder) (ps : List Place) → 3 ≤ depth → depth ≤ 9 → c.run ≡
    None → c.index ≤ 30 → length ps ≤ 8192 → AreContexts contexts ps →
    ((k : ℕ) → k < contexts → IsState depth (c.states k)) → length (row_bits depth c ps) ≤
    (27 + depth) * length ps
row_few depth contexts c ps some few none index short inside states =
    let whole : 2 ^ run_log 30 ≡ 2 ^ 14 = ap (λ k. 2 ^ k) run_log_thirty in
    let held = ap length_of none ∙ length_none in
    let long = length_row depth contexts 30 c ps some few (omega arith) inside (record {
      running = subst (IsRunning c.index) (sym none) (running_none c.index);
      index = index;
      room = omega (arith, held, whole, short);
      states = states;
    }) in
    let bits = ap (λ r. length (end_bits r)) none in
    omega (arith, long, bits)

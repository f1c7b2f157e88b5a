-- The runs of a table, one after the other.
use Rattle.std.proofs.Common.{◌≡◌, refl, ℕ, zero, suc, ◌+◌, ◌-◌, ◌<◌, ◌≤◌, inl, inr, IsTrue, IsFalse, List, [], ◌∷◌, ◌++◌, replicate, sum, arith, Result, Ok, Err, nat_lt, nat_le}
use Rattle.std.specs.List.{list_all, fold}
use Rattle.ffv1_plane.specs.Quantisation.{is_filled}
use Rattle.ffv1_record.specs.declared.fault.RecordFault.{RecordFault}
use Rattle.ffv1_record.specs.declared.fault.RecordFault.TheVariants as fault
use Rattle.ffv1_record.specs.Reader.{Spot, ◌>>=◌, done, next_table, number_within}
use Rattle.ffv1_record.specs.Reading.{runs_onto, table}
use Rattle.ffv1_record.specs.Internal.Given.{Source, Stands, StandsIn, Gives, GivesIn}
use Rattle.std.proofs.lemmas.Bool.{lt-ltb, le-leb}
use Rattle.std.proofs.lemmas.Bool.Decides.{nat_tests}
use Rattle.ffv1_record.proofs.Checks.{both}
use Rattle.ffv1_record.proofs.DecoderSpots.{stands_fresh}

-- what is read from here on, with so many entries left to fill, is what is read from there
pub record LeadsTable (left : ℕ) (runs : List ℕ) (a c : Source) (states : List ℕ) : Type 0 where
  pub leads : (b : List ℕ) (s : Spot) → Stands a b s →
      (t : Spot) × (steps : ℕ) × (left ≤ steps) × StandsIn c states b s.fresh t × ((out : Result (List ℕ × Spot) RecordFault) → runs_onto s.fresh steps left runs b t out → table b s out)

pub table_begins : (a : Source) → LeadsTable 128 [] a a (replicate 32 128)
unfolding next_table
table_begins a = record {
  leads = λ b s st. (record { past = s.past; fresh = s.fresh + 32 }, 128, omega arith, stands_fresh a b s st, λ out h. record { either = inl (s.fresh, record { past = s.past; fresh = s.fresh + 32 }, refl, h) });
}

-- one run of a table with entries left
run_step : (base steps left : ℕ) (runs b : List ℕ) (t : Spot) (out : Result (List ℕ × Spot) RecordFault) →
    (number_within base 0 left fault.Runs >>= λ n. runs_onto base steps (left - n) (runs ++ ((n + 1) ∷ []))) b t out → runs_onto base (suc steps) (suc left) runs b t out
unfolding runs_onto
run_step base steps left runs b t out h = h

pub table_next : (left n : ℕ) (runs : List ℕ) (a c d : Source) (states after : List ℕ) → LeadsTable (suc left) runs a c states →
    GivesIn (λ base. number_within base 0 left fault.Runs) c states d after (Ok n) → LeadsTable (left - n) (runs ++ ((n + 1) ∷ [])) a d after
table_next left n runs a c d states after lead one = record { leads = λ b s st. go b s (lead.leads b s st).0 (lead.leads b s st).1 (lead.leads b s st).2 (lead.leads b s st).3 (lead.leads b s st).4 }
  where
    go : (b : List ℕ) (s t : Spot) (steps : ℕ) → suc left ≤ steps → StandsIn c states b s.fresh t → ((out : Result (List ℕ × Spot) RecordFault) → runs_onto s.fresh steps (suc left) runs b t out → table b s out) →
        (u : Spot) × (steps : ℕ) × (left - n ≤ steps) × StandsIn d after b s.fresh u × ((out : Result (List ℕ × Spot) RecordFault) → runs_onto s.fresh steps (left - n) (runs ++ ((n + 1) ∷ [])) b u out → table b s out)
    go b s t zero few st rest = absurd (omega arith)
    go b s t (suc steps) few st rest =
        let on = one.gives b s.fresh t st in
        (on.0, steps, omega arith, on.2, λ out h. rest out (run_step s.fresh steps left runs b t out (record { either = inl (n, on.0, on.1, h) })))

pub table_refuse : {V : Type 0} (view : V → List ℕ) (left : ℕ) (runs : List ℕ) (a c d e : Source) (states after : List ℕ) (f : RecordFault) → LeadsTable (suc left) runs a c states →
    GivesIn (λ base. number_within base 0 left fault.Runs) c states d after (Err f) → Gives view table a e (Err f)
table_refuse view left runs a c d e states after f lead one = record { gives = λ b s st. inr (go b s (lead.leads b s st).0 (lead.leads b s st).1 (lead.leads b s st).2 (lead.leads b s st).3 (lead.leads b s st).4) }
  where
    go : (b : List ℕ) (s t : Spot) (steps : ℕ) → suc left ≤ steps → StandsIn c states b s.fresh t → ((out : Result (List ℕ × Spot) RecordFault) → runs_onto s.fresh steps (suc left) runs b t out → table b s out) → table b s (Err f)
    go b s t zero few st rest = absurd (omega arith)
    go b s t (suc steps) few st rest = rest (Err f) (run_step s.fresh steps left runs b t (Err f) (record { either = inr (f, one.gives b s.fresh t st, refl) }))

runs_done : (base steps : ℕ) (runs b : List ℕ) (t : Spot) → runs_onto base steps zero runs b t (Ok (runs, t))
unfolding runs_onto done
runs_done base steps runs b t = refl

pub table_end : {V : Type 0} (view : V → List ℕ) (v : V) (a c : Source) (states : List ℕ) → LeadsTable zero (view v) a c states → Gives view table a c (Ok v)
table_end view v a c states lead = record {
  gives = λ b s st.
      let on = lead.leads b s st in
      (on.0, on.4 (Ok (view v, on.0)) (runs_done s.fresh on.1 (view v) b on.0), on.3.stands);
}

-- the same where the number of entries left is stated otherwise
pub table_next_at : (left less rest run : ℕ) (runs : List ℕ) (a c d : Source) (states after : List ℕ) → 0 < left → rest + (less + 1) ≡ left → run ≡ less + 1 → LeadsTable left runs a c states →
    GivesIn (λ base. number_within base 0 (left - 1) fault.Runs) c states d after (Ok less) → LeadsTable rest (runs ++ (run ∷ [])) a d after
table_next_at (suc left) less rest run runs a c d states after some sum is lead one =
    let here : suc left - 1 ≡ left = omega arith in
    let there : rest ≡ left - less = omega arith in
    rw (there, is) (table_next left less runs a c d states after lead (rw here at one))
table_next_at zero less rest run runs a c d states after some sum is lead one = absurd (omega arith)

pub table_refuse_at : {V : Type 0} (view : V → List ℕ) (left : ℕ) (runs : List ℕ) (a c d e : Source) (states after : List ℕ) (f : RecordFault) → 0 < left → LeadsTable left runs a c states →
    GivesIn (λ base. number_within base 0 (left - 1) fault.Runs) c states d after (Err f) → Gives view table a e (Err f)
table_refuse_at view (suc left) runs a c d e states after f some lead one =
    let here : suc left - 1 ≡ left = omega arith in
    table_refuse view left runs a c d e states after f lead (rw here at one)
table_refuse_at view zero runs a c d e states after f some lead one = absurd (omega arith)

fold_last : (a : ℕ) (runs : List ℕ) (run : ℕ) → fold ◌+◌ a (runs ++ (run ∷ [])) ≡ fold ◌+◌ a runs + run
fold_last a [] run = refl
fold_last a (r ∷ rs) run = fold_last (a + r) rs run

-- one run more
pub run_more : (runs : List ℕ) (run left rest : ℕ) → sum runs + left ≡ 128 → rest + run ≡ left → sum (runs ++ (run ∷ [])) + rest ≡ 128
run_more runs run left rest all here = rw (fold_last 0 runs run) (omega arith)

pub run_each : (runs : List ℕ) (run : ℕ) → IsTrue (list_all (λ r. nat_lt 0 r) runs) → 0 < run → IsTrue (list_all (λ r. nat_lt 0 r) (runs ++ (run ∷ [])))
run_each [] run each some = rw (lt-ltb 0 run some) refl
run_each (r ∷ rs) run each some =
    let parts = both (nat_lt 0 r) (list_all (λ r. nat_lt 0 r) rs) each in
    rw parts.0 (run_each rs run parts.1 some)

pub all_filled : (runs : List ℕ) (left : ℕ) → sum runs + left ≡ 128 → left ≡ 0 → IsTrue (list_all (λ r. nat_lt 0 r) runs) → IsTrue (is_filled runs)
all_filled runs left all none each =
    let whole : sum runs ≡ 128 = omega arith in
    rw (each, whole) refl

pub few_contexts : (contexts : ℕ) → contexts ≤ 32768 → IsTrue (nat_le contexts 32768)
few_contexts contexts few = le-leb contexts 32768 few

pub many_contexts : (contexts : ℕ) → 32768 < contexts → IsFalse (nat_le contexts 32768)
many_contexts contexts many = grind (arith, nat_tests)

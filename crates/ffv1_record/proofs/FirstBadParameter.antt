-- The first parameter that is not good is the fault that a reading tells.
use Rattle.std.proofs.Common.{◌≡◌, refl, ℕ, zero, suc, ◌+◌, ◌-◌, ◌*◌, ◌^◌, ◌<◌, ◌≤◌, ◌⊎◌, inl, inr, Bool, true, false, not, IsTrue, IsFalse, nat_lt, nat_le, ◌&&◌, ◌||◌, List, [], ◌∷◌, ◌++◌, length, sum, append_assoc, append-nil, ap, sym, subst, ◌∙◌, arith, ℤ, Result, Ok, Err, rules}
use Rattle.std.specs.List.{list_all}
use Rattle.std.proofs.lemmas.Bool.{leb-true}
use Rattle.std.proofs.lemmas.Bool.Decides.{nat_tests}
use Rattle.ffv1_range.specs.Codes.{AreBytes}
use Rattle.ffv1_range.specs.Symbols.{Step, shifted, too_long}
use Rattle.ffv1_range.specs.Weight.{one_if}
use Rattle.ffv1_range.specs.Table.{Table}
use Rattle.ffv1_range.specs.Deltas.{IsTableOf}
use Rattle.ffv1_plane.specs.Quantisation.{Set, are_filled, is_filled, contexts_of}
use Rattle.ffv1_record.specs.declared.fault.RecordFault.{RecordFault}
use Rattle.ffv1_record.specs.declared.fault.RecordFault.TheVariants as fault
use Rattle.ffv1_record.specs.Configuration.{Configuration, is_rct}
use Rattle.ffv1_record.specs.Accepted.{is_depth}
use Rattle.ffv1_record.specs.Sets.{AreSets}
use Rattle.ffv1_record.specs.Writable.{AreDeltas}
use Rattle.ffv1_record.specs.Record.{IsCoded, number_steps, signed_number_steps, truth_steps, deltas_steps, coder_steps, runs_steps, set_steps, sets_steps, uncoded_steps, depth_of}
use Rattle.ffv1_record.specs.Reader.{Reader, Spot, behind, Then, ◌>>=◌, done, require, next_table, number, signed_number, truth, number_within, makes_table}
use Rattle.ffv1_record.specs.declared.planes.Planes.{Planes}
use Rattle.ffv1_record.specs.Reading.{colour_of, deltas_onto, coder_of, opening, depth, planes, count_of, runs_onto, table, set, sets_onto, uncoded, tables, flag, parameters, beginning}
use Rattle.ffv1_record.specs.Order.{Parameter, FirstBad, IsTooLong, IsBadNumber, AreBadDeltas, IsBadTable, IsBadSet, version, micro_version, coder_type, colorspace_type, bits_per_raw_sample, chroma_planes, log2_h_chroma_subsample, log2_v_chroma_subsample, extra_plane, num_h_slices, num_v_slices, quant_table_set_count, quant_table_sets, states_coded, ec, intra, in_order}
use Rattle.ffv1_record.proofs.Checks.{both}
use Rattle.ffv1_record.proofs.CodedIsRead.{coded_front, forced_number, forced_signed, forced_truth, forced_within, spot_of}
use Rattle.ffv1_record.proofs.CodedRecordIsRead.{forced_kind, forced_depth, forced_deltas, forced_flag, forced_uncoded, forced_set, forced_sets, forced_table, behind_table, sum_cons, colour_few}

-- ---- readings joined

then_ok : {X Y : Type 0} (first : Reader X) (next : X → Reader Y) (b : List ℕ) (s : Spot) (x : X) (t : Spot) (out : Result (Y × Spot) RecordFault) → first b s (Ok (x, t)) → next x b t out → Then first next b s out
then_ok first next b s x t out h k = record { either = inl (x, t, h, k) }

then_err : {X Y : Type 0} (first : Reader X) (next : X → Reader Y) (b : List ℕ) (s : Spot) (f : RecordFault) → first b s (Err f) → Then first next b s (Err f)
then_err first next b s f h = record { either = inr (f, h, refl) }

require_ok : (test : Bool) (f : RecordFault) (b : List ℕ) (s : Spot) → IsTrue test → require test f b s (Ok (true, s))
unfolding require
require_ok true f b s h = refl
require_ok false f b s h = absurd (search rules)

require_err : (test : Bool) (f : RecordFault) (b : List ℕ) (s : Spot) → IsFalse test → require test f b s (Err f)
unfolding require
require_err true f b s h = absurd (search rules)
require_err false f b s h = refl

outside : (least most n : ℕ) → ((least ≤ n) × (n ≤ most) → ⊥) → IsFalse (nat_le least n && nat_le n most)
outside least most n bad = decide (nat_le least n && nat_le n most) refl
  where
    decide : (test : Bool) → test ≡ (nat_le least n && nat_le n most) → IsFalse test
    decide false is = refl
    decide true is =
        let parts = both (nat_le least n) (nat_le n most) (sym is) in
        absurd (bad (leb-true least n parts.0, leb-true n most parts.1))

module _ (b : List ℕ) (are : AreBytes b) where
  -- ---- single symbols

  long_number : (base : ℕ) (s : Spot) (steps : List Step) (f : RecordFault) → IsTooLong base steps f → IsCoded b (s.past ++ steps) → number base b s (Err f)
  unfolding number
  long_number base s steps f long coded = inr (subst (λ x. IsCoded b (s.past ++ x)) long.0 coded, ap (λ g. Err g) long.1)

  some_number : (base : ℕ) (s : Spot) (n : ℕ) → n < 2 ^ 31 → IsCoded b (s.past ++ number_steps base n) → number base b s (Ok (n, behind s (number_steps base n)))
  some_number base s n small coded = (forced_number b are base s n small).reads coded

  bad_within : (base least most : ℕ) (wrong : RecordFault) (s : Spot) (steps : List Step) (f : RecordFault) → IsBadNumber base (λ n. (least ≤ n) × (n ≤ most)) wrong steps f → IsCoded b (s.past ++ steps) → number_within base least most wrong b s (Err f)
  bad_within base least most wrong s steps f bad coded = elim bad [
    | inl e ↦
        let here = subst (λ x. IsCoded b (s.past ++ x)) e.3 coded in
        subst (λ g. number_within base least most wrong b s (Err g)) (sym e.4)
        (then_ok (number base) _ b s e.0 (behind s (number_steps base e.0)) (Err wrong) (some_number base s e.0 e.1 here) (then_err (require (nat_le least e.0 && nat_le e.0 most) wrong) _ b (behind s (number_steps base e.0)) wrong (require_err (nat_le least e.0 && nat_le e.0 most) wrong b (behind s (number_steps base e.0)) (outside least most e.0 e.2))))
    | inr e ↦ then_err (number base) _ b s f (long_number base s steps f e coded)
  ]

  good_within : (base least most : ℕ) (wrong : RecordFault) (s : Spot) (n : ℕ) → n < 2 ^ 31 → least ≤ n → n ≤ most → IsCoded b (s.past ++ number_steps base n) → number_within base least most wrong b s (Ok (n, behind s (number_steps base n)))
  good_within base least most wrong s n small low high coded = (forced_within b are base least most wrong s n small low high).reads coded

  bad_depth : (most : ℕ) (s : Spot) (steps : List Step) (f : RecordFault) → IsBadNumber 0 (λ n. IsTrue (is_depth most (depth_of n))) fault.Depth steps f → IsCoded b (s.past ++ steps) → depth most b s (Err f)
  bad_depth most s steps f bad coded = elim bad [
    | inl e ↦
        let here = subst (λ x. IsCoded b (s.past ++ x)) e.3 coded in
        subst (λ g. depth most b s (Err g)) (sym e.4)
        (then_ok (number 0) _ b s e.0 (behind s (number_steps 0 e.0)) (Err fault.Depth) (some_number 0 s e.0 e.1 here) (then_err (require (is_depth most (depth_of e.0)) fault.Depth) _ b (behind s (number_steps 0 e.0)) fault.Depth (require_err (is_depth most (depth_of e.0)) fault.Depth b (behind s (number_steps 0 e.0)) (untrue (is_depth most (depth_of e.0)) e.2))))
    | inr e ↦ then_err (number 0) _ b s f (long_number 0 s steps f e coded)
  ]
    where
      untrue : (test : Bool) → (IsTrue test → ⊥) → IsFalse test
      untrue true bad = absurd (bad refl)
      untrue false bad = refl

  long_signed : (s : Spot) → IsCoded b (s.past ++ shifted 0 too_long) → signed_number b s (Err fault.SymbolTooLong)
  unfolding signed_number
  long_signed s coded = inr (coded, refl)

  -- deltas that have symbols, and then one that is too long
  long_deltas : (ds : List ℤ) (k : ℕ) (acc : List ℤ) (s : Spot) → AreDeltas ds → length ds < k → IsCoded b (s.past ++ (deltas_steps ds ++ shifted 0 too_long)) → deltas_onto k acc b s (Err fault.SymbolTooLong)
  unfolding deltas_onto
  long_deltas ds zero acc s are_ds few coded = absurd (omega arith)
  long_deltas [] (suc k) acc s are_ds few coded = then_err signed_number _ b s fault.SymbolTooLong (long_signed s coded)
  long_deltas (d ∷ ds) (suc k) acc s are_ds few coded =
      let t = behind s (signed_number_steps d) in
      let there : IsCoded b (t.past ++ (deltas_steps ds ++ shifted 0 too_long)) = subst (IsCoded b) (regroup s.past (signed_number_steps d) (deltas_steps ds) (shifted 0 too_long)) coded in
      let here = coded_front b are t.past (deltas_steps ds ++ shifted 0 too_long) there in
      then_ok signed_number _ b s d t (Err fault.SymbolTooLong) ((forced_signed b are s d are_ds.0).reads here) (long_deltas ds k (acc ++ (d ∷ [])) t are_ds.1 (omega arith) there)
    where
      regroup : (p x y z : List Step) → p ++ (x ++ y ++ z) ≡ p ++ x ++ (y ++ z)
      regroup p x y z = ap (λ q. p ++ q) (append_assoc x y z) ∙ sym (append_assoc p x (y ++ z))

  none_made : (ds : List ℤ) (s : Spot) → ((t : Table) → IsTableOf ds t → ⊥) → makes_table ds b s (Err fault.StateTable)
  unfolding makes_table
  none_made ds s none = inr (none, refl)

  bad_coder : (least : ℕ) → least ≤ 2 → (s : Spot) (steps : List Step) (f : RecordFault) → IsBadNumber 0 (λ n. (least ≤ n) × (n ≤ 2)) fault.Coder steps f ⊎ AreBadDeltas steps f → IsCoded b (s.past ++ steps) → (number_within 0 least 2 fault.Coder >>= coder_of) b s (Err f)
  bad_coder least few s steps f bad coded = elim bad [
    | inl e ↦ then_err (number_within 0 least 2 fault.Coder) coder_of b s f (bad_within 0 least 2 fault.Coder s steps f e coded)
    | inr e ↦
        let ds = e.0 in
        let t = behind s (number_steps 0 2) in
        elim e.2 [
          | inl d ↦
              let there : IsCoded b (t.past ++ (deltas_steps ds ++ shifted 0 too_long)) = subst (IsCoded b) (ap (λ z. s.past ++ z) d.1 ∙ sym (append_assoc s.past (number_steps 0 2) (deltas_steps ds ++ shifted 0 too_long))) coded in
              let here = coded_front b are t.past (deltas_steps ds ++ shifted 0 too_long) there in
              subst (λ g. (number_within 0 least 2 fault.Coder >>= coder_of) b s (Err g)) (sym d.2)
              (then_ok (number_within 0 least 2 fault.Coder) coder_of b s 2 t (Err fault.SymbolTooLong) (good_within 0 least 2 fault.Coder s 2 (omega arith) few (omega arith) here)
              (then_err (deltas_onto 255 []) _ b t fault.SymbolTooLong (long_deltas ds 255 [] t e.1 d.0 there)))
          | inr d ↦
              let there : IsCoded b (t.past ++ deltas_steps ds) = subst (IsCoded b) (ap (λ z. s.past ++ z) d.2 ∙ sym (append_assoc s.past (number_steps 0 2) (deltas_steps ds))) coded in
              let here = coded_front b are t.past (deltas_steps ds) there in
              let read = rw d.0 at (forced_deltas b are ds [] t e.1) in
              subst (λ g. (number_within 0 least 2 fault.Coder >>= coder_of) b s (Err g)) (sym d.3)
              (then_ok (number_within 0 least 2 fault.Coder) coder_of b s 2 t (Err fault.StateTable) (good_within 0 least 2 fault.Coder s 2 (omega arith) few (omega arith) here)
              (then_ok (deltas_onto 255 []) _ b t ds (behind t (deltas_steps ds)) (Err fault.StateTable) (read.reads there)
              (then_err (makes_table ds) _ b (behind t (deltas_steps ds)) fault.StateTable (none_made ds (behind t (deltas_steps ds)) d.1))))
        ]
  ]

  -- ---- sets

  regroup : (p x y z : List Step) → p ++ (x ++ y ++ z) ≡ p ++ x ++ (y ++ z)
  regroup p x y z = ap (λ q. p ++ q) (append_assoc x y z) ∙ sym (append_assoc p x (y ++ z))

  bad_runs : (base : ℕ) (runs : List ℕ) (steps left more : ℕ) (acc : List ℕ) (s : Spot) (tail : List Step) (f : RecordFault) → IsTrue (list_all (λ r. nat_lt 0 r) runs) → sum runs + suc more ≡ left → left ≤ steps → left ≤ 128 →
      IsCoded b (s.past ++ (runs_steps base runs ++ tail)) → IsBadNumber base (λ n. (0 ≤ n) × (n ≤ more)) fault.Runs tail f → runs_onto base steps left acc b s (Err f)
  unfolding runs_onto
  bad_runs base runs steps zero more acc s tail f each all few small coded bad = absurd (omega arith)
  bad_runs base runs zero (suc left) more acc s tail f each all few small coded bad = absurd (omega arith)
  bad_runs base [] (suc steps) (suc left) more acc s tail f each all few small coded bad =
      let same : more ≡ left = omega (arith, all) in
      then_err (number_within base 0 left fault.Runs) _ b s f (bad_within base 0 left fault.Runs s tail f (subst (λ m. IsBadNumber base (λ n. (0 ≤ n) × (n ≤ m)) fault.Runs tail f) same bad) coded)
  bad_runs base (zero ∷ runs) (suc steps) (suc left) more acc s tail f each all few small coded bad = absurd (search rules)
  bad_runs base (suc r ∷ runs) (suc steps) (suc left) more acc s tail f each all few small coded bad =
      let cons = sum_cons (suc r) runs in
      let low : r ≤ left = omega (arith, all, cons) in
      let tiny : r < 2 ^ 31 = omega (arith, low) in
      let back : suc r - 1 ≡ r = omega arith in
      let t = behind s (number_steps base r) in
      let there : IsCoded b (t.past ++ (runs_steps base runs ++ tail)) = subst (IsCoded b) (ap (λ k. s.past ++ (number_steps base k ++ runs_steps base runs ++ tail)) back ∙ regroup s.past (number_steps base r) (runs_steps base runs) tail) coded in
      then_ok (number_within base 0 left fault.Runs) _ b s r t (Err f) (good_within base 0 left fault.Runs s r tiny (omega arith) low (coded_front b are t.past (runs_steps base runs ++ tail) there))
      (bad_runs base runs steps (left - r) more (acc ++ ((r + 1) ∷ [])) t tail f (both (nat_lt 0 (suc r)) (list_all (λ r. nat_lt 0 r) runs) each).1 (omega (arith, all, cons, low)) (omega (arith, few)) (omega (arith, small)) there bad)

  bad_table : (s : Spot) (steps : List Step) (f : RecordFault) → IsBadTable s.fresh steps f → IsCoded b (s.past ++ steps) → table b s (Err f)
  unfolding next_table
  bad_table s steps f bad coded =
      let t : Spot = record { past = s.past; fresh = s.fresh + 32 } in
      then_ok next_table _ b s s.fresh t (Err f) refl
      (bad_runs s.fresh bad.0 128 128 bad.3 [] t bad.1 f bad.2 bad.4 (omega arith) (omega arith) (subst (λ x. IsCoded b (s.past ++ x)) bad.5 coded) bad.6)

  -- so many tables, and what follows them
  chain : {Y : Type 0} → ℕ → (Set → Reader Y) → Set → Reader Y
  chain zero next acc = next acc
  chain (suc k) next acc = table >>= λ runs. chain k next (acc ++ (runs ∷ []))

  table_read : (s : Spot) (runs : List ℕ) → IsTrue (is_filled runs) → IsCoded b (s.past ++ runs_steps s.fresh runs) → table b s (Ok (runs, behind_table s (runs_steps s.fresh runs)))
  table_read s runs filled coded = (forced_table b are s runs filled).reads coded

  bad_tables : (next : Set → Reader Set) (tables : Set) (k : ℕ) (acc : Set) (s : Spot) (tail : List Step) (f : RecordFault) → IsTrue (are_filled tables) → length tables < k → IsCoded b (s.past ++ (set_steps s.fresh tables ++ tail)) →
      IsBadTable (s.fresh + 32 * length tables) tail f → chain k next acc b s (Err f)
  unfolding chain
  bad_tables next tables zero acc s tail f filled few coded bad = absurd (omega arith)
  bad_tables next [] (suc k) acc s tail f filled few coded bad =
      let here : s.fresh + 32 * 0 ≡ s.fresh = omega arith in
      then_err table _ b s f (bad_table s tail f (subst (λ n. IsBadTable n tail f) here bad) coded)
  bad_tables next (runs ∷ tables) (suc k) acc s tail f filled few coded bad =
      let parts = both (is_filled runs) (are_filled tables) filled in
      let t = behind_table s (runs_steps s.fresh runs) in
      let there : IsCoded b (t.past ++ (set_steps t.fresh tables ++ tail)) = subst (IsCoded b) (regroup s.past (runs_steps s.fresh runs) (set_steps (s.fresh + 32) tables) tail) coded in
      let place : s.fresh + 32 * suc (length tables) ≡ s.fresh + 32 + 32 * length tables = omega arith in
      then_ok table _ b s runs t (Err f) (table_read s runs parts.0 (coded_front b are t.past (set_steps t.fresh tables ++ tail) there))
      (bad_tables next tables k (acc ++ (runs ∷ [])) t tail f parts.1 (omega (arith, few)) there (subst (λ n. IsBadTable n tail f) place bad))

  all_tables : (next : Set → Reader Set) (tables acc : Set) (s : Spot) (f : RecordFault) → IsTrue (are_filled tables) → IsCoded b (s.past ++ set_steps s.fresh tables) → ((u : Spot) → next (acc ++ tables) b u (Err f)) → chain (length tables) next acc b s (Err f)
  unfolding chain
  all_tables next [] acc s f filled coded last = subst (λ (z : Set). next z b s (Err f)) (append-nil acc) (last s)
  all_tables next (runs ∷ tables) acc s f filled coded last =
      let parts = both (is_filled runs) (are_filled tables) filled in
      let t = behind_table s (runs_steps s.fresh runs) in
      let there : IsCoded b (t.past ++ set_steps t.fresh tables) = subst (IsCoded b) (sym (append_assoc s.past (runs_steps s.fresh runs) (set_steps (s.fresh + 32) tables))) coded in
      then_ok table _ b s runs t (Err f) (table_read s runs parts.0 (coded_front b are t.past (set_steps t.fresh tables) there))
      (all_tables next tables (acc ++ (runs ∷ [])) t f parts.1 there (λ u. subst (λ (z : Set). next z b u (Err f)) (sym (append_assoc acc (runs ∷ []) tables)) (last u)))

  abbrev judged : Set → Reader Set
  judged all = require (nat_le (contexts_of all) 32768) fault.Contexts >>= λ _. done all

  bad_set : (s : Spot) (steps : List Step) (f : RecordFault) → IsBadSet s.fresh steps f → IsCoded b (s.past ++ steps) → set b s (Err f)
  unfolding chain
  bad_set s steps f bad coded = elim bad [
    | inl e ↦ bad_tables judged e.0 5 [] s e.1 f e.2 e.3 (subst (λ x. IsCoded b (s.past ++ x)) e.4 coded) e.5
    | inr e ↦
        let many : (u : Spot) → judged e.0 b u (Err fault.Contexts) = λ u. then_err (require (nat_le (contexts_of e.0) 32768) fault.Contexts) _ b u fault.Contexts (require_err (nat_le (contexts_of e.0) 32768) fault.Contexts b u (above (contexts_of e.0) e.3)) in
        subst (λ g. set b s (Err g)) (sym e.5)
        (rw e.2 at (all_tables judged e.0 [] s fault.Contexts e.1 (subst (λ x. IsCoded b (s.past ++ x)) e.4 coded) many))
  ]
    where
      above : (n : ℕ) → 32768 < n → IsFalse (nat_le n 32768)
      above n high = grind (arith, nat_tests)

  bad_sets : (sets : List Set) (k : ℕ) (acc : List Set) (s : Spot) (tail : List Step) (f : RecordFault) → AreSets sets → length sets < k → IsCoded b (s.past ++ (sets_steps s.fresh sets ++ tail)) → IsBadSet (s.fresh + 160 * length sets) tail f → sets_onto k acc b s (Err f)
  unfolding sets_onto
  bad_sets sets zero acc s tail f are_sets few coded bad = absurd (omega arith)
  bad_sets [] (suc k) acc s tail f are_sets few coded bad =
      let here : s.fresh + 160 * 0 ≡ s.fresh = omega arith in
      then_err set _ b s f (bad_set s tail f (subst (λ n. IsBadSet n tail f) here bad) coded)
  bad_sets (x ∷ sets) (suc k) acc s tail f are_sets few coded bad =
      let t : Spot = record { past = s.past ++ set_steps s.fresh x; fresh = s.fresh + 160 } in
      let there : IsCoded b (t.past ++ (sets_steps t.fresh sets ++ tail)) = subst (IsCoded b) (regroup s.past (set_steps s.fresh x) (sets_steps (s.fresh + 160) sets) tail) coded in
      let place : s.fresh + 160 * suc (length sets) ≡ s.fresh + 160 + 160 * length sets = omega arith in
      then_ok set _ b s x t (Err f) ((forced_set b are s x are_sets.0).reads (coded_front b are t.past (sets_steps t.fresh sets ++ tail) there))
      (bad_sets sets k (acc ++ (x ∷ [])) t tail f are_sets.1 (omega (arith, few)) there (subst (λ n. IsBadSet n tail f) place bad))

  coded_states : (k n : ℕ) (s : Spot) → k < n → IsCoded b (s.past ++ (uncoded_steps k ++ truth_steps true)) → uncoded n b s (Err fault.CodedStates)
  unfolding uncoded
  coded_states k zero s few coded = absurd (omega arith)
  coded_states zero (suc n) s few coded =
      let t = behind s (truth_steps true) in
      then_ok truth _ b s true t (Err fault.CodedStates) ((forced_truth b are s true).reads coded) (then_err (require false fault.CodedStates) _ b t fault.CodedStates (require_err false fault.CodedStates b t refl))
  coded_states (suc k) (suc n) s few coded =
      let t = behind s (truth_steps false) in
      let there : IsCoded b (t.past ++ (uncoded_steps k ++ truth_steps true)) = subst (IsCoded b) (regroup s.past (truth_steps false) (uncoded_steps k) (truth_steps true)) coded in
      then_ok truth _ b s false t (Err fault.CodedStates) ((forced_truth b are s false).reads (coded_front b are t.past (uncoded_steps k ++ truth_steps true) there))
      (then_ok (require true fault.CodedStates) _ b t true t (Err fault.CodedStates) (require_ok true fault.CodedStates b t refl) (coded_states k n t (omega (arith, few)) there))

  -- ---- a reading of parameters: the fault, or their values and what is left of the fault's place

  module _ (bits : ℕ) (c : Configuration) (f : RecordFault) where
    first_coded : (ps : List Parameter) (past : List Step) → FirstBad ps b past bits c f → IsCoded b past
    first_coded [] past h = absurd h
    first_coded (p ∷ ps) past h = elim h [
      | inl e ↦ coded_front b are past e.0 e.2
      | inr e ↦ coded_front b are past (p.steps bits c) (first_coded ps (past ++ p.steps bits c) e.1)
    ]

    pub Goes : {X : Type 0} → Reader X → Spot → X → Spot → List Parameter → Type 0
    Goes r s x t ps = r b s (Err f) ⊎ (r b s (Ok (x, t)) × FirstBad ps b t.past bits c f)

    step : {X : Type 0} (p : Parameter) (ps : List Parameter) (r : Reader X) (s : Spot) (x : X) (t : Spot) → t.past ≡ s.past ++ p.steps bits c →
        ((steps : List Step) → p.Fails c steps f → IsCoded b (s.past ++ steps) → r b s (Err f)) → (p.IsGood bits c → IsCoded b (s.past ++ p.steps bits c) → r b s (Ok (x, t))) → FirstBad (p ∷ ps) b s.past bits c f → Goes r s x t ps
    unfolding Goes
    step p ps r s x t past fails good h = elim h [
      | inl e ↦ inl (fails e.0 e.1 e.2)
      | inr e ↦ inr (good e.0 (first_coded ps (s.past ++ p.steps bits c) e.1), subst (λ z. FirstBad ps b z bits c f) (sym past) e.1)
    ]

    join : {X Y : Type 0} (first : Reader X) (next : X → Reader Y) (s : Spot) (x : X) (t : Spot) (y : Y) (u : Spot) (ps qs : List Parameter) → Goes first s x t ps → (FirstBad ps b t.past bits c f → Goes (next x) t y u qs) → Goes (first >>= next) s y u qs
    unfolding Goes
    join first next s x t y u ps qs one rest = elim one [
      | inl e ↦ inl (then_err first next b s f e)
      | inr e ↦ elim (rest e.1) [
        | inl d ↦ inl (then_ok first next b s x t (Err f) e.0 d)
        | inr d ↦ inr (then_ok first next b s x t (Ok (y, u)) e.0 d.0, d.1)
      ]
    ]

    finish : {X : Type 0} (x : X) (s : Spot) (ps : List Parameter) → FirstBad ps b s.past bits c f → Goes (done x) s x s ps
    unfolding Goes done
    finish x s ps h = inr (refl, h)

    -- the number of a parameter
    in_number : (p : Parameter) (ps : List Parameter) (s : Spot) (n : ℕ) → p.steps bits c ≡ number_steps 0 n → ((steps : List Step) → p.Fails c steps f → IsTooLong 0 steps f) → (p.IsGood bits c → n < 2 ^ 31) →
        FirstBad (p ∷ ps) b s.past bits c f → Goes (number 0) s n (behind s (number_steps 0 n)) ps
    in_number p ps s n is fails good h = step p ps (number 0) s n (behind s (number_steps 0 n)) (ap (λ z. s.past ++ z) (sym is)) (λ steps e coded. long_number 0 s steps f (fails steps e) coded)
        (λ e coded. some_number 0 s n (good e) (subst (λ z. IsCoded b (s.past ++ z)) is coded)) h

    in_opening : (least : ℕ) → least ≤ 2 → (ps : List Parameter) (s : Spot) → FirstBad (version ∷ micro_version ∷ coder_type least ∷ ps) b s.past bits c f →
        Goes (opening least) s c.coder (behind (behind (behind s (number_steps 0 3)) (number_steps 0 4)) (coder_steps c.coder)) ps
    in_opening least few ps s h =
        let one = behind s (number_steps 0 3) in
        let two = behind one (number_steps 0 4) in
        let three = behind two (coder_steps c.coder) in
        join (number_within 0 3 3 fault.Version) _ s 3 one c.coder three (micro_version ∷ coder_type least ∷ ps) ps
        (step version (micro_version ∷ coder_type least ∷ ps) (number_within 0 3 3 fault.Version) s 3 one refl (λ steps e coded. bad_within 0 3 3 fault.Version s steps f e coded) (λ e coded. good_within 0 3 3 fault.Version s 3 (omega arith) (omega arith) (omega arith) coded) h)
        (λ h. join (number_within 0 4 4 fault.MicroVersion) _ one 4 two c.coder three (coder_type least ∷ ps) ps
        (step micro_version (coder_type least ∷ ps) (number_within 0 4 4 fault.MicroVersion) one 4 two refl (λ steps e coded. bad_within 0 4 4 fault.MicroVersion one steps f e coded) (λ e coded. good_within 0 4 4 fault.MicroVersion one 4 (omega arith) (omega arith) (omega arith) coded) h)
        (λ h. step (coder_type least) ps (number_within 0 least 2 fault.Coder >>= coder_of) two c.coder three refl (λ steps e coded. bad_coder least few two steps f e coded) (λ e coded. (forced_kind b are least two c.coder e.0.0 e.0.1 e.1 e.2).reads coded) h))

    -- the planes that c tells
    planes_read : Planes
    planes_read = record { colour = colour_of (one_if (is_rct c.colour)); depth = depth_of bits; chroma_planes = c.chroma_planes; extra_plane = c.extra_plane; log2_h = c.log2_h; log2_v = c.log2_v }

    extra_read : Reader Planes
    extra_read = do
      extra ← truth
      _ ← require (c.chroma_planes || not extra) fault.ExtraPlane
      done (record { colour = colour_of (one_if (is_rct c.colour)); depth = depth_of bits; chroma_planes = c.chroma_planes; extra_plane = extra; log2_h = c.log2_h; log2_v = c.log2_v })

    in_extra : (ps : List Parameter) (s : Spot) → FirstBad (extra_plane ∷ ps) b s.past bits c f → Goes extra_read s planes_read (behind s (truth_steps c.extra_plane)) ps
    unfolding extra_read planes_read done
    in_extra ps s h = step extra_plane ps extra_read s planes_read (behind s (truth_steps c.extra_plane)) refl
        (λ steps e coded.
        let t = behind s (truth_steps true) in
        subst (λ g. extra_read b s (Err g)) (sym e.2)
        (then_ok truth _ b s true t (Err fault.ExtraPlane) ((forced_truth b are s true).reads (subst (λ x. IsCoded b (s.past ++ x)) e.1 coded))
        (then_err (require (c.chroma_planes || not true) fault.ExtraPlane) _ b t fault.ExtraPlane (require_err (c.chroma_planes || not true) fault.ExtraPlane b t (rw e.0 refl)))))
        (λ e coded.
        let t = behind s (truth_steps c.extra_plane) in
        then_ok truth _ b s c.extra_plane t (Ok (planes_read, t)) ((forced_truth b are s c.extra_plane).reads coded)
        (then_ok (require (c.chroma_planes || not c.extra_plane) fault.ExtraPlane) _ b t true t (Ok (planes_read, t)) (require_ok (c.chroma_planes || not c.extra_plane) fault.ExtraPlane b t e) refl)) h

    -- after the planes
    planes_end : Spot → Spot
    planes_end s = behind (behind (behind (behind (behind (behind s (number_steps 0 (one_if (is_rct c.colour)))) (number_steps 0 bits)) (truth_steps c.chroma_planes)) (number_steps 0 c.log2_h)) (number_steps 0 c.log2_v)) (truth_steps c.extra_plane)

    in_planes : (most : ℕ) (ps : List Parameter) (s : Spot) → FirstBad (colorspace_type ∷ bits_per_raw_sample most ∷ chroma_planes ∷ log2_h_chroma_subsample ∷ log2_v_chroma_subsample ∷ extra_plane ∷ ps) b s.past bits c f → Goes (planes most) s planes_read (planes_end s) ps
    unfolding planes_end extra_read
    in_planes most ps s h =
        let kind = one_if (is_rct c.colour) in
        let tiny = colour_few c.colour in
        let one = behind s (number_steps 0 kind) in
        let two = behind one (number_steps 0 bits) in
        let three = behind two (truth_steps c.chroma_planes) in
        let four = behind three (number_steps 0 c.log2_h) in
        let five = behind four (number_steps 0 c.log2_v) in
        let end = behind five (truth_steps c.extra_plane) in
        join (number_within 0 0 1 fault.ColourSpace) _ s kind one planes_read end (bits_per_raw_sample most ∷ chroma_planes ∷ log2_h_chroma_subsample ∷ log2_v_chroma_subsample ∷ extra_plane ∷ ps) ps
        (step colorspace_type (bits_per_raw_sample most ∷ chroma_planes ∷ log2_h_chroma_subsample ∷ log2_v_chroma_subsample ∷ extra_plane ∷ ps) (number_within 0 0 1 fault.ColourSpace) s kind one refl
        (λ steps e coded. bad_within 0 0 1 fault.ColourSpace s steps f e coded) (λ e coded. good_within 0 0 1 fault.ColourSpace s kind (omega (arith, tiny)) (omega arith) tiny coded) h)
        (λ h. join (depth most) _ one (depth_of bits) two planes_read end (chroma_planes ∷ log2_h_chroma_subsample ∷ log2_v_chroma_subsample ∷ extra_plane ∷ ps) ps
        (step (bits_per_raw_sample most) (chroma_planes ∷ log2_h_chroma_subsample ∷ log2_v_chroma_subsample ∷ extra_plane ∷ ps) (depth most) one (depth_of bits) two refl
        (λ steps e coded. bad_depth most one steps f e coded)
        (λ e coded. (forced_depth b are most one bits e).reads coded) h)
        (λ h. join truth _ two c.chroma_planes three planes_read end (log2_h_chroma_subsample ∷ log2_v_chroma_subsample ∷ extra_plane ∷ ps) ps
        (step chroma_planes (log2_h_chroma_subsample ∷ log2_v_chroma_subsample ∷ extra_plane ∷ ps) truth two c.chroma_planes three refl (λ steps e coded. absurd e) (λ e coded. (forced_truth b are two c.chroma_planes).reads coded) h)
        (λ h. join (number 0) _ three c.log2_h four planes_read end (log2_v_chroma_subsample ∷ extra_plane ∷ ps) ps
        (in_number log2_h_chroma_subsample (log2_v_chroma_subsample ∷ extra_plane ∷ ps) three c.log2_h refl (λ steps e. e) (λ e. e) h)
        (λ h. join (number 0) _ four c.log2_v five planes_read end (extra_plane ∷ ps) ps
        (in_number log2_v_chroma_subsample (extra_plane ∷ ps) four c.log2_v refl (λ steps e. e) (λ e. e) h)
        (λ h. in_extra ps five h)))))

    in_count : (p : Parameter) (ps : List Parameter) (s : Spot) (n : ℕ) → p.steps bits c ≡ number_steps 0 n → ((steps : List Step) → p.Fails c steps f → IsTooLong 0 steps f) → (p.IsGood bits c → n < 2 ^ 31) →
        FirstBad (p ∷ ps) b s.past bits c f → Goes count_of s (n + 1) (behind s (number_steps 0 n)) ps
    in_count p ps s n is fails good h =
        let t = behind s (number_steps 0 n) in
        join (number 0) (λ n. done (n + 1)) s n t (n + 1) t ps ps (in_number p ps s n is fails good h) (λ h. finish (n + 1) t ps h)

    sets_end : List Step → Spot
    sets_end past = spot_of (past ++ sets_steps 32 c.sets) (32 + 160 * length c.sets)

    in_tables : (ps : List Parameter) (past : List Step) → FirstBad (quant_table_set_count ∷ quant_table_sets ∷ states_coded ∷ ps) b past bits c f →
        Goes tables (spot_of past 32) c.sets (behind (sets_end (past ++ number_steps 0 (length c.sets))) (uncoded_steps (length c.sets))) ps
    unfolding sets_end
    in_tables ps past h =
        let n = length c.sets in
        let s = spot_of past 32 in
        let one = behind s (number_steps 0 n) in
        let two = spot_of (one.past ++ sets_steps 32 c.sets) (32 + 160 * n) in
        let end = behind two (uncoded_steps n) in
        join (number_within 0 1 8 fault.Sets) _ s n one c.sets end (quant_table_sets ∷ states_coded ∷ ps) ps
        (step quant_table_set_count (quant_table_sets ∷ states_coded ∷ ps) (number_within 0 1 8 fault.Sets) s n one refl (λ steps e coded. bad_within 0 1 8 fault.Sets s steps f e coded)
        (λ e coded. let few = e.1 in good_within 0 1 8 fault.Sets s n (omega (arith, few)) e.0 e.1 coded) h)
        (λ h. join (sets_onto n []) _ one c.sets two c.sets end (states_coded ∷ ps) ps
        (step quant_table_sets (states_coded ∷ ps) (sets_onto n []) one c.sets two refl (λ steps e coded. bad_sets e.0 n [] one e.1 f e.2 e.3 (subst (λ x. IsCoded b (one.past ++ x)) e.4 coded) e.5)
        (λ e coded. (forced_sets b are c.sets [] one e).reads coded) h)
        (λ h. join (uncoded n) _ two true end c.sets end ps ps
        (step states_coded ps (uncoded n) two true end refl (λ steps e coded. subst (λ g. uncoded n b two (Err g)) (sym e.3) (coded_states e.0 n two e.1 (subst (λ x. IsCoded b (two.past ++ x)) e.2 coded)))
        (λ e coded. (forced_uncoded b are n two).reads coded) h)
        (λ h. finish c.sets end ps h)))

    in_flag : (p : Parameter) (ps : List Parameter) (wrong : RecordFault) (s : Spot) (x : Bool) → p.steps bits c ≡ number_steps 0 (one_if x) → ((steps : List Step) → p.Fails c steps f → IsBadNumber 0 (λ n. (0 ≤ n) × (n ≤ 1)) wrong steps f) →
        FirstBad (p ∷ ps) b s.past bits c f → Goes (flag wrong) s x (behind s (number_steps 0 (one_if x))) ps
    in_flag p ps wrong s x is fails h =
        step p ps (flag wrong) s x (behind s (number_steps 0 (one_if x))) (ap (λ z. s.past ++ z) (sym is))
        (λ steps e coded. then_err (number_within 0 0 1 wrong) _ b s f (bad_within 0 0 1 wrong s steps f (fails steps e) coded))
        (λ e coded. (forced_flag b are wrong s x).reads (subst (λ z. IsCoded b (s.past ++ z)) is coded)) h

    -- all of them
    pub ordered : (least : ℕ) → least ≤ 2 → (most width height : ℕ) → FirstBad (in_order least most) b [] bits c f → parameters least most width height b beginning (Err f)
    unfolding Goes planes_end sets_end
    ordered least few most width height h = elim whole [ inl e ↦ e | inr e ↦ absurd e.1 ]
      where
        one : Spot
        one = behind (behind (behind beginning (number_steps 0 3)) (number_steps 0 4)) (coder_steps c.coder)

        two : Spot
        two = planes_end one

        three : Spot
        three = behind two (number_steps 0 (c.columns - 1))

        four : Spot
        four = behind three (number_steps 0 (c.rows - 1))

        five : Spot
        five = behind (sets_end (four.past ++ number_steps 0 (length c.sets))) (uncoded_steps (length c.sets))

        six : Spot
        six = behind five (number_steps 0 (one_if c.ec))

        end : Spot
        end = behind six (number_steps 0 (one_if c.intra))

        read : Configuration
        read = record {
          width = width;
          height = height;
          depth = planes_read.depth;
          coder = c.coder;
          colour = planes_read.colour;
          chroma_planes = planes_read.chroma_planes;
          extra_plane = planes_read.extra_plane;
          log2_h = planes_read.log2_h;
          log2_v = planes_read.log2_v;
          columns = c.columns - 1 + 1;
          rows = c.rows - 1 + 1;
          sets = c.sets;
          ec = c.ec;
          intra = c.intra;
        }

        whole : Goes (parameters least most width height) beginning read end []
        whole =
            join (opening least) _ beginning c.coder one read end (colorspace_type ∷ bits_per_raw_sample most ∷ chroma_planes ∷ log2_h_chroma_subsample ∷ log2_v_chroma_subsample ∷ extra_plane ∷ num_h_slices ∷ num_v_slices ∷ quant_table_set_count ∷ quant_table_sets ∷ states_coded ∷ ec ∷ intra ∷ []) [] (in_opening least few (colorspace_type ∷ bits_per_raw_sample most ∷ chroma_planes ∷ log2_h_chroma_subsample ∷ log2_v_chroma_subsample ∷ extra_plane ∷ num_h_slices ∷ num_v_slices ∷ quant_table_set_count ∷ quant_table_sets ∷ states_coded ∷ ec ∷ intra ∷ []) beginning h) (λ h.
            join (planes most) _ one planes_read two read end (num_h_slices ∷ num_v_slices ∷ quant_table_set_count ∷ quant_table_sets ∷ states_coded ∷ ec ∷ intra ∷ []) [] (in_planes most (num_h_slices ∷ num_v_slices ∷ quant_table_set_count ∷ quant_table_sets ∷ states_coded ∷ ec ∷ intra ∷ []) one h) (λ h.
            join count_of _ two (c.columns - 1 + 1) three read end (num_v_slices ∷ quant_table_set_count ∷ quant_table_sets ∷ states_coded ∷ ec ∷ intra ∷ []) [] (in_count num_h_slices (num_v_slices ∷ quant_table_set_count ∷ quant_table_sets ∷ states_coded ∷ ec ∷ intra ∷ []) two (c.columns - 1) refl (λ steps e. e) (λ e. e) h) (λ h.
            join count_of _ three (c.rows - 1 + 1) four read end (quant_table_set_count ∷ quant_table_sets ∷ states_coded ∷ ec ∷ intra ∷ []) [] (in_count num_v_slices (quant_table_set_count ∷ quant_table_sets ∷ states_coded ∷ ec ∷ intra ∷ []) three (c.rows - 1) refl (λ steps e. e) (λ e. e) h) (λ h.
            join tables _ four c.sets five read end (ec ∷ intra ∷ []) [] (in_tables (ec ∷ intra ∷ []) four.past h) (λ h.
            join (flag fault.Ec) _ five c.ec six read end (intra ∷ []) [] (in_flag ec (intra ∷ []) fault.Ec five c.ec refl (λ steps e. e) h) (λ h.
            join (flag fault.Intra) _ six c.intra end read end [] [] (in_flag intra [] fault.Intra six c.intra refl (λ steps e. e) h) (λ h. finish read end [] h)))))))

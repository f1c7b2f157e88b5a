-- Tables and sets that a reading refuses.
use Rattle.std.proofs.Common.{◌≡◌, refl, ℕ, zero, suc, ◌+◌, ◌-◌, ◌*◌, ◌<◌, ◌≤◌, ◌⊎◌, inl, inr, Bool, true, false, not, IsTrue, IsFalse, nat_lt, nat_le, ◌&&◌, ◌==◌, List, [], ◌∷◌, ◌++◌, length, sum, append_assoc, append-nil, ap, sym, subst, ◌∙◌, arith, Ok, Err}
use Rattle.std.specs.List.{list_all}
use Rattle.std.proofs.lemmas.Bool.Decides.{nat_tests}
use Rattle.std.proofs.lemmas.Bool.{lt-ltb, leb-true, true≢false}
use Rattle.ffv1_range.specs.Symbols.{Step}
use Rattle.ffv1_plane.specs.Quantisation.{IsSet, Set, are_filled, is_filled, contexts_of}
use Rattle.ffv1_record.specs.declared.fault.RecordFault.{RecordFault}
use Rattle.ffv1_record.specs.declared.fault.RecordFault.TheVariants as fault
use Rattle.ffv1_record.specs.Sets.{AreSets}
use Rattle.ffv1_record.specs.Record.{IsCoded, number_steps, truth_steps, runs_steps, set_steps, sets_steps, uncoded_steps}
use Rattle.ffv1_record.specs.Reader.{Reader, Spot, ◌>>=◌, done, require, next_table, truth, number_within}
use Rattle.ffv1_record.specs.Reading.{runs_onto, table, set, sets_onto, uncoded}
use Rattle.ffv1_record.specs.Order.{IsBadNumber, IsBadTable, IsBadSet}
use Rattle.ffv1_record.proofs.CodedRecordIsRead.{sum_cons}
use Rattle.ffv1_record.proofs.ReadIsCoded.{After, bind_ok, done_ok, not_both, ok_same, required_ok, set_ok, table_ok}
use Rattle.ffv1_record.proofs.RefusedSymbols.{not_done, bind_err, required_err, regroup, Symbols, within_err, within_value, truth_err, Truth, truth_value}

module _ (b : List ℕ) where
  -- ---- sets

  pub both_true : (x y : Bool) → IsTrue x → IsTrue y → IsTrue (x && y)
  both_true true y p q = q
  both_true false y p q = p

  pub some_more : (n : ℕ) (rs : List ℕ) → IsTrue (list_all (λ r. nat_lt 0 r) rs) → IsTrue (list_all (λ r. nat_lt 0 r) (suc n ∷ rs))
  some_more n rs h =
      let one : nat_lt 0 (suc n) ≡ true = lt-ltb 0 (suc n) (omega arith) in
      both_true (nat_lt 0 (suc n)) (list_all (λ r. nat_lt 0 r) rs) one h

  pub runs_err : (base steps left : ℕ) (acc : List ℕ) (s : Spot) (f : RecordFault) → left ≤ steps → runs_onto base steps left acc b s (Err f) →
      (runs : List ℕ) × (tail : List Step) × IsTrue (list_all (λ r. nat_lt 0 r) runs) × (more : ℕ) × (sum runs + suc more ≡ left) × IsCoded b (s.past ++ (runs_steps base runs ++ tail)) × IsBadNumber base (λ n. (0 ≤ n) × (n ≤ more)) fault.Runs tail f
  unfolding runs_onto
  runs_err base steps zero acc s f few h = absurd (not_done acc b s f h)
  runs_err base zero (suc left) acc s f few h = absurd (omega (arith, few))
  runs_err base (suc steps) (suc left) acc s f few h = elim (bind_err (number_within base 0 left fault.Runs) (λ n. runs_onto base steps (left - n) (acc ++ ((n + 1) ∷ []))) b s f h) [
    | inr e ↦ let k = within_err b base 0 left fault.Runs s f e in ([], k.0, refl, left, omega arith, k.2, k.1)
    | inl e ↦
        let g = within_value b base 0 left fault.Runs s e.0 e.1 e.2 in
        let high = g.high in
        let r = runs_err base steps (left - e.0) (acc ++ ((e.0 + 1) ∷ [])) e.1 f (omega (arith, few)) e.3 in
        let back : suc e.0 - 1 ≡ e.0 = omega arith in
        let cons = sum_cons (suc e.0) r.0 in
        let there : IsCoded b (s.past ++ number_steps base e.0 ++ (runs_steps base r.0 ++ r.1)) = subst (λ (z : Spot). IsCoded b (z.past ++ (runs_steps base r.0 ++ r.1))) g.there r.5 in
        let whole : IsCoded b (s.past ++ (number_steps base e.0 ++ runs_steps base r.0 ++ r.1)) = subst (IsCoded b) (sym (regroup s.past (number_steps base e.0) (runs_steps base r.0) r.1)) there in
        (suc e.0 ∷ r.0, r.1, some_more e.0 r.0 r.2, r.3, omega (arith, r.4, cons, high), subst (λ k. IsCoded b (s.past ++ (number_steps base k ++ runs_steps base r.0 ++ r.1))) (sym back) whole, r.6)
  ]

  pub runs_value : (base steps left : ℕ) (acc : List ℕ) (s : Spot) (runs : List ℕ) (t : Spot) → left ≤ steps → IsCoded b s.past → runs_onto base steps left acc b s (Ok (runs, t)) →
      (more : List ℕ) × (runs ≡ acc ++ more) × IsTrue (list_all (λ r. nat_lt 0 r) more) × (sum more ≡ left) × IsCoded b t.past
  unfolding runs_onto
  runs_value base steps zero acc s runs t few coded h =
      let end = done_ok acc b s runs t h in
      ([], end.0 ∙ sym (append-nil acc), refl, refl, subst (λ (z : Spot). IsCoded b z.past) (sym end.1) coded)
  runs_value base zero (suc left) acc s runs t few coded h = absurd (omega (arith, few))
  runs_value base (suc steps) (suc left) acc s runs t few coded h =
      let one = bind_ok (number_within base 0 left fault.Runs) (λ n. runs_onto base steps (left - n) (acc ++ ((n + 1) ∷ []))) b s runs t h in
      let g = within_value b base 0 left fault.Runs s one.0 one.1 one.2 in
      let high = g.high in
      let r = runs_value base steps (left - one.0) (acc ++ ((one.0 + 1) ∷ [])) one.1 runs t (omega (arith, few)) (subst (λ (z : Spot). IsCoded b z.past) (sym g.there) g.coded) one.3 in
      let next : one.0 + 1 ≡ suc one.0 = omega arith in
      let cons = sum_cons (suc one.0) r.0 in
      (suc one.0 ∷ r.0, r.1 ∙ (append_assoc acc ((one.0 + 1) ∷ []) r.0 ∙ ap (λ k. acc ++ k ∷ r.0) next), some_more one.0 r.0 r.2, omega (arith, r.3, cons, high), r.4)

  pub next_err : (s : Spot) (f : RecordFault) → next_table b s (Err f) → ⊥
  unfolding next_table
  next_err s f h = not_both (s.fresh, record { past = s.past; fresh = s.fresh + 32 }) f (sym h)

  pub next_value : (s : Spot) (base : ℕ) (t : Spot) → next_table b s (Ok (base, t)) → (base ≡ s.fresh) × (t.past ≡ s.past)
  unfolding next_table
  next_value s base t h =
      let same = ok_same (base, t) (s.fresh, record { past = s.past; fresh = s.fresh + 32 }) h in
      (ap (λ p. p.0) same, ap (λ (z : ℕ × Spot). z.1.past) same)

  pub table_err : (s : Spot) (f : RecordFault) → table b s (Err f) → Symbols b s (λ steps. IsBadTable s.fresh steps f)
  table_err s f h = elim (bind_err next_table (λ base. runs_onto base 128 128 []) b s f h) [
    | inr e ↦ absurd (next_err s f e)
    | inl e ↦
        let n = next_value s e.0 e.1 e.2 in
        let r = runs_err e.0 128 128 [] e.1 f (omega arith) e.3 in
        let here : IsCoded b (s.past ++ (runs_steps e.0 r.0 ++ r.1)) = subst (λ z. IsCoded b (z ++ (runs_steps e.0 r.0 ++ r.1))) n.1 r.5 in (
          runs_steps s.fresh r.0 ++ r.1,
          (r.0, r.1, r.2, r.3, r.4, refl, subst (λ k. IsBadNumber k (λ n. (0 ≤ n) × (n ≤ r.3)) fault.Runs r.1 f) n.0 r.6),
          subst (λ k. IsCoded b (s.past ++ (runs_steps k r.0 ++ r.1))) n.0 here,
        )
  ]

  pub record Tabled (s : Spot) (runs : List ℕ) (t : Spot) : Type 0 where
    pub filled : IsTrue (is_filled runs)
    pub coded : IsCoded b t.past
    pub after : After s (runs_steps s.fresh runs) t 32

  pub filled_by : (runs : List ℕ) → IsTrue (list_all (λ r. nat_lt 0 r) runs) → sum runs ≡ 128 → IsTrue (is_filled runs)
  filled_by runs some all =
      let full : (sum runs == 128) ≡ true = rw all refl in
      rw (some, full) refl

  pub table_value : (s : Spot) (runs : List ℕ) (t : Spot) → IsCoded b s.past → table b s (Ok (runs, t)) → Tabled s runs t
  table_value s runs t coded h =
      let one = bind_ok next_table (λ base. runs_onto base 128 128 []) b s runs t h in
      let n = next_value s one.0 one.1 one.2 in
      let r = runs_value one.0 128 128 [] one.1 runs t (omega arith) (subst (IsCoded b) (sym n.1) coded) one.3 in
      record { filled = subst (λ z. IsTrue (is_filled z)) (sym r.1) (filled_by r.0 r.2 r.3); coded = r.4; after = table_ok b s runs t h }

  -- so many tables, and what follows them
  pub chain : {Y : Type 0} → ℕ → (Set → Reader Y) → Set → Reader Y
  chain zero next acc = next acc
  chain (suc k) next acc = table >>= λ runs. chain k next (acc ++ (runs ∷ []))

  -- a table of some is bad; or what follows them all is
  abbrev pub OneBad : ℕ → Spot → RecordFault → Type 0
  OneBad k s f =
      (tables : Set) × (tail : List Step) × IsTrue (are_filled tables) × (length tables < k) × IsCoded b (s.past ++ (set_steps s.fresh tables ++ tail)) × IsBadTable (s.fresh + 32 * length tables) tail f

  abbrev pub AllGood : {Y : Type 0} → ℕ → (Set → Reader Y) → Set → Spot → RecordFault → Type 0
  AllGood k next acc s f =
      (tables : Set) × (u : Spot) × IsTrue (are_filled tables) × (length tables ≡ k) × IsCoded b (s.past ++ set_steps s.fresh tables) × next (acc ++ tables) b u (Err f)

  pub chain_err : {Y : Type 0} (next : Set → Reader Y) (k : ℕ) (acc : Set) (s : Spot) (f : RecordFault) → IsCoded b s.past → chain k next acc b s (Err f) → OneBad k s f ⊎ AllGood k next acc s f
  unfolding chain
  chain_err next zero acc s f coded h = inr ([], s, refl, refl, subst (IsCoded b) (sym (append-nil s.past)) coded, subst (λ (z : Set). next z b s (Err f)) (sym (append-nil acc)) h)
  chain_err next (suc k) acc s f coded h = elim (bind_err table (λ runs. chain k next (acc ++ (runs ∷ []))) b s f h) [
    | inr e ↦
        let d = table_err s f e in
        let place : s.fresh ≡ s.fresh + 32 * 0 = omega arith in
        inl ([], d.0, refl, omega arith, d.2, subst (λ k. IsBadTable k d.0 f) place d.1)
    | inl e ↦
        let v = table_value s e.0 e.1 coded e.2 in
        let past = v.after.past in
        let fresh = v.after.fresh in
        elim (chain_err next k (acc ++ (e.0 ∷ [])) e.1 f v.coded e.3) [
          | inl d ↦
              let there : IsCoded b (s.past ++ runs_steps s.fresh e.0 ++ (set_steps e.1.fresh d.0 ++ d.1)) = subst (λ z. IsCoded b (z ++ (set_steps e.1.fresh d.0 ++ d.1))) past d.4 in
              let here : IsCoded b (s.past ++ runs_steps s.fresh e.0 ++ (set_steps (s.fresh + 32) d.0 ++ d.1)) = subst (λ k. IsCoded b (s.past ++ runs_steps s.fresh e.0 ++ (set_steps k d.0 ++ d.1))) fresh there in
              let place : e.1.fresh + 32 * length d.0 ≡ s.fresh + 32 * suc (length d.0) = omega (arith, fresh) in
              inl (e.0 ∷ d.0, d.1, both_true (is_filled e.0) (are_filled d.0) v.filled d.2, omega (arith, d.3), subst (IsCoded b) (sym (regroup s.past (runs_steps s.fresh e.0) (set_steps (s.fresh + 32) d.0) d.1)) here, subst (λ k. IsBadTable k d.1 f) place d.5)
          | inr d ↦
              let there : IsCoded b (s.past ++ runs_steps s.fresh e.0 ++ set_steps e.1.fresh d.0) = subst (λ z. IsCoded b (z ++ set_steps e.1.fresh d.0)) past d.4 in
              let here : IsCoded b (s.past ++ runs_steps s.fresh e.0 ++ set_steps (s.fresh + 32) d.0) = subst (λ k. IsCoded b (s.past ++ runs_steps s.fresh e.0 ++ set_steps k d.0)) fresh there in
              inr (e.0 ∷ d.0, d.1, both_true (is_filled e.0) (are_filled d.0) v.filled d.2, ap suc d.3, subst (IsCoded b) (append_assoc s.past (runs_steps s.fresh e.0) (set_steps (s.fresh + 32) d.0)) here, subst (λ (z : Set). next z b d.1 (Err f)) (append_assoc acc (e.0 ∷ []) d.0) d.5)
        ]
  ]

  abbrev pub judged : Set → Reader Set
  judged all = require (nat_le (contexts_of all) 32768) fault.Contexts >>= λ _. done all

  pub many : (n : ℕ) → IsFalse (nat_le n 32768) → 32768 < n
  many n h = grind (arith, nat_tests)

  pub set_err : (s : Spot) (f : RecordFault) → IsCoded b s.past → set b s (Err f) → Symbols b s (λ steps. IsBadSet s.fresh steps f)
  unfolding chain
  set_err s f coded h = elim (chain_err judged 5 [] s f coded h) [
    | inl d ↦ (set_steps s.fresh d.0 ++ d.1, inl (d.0, d.1, d.2, d.3, refl, d.5), d.4)
    | inr d ↦ elim (bind_err (require (nat_le (contexts_of d.0) 32768) fault.Contexts) (λ _. done d.0) b d.1 f d.5) [
      | inl e ↦ absurd (not_done d.0 b e.1 f e.3)
      | inr e ↦
          let k = required_err (nat_le (contexts_of d.0) 32768) fault.Contexts b d.1 f e in
          (set_steps s.fresh d.0, inr (d.0, d.2, d.3, many (contexts_of d.0) k.0, refl, k.1), d.4)
    ]
  ]

  pub record Setted (s : Spot) (x : Set) (t : Spot) : Type 0 where
    pub is : IsSet x
    pub coded : IsCoded b t.past
    pub after : After s (set_steps s.fresh x) t 160

  pub few_contexts : (n : ℕ) → IsTrue (nat_le n 32768) → n ≤ 32768
  few_contexts n h = leb-true n 32768 h

  pub set_value : (s : Spot) (x : Set) (t : Spot) → IsCoded b s.past → set b s (Ok (x, t)) → Setted s x t
  set_value s x t coded h =
      let one = bind_ok table _ b s x t h in
      let two = bind_ok table _ b one.1 x t one.3 in
      let three = bind_ok table _ b two.1 x t two.3 in
      let four = bind_ok table _ b three.1 x t three.3 in
      let five = bind_ok table _ b four.1 x t four.3 in
      let all : Set = one.0 ∷ two.0 ∷ three.0 ∷ four.0 ∷ five.0 ∷ [] in
      let six = bind_ok (require (nat_le (contexts_of all) 32768) fault.Contexts) _ b five.1 x t five.3 in
      let good = required_ok (nat_le (contexts_of all) 32768) fault.Contexts b five.1 six.0 six.1 six.2 in
      let end = done_ok all b six.1 x t six.3 in
      let p = table_value s one.0 one.1 coded one.2 in
      let q = table_value one.1 two.0 two.1 p.coded two.2 in
      let r = table_value two.1 three.0 three.1 q.coded three.2 in
      let u = table_value three.1 four.0 four.1 r.coded four.2 in
      let v = table_value four.1 five.0 five.1 u.coded five.2 in
      let filled : IsTrue (are_filled all) = both_true (is_filled one.0) (are_filled (two.0 ∷ three.0 ∷ four.0 ∷ five.0 ∷ [])) p.filled (both_true (is_filled two.0) (are_filled (three.0 ∷ four.0 ∷ five.0 ∷ [])) q.filled
      (both_true (is_filled three.0) (are_filled (four.0 ∷ five.0 ∷ [])) r.filled (both_true (is_filled four.0) (are_filled (five.0 ∷ [])) u.filled (both_true (is_filled five.0) (are_filled []) v.filled refl)))) in
      let is_set : IsSet all = record { five = refl; filled = filled; few = few_contexts (contexts_of all) good.0 } in
      record {
        is = subst (λ (z : Set). IsSet z) (sym end.0) is_set;
        coded = subst (λ (z : Spot). IsCoded b z.past) (sym (end.1 ∙ good.1)) v.coded;
        after = (set_ok b s x t h).1;
      }

  pub sets_err : (k : ℕ) (acc : List Set) (s : Spot) (f : RecordFault) → IsCoded b s.past → sets_onto k acc b s (Err f) →
      (sets : List Set) × (tail : List Step) × AreSets sets × (length sets < k) × IsCoded b (s.past ++ (sets_steps s.fresh sets ++ tail)) × IsBadSet (s.fresh + 160 * length sets) tail f
  unfolding sets_onto
  sets_err zero acc s f coded h = absurd (not_done acc b s f h)
  sets_err (suc k) acc s f coded h = elim (bind_err set (λ x. sets_onto k (acc ++ (x ∷ []))) b s f h) [
    | inr e ↦
        let d = set_err s f coded e in
        let place : s.fresh ≡ s.fresh + 160 * 0 = omega arith in
        ([], d.0, tt, omega arith, d.2, subst (λ k. IsBadSet k d.0 f) place d.1)
    | inl e ↦
        let v = set_value s e.0 e.1 coded e.2 in
        let past = v.after.past in
        let fresh = v.after.fresh in
        let d = sets_err k (acc ++ (e.0 ∷ [])) e.1 f v.coded e.3 in
        let there : IsCoded b (s.past ++ set_steps s.fresh e.0 ++ (sets_steps e.1.fresh d.0 ++ d.1)) = subst (λ z. IsCoded b (z ++ (sets_steps e.1.fresh d.0 ++ d.1))) past d.4 in
        let here : IsCoded b (s.past ++ set_steps s.fresh e.0 ++ (sets_steps (s.fresh + 160) d.0 ++ d.1)) = subst (λ k. IsCoded b (s.past ++ set_steps s.fresh e.0 ++ (sets_steps k d.0 ++ d.1))) fresh there in
        let place : e.1.fresh + 160 * length d.0 ≡ s.fresh + 160 * suc (length d.0) = omega (arith, fresh) in
        (e.0 ∷ d.0, d.1, (v.is, d.2), omega (arith, d.3), subst (IsCoded b) (sym (regroup s.past (set_steps s.fresh e.0) (sets_steps (s.fresh + 160) d.0) d.1)) here, subst (λ k. IsBadSet k d.1 f) place d.5)
  ]

  pub sets_value : (k : ℕ) (acc : List Set) (s : Spot) (ss : List Set) (t : Spot) → IsCoded b s.past → sets_onto k acc b s (Ok (ss, t)) → (more : List Set) × (ss ≡ acc ++ more) × AreSets more
  unfolding sets_onto
  sets_value zero acc s ss t coded h = ([], (done_ok acc b s ss t h).0 ∙ sym (append-nil acc), tt)
  sets_value (suc k) acc s ss t coded h =
      let one = bind_ok set (λ x. sets_onto k (acc ++ (x ∷ []))) b s ss t h in
      let v = set_value s one.0 one.1 coded one.2 in
      let r = sets_value k (acc ++ (one.0 ∷ [])) one.1 ss t v.coded one.3 in
      (one.0 ∷ r.0, r.1 ∙ append_assoc acc (one.0 ∷ []) r.0, (v.is, r.2))

  pub uncoded_err : (k : ℕ) (s : Spot) (f : RecordFault) → uncoded k b s (Err f) → (n : ℕ) × (n < k) × IsCoded b (s.past ++ (uncoded_steps n ++ truth_steps true)) × (f ≡ fault.CodedStates)
  unfolding uncoded
  uncoded_err zero s f h = absurd (not_done true b s f h)
  uncoded_err (suc k) s f h = elim (bind_err truth (λ x. require (not x) fault.CodedStates >>= λ _. uncoded k) b s f h) [
    | inr e ↦ absurd (truth_err b s f e)
    | inl e ↦ by (λ u h. uncoded_err k u f h) e.0 e.1 (truth_value b s e.0 e.1 e.2) (bind_err (require (not e.0) fault.CodedStates) (λ _. uncoded k) b e.1 f e.3)
  ]
    where
      by : ((u : Spot) → uncoded k b u (Err f) → (n : ℕ) × (n < k) × IsCoded b (u.past ++ (uncoded_steps n ++ truth_steps true)) × (f ≡ fault.CodedStates)) → (x : Bool) (t : Spot) → Truth b s x t → ((y : Bool) × (u : Spot) × require (not x) fault.CodedStates b t (Ok (y, u)) × uncoded k b u (Err f)) ⊎ require (not x) fault.CodedStates b t (Err f) →
          (n : ℕ) × (n < suc k) × IsCoded b (s.past ++ (uncoded_steps n ++ truth_steps true)) × (f ≡ fault.CodedStates)
      by more true t v (inl d) = absurd (true≢false (sym (required_ok false fault.CodedStates b t d.0 d.1 d.2).0))
      by more true t v (inr d) = (0, omega arith, v.coded, (required_err false fault.CodedStates b t f d).1)
      by more false t v (inr d) = absurd (true≢false (required_err true fault.CodedStates b t f d).0)
      by more false t v (inl d) =
          let same : d.1 ≡ t = (required_ok true fault.CodedStates b t d.0 d.1 d.2).1 in
          let r = more d.1 d.3 in
          let there : IsCoded b (s.past ++ truth_steps false ++ (uncoded_steps r.0 ++ truth_steps true)) = subst (λ (z : Spot). IsCoded b (z.past ++ (uncoded_steps r.0 ++ truth_steps true))) (same ∙ v.there) r.2 in
          (suc r.0, omega (arith, r.1), subst (IsCoded b) (sym (regroup s.past (truth_steps false) (uncoded_steps r.0) (truth_steps true))) there, r.3)

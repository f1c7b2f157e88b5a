-- A writer that has written the steps of a spot, and writes on, has written those after them.
use Rattle.std.proofs.Common.{◌≡◌, refl, ℕ, zero, suc, ◌+◌, ◌-◌, ◌*◌, ◌^◌, ◌<◌, ◌≤◌, Bool, true, false, IsTrue, nat_lt, List, [], ◌∷◌, ◌++◌, length, replicate, take, get_or, append_assoc, append-nil, ap, sym, subst, ◌∙◌, arith, ℤ, add-one, take-suc}
use Rattle.std.specs.List.{list_all}
use Rattle.std.proofs.Math.IntN.{nat_abs}
use Rattle.std.proofs.lemmas.Bool.{ltb-true}
use Rattle.ffv1_record.specs.Writable.{AreDeltas}
use Rattle.ffv1_record.proofs.Checks.{both}
use Rattle.ffv1_range.specs.Interval.{Interval, Decision, start, narrow, narrowed, interval_of}
use Rattle.std.proofs.lemmas.Bool.Decides.{nat_tests}
use Rattle.ffv1_record.specs.Configuration.{Configuration}
use Rattle.ffv1_record.specs.Reading.{beginning}
use Rattle.ffv1_range.specs.Symbols.{Step, shifted, decided}
use Rattle.ffv1_range.specs.History.{decisions_after, AreBelow, AreOutside, HasStates}
use Rattle.ffv1_range.specs.Standard.{standard}
use Rattle.ffv1_range.specs.Writing.{Writing}
use Rattle.ffv1_range.specs.Puts.{Puts}
use Rattle.ffv1_range.proofs.HistoryLemmas.{moved_has, others_have, fresh_has}
use Rattle.ffv1_range.proofs.Windows.{AreBelow-append}
use Rattle.ffv1_plane.specs.Quantisation.{Set}
use Rattle.ffv1_record.specs.Reader.{Spot}
use Rattle.ffv1_record.specs.Record.{number_steps, signed_number_steps, truth_steps, deltas_steps, runs_steps, set_steps, sets_steps, uncoded_steps, opening_steps, planes_steps, grid_steps, tables_steps, closing_steps, record_steps, record_decisions, coded_of}
use Rattle.ffv1_range.specs.Codes.{full_of}
use Rattle.ffv1_record.specs.Internal.Written.{Target, Holding, HoldingIn, Wrote, WroteIn}
use Rattle.ffv1_record.proofs.Slots.{shifted_within, shifted_beside, below_beside, below_more}
use Rattle.ffv1_record.proofs.DecoderSpots.{interval_behind}

module _ (old new : Writing) (states after : List ℕ) (base : ℕ) (past steps : List Step) (at : old.interval ≡ interval_of (decisions_after standard [] past))
    (below : AreBelow steps (length states)) (has : HasStates standard states base past) (puts : Puts standard old states new after steps) where
  pub interval_on : new.interval ≡ interval_of (decisions_after standard [] (past ++ shifted base steps))
  interval_on = puts.interval ∙ ap (λ (i : Interval). narrowed i (decided standard states steps)) at ∙ interval_behind states base past steps below has

  pub has_on : HasStates standard after base (past ++ shifted base steps)
  has_on = subst (λ xs. HasStates standard xs base (past ++ shifted base steps)) (sym puts.moves) (moved_has standard states base past steps below has)

pub wrote_steps : (old new : Writing) (states after : List ℕ) (steps : List Step) → length states ≡ 32 → AreBelow steps 32 → Puts standard old states new after steps →
    Wrote (λ _. shifted 0 steps) 0 (record { writing = old; states = states }) (record { writing = new; states = after })
wrote_steps old new states after steps long below puts = record {
  wrote = λ s h.
      let here : AreBelow steps (length states) = rw long below in
      let room = h.room in
      record {
        interval = interval_on old new states after 0 s.past steps h.interval here h.states puts;
        states = has_on old new states after 0 s.past steps h.interval here h.states puts;
        below = AreBelow-append s.past (shifted 0 steps) (s.fresh + 0) (below_more s.fresh (s.fresh + 0) s.past (omega arith) h.below) (shifted_within 0 32 (s.fresh + 0) steps below (omega arith));
        room = omega arith;
      };
}

pub wrote_steps_in : (old new : Writing) (row states after : List ℕ) (steps : List Step) → length row ≡ 32 → length states ≡ 32 → AreBelow steps 32 → Puts standard old states new after steps →
    WroteIn (λ base. shifted base steps) (record { writing = old; states = row }) states (record { writing = new; states = row }) after
wrote_steps_in old new row states after steps row_long long below puts = record {
  wrote = λ base s h.
      let here : AreBelow steps (length states) = rw long below in
      let holding = h.holding in
      let above = h.above in
      let beside : AreOutside (shifted base steps) 0 (length row) = shifted_beside base (length row) steps (omega (arith, row_long, above)) in
      record {
        holding = record {
          interval = interval_on old new states after base s.past steps holding.interval here h.table puts;
          states = others_have standard row 0 s.past (shifted base steps) beside holding.states;
          below = AreBelow-append s.past (shifted base steps) s.fresh holding.below (shifted_within base 32 s.fresh steps below h.kept);
          room = holding.room;
        };
        above = h.above;
        kept = h.kept;
        table = has_on old new states after base s.past steps holding.interval here h.table puts;
      };
}

pub wrote_none : (a : Target) → Wrote (λ _. []) 0 a a
wrote_none a = record {
  wrote = λ s h.
      let room = h.room in
      record {
        interval = rw (append-nil s.past) h.interval;
        states = rw (append-nil s.past) h.states;
        below = rw (append-nil s.past) (below_more s.fresh (s.fresh + 0) s.past (omega arith) h.below);
        room = omega arith;
      };
}

pub wrote_then : {a b c : Target} (xs ys : ℕ → List Step) (g h : ℕ) → Wrote xs g a b → Wrote ys h b c → Wrote (λ k. xs k ++ ys (k + g)) (g + h) a c
wrote_then {a = a} {b = b} {c = c} xs ys g h one two = record {
  wrote = λ s st.
      let all : s.fresh + g + h ≡ s.fresh + (g + h) = omega arith in
      subst (λ n. Holding c (record { past = s.past ++ (xs s.fresh ++ ys (s.fresh + g)); fresh = n })) all
      (subst (λ p. Holding c (record { past = p; fresh = s.fresh + g + h })) (append_assoc s.past (xs s.fresh) (ys (s.fresh + g))) (two.wrote (record { past = s.past ++ xs s.fresh; fresh = s.fresh + g }) (one.wrote s st)));
}

-- steps that no table's slots name, one after the other
pub wrote_on : {a b c : Target} (xs ys : List Step) → Wrote (λ _. xs) 0 a b → Wrote (λ _. ys) 0 b c → Wrote (λ _. xs ++ ys) 0 a c
wrote_on xs ys one two = wrote_then (λ _. xs) (λ _. ys) 0 0 one two

pub wrote_as : {a b : Target} (xs ys : List Step) → xs ≡ ys → Wrote (λ _. xs) 0 a b → Wrote (λ _. ys) 0 a b
wrote_as {a = a} {b = b} xs ys e one = subst (λ zs. Wrote (λ _. zs) 0 a b) e one

-- deltas, one more at the end
pub deltas_last : (ds : List ℤ) (d : ℤ) → deltas_steps (ds ++ (d ∷ [])) ≡ deltas_steps ds ++ signed_number_steps d
deltas_last [] d = append-nil (signed_number_steps d)
deltas_last (x ∷ ds) d = ap (λ zs. signed_number_steps x ++ zs) (deltas_last ds d) ∙ sym (append_assoc (signed_number_steps x) (deltas_steps ds) (signed_number_steps d))

pub uncoded_last : (k : ℕ) → uncoded_steps (suc k) ≡ uncoded_steps k ++ truth_steps false
uncoded_last zero = refl
uncoded_last (suc k) = ap (λ zs. truth_steps false ++ zs) (uncoded_last k) ∙ sym (append_assoc (truth_steps false) (uncoded_steps k) (truth_steps false))

pub runs_last : (base : ℕ) (rs : List ℕ) (r : ℕ) → runs_steps base (rs ++ (r ∷ [])) ≡ runs_steps base rs ++ number_steps base (r - 1)
runs_last base [] r = append-nil (number_steps base (r - 1))
runs_last base (x ∷ rs) r = ap (λ zs. number_steps base (x - 1) ++ zs) (runs_last base rs r) ∙ sym (append_assoc (number_steps base (x - 1)) (runs_steps base rs) (number_steps base (r - 1)))

pub sets_last : (base : ℕ) (ss : List Set) (s : Set) → sets_steps base (ss ++ (s ∷ [])) ≡ sets_steps base ss ++ set_steps (base + 160 * length ss) s
sets_last base [] s =
    let here : base ≡ base + 160 * 0 = omega arith in
    append-nil (set_steps base s) ∙ ap (λ k. set_steps k s) here
sets_last base (x ∷ ss) s =
    let there : base + 160 + 160 * length ss ≡ base + 160 * suc (length ss) = omega arith in
    ap (λ zs. set_steps base x ++ zs) (sets_last (base + 160) ss s ∙ ap (λ k. sets_steps (base + 160) ss ++ set_steps k s) there) ∙ sym (append_assoc (set_steps base x) (sets_steps (base + 160) ss) (set_steps (base + 160 * suc (length ss)) s))

-- the runs of a table that were written so far
pub record Running (done : List ℕ) (before after : Target) (states : List ℕ) : Type 0 where
  pub running : (s : Spot) → Holding before s → HoldingIn after states s.fresh (record { past = s.past ++ runs_steps s.fresh done; fresh = s.fresh + 32 })

pub running_none : (a : Target) → Running [] a a (replicate 32 128)
running_none a = record {
  running = λ s h.
      let room = h.room in
      record {
        holding = record {
          interval = rw (append-nil s.past) h.interval;
          states = rw (append-nil s.past) h.states;
          below = rw (append-nil s.past) (below_more s.fresh (s.fresh + 32) s.past (omega arith) h.below);
          room = omega arith;
        };
        above = h.room;
        kept = omega arith;
        table = rw (append-nil s.past) (others_have standard (replicate 32 128) s.fresh [] s.past (below_beside s.fresh (length {A = ℕ} (replicate 32 128)) s.past h.below) (fresh_has standard 32 s.fresh));
      };
}

pub running_next : (done : List ℕ) (run : ℕ) (a b c : Target) (states after : List ℕ) → Running done a b states → WroteIn (λ base. number_steps base (run - 1)) b states c after → Running (done ++ (run ∷ [])) a c after
running_next done run a b c states after before one = record {
  running = λ s h.
      subst (λ p. HoldingIn c after s.fresh (record { past = p; fresh = s.fresh + 32 }))
      (append_assoc s.past (runs_steps s.fresh done) (number_steps s.fresh (run - 1)) ∙ ap (λ zs. s.past ++ zs) (sym (runs_last s.fresh done run)))
      (one.wrote s.fresh (record { past = s.past ++ runs_steps s.fresh done; fresh = s.fresh + 32 }) (before.running s h));
}

pub running_end : (runs : List ℕ) (a b : Target) (states : List ℕ) → Running runs a b states → Wrote (λ base. runs_steps base runs) 32 a b
running_end runs a b states all = record { wrote = λ s h. (all.running s h).holding }

pub deltas_more : (ds : List ℤ) (d : ℤ) → AreDeltas ds → nat_abs d < 2 ^ 31 → AreDeltas (ds ++ (d ∷ []))
deltas_more [] d are small = (small, tt)
deltas_more (x ∷ ds) d are small = (are.0, deltas_more ds d are.1 small)

pub run_some : (rs : List ℕ) (k : ℕ) → k < length rs → IsTrue (list_all (λ r. nat_lt 0 r) rs) → 0 < get_or rs k 0
run_some [] k inside each = absurd (omega arith)
run_some (r ∷ rs) zero inside each = ltb-true 0 r (both (nat_lt 0 r) (list_all (λ r. nat_lt 0 r) rs) each).0
run_some (r ∷ rs) (suc k) inside each = run_some rs k (omega arith) (both (nat_lt 0 r) (list_all (λ r. nat_lt 0 r) rs) each).1

pub taken_more : {X : Type 0} (xs : List X) (k : ℕ) (d : X) → k < length xs → take (k + 1) xs ≡ take k xs ++ (get_or xs k d ∷ [])
taken_more xs k d inside = rw (add-one k) (take-suc xs k d inside)

-- the five tables of a set
pub wrote_set : (a b c d e f : Target) (s : Set) → length s ≡ 5 → Wrote (λ k. runs_steps k (get_or s 0 [])) 32 a b → Wrote (λ k. runs_steps k (get_or s 1 [])) 32 b c →
    Wrote (λ k. runs_steps k (get_or s 2 [])) 32 c d → Wrote (λ k. runs_steps k (get_or s 3 [])) 32 d e → Wrote (λ k. runs_steps k (get_or s 4 [])) 32 e f → Wrote (λ k. set_steps k s) 160 a f
wrote_set a b c d e f [] five p q r u v = absurd (omega arith)
wrote_set a b c d e f (x ∷ []) five p q r u v = absurd (omega arith)
wrote_set a b c d e f (x ∷ y ∷ []) five p q r u v = absurd (omega arith)
wrote_set a b c d e f (x ∷ y ∷ z ∷ []) five p q r u v = absurd (omega arith)
wrote_set a b c d e f (x ∷ y ∷ z ∷ w ∷ []) five p q r u v = absurd (omega arith)
wrote_set a b c d e f (x ∷ y ∷ z ∷ w ∷ t ∷ []) five p q r u v =
    wrote_then (λ k. runs_steps k x) (λ k. set_steps k (y ∷ z ∷ w ∷ t ∷ [])) 32 128 p
    (wrote_then (λ k. runs_steps k y) (λ k. set_steps k (z ∷ w ∷ t ∷ [])) 32 96 q
    (wrote_then (λ k. runs_steps k z) (λ k. set_steps k (w ∷ t ∷ [])) 32 64 r
    (wrote_then (λ k. runs_steps k w) (λ k. set_steps k (t ∷ [])) 32 32 u (wrote_then (λ k. runs_steps k t) (λ _. []) 32 0 v (wrote_none f)))))
wrote_set a b c d e f (x ∷ y ∷ z ∷ w ∷ t ∷ more ∷ rest) five p q r u v = absurd (omega arith)

-- one set more
pub wrote_more : (a b c : Target) (ss : List Set) (s : Set) (count : ℕ) → length ss ≡ count → Wrote (λ k. sets_steps k ss) (160 * count) a b → Wrote (λ k. set_steps k s) 160 b c →
    Wrote (λ k. sets_steps k (ss ++ (s ∷ []))) (160 * (count + 1)) a c
wrote_more a b c ss s count long one two = record {
  wrote = λ p h.
      let all : 160 * count + 160 ≡ 160 * (count + 1) = omega arith in
      let whole = (wrote_then (λ k. sets_steps k ss) (λ k. set_steps k s) (160 * count) 160 one two).wrote p h in
      let here : sets_steps p.fresh ss ++ set_steps (p.fresh + 160 * count) s ≡ sets_steps p.fresh (ss ++ (s ∷ [])) =
      ap (λ n. sets_steps p.fresh ss ++ set_steps (p.fresh + 160 * n) s) (sym long) ∙ sym (sets_last p.fresh ss s) in
      rw all at (subst (λ zs. Holding c (record { past = p.past ++ zs; fresh = p.fresh + (160 * count + 160) })) here whole);
}

-- the number of sets, the sets, and their states_coded
pub wrote_tables : (a b c d : Target) (ss : List Set) (n : ℕ) → Wrote (λ _. number_steps 0 n) 0 a b → Wrote (λ k. sets_steps k ss) (160 * n) b c → Wrote (λ _. uncoded_steps n) 0 c d →
    Wrote (λ k. number_steps 0 n ++ sets_steps k ss ++ uncoded_steps n) (160 * n) a d
wrote_tables a b c d ss n one two three = record {
  wrote = λ p h.
      let whole = (wrote_then (λ k. number_steps 0 n ++ sets_steps (k + 0) ss) (λ _. uncoded_steps n) (0 + 160 * n) 0 (wrote_then (λ _. number_steps 0 n) (λ k. sets_steps k ss) 0 (160 * n) one two) three).wrote p h in
      let grown : 0 + 160 * n + 0 ≡ 160 * n = omega arith in
      let same : p.fresh + 0 ≡ p.fresh = omega arith in
      subst (λ k. Holding d (record { past = p.past ++ (number_steps 0 n ++ sets_steps k ss ++ uncoded_steps n); fresh = p.fresh + 160 * n })) same (rw grown at whole);
}

-- all parameters
pub wrote_all : (a b c d e f : Target) (x : Configuration) → Holding a beginning → Wrote (λ _. opening_steps x) 0 a b → Wrote (λ _. planes_steps x.depth x) 0 b c → Wrote (λ _. grid_steps x) 0 c d →
    Wrote (λ k. number_steps 0 (length x.sets) ++ sets_steps k x.sets ++ uncoded_steps (length x.sets)) (160 * length x.sets) d e → Wrote (λ _. closing_steps x) 0 e f → (s : Spot) × (s.past ≡ record_steps x.depth x) × Holding f s
wrote_all a b c d e f x begun p q r u v =
    let first = (wrote_on (opening_steps x ++ planes_steps x.depth x) (grid_steps x) (wrote_on (opening_steps x) (planes_steps x.depth x) p q) r).wrote beginning begun in
    let second = u.wrote (record { past = [] ++ (opening_steps x ++ planes_steps x.depth x ++ grid_steps x); fresh = 32 + 0 }) first in
    let third = v.wrote (record { past = [] ++ (opening_steps x ++ planes_steps x.depth x ++ grid_steps x) ++ tables_steps x; fresh = 32 + 0 + 160 * length x.sets }) second in
    (record { past = [] ++ (opening_steps x ++ planes_steps x.depth x ++ grid_steps x) ++ tables_steps x ++ closing_steps x; fresh = 32 + 0 + 160 * length x.sets + 0 }, refl, third)

-- an interval has at most a byte more for each decision
narrow_count : (i : Interval) (state : ℕ) (bit : Bool) → (narrow i state bit).count ≤ i.count + 1
narrow_count i state true = grind (arith, nat_tests)
narrow_count i state false = grind (arith, nat_tests)

pub narrowed_count : (ds : List Decision) (i : Interval) → (narrowed i ds).count ≤ i.count + length ds
narrowed_count [] i = omega arith
narrowed_count (d ∷ ds) i =
    let first = narrow_count i d.state d.bit in
    let rest = narrowed_count ds (narrow i d.state d.bit) in
    omega arith

-- what was written of all parameters is their bytes, and how many they are
module _ (a f : Target) (x : Configuration) (bytes : List ℕ) (s : Spot) (past : s.past ≡ record_steps x.depth x) (holding : Holding f s) where
  pub bytes_are : ((s : Spot) → Holding f s → bytes ≡ full_of (interval_of (decisions_after standard [] s.past))) → bytes ≡ coded_of x
  bytes_are full = full s holding ∙ ap (λ steps. full_of (interval_of (decisions_after standard [] steps))) past

  pub bytes_few : length bytes ≡ f.writing.interval.count → length bytes ≤ length (record_decisions x.depth x) + 2
  bytes_few long = few (record_decisions x.depth x) (long ∙ ap (λ (i : Interval). i.count) (holding.interval ∙ ap (λ steps. interval_of (decisions_after standard [] steps)) past))
    where
      few : (ds : List Decision) → length bytes ≡ (interval_of ds).count → length bytes ≤ length ds + 2
      few ds is =
          let most = narrowed_count ds start in
          omega arith

-- What calls that judge find one after the other.
use Rattle.std.proofs.Common.{◌≡◌, refl, ℕ, suc, zero, ◌+◌, ◌-◌, ◌<◌, inl, inr, Bool, true, false, IsTrue, IsFalse, List, [], ◌∷◌, ◌++◌, length, arith, Result, Ok, Err, rules, ap, ◌∙◌}
use Rattle.std.specs.Result.{IsErrAnd}
use Rattle.std.proofs.lemmas.Result.{err_from_is_err_and}
use Rattle.std.proofs.lemmas.List.{length-append}
use Rattle.ffv1_plane.specs.Quantisation.{Set}
use Rattle.ffv1_record.specs.declared.fault.RecordFault.{RecordFault}
use Rattle.ffv1_record.specs.declared.fault.RecordFault.TheVariants as fault
use Rattle.ffv1_record.specs.Reader.{Reader, Spot, ◌>>=◌, done, require}
use Rattle.ffv1_record.specs.Reading.{sets_onto, set}
use Rattle.ffv1_record.specs.Internal.Given.{Source, Stands, Gives, Judges}

-- what a call gave, without the value
pub found : {X V W : Type 0} {r : Reader X} {view : V → X} {holds : X → W → Type 0} {a b : Source} {v : V} {w : W} → Gives view r a b (Ok v) → holds (view v) w → Judges holds r a b (Ok w)
found {view = view} {v = v} one is = record {
  judges = λ bytes s st.
      let here = one.gives bytes s st in
      (view v, here.0, here.1, here.2, is);
}

pub found_fault : {X V W : Type 0} {r : Reader X} {view : V → X} {holds : X → W → Type 0} {a b : Source} {f : RecordFault} → Gives {Y = V} view r a b (Err f) → (f ≡ fault.OutOfMemory → ⊥) → Judges {Y = W} holds r a b (Err f)
found_fault one told = record {
  judges = λ bytes s st. elim (one.gives bytes s st) [
    | inl memory ↦ absurd (told memory)
    | inr refused ↦ refused
  ];
}

-- one value was found, and then the rest
judge_more : {X Y V W : Type 0} (first : Reader X) (next : X → Reader Y) (holds : X → V → Type 0) (sees : Y → W → Type 0) (a b c : Source) (v : V) (out : Result W RecordFault) →
    Judges holds first a b (Ok v) → ((x : X) → holds x v → Judges sees (next x) b c out) → Judges sees (first >>= next) a c out
judge_more first next holds sees a b c v (Ok w) one rest = record {
  judges = λ bytes s st.
      let here = one.judges bytes s st in
      let there = (rest here.0 here.4).judges bytes here.1 here.3 in
      (there.0, there.1, record { either = inl (here.0, here.1, here.2, there.2) }, there.3, there.4);
}
judge_more first next holds sees a b c v (Err f) one rest = record {
  judges = λ bytes s st.
      let here = one.judges bytes s st in
      let there = (rest here.0 here.4).judges bytes here.1 here.3 in
      record { either = inl (here.0, here.1, here.2, there) };
}

pub judge_next : {X Y V W : Type 0} {first : Reader X} {next : X → Reader Y} {holds : X → V → Type 0} {sees : Y → W → Type 0} {a b c : Source} {v : V} {out : Result W RecordFault} →
    Judges holds first a b (Ok v) → ((x : X) → holds x v → Judges sees (next x) b c out) → Judges sees (first >>= next) a c out
judge_next {first = first} {next = next} {holds = holds} {sees = sees} {a = a} {b = b} {c = c} {v = v} {out = out} one rest = judge_more first next holds sees a b c v out one rest

-- one value was given, and then the rest is judged
judge_given : {X Y V W : Type 0} (first : Reader X) (next : X → Reader Y) (view : V → X) (sees : Y → W → Type 0) (a b c : Source) (v : V) (out : Result W RecordFault) →
    Gives view first a b (Ok v) → Judges sees (next (view v)) b c out → Judges sees (first >>= next) a c out
judge_given first next view sees a b c v (Ok w) one rest = record {
  judges = λ bytes s st.
      let here = one.gives bytes s st in
      let there = rest.judges bytes here.0 here.2 in
      (there.0, there.1, record { either = inl (view v, here.0, here.1, there.2) }, there.3, there.4);
}
judge_given first next view sees a b c v (Err f) one rest = record {
  judges = λ bytes s st.
      let here = one.gives bytes s st in
      record { either = inl (view v, here.0, here.1, rest.judges bytes here.0 here.2) };
}

pub and_judge : {X Y V W : Type 0} {first : Reader X} {next : X → Reader Y} {view : V → X} {sees : Y → W → Type 0} {a b c : Source} {v : V} {out : Result W RecordFault} →
    Gives view first a b (Ok v) → Judges sees (next (view v)) b c out → Judges sees (first >>= next) a c out
and_judge {first = first} {next = next} {view = view} {sees = sees} {a = a} {b = b} {c = c} {v = v} {out = out} one rest = judge_given first next view sees a b c v out one rest

-- the first value was refused
pub judge_stop : {X Y V W : Type 0} {first : Reader X} {next : X → Reader Y} {holds : X → V → Type 0} {sees : Y → W → Type 0} {a b c : Source} {f : RecordFault} →
    Judges {Y = V} holds first a b (Err f) → Judges {Y = W} sees (first >>= next) a c (Err f)
judge_stop {f = f} one = record { judges = λ bytes s st. record { either = inr (f, one.judges bytes s st, refl) } }

-- the same of a value that was to be given
pub stop_given : {X Y V W : Type 0} {first : Reader X} {next : X → Reader Y} {view : V → X} {sees : Y → W → Type 0} {a b c : Source} {f : RecordFault} →
    Gives {Y = V} view first a b (Err f) → (f ≡ fault.OutOfMemory → ⊥) → Judges {Y = W} sees (first >>= next) a c (Err f)
stop_given {f = f} one told = record {
  judges = λ bytes s st. elim (one.gives bytes s st) [
    | inl memory ↦ absurd (told memory)
    | inr refused ↦ record { either = inr (f, refused, refl) }
  ];
}

pub judge_done : {X W : Type 0} (x : X) {holds : X → W → Type 0} {a : Source} {w : W} → holds x w → Judges holds (done x) a a (Ok w)
unfolding done
judge_done x is = record { judges = λ bytes s st. (x, s, refl, st, is) }

pub judge_required : {X W : Type 0} (test : Bool) (f : RecordFault) (next : Bool → Reader X) (sees : X → W → Type 0) (a b : Source) (out : Result W RecordFault) →
    IsTrue test → Judges sees (next true) a b out → Judges sees (require test f >>= next) a b out
unfolding require
judge_required true f next sees a b out holds rest = judge_given (require true f) next (λ (x : Bool). x) sees a a b true out (record { gives = λ bytes s st. (s, refl, st) }) rest
judge_required false f next sees a b out holds rest = absurd (search rules)

pub judge_refused : {X W : Type 0} (test : Bool) (f : RecordFault) (next : Bool → Reader X) (sees : X → W → Type 0) (a b : Source) → IsFalse test → Judges {Y = W} sees (require test f >>= next) a b (Err f)
unfolding require
judge_refused true f next sees a b fails = absurd (search rules)
judge_refused false f next sees a b fails = record { judges = λ bytes s st. record { either = inr (f, refl, refl) } }

-- a fault that is handed on
pub judge_handed : {X W : Type 0} {r : Reader X} {sees : X → W → Type 0} {a c : Source} {f : RecordFault} (result : Result W RecordFault) → IsErrAnd result (λ g. g ≡ f) → Judges sees r a c (Err f) → Judges sees r a c result
judge_handed {r = r} {sees = sees} {a = a} {c = c} {f = f} result err one =
    let p = err_from_is_err_and result err in
    rw (p.1, p.2) one

-- so many sets were found
pub record LeadsSets (count k : ℕ) (a c : Source) : Type 0 where
  pub leads : (b : List ℕ) (s : Spot) → Stands a b s →
      (t : Spot) × (ss : List Set) × (length ss ≡ k) × Stands c b t × ((out : Result (List Set × Spot) RecordFault) → sets_onto (count - k) ss b t out → sets_onto count [] b s out)

pub no_sets : (count : ℕ) (a : Source) → LeadsSets count 0 a a
no_sets count a =
    let all : count - 0 ≡ count = omega arith in
    record { leads = λ b s st. (s, [], refl, st, λ out h. rw all at h) }

sets_step : (k : ℕ) (ss : List Set) (b : List ℕ) (t : Spot) (out : Result (List Set × Spot) RecordFault) → (set >>= λ s. sets_onto k (ss ++ (s ∷ []))) b t out → sets_onto (suc k) ss b t out
unfolding sets_onto
sets_step k ss b t out h = h

-- one more of a list
pub one_longer : {X : Type 0} (xs : List X) (x : X) (k : ℕ) → length xs ≡ k → length (xs ++ (x ∷ [])) ≡ k + 1
one_longer xs x k is = length-append xs (x ∷ []) ∙ ap (λ n. n + 1) is

pub one_set_more : (count k : ℕ) (a c d : Source) → k < count → LeadsSets count k a c → Judges (λ (x : Set) (y : Unit {0}). Unit {0}) set c d (Ok tt) → LeadsSets count (k + 1) a d
one_set_more count k a c d below lead one =
    let left : count - k ≡ suc (count - (k + 1)) = omega arith in
    record {
      leads = λ b s st.
          let here = lead.leads b s st in
          let on = one.judges b here.0 here.3 in
          let rest = rw left at here.4 in
          (on.1, here.1 ++ (on.0 ∷ []), one_longer here.1 on.0 k here.2, on.3, λ out h. rest out (sets_step (count - (k + 1)) here.1 b here.0 out (record { either = inl (on.0, on.1, on.2, h) })));
    }

pub set_refused : {W : Type 0} {sees : List Set → W → Type 0} (count k : ℕ) (a c d : Source) (f : RecordFault) → k < count → LeadsSets count k a c → Judges {Y = Unit {0}} (λ (x : Set) y. Unit {0}) set c d (Err f) → Judges {Y = W} sees (sets_onto count []) a d (Err f)
set_refused count k a c d f below lead one =
    let left : count - k ≡ suc (count - (k + 1)) = omega arith in
    record {
      judges = λ b s st.
          let here = lead.leads b s st in
          let rest = rw left at here.4 in
          rest (Err f) (sets_step (count - (k + 1)) here.1 b here.0 (Err f) (record { either = inr (f, one.judges b here.0 here.3, refl) }));
    }

no_more : (ss : List Set) (b : List ℕ) (t : Spot) → sets_onto zero ss b t (Ok (ss, t))
unfolding sets_onto done
no_more ss b t = refl

pub all_sets : (count : ℕ) (a c : Source) → LeadsSets count count a c → Judges (λ (ss : List Set) (y : Unit {0}). length ss ≡ count) (sets_onto count []) a c (Ok tt)
all_sets count a c lead =
    let none : count - count ≡ zero = omega arith in
    record {
      judges = λ b s st.
          let here = lead.leads b s st in
          let rest = rw none at here.4 in
          (here.1, here.0, rest (Ok (here.1, here.0)) (no_more here.1 b here.0), here.3, here.2);
    }

-- Values that calls give one after the other.
use Rattle.std.proofs.Common.{get_or, ◌≡◌, ◌≢◌, refl, ℕ, ◌^◌, ◌<◌, ◌≤◌, Bool, true, false, List, [], ◌∷◌, ◌++◌, Result, Ok, Err, ap, sym, subst, ◌∙◌, inl, inr, append_assoc, append-nil, lt-ltb, le-ltb}
use Rattle.std.specs.Result.{IsErrAnd}
use Rattle.std.proofs.lemmas.Result.{err_from_is_err_and}
use Rattle.std.proofs.lemmas.Bool.{eq-eqb, ne_eqb}
use Rattle.ffv1_range.specs.Table.{Table}
use Rattle.ffv1_range.specs.Reading.{Reading}
use Rattle.ffv1_range.specs.Symbols.{Step, unsigned_steps, too_long}
use Rattle.ffv1_range.specs.History.{AreBelow}
use Rattle.ffv1_range.specs.Follows.{Follows}
use Rattle.ffv1_range.specs.Writing.{Writing}
use Rattle.ffv1_range.specs.Puts.{Puts, MayBeRefused}
use Rattle.ffv1_range.proofs.Growth.{refused_first, refused_second}
use Rattle.ffv1_range.proofs.Steps.{follows_append, puts_append}
use Rattle.ffv1_range.proofs.Windows.{AreBelow-append, too_long_below}
use Rattle.ffv1_range.proofs.Unsigned.{unsigned_below}
use Rattle.ffv1_record.specs.declared.config.Profile.{Profile}
use Rattle.ffv1_slice.specs.declared.fault.SliceFault.{SliceFault}
use Rattle.ffv1_slice.specs.declared.fault.SliceFault.TheVariants as fault
use Rattle.ffv1_slice.specs.Head.{Rule, Meets, Stops, values_steps, indexes_of, placed, indexed, structured, unjudged, proportioned, has_aspect, index_rules}
use Rattle.ffv1_slice.specs.Internal.Values.{Gives, seen}

pub values_steps-append : (vs ws : List ℕ) → values_steps (vs ++ ws) ≡ values_steps vs ++ values_steps ws
values_steps-append [] ws = refl
values_steps-append (v ∷ vs) ws =
    ap (λ zs. unsigned_steps v ++ zs) (values_steps-append vs ws) ∙ sym (append_assoc (unsigned_steps v) (values_steps vs) (values_steps ws))

-- slots of a head
pub values_below : (vs : List ℕ) → AreBelow (values_steps vs) 32
values_below [] = tt
values_below (v ∷ vs) = AreBelow-append (unsigned_steps v) (values_steps vs) 32 (unsigned_below v) (values_below vs)

pub stops_below : (rs : List Rule) (before : ℕ) (f : SliceFault) (steps : List Step) → Stops rs before f steps → AreBelow steps 32
unfolding Stops
stops_below [] before f steps p = absurd p
stops_below (r ∷ rs) before f steps p =
    let below : List Step → Type 0 = λ zs. AreBelow zs 32 in
    elim p [
      | inl e ↦ subst below (sym e.1) too_long_below
      | inr d ↦ elim d [
        | inl e ↦ subst below (sym e.4) (unsigned_below e.0)
        | inr e ↦ subst below (sym e.5) (AreBelow-append (unsigned_steps e.0) e.1 32 (unsigned_below e.0) (stops_below rs e.0 f e.1 e.4))
      ]
    ]

-- the value before what comes after some values
last_of : ℕ → List ℕ → ℕ
last_of before [] = before
last_of before (v ∷ vs) = last_of v vs

meets_append : (rs qs : List Rule) (before : ℕ) (vs ws : List ℕ) → Meets rs before vs → Meets qs (last_of before vs) ws → Meets (rs ++ qs) before (vs ++ ws)
unfolding Meets last_of
meets_append [] qs before [] ws p q = q
meets_append [] qs before (v ∷ vs) ws p q = absurd p
meets_append (r ∷ rs) qs before [] ws p q = absurd p
meets_append (r ∷ rs) qs before (v ∷ vs) ws p q = (p.0, p.1, meets_append rs qs v vs ws p.2 q)

stops_front : (rs qs : List Rule) (before : ℕ) (f : SliceFault) (steps : List Step) → Stops rs before f steps → Stops (rs ++ qs) before f steps
unfolding Stops
stops_front [] qs before f steps p = absurd p
stops_front (r ∷ rs) qs before f steps p = elim p [
  | inl e ↦ inl e
  | inr d ↦ elim d [
    | inl e ↦ inr (inl e)
    | inr e ↦ inr (inr (e.0, e.1, e.2, e.3, stops_front rs qs e.0 f e.1 e.4, e.5))
  ]
]

stops_behind : (rs qs : List Rule) (before : ℕ) (vs : List ℕ) (f : SliceFault) (steps : List Step) → Meets rs before vs → Stops qs (last_of before vs) f steps →
    Stops (rs ++ qs) before f (values_steps vs ++ steps)
unfolding Meets Stops last_of
stops_behind [] qs before [] f steps p q = q
stops_behind [] qs before (v ∷ vs) f steps p q = absurd p
stops_behind (r ∷ rs) qs before [] f steps p q = absurd p
stops_behind (r ∷ rs) qs before (v ∷ vs) f steps p q =
    inr (inr (v, values_steps vs ++ steps, p.0, p.1, stops_behind rs qs v vs f steps p.2 q, append_assoc (unsigned_steps v) (values_steps vs) steps))

-- what is given after some values
abbrev pub behind : List ℕ → Result (List ℕ) SliceFault → Result (List ℕ) SliceFault
behind vs (Ok ws) = Ok (vs ++ ws)
behind vs (Err f) = Err f

pub gives_next : (t : Table) (rs qs : List Rule) (a b c : Reading) (ss ts us vs : List ℕ) (out : Result (List ℕ) SliceFault) →
    Gives t rs a ss b ts (Ok vs) → Gives t qs b ts c us out → Gives t (rs ++ qs) a ss c us (behind vs out)
gives_next t rs qs a b c ss ts us vs (Ok ws) one two = record {
  gives = λ before.
      let first = one.gives before in
      let second = two.gives (last_of before vs) in (
        meets_append rs qs before vs ws first.0 second.0,
        subst (Follows t a ss c us) (sym (values_steps-append vs ws)) (follows_append t a b c ss ts us (values_steps vs) (values_steps ws) first.1 second.1),
      );
}
gives_next t rs qs a b c ss ts us vs (Err f) one two = record {
  gives = λ before.
      let first = one.gives before in
      let second = two.gives (last_of before vs) in (
        values_steps vs ++ second.0,
        stops_behind rs qs before vs f second.0 first.0 second.1,
        follows_append t a b c ss ts us (values_steps vs) second.0 first.1 second.2,
      );
}

pub gives_stop : (t : Table) (rs qs : List Rule) (a b : Reading) (ss ts : List ℕ) (f : SliceFault) → Gives t rs a ss b ts (Err f) → Gives t (rs ++ qs) a ss b ts (Err f)
gives_stop t rs qs a b ss ts f one = record {
  gives = λ before. let first = one.gives before in (first.0, stops_front rs qs before f first.0 first.1, first.2);
}

-- one value
pub gives_value : (t : Table) (r : Rule) (a b : Reading) (ss ts : List ℕ) (v : ℕ) → v < 2 ^ 31 → ((before : ℕ) → r.passes before v ≡ true) → Follows t a ss b ts (unsigned_steps v) →
    Gives t (r ∷ []) a ss b ts (Ok (v ∷ []))
unfolding Meets
gives_value t r a b ss ts v small passes follows = record {
  gives = λ before. ((small, passes before, tt), subst (Follows t a ss b ts) (sym (append-nil (unsigned_steps v))) follows);
}

pub refuses_value : (t : Table) (r : Rule) (a b : Reading) (ss ts : List ℕ) (v : ℕ) → v < 2 ^ 31 → ((before : ℕ) → r.passes before v ≡ false) → Follows t a ss b ts (unsigned_steps v) →
    Gives t (r ∷ []) a ss b ts (Err r.fault)
unfolding Stops
refuses_value t r a b ss ts v small fails follows = record {
  gives = λ before. (unsigned_steps v, inr (inl (v, small, fails before, refl, refl)), follows);
}

pub refuses_long : (t : Table) (r : Rule) (rs : List Rule) (a b : Reading) (ss ts : List ℕ) (f : SliceFault) → f ≡ fault.SymbolTooLong → Follows t a ss b ts too_long → Gives t (r ∷ rs) a ss b ts (Err f)
unfolding Stops
refuses_long t r rs a b ss ts f is follows = record { gives = λ before. (too_long, inl (is, refl), follows) }

-- calls one after the other
pub and_gives : {t : Table} {rs qs : List Rule} {a b c : Reading} {ss ts us vs ws : List ℕ} → Gives t rs a ss b ts (Ok vs) → Gives t qs b ts c us (Ok ws) → Gives t (rs ++ qs) a ss c us (Ok (vs ++ ws))
and_gives {t = t} {rs = rs} {qs = qs} {a = a} {b = b} {c = c} {ss = ss} {ts = ts} {us = us} {vs = vs} {ws = ws} one two = gives_next t rs qs a b c ss ts us vs (Ok ws) one two

pub and_stops : {t : Table} {rs qs : List Rule} {a b c : Reading} {ss ts us vs : List ℕ} {f : SliceFault} → Gives t rs a ss b ts (Ok vs) → Gives t qs b ts c us (Err f) → Gives t (rs ++ qs) a ss c us (Err f)
and_stops {t = t} {rs = rs} {qs = qs} {a = a} {b = b} {c = c} {ss = ss} {ts = ts} {us = us} {vs = vs} {f = f} one two = gives_next t rs qs a b c ss ts us vs (Err f) one two

pub stops : {t : Table} {rs : List Rule} (qs : List Rule) {a b : Reading} {ss ts : List ℕ} {f : SliceFault} → Gives t rs a ss b ts (Err f) → Gives t (rs ++ qs) a ss b ts (Err f)
stops {t = t} {rs = rs} qs {a = a} {b = b} {ss = ss} {ts = ts} {f = f} one = gives_stop t rs qs a b ss ts f one

-- a fault that is handed on
pub handed : {Y : Type 0} (view : Y → List ℕ) {t : Table} {rs : List Rule} {a b : Reading} {ss ts : List ℕ} {f : SliceFault} (result : Result Y SliceFault) → IsErrAnd result (λ g. g ≡ f) →
    Gives t rs a ss b ts (Err f) → Gives t rs a ss b ts (seen view result)
handed view result err one =
    let p = err_from_is_err_and result err in
    rw (p.1, p.2) one

-- a value of a position
pub gives_placed : (t : Table) (k : ℕ) (a b : Reading) (ss ts : List ℕ) (v : ℕ) → v ≡ k → v < 2 ^ 31 → Follows t a ss b ts (unsigned_steps v) → Gives t (placed k ∷ []) a ss b ts (Ok (k ∷ []))
gives_placed t k a b ss ts v same small follows =
    subst (λ n. Gives t (placed k ∷ []) a ss b ts (Ok (n ∷ []))) same (gives_value t (placed k) a b ss ts v small (λ before. eq-eqb v k same) follows)

pub refuses_placed : (t : Table) (k : ℕ) (a b : Reading) (ss ts : List ℕ) (v : ℕ) → v ≢ k → v < 2 ^ 31 → Follows t a ss b ts (unsigned_steps v) → Gives t (placed k ∷ []) a ss b ts (Err fault.Place)
refuses_placed t k a b ss ts v other small follows = refuses_value t (placed k) a b ss ts v small (λ before. ne_eqb v k other) follows

-- an index
pub gives_indexed : (t : Table) (count : ℕ) (a b : Reading) (ss ts : List ℕ) (v : ℕ) → v < count → v < 2 ^ 31 → Follows t a ss b ts (unsigned_steps v) → Gives t (indexed count ∷ []) a ss b ts (Ok (v ∷ []))
gives_indexed t count a b ss ts v below small follows = gives_value t (indexed count) a b ss ts v small (λ before. lt-ltb v count below) follows

pub refuses_indexed : (t : Table) (count : ℕ) (a b : Reading) (ss ts : List ℕ) (v : ℕ) → count ≤ v → v < 2 ^ 31 → Follows t a ss b ts (unsigned_steps v) → Gives t (indexed count ∷ []) a ss b ts (Err fault.SetIndex)
refuses_indexed t count a b ss ts v above small follows = refuses_value t (indexed count) a b ss ts v small (λ before. le-ltb v count above) follows

-- a structure
pub gives_structured : (t : Table) (a b : Reading) (ss ts : List ℕ) (v : ℕ) → v < 4 → v < 2 ^ 31 → Follows t a ss b ts (unsigned_steps v) → Gives t (structured ∷ []) a ss b ts (Ok (v ∷ []))
gives_structured t a b ss ts v below small follows = gives_value t structured a b ss ts v small (λ before. lt-ltb v 4 below) follows

pub refuses_structured : (t : Table) (a b : Reading) (ss ts : List ℕ) (v : ℕ) → 4 ≤ v → v < 2 ^ 31 → Follows t a ss b ts (unsigned_steps v) → Gives t (structured ∷ []) a ss b ts (Err fault.Structure)
refuses_structured t a b ss ts v above small follows = refuses_value t structured a b ss ts v small (λ before. le-ltb v 4 above) follows

-- an aspect
module _ (pr : Profile) (t : Table) (a b c : Reading) (ss ts us : List ℕ) (num : ℕ) (small : num < 2 ^ 31) (first : Follows t a ss b ts (unsigned_steps num)) where
  pub aspect_long : (f : SliceFault) → f ≡ fault.SymbolTooLong → Follows t b ts c us too_long → Gives t (unjudged ∷ proportioned pr ∷ []) a ss c us (Err f)
  unfolding Stops
  aspect_long f is second = record {
    gives = λ before. (unsigned_steps num ++ too_long, inr (inr (num, too_long, small, refl, inl (is, refl), refl)), follows_append t a b c ss ts us (unsigned_steps num) too_long first second);
  }

  pub gives_aspect : (den : ℕ) → den < 2 ^ 31 → has_aspect pr num den ≡ true → Follows t b ts c us (unsigned_steps den) → Gives t (unjudged ∷ proportioned pr ∷ []) a ss c us (Ok (num ∷ den ∷ []))
  unfolding Meets
  gives_aspect den small_den is second = record {
    gives = λ before. (
      (small, refl, (small_den, is, tt)),
      follows_append t a b c ss ts us (unsigned_steps num) (unsigned_steps den ++ []) first (subst (Follows t b ts c us) (sym (append-nil (unsigned_steps den))) second),
    );
  }

  pub refuses_aspect : (den : ℕ) → den < 2 ^ 31 → has_aspect pr num den ≡ false → Follows t b ts c us (unsigned_steps den) → Gives t (unjudged ∷ proportioned pr ∷ []) a ss c us (Err fault.Aspect)
  unfolding Stops
  refuses_aspect den small_den is second = record {
    gives = λ before. (
      unsigned_steps num ++ unsigned_steps den,
      inr (inr (num, unsigned_steps den, small, refl, inr (inl (den, small_den, is, refl, refl)), refl)),
      follows_append t a b c ss ts us (unsigned_steps num) (unsigned_steps den) first second,
    );
  }

-- indexes, of which there may be a third
pub first_index_stops : (extra : Bool) (count : ℕ) {t : Table} {a b : Reading} {ss ts : List ℕ} {f : SliceFault} → Gives t (indexed count ∷ []) a ss b ts (Err f) → Gives t (index_rules extra count) a ss b ts (Err f)
first_index_stops false count one = stops (indexed count ∷ []) one
first_index_stops true count one = stops (indexed count ∷ indexed count ∷ []) one

pub second_index_stops : (extra : Bool) (count : ℕ) {t : Table} {a b c : Reading} {ss ts us vs : List ℕ} {f : SliceFault} → Gives t (indexed count ∷ []) a ss b ts (Ok vs) →
    Gives t (indexed count ∷ []) b ts c us (Err f) → Gives t (index_rules extra count) a ss c us (Err f)
second_index_stops false count one two = and_stops one two
second_index_stops true count one two = and_stops one (stops (indexed count ∷ []) two)

-- values that are put one after the other
pub and_puts : {t : Table} {a b c : Writing} {ss ts us : List ℕ} (vs ws : List ℕ) → Puts t a ss b ts (values_steps vs) → Puts t b ts c us (values_steps ws) → Puts t a ss c us (values_steps (vs ++ ws))
and_puts {t = t} {a = a} {b = b} {c = c} {ss = ss} {ts = ts} {us = us} vs ws one two =
    subst (Puts t a ss c us) (sym (values_steps-append vs ws)) (puts_append t a b c ss ts us (values_steps vs) (values_steps ws) one two)

-- numbers that may be refused memory, before others and after others
pub refused_first_of : (t : Table) (w : Writing) (states vs ws : List ℕ) → MayBeRefused t w states (values_steps vs) → MayBeRefused t w states (values_steps (vs ++ ws))
refused_first_of t w states vs ws refused =
    subst (MayBeRefused t w states) (sym (values_steps-append vs ws)) (refused_first t w states (values_steps vs) (values_steps ws) refused)

pub refused_behind : (t : Table) (a b : Writing) (states after vs ws : List ℕ) → Puts t a states b after (values_steps vs) → MayBeRefused t b after (values_steps ws) → MayBeRefused t a states (values_steps (vs ++ ws))
refused_behind t a b states after vs ws puts refused =
    subst (MayBeRefused t a states) (sym (values_steps-append vs ws)) (refused_second t a b states after (values_steps vs) (values_steps ws) puts refused)

pub indexes_first : (extra : Bool) (t : Table) (w : Writing) (states xs : List ℕ) → MayBeRefused t w states (values_steps (get_or xs 0 0 ∷ [])) → MayBeRefused t w states (values_steps (indexes_of extra xs))
indexes_first false t w states xs refused = refused_first_of t w states (get_or xs 0 0 ∷ []) (get_or xs 1 0 ∷ []) refused
indexes_first true t w states xs refused = refused_first_of t w states (get_or xs 0 0 ∷ []) (get_or xs 1 0 ∷ get_or xs 2 0 ∷ []) refused

pub indexes_second : (extra : Bool) (t : Table) (a b : Writing) (states after xs : List ℕ) → Puts t a states b after (values_steps (get_or xs 0 0 ∷ [])) →
    MayBeRefused t b after (values_steps (get_or xs 1 0 ∷ [])) → MayBeRefused t a states (values_steps (indexes_of extra xs))
indexes_second false t a b states after xs puts refused = refused_behind t a b states after (get_or xs 0 0 ∷ []) (get_or xs 1 0 ∷ []) puts refused
indexes_second true t a b states after xs puts refused =
    refused_behind t a b states after (get_or xs 0 0 ∷ []) (get_or xs 1 0 ∷ get_or xs 2 0 ∷ []) puts
    (refused_first_of t b after (get_or xs 1 0 ∷ []) (get_or xs 2 0 ∷ []) refused)

-- What is left to read, in the middle of a loop.
use Rattle.std.proofs.Common.{◌≡◌, refl, ℕ, zero, suc, ◌+◌, ◌-◌, ◌<◌, inl, inr, Bool, true, false, List, [], ◌∷◌, ◌++◌, length, take, slice_set, arith, ℤ, Result, Ok, Err, not, take_all, add-one}
use Rattle.std.proofs.Math.Seq.{take-suc-set}
use Rattle.ffv1_plane.specs.Quantisation.{Set}
use Rattle.ffv1_record.specs.declared.fault.RecordFault.{RecordFault}
use Rattle.ffv1_record.specs.declared.fault.RecordFault.TheVariants as fault
use Rattle.ffv1_record.specs.Reader.{Reader, Spot, ◌>>=◌, done, require, signed_number, truth}
use Rattle.ffv1_record.specs.Reading.{deltas_onto, sets_onto, uncoded, set}
use Rattle.ffv1_record.specs.Internal.Given.{Source, Stands, Gives}
use Rattle.ffv1_record.proofs.CallsGive.{gives_next, gives_stop, gives_done, gives_refused}

-- what is read from here on is what is read from there
pub record Leads {X : Type 0} (here there : Reader X) (a c : Source) : Type 0 where
  pub leads : (b : List ℕ) (s : Spot) → Stands a b s → (t : Spot) × Stands c b t × ((out : Result (X × Spot) RecordFault) → here b t out → there b s out)

pub leads_none : {X : Type 0} (r : Reader X) (a : Source) → Leads r r a a
leads_none r a = record { leads = λ b s st. (s, st, λ out h. h) }

pub leads_next : {X Y V : Type 0} (first : Reader X) (next : X → Reader Y) (there : Reader Y) (view : V → X) (a c d : Source) (v : V) →
    Leads (first >>= next) there a c → Gives view first c d (Ok v) → Leads (next (view v)) there a d
leads_next first next there view a c d v lead one = record {
  leads = λ b s st.
      let here = lead.leads b s st in
      let on = one.gives b here.0 here.1 in
      (on.0, on.2, λ out h. here.2 out (record { either = inl (view v, on.0, on.1, h) }));
}

pub leads_gives : {X V : Type 0} (here there : Reader X) (view : V → X) (a c d : Source) (out : Result V RecordFault) → Leads here there a c → Gives view here c d out → Gives view there a d out
leads_gives here there view a c d (Ok v) lead rest = record {
  gives = λ b s st.
      let on = lead.leads b s st in
      let end = rest.gives b on.0 on.1 in
      (end.0, on.2 (Ok (view v, end.0)) end.1, end.2);
}
leads_gives here there view a c d (Err f) lead rest = record {
  gives = λ b s st.
      let on = lead.leads b s st in
      elim (rest.gives b on.0 on.1) [
        | inl memory ↦ inl memory
        | inr refused ↦ inr (on.2 (Err f) refused)
      ];
}

-- deltas
deltas_step : (k : ℕ) (ds : List ℤ) (there : Reader (List ℤ)) (a c : Source) → Leads (deltas_onto (suc k) ds) there a c → Leads (signed_number >>= λ d. deltas_onto k (ds ++ (d ∷ []))) there a c
unfolding deltas_onto
deltas_step k ds there a c h = h

pub deltas_refuse : (k : ℕ) (ds : List ℤ) (there : Reader (List ℤ)) (a c d : Source) (f : RecordFault) → Leads (deltas_onto (suc k) ds) there a c → Gives {Y = List ℤ} (λ x. x) (signed_number >>= λ d. deltas_onto k (ds ++ (d ∷ []))) c d (Err f) →
    Gives {Y = List ℤ} (λ x. x) there a d (Err f)
deltas_refuse k ds there a c d f lead stop = leads_gives (signed_number >>= λ d. deltas_onto k (ds ++ (d ∷ []))) there (λ x. x) a c d (Err f) (deltas_step k ds there a c lead) stop

pub deltas_next : (count k : ℕ) (ds : List ℤ) (v : ℤ) (there : Reader (List ℤ)) (a c d : Source) → k < count → length ds ≡ count → Leads (deltas_onto (count - k) (take k ds)) there a c →
    Gives (λ x. x) signed_number c d (Ok v) → Leads (deltas_onto (count - (k + 1)) (take (k + 1) (slice_set ds k v))) there a d
deltas_next count k ds v there a c d below long lead one =
    let left : count - k ≡ suc (count - (k + 1)) = omega arith in
    let inside : k < length ds = omega arith in
    let on = leads_next signed_number (λ d. deltas_onto (count - (k + 1)) (take k ds ++ (d ∷ []))) there (λ x. x) a c d v (deltas_step (count - (k + 1)) (take k ds) there a c (rw left at lead)) one in
    rw (take_more ds k v inside) on
  where
    take_more : (ds : List ℤ) (k : ℕ) (v : ℤ) → k < length ds → take (k + 1) (slice_set ds k v) ≡ take k ds ++ (v ∷ [])
    take_more ds k v inside = rw (add-one k) (take-suc-set ds k v inside)

deltas_done : (ds : List ℤ) (there : Reader (List ℤ)) (a c : Source) → Leads (deltas_onto zero ds) there a c → Leads (done ds) there a c
unfolding deltas_onto
deltas_done ds there a c h = h

pub deltas_end : (count : ℕ) (ds : List ℤ) (there : Reader (List ℤ)) (a c : Source) → length ds ≡ count → Leads (deltas_onto (count - count) (take count ds)) there a c → Gives (λ x. x) there a c (Ok ds)
deltas_end count ds there a c long lead =
    let none : count - count ≡ zero = omega arith in
    let all : take count ds ≡ ds = take_all count ds (omega arith) in
    leads_gives (done ds) there (λ x. x) a c c (Ok ds) (deltas_done ds there a c (rw (none, all) at lead)) (gives_done (λ x. x) c ds)

-- sets
sets_step : (k : ℕ) (ss : List Set) (there : Reader (List Set)) (a c : Source) → Leads (sets_onto (suc k) ss) there a c → Leads (set >>= λ s. sets_onto k (ss ++ (s ∷ []))) there a c
unfolding sets_onto
sets_step k ss there a c h = h

pub sets_next : (count k : ℕ) (ss : List Set) (s : Set) (there : Reader (List Set)) (a c d : Source) → k < count → Leads (sets_onto (count - k) ss) there a c →
    Gives (λ x. x) set c d (Ok s) → Leads (sets_onto (count - (k + 1)) (ss ++ (s ∷ []))) there a d
sets_next count k ss s there a c d below lead one =
    let left : count - k ≡ suc (count - (k + 1)) = omega arith in
    leads_next set (λ s. sets_onto (count - (k + 1)) (ss ++ (s ∷ []))) there (λ x. x) a c d s (sets_step (count - (k + 1)) ss there a c (rw left at lead)) one

pub sets_refuse : (count k : ℕ) (ss : List Set) (there : Reader (List Set)) (a c d : Source) (f : RecordFault) → k < count → Leads (sets_onto (count - k) ss) there a c →
    Gives {Y = Set} (λ x. x) set c d (Err f) → Gives {Y = List Set} (λ x. x) there a d (Err f)
sets_refuse count k ss there a c d f below lead stop =
    let left : count - k ≡ suc (count - (k + 1)) = omega arith in
    leads_gives (set >>= λ s. sets_onto (count - (k + 1)) (ss ++ (s ∷ []))) there (λ x. x) a c d (Err f) (sets_step (count - (k + 1)) ss there a c (rw left at lead))
    (gives_stop set (λ s. sets_onto (count - (k + 1)) (ss ++ (s ∷ []))) (λ (x : Set). x) (λ x. x) c d d f stop)

sets_done : (ss : List Set) (there : Reader (List Set)) (a c : Source) → Leads (sets_onto zero ss) there a c → Leads (done ss) there a c
unfolding sets_onto
sets_done ss there a c h = h

pub sets_end : (count : ℕ) (ss : List Set) (there : Reader (List Set)) (a c : Source) → Leads (sets_onto (count - count) ss) there a c → Gives (λ x. x) there a c (Ok ss)
sets_end count ss there a c lead =
    let none : count - count ≡ zero = omega arith in
    leads_gives (done ss) there (λ x. x) a c c (Ok ss) (sets_done ss there a c (rw none at lead)) (gives_done (λ x. x) c ss)

-- states_coded
uncoded_step : (k : ℕ) (there : Reader Bool) (a c : Source) → Leads (uncoded (suc k)) there a c → Leads (truth >>= λ b. require (not b) fault.CodedStates >>= λ _. uncoded k) there a c
unfolding uncoded
uncoded_step k there a c h = h

uncoded_done : (there : Reader Bool) (a c : Source) → Leads (uncoded zero) there a c → Leads (done true) there a c
unfolding uncoded
uncoded_done there a c h = h

required : (d : Source) → Gives (λ (x : Bool). x) (require true fault.CodedStates) d d (Ok true)
unfolding require
required d = record { gives = λ b s st. (s, refl, st) }

pub uncoded_next : (count k : ℕ) (there : Reader Bool) (a c d : Source) → k < count → Leads (uncoded (count - k)) there a c → Gives (λ x. x) truth c d (Ok false) → Leads (uncoded (count - (k + 1))) there a d
uncoded_next count k there a c d below lead one =
    let left : count - k ≡ suc (count - (k + 1)) = omega arith in
    let on = leads_next truth (λ b. require (not b) fault.CodedStates >>= λ _. uncoded (count - (k + 1))) there (λ x. x) a c d false (uncoded_step (count - (k + 1)) there a c (rw left at lead)) one in
    leads_next (require true fault.CodedStates) (λ _. uncoded (count - (k + 1))) there (λ (x : Bool). x) a d d true on (required d)

refuse_coded : (count k : ℕ) (there : Reader Bool) (a c d : Source) → k < count → Leads (uncoded (count - k)) there a c → Gives (λ x. x) truth c d (Ok true) → Gives {Y = Bool} (λ x. x) there a d (Err fault.CodedStates)
refuse_coded count k there a c d below lead one =
    let left : count - k ≡ suc (count - (k + 1)) = omega arith in
    leads_gives (truth >>= λ b. require (not b) fault.CodedStates >>= λ _. uncoded (count - (k + 1))) there (λ x. x) a c d (Err fault.CodedStates) (uncoded_step (count - (k + 1)) there a c (rw left at lead))
    (gives_next truth (λ b. require (not b) fault.CodedStates >>= λ _. uncoded (count - (k + 1))) (λ x. x) (λ x. x) c d d true (Err fault.CodedStates) one (gives_refused false fault.CodedStates (λ _. uncoded (count - (k + 1))) (λ x. x) d d refl))

pub uncoded_refuse : (count k : ℕ) (there : Reader Bool) (a c d : Source) → k < count → Leads (uncoded (count - k)) there a c → Gives (λ x. x) truth c d (Ok true) → Gives {Y = Unit {0}} (λ _. true) there a d (Err fault.CodedStates)
uncoded_refuse count k there a c d below lead one = record { gives = (refuse_coded count k there a c d below lead one).gives }

pub uncoded_end : (count : ℕ) (there : Reader Bool) (a c : Source) → Leads (uncoded (count - count)) there a c → Gives (λ (_ : Unit {0}). true) there a c (Ok tt)
uncoded_end count there a c lead =
    let none : count - count ≡ zero = omega arith in
    let read : Gives (λ (x : Bool). x) there a c (Ok true) =
    leads_gives (done true) there (λ x. x) a c c (Ok true) (uncoded_done there a c (rw none at lead)) (gives_done (λ x. x) c true) in
    record { gives = read.gives }

pub deltas_refuse_at : (count k : ℕ) (ds : List ℤ) (there : Reader (List ℤ)) (a c d : Source) (f : RecordFault) → k < count → Leads (deltas_onto (count - k) (take k ds)) there a c →
    Gives {Y = ℤ} (λ x. x) signed_number c d (Err f) → Gives {Y = List ℤ} (λ x. x) there a d (Err f)
deltas_refuse_at count k ds there a c d f below lead one =
    let left : count - k ≡ suc (count - (k + 1)) = omega arith in
    deltas_refuse (count - (k + 1)) (take k ds) there a c d f (rw left at lead)
    (gives_stop signed_number (λ v. deltas_onto (count - (k + 1)) (take k ds ++ (v ∷ []))) (λ (x : ℤ). x) (λ x. x) c d d f one)

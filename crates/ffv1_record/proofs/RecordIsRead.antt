-- Bytes that are the record of a configuration give that configuration.
use Rattle.std.proofs.Common.{◌≡◌, ℕ, suc, ◌≤◌, inl, inr, List, [], ◌∷◌, take, ap, sym, subst, arith, Result, Ok, Err}
use Rattle.std.specs.List.{Contains}
use Rattle.std.proofs.lemmas.Bool.{cases_lt}
use Rattle.std.proofs.lemmas.List.{get_or-take, length-take, get_or_past}
use Rattle.ffv1_range.specs.Codes.{AreBytes, value}
use Rattle.ffv1_range.specs.Table.{Table}
use Rattle.ffv1_record.specs.declared.fault.RecordFault.{RecordFault}
use Rattle.ffv1_record.specs.declared.fault.RecordFault.TheVariants as fault
use Rattle.ffv1_record.specs.Configuration.{Configuration}
use Rattle.ffv1_record.specs.declared.config.Profile.{Profile}
use Rattle.ffv1_record.specs.Accepted.{IsAccepted, IsFirstIn, PassesIn, PassesAll, type_of}
use Rattle.ffv1_record.specs.Record.{IsRecord, IsCoded, body_of, record_steps}
use Rattle.ffv1_record.specs.Reader.{Spot}
use Rattle.ffv1_record.specs.Reading.{parameters, beginning}
use Rattle.ffv1_record.specs.Internal.Given.{Source, Stands, Gives}
use Rattle.ffv1_record.proofs.Checks.{depth_bounds, known_depth}
use Rattle.ffv1_record.proofs.ReadIsCoded.{ok_same, not_both}
use Rattle.ffv1_record.proofs.CodedIsRead.{coded_front}
use Rattle.ffv1_record.proofs.CodedRecordIsRead.{forced_parameters, ending_of, ending_past}

-- a beginning of bytes is bytes
pub taken_bytes : (bytes : List ℕ) (n : ℕ) → AreBytes bytes → AreBytes (take n bytes)
taken_bytes bytes n are k = elim (cases_lt k n) [
  | inl inside ↦ rw (get_or-take n bytes k 0 inside) (are k)
  | inr outside ↦
      let short = length-take n bytes in
      rw (get_or_past (take n bytes) k 0 (omega arith)) (omega arith)
]

-- no fault stands where all checks are passed
pub none_stands : (p : Profile) (fs : List RecordFault) (c : Configuration) (f : RecordFault) → PassesAll p fs c → IsFirstIn p fs c f → ⊥
none_stands p [] c f passes first = first
none_stands p (g ∷ gs) c f passes first = elim first [
  | inl here ↦ here.0 passes.0
  | inr later ↦ none_stands p gs c f passes.1 later.1
]

-- the first fault is one of those that are looked for, and its condition is not met
pub named_first : (p : Profile) (fs : List RecordFault) (c : Configuration) (f : RecordFault) → IsFirstIn p fs c f → Contains fs f
named_first p [] c f first = absurd first
named_first p (g ∷ gs) c f first = elim first [
  | inl here ↦ (0, omega arith, sym here.1)
  | inr later ↦
      let rest = named_first p gs c f later.1 in
      let inside = rest.1 in
      (suc rest.0, omega (arith, inside), rest.2)
]

pub fails_first : (p : Profile) (fs : List RecordFault) (c : Configuration) (f : RecordFault) → IsFirstIn p fs c f → PassesIn p f c → ⊥
fails_first p [] c f first passes = first
fails_first p (g ∷ gs) c f first passes = elim first [
  | inl here ↦ here.0 (subst (λ h. PassesIn p h c) here.1 passes)
  | inr later ↦ fails_first p gs c f later.1 passes
]

module _ (bytes : List ℕ) (are : AreBytes (body_of bytes)) (c : Configuration) (t : Table) (is : IsAccepted c t) (stored : IsRecord bytes c) (most : ℕ) (low : c.depth ≤ most) (least : ℕ) (allowed : least ≤ type_of c.coder) where
  pub good_start : 65280 ≤ value (body_of bytes) 2 → ⊥
  good_start high =
      let start = coded_front (body_of bytes) are [] (record_steps stored.bits c) stored.coded in
      let below = start.below in
      absurd (omega arith)

  pub read_so : (out : Result (Configuration × Spot) RecordFault) → parameters least most c.width c.height (body_of bytes) beginning out → out ≡ Ok (c, ending_of stored.bits c)
  read_so out h = (forced_parameters (body_of bytes) are least most stored.bits c t (known_depth stored.bits c.depth stored.known (depth_bounds 16 c.depth is.depth).0) low is is.writable allowed).forces (subst (IsCoded (body_of bytes)) (sym (ending_past stored.bits c)) stored.coded) out h

  module _ (width height : ℕ) (wide : c.width ≡ width) (high : c.height ≡ height) (a b : Source) (begun : Stands a (body_of bytes) beginning) where
    pub read_is : (x : Configuration) → Gives (λ z. z) (parameters least most width height) a b (Ok x) → x ≡ c
    read_is x gives =
        let told = gives.gives (body_of bytes) beginning begun in
        ap (λ p. p.0) (ok_same (x, told.0) (c, ending_of stored.bits c) (read_so (Ok (x, told.0)) (subst (λ h. parameters least most c.width h (body_of bytes) beginning (Ok (x, told.0))) (sym high) (subst (λ w. parameters least most w height (body_of bytes) beginning (Ok (x, told.0))) (sym wide) told.1))))

    pub refused_by_memory : (f : RecordFault) → Gives {Y = Configuration} (λ z. z) (parameters least most width height) a b (Err f) → f ≡ fault.OutOfMemory
    refused_by_memory f gives = elim (gives.gives (body_of bytes) beginning begun) [
      | inl memory ↦ memory
      | inr refused ↦ absurd (not_both (c, ending_of stored.bits c) f (sym (read_so (Err f) (subst (λ h. parameters least most c.width h (body_of bytes) beginning (Err f)) (sym high) (subst (λ w. parameters least most w height (body_of bytes) beginning (Err f)) (sym wide) refused)))))
    ]

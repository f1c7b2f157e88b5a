-- Faults before the first set.
use Rattle.std.proofs.Common.{refl, ℕ, ◌<◌, ◌≤◌, inl, inr, List, arith, Ok, Err}
use Rattle.ffv1_range.specs.Codes.{AreBytes}
use Rattle.ffv1_record.specs.declared.fault.RecordFault.{RecordFault}
use Rattle.ffv1_record.specs.declared.fault.RecordFault.TheVariants as fault
use Rattle.ffv1_record.specs.declared.config.Profile.{Profile}
use Rattle.ffv1_record.specs.Accepted.{least_coder}
use Rattle.ffv1_record.specs.Record.{body_of}
use Rattle.ffv1_record.specs.Reader.{Reader, Spot, ◌>>=◌, number_within}
use Rattle.ffv1_record.specs.Reading.{opening, planes, count_of, tables, before_sets, parameters, beginning, IsRefused, IsRefusedBeforeSets, ReachesSets}
use Rattle.ffv1_record.proofs.ReadIsCoded.{not_both}
use Rattle.ffv1_record.proofs.OneOutcome.{err_same, err_is, decides_before_sets}

-- a fault of the first, or of what follows and so of other things that follow
err_then : {X Y Z : Type 0} (b : List ℕ) (s : Spot) (first : Reader X) (next : X → Reader Y) (other : X → Reader Z) (f : RecordFault) → ((x : X) (t : Spot) → next x b t (Err f) → other x b t (Err f)) →
    (first >>= next) b s (Err f) → (first >>= other) b s (Err f)
err_then {Y = Y} b s first next other f step h = elim h.either [
  | inl e ↦ record { either = inl (e.0, e.1, e.2, step e.0 e.1 e.3) }
  | inr e ↦ record { either = inr (e.0, e.1, err_is f e.0 (err_same {X = Y × Spot} f e.0 e.2)) }
]

err_first : {X Y : Type 0} (b : List ℕ) (s : Spot) (first : Reader X) (next : X → Reader Y) (f : RecordFault) → first b s (Err f) → (first >>= next) b s (Err f)
err_first b s first next f h = record { either = inr (f, h, refl) }

err_before : (least most width height : ℕ) (b : List ℕ) (f : RecordFault) → before_sets least most b beginning (Err f) → parameters least most width height b beginning (Err f)
err_before least most width height b f h =
    err_then b beginning (opening least) _ _ f (λ coder s. err_then b s (planes most) _ _ f (λ p t. err_then b t count_of _ _ f (λ columns u. err_then b u count_of _ _ f (λ rows v at_sets.
    err_first b v tables _ f (err_first b v (number_within 0 1 8 fault.Sets) _ f at_sets))))) h

pub refused_before : (p : Profile) (most : ℕ) (bytes : List ℕ) (width height : ℕ) (f : RecordFault) → IsRefusedBeforeSets p most bytes f → IsRefused p most bytes width height f
refused_before p most bytes width height f h = elim h [
  | inl short ↦ inl short
  | inr h ↦ elim h [
    | inl parity ↦ inr (inl parity)
    | inr h ↦ elim h [
      | inl start ↦ inr (inr (start.0, start.1, inl (start.2, start.3)))
      | inr met ↦ inr (inr (met.0, met.1, inr (inl (err_before (least_coder p) most width height (body_of bytes) f met.2))))
    ]
  ]
]

pub apart_before : (p : Profile) (most : ℕ) (bytes : List ℕ) → AreBytes (body_of bytes) → (f : RecordFault) → ReachesSets p most bytes → IsRefusedBeforeSets p most bytes f → ⊥
apart_before p most bytes are f reaches h = elim h [
  | inl short ↦ too_short short.0 reaches.long
  | inr h ↦ elim h [
    | inl parity ↦ parity.1 reaches.whole
    | inr h ↦ elim h [
      | inl start ↦ too_high start.2 reaches.start
      | inr met ↦ not_both (reaches.count, reaches.behind) f ((decides_before_sets (body_of bytes) are (least_coder p) most).decides beginning (Ok (reaches.count, reaches.behind)) (Err f) reaches.read met.2)
    ]
  ]
]
  where
    too_short : {n : ℕ} → n < 5 → 5 ≤ n → ⊥
    too_short short long = omega arith

    too_high : {n : ℕ} → 65280 ≤ n → n < 65280 → ⊥
    too_high high low = omega arith

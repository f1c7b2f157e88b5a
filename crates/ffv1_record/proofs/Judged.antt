-- What is refused as it is judged is refused, and nothing else is.
use Rattle.std.proofs.Common.{◌≡◌, refl, ℕ, ◌<◌, ◌≤◌, inl, inr, List, length, sym, subst, ap, arith, Ok, Err}
use Rattle.ffv1_range.specs.Codes.{AreBytes, value}
use Rattle.ffv1_record.specs.declared.fault.RecordFault.{RecordFault}
use Rattle.ffv1_record.specs.declared.config.Profile.{Profile}
use Rattle.ffv1_record.specs.declared.judge.Outline.{Outline}
use Rattle.ffv1_record.specs.Configuration.{Configuration, configuration_of, at_depth, with_sets}
use Rattle.ffv1_record.specs.Accepted.{IsFirstIn, IsFirstUpTo, PassesAll, checks, least_coder}
use Rattle.ffv1_record.specs.Parity.{remainder_of}
use Rattle.ffv1_record.specs.Record.{body_of}
use Rattle.ffv1_record.specs.Reader.{Spot}
use Rattle.ffv1_record.specs.Reading.{parameters, beginning, IsRefused}
use Rattle.ffv1_record.specs.Internal.Given.{Source, Stands, Judges}
use Rattle.ffv1_record.specs.Internal.Outlines.{Outlines}
use Rattle.ffv1_record.proofs.ReadIsCoded.{ok_same, not_both, parameters_ok}
use Rattle.ffv1_record.proofs.ReadIsRecord.{first_of}
use Rattle.ffv1_record.proofs.RecordIsRead.{none_stands}
use Rattle.ffv1_record.proofs.OneOutcome.{decides_parameters}

low_start : {n : ℕ} → 65280 ≤ n → n < 65280 → ⊥
low_start high low = omega arith

short : {n : ℕ} → n < 5 → 5 ≤ n → ⊥
short low high = omega arith

-- a record of 5 bytes or more, of remainder 0, of which all parameters were judged
module _ {A : Type 0} (p : Profile) (most : ℕ) (bytes : List ℕ) (width height : ℕ) (a b : Source) (long : 5 ≤ length bytes) (whole : remainder_of bytes ≡ 0) (begun : Stands a (body_of bytes) beginning) where
  pub not_judged : (f : RecordFault) → Judges {Y = Outline A} Outlines (parameters (least_coder p) most width height) a b (Err f) → IsRefused p most bytes width height f
  not_judged f judged = inr (inr (long, whole, inr (inl (judged.judges (body_of bytes) beginning begun))))

  module _ (o : Outline A) (judged : Judges Outlines (parameters (least_coder p) most width height) a b (Ok o)) where
    pub check_failed : (f : RecordFault) → ((ss : List (List (List ℕ))) → length ss ≡ o.count → IsFirstUpTo p most (with_sets (at_depth (configuration_of o.config) o.depth) ss) f) → IsRefused p most bytes width height f
    check_failed f first =
        let read = judged.judges (body_of bytes) beginning begun in
        let here = subst (λ (c : Configuration). IsFirstUpTo p most c f) (sym read.4.rest) (first read.0.sets read.4.count) in
        let deep = (parameters_ok (least_coder p) most width height (body_of bytes) beginning read.0 read.1 refl read.2).deep in
        inr (inr (long, whole, inr (inr (read.0, read.1, read.2, first_of p most read.0 f deep here))))

    pub nothing_refuses : AreBytes (body_of bytes) → value (body_of bytes) 2 < 65280 → ((ss : List (List (List ℕ))) → length ss ≡ o.count → PassesAll p checks (with_sets (at_depth (configuration_of o.config) o.depth) ss)) →
        (f : RecordFault) → IsRefused p most bytes width height f → ⊥
    nothing_refuses are low passes f refused =
        let read = judged.judges (body_of bytes) beginning begun in
        let all = subst (λ (c : Configuration). PassesAll p checks c) (sym read.4.rest) (passes read.0.sets read.4.count) in
        let one = decides_parameters (body_of bytes) are (least_coder p) most width height in
        elim refused [
          | inl e ↦ short e.0 long
          | inr e ↦ elim e [
            | inl y ↦ y.1 whole
            | inr y ↦ elim y.2 [
              | inl start ↦ low_start start.0 low
              | inr met ↦ elim met [
                | inl x ↦ not_both (read.0, read.1) f (one.decides beginning (Ok (read.0, read.1)) (Err f) read.2 x)
                | inr x ↦
                    let same = ok_same (x.0, x.1) (read.0, read.1) (one.decides beginning (Ok (x.0, x.1)) (Ok (read.0, read.1)) x.2 read.2) in
                    none_stands p checks read.0 f all (subst (λ (z : Configuration). IsFirstIn p checks z f) (ap (λ (z : Configuration × Spot). z.0) same) x.3)
              ]
            ]
          ]
        ]

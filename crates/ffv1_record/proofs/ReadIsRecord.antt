-- What was read whole is a record, and what was not is refused.
use Rattle.std.proofs.Common.{◌≡◌, refl, ℕ, ◌≤◌, ◌⊎◌, inl, inr, IsTrue, List, [], length, subst, Ok, Err}
use Rattle.ffv1_range.specs.Interval.{interval_of}
use Rattle.ffv1_range.specs.Codes.{Inside}
use Rattle.ffv1_range.specs.History.{decisions_after}
use Rattle.ffv1_range.specs.Standard.{standard}
use Rattle.ffv1_record.specs.declared.fault.RecordFault.{RecordFault}
use Rattle.ffv1_record.specs.declared.fault.RecordFault.TheVariants as fault
use Rattle.ffv1_record.specs.Configuration.{Configuration}
use Rattle.ffv1_record.specs.declared.config.Profile.{Profile}
use Rattle.ffv1_record.specs.Accepted.{IsFirstIn, IsFirstWhere, IsFirstUpTo, has_depth, checks, least_coder}
use Rattle.ffv1_record.specs.Parity.{remainder_of}
use Rattle.ffv1_record.specs.Record.{IsRecord, IsCoded, body_of}
use Rattle.ffv1_record.specs.Reader.{Reader, Spot}
use Rattle.ffv1_record.specs.Reading.{parameters, beginning, IsRefused}
use Rattle.ffv1_record.specs.Internal.Given.{Source, Stands, Gives}
use Rattle.ffv1_record.proofs.ReadIsCoded.{parameters_ok}

-- where a depth is accepted, all else is refused as it is at 8
pub first_of : (p : Profile) (most : ℕ) (c : Configuration) (f : RecordFault) → IsTrue (has_depth most c) → IsFirstUpTo p most c f → IsFirstIn p checks c f
first_of p most c f deep first = subst (λ test. IsFirstWhere p test c f) deep first

stands_coded : (a : Source) (b : List ℕ) (s : Spot) → Stands a b s → IsCoded b s.past
stands_coded a b s st = subst (λ bs. Inside bs (interval_of (decisions_after standard [] s.past))) st.bytes st.at.inside

-- a record of 5 bytes or more, of remainder 0, whose reading has begun
module _ (p : Profile) (most : ℕ) (bytes : List ℕ) (width height : ℕ) (a b : Source) (long : 5 ≤ length bytes) (whole : remainder_of bytes ≡ 0) (begun : Stands a (body_of bytes) beginning) where
  pub record_found : (c : Configuration) → Gives (λ x. x) (parameters (least_coder p) most width height) a b (Ok c) → IsRecord bytes c
  record_found c gives =
      let told = gives.gives (body_of bytes) beginning begun in
      let read = parameters_ok (least_coder p) most width height (body_of bytes) beginning c told.0 refl told.1 in
      record {
        long = long;
        whole = whole;
        bits = read.bits;
        known = read.known;
        coded = subst (λ past. IsCoded (body_of bytes) past) read.past (stands_coded b (body_of bytes) told.0 told.2);
      }

  pub found_width : (c : Configuration) → Gives (λ x. x) (parameters (least_coder p) most width height) a b (Ok c) → c.width ≡ width
  found_width c gives =
      let told = gives.gives (body_of bytes) beginning begun in
      (parameters_ok (least_coder p) most width height (body_of bytes) beginning c told.0 refl told.1).wide

  pub found_height : (c : Configuration) → Gives (λ x. x) (parameters (least_coder p) most width height) a b (Ok c) → c.height ≡ height
  found_height c gives =
      let told = gives.gives (body_of bytes) beginning begun in
      (parameters_ok (least_coder p) most width height (body_of bytes) beginning c told.0 refl told.1).high

  -- its depth is one of those that are accepted
  pub found_depth : (c : Configuration) → Gives (λ x. x) (parameters (least_coder p) most width height) a b (Ok c) → IsTrue (has_depth most c)
  found_depth c gives =
      let told = gives.gives (body_of bytes) beginning begun in
      (parameters_ok (least_coder p) most width height (body_of bytes) beginning c told.0 refl told.1).deep

  pub not_read : (f : RecordFault) → Gives {Y = Configuration} (λ x. x) (parameters (least_coder p) most width height) a b (Err f) → (f ≡ fault.OutOfMemory) ⊎ IsRefused p most bytes width height f
  not_read f gives = elim (gives.gives (body_of bytes) beginning begun) [
    | inl memory ↦ inl memory
    | inr refused ↦ inr (inr (inr (long, whole, inr (inl refused))))
  ]

  pub not_checked : (c : Configuration) (f : RecordFault) → Gives (λ x. x) (parameters (least_coder p) most width height) a b (Ok c) → IsFirstUpTo p most c f → IsRefused p most bytes width height f
  not_checked c f gives first =
      let told = gives.gives (body_of bytes) beginning begun in
      inr (inr (long, whole, inr (inr (c, told.0, told.1, first_of p most c f (found_depth c gives) first))))

-- the same of what a call gave, seen as a configuration
pub seen : {Y X : Type 0} (view : Y → X) (r : Reader X) (a b : Source) (y : Y) → Gives view r a b (Ok y) → Gives (λ (x : X). x) r a b (Ok (view y))
seen view r a b y g = record { gives = g.gives }

pub seen_err : {Y X : Type 0} (view : Y → X) (r : Reader X) (a b : Source) (f : RecordFault) → Gives {Y = Y} view r a b (Err f) → Gives {Y = X} (λ (x : X). x) r a b (Err f)
seen_err view r a b f g = record { gives = g.gives }

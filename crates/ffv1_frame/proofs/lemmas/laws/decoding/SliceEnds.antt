-- A slice ends, or it does not; and one that ends is not read too far.
use Rattle.std.proofs.Common.{◌≡◌, ℕ, ◌≤◌, Bool, true, false, List, [], ◌∷◌, arith, inl, inr}
use Rattle.std.proofs.lemmas.Bool.{cases_Bool}
use Rattle.ffv1_range.specs.Interval.{interval_of, narrow}
use Rattle.ffv1_range.specs.Symbols.{Step}
use Rattle.ffv1_range.specs.History.{decisions_after}
use Rattle.ffv1_range.proofs.Growth.{narrowed-count}
use Rattle.ffv1_record.specs.Accepted.{Accepted}
use Rattle.ffv1_frame.specs.Overread.{IsWithin}
use Rattle.ffv1_frame.specs.Ending.{HasEnding, LacksEnding, SliceEnds, SliceGoesOn}
use Rattle.ffv1_record.specs.Accepted.{is_rice}
use Rattle.ffv1_frame.proofs.lemmas.laws.rice.BitLines.{BitLaws, padded_or_not}

pub ends_or_lacks : (a : Accepted) (bytes : List ℕ) (past : List Step) → HasEnding a bytes past → LacksEnding a bytes past → ⊥
ends_or_lacks a bytes past has lacks = lacks.goes_on (has.ended lacks.wide)

pub ending_within : (a : Accepted) (bytes : List ℕ) (past : List Step) → HasEnding a bytes past → IsWithin a bytes past
ending_within a bytes past has = record {
  few = λ wide.
      let i = interval_of (decisions_after a.table [] past) in
      let whole = (has.ended wide).whole in
      let more : i.count ≤ (narrow i 129 false).count = narrowed-count i (record { state = 129; bit = false } ∷ []) in
      omega (arith, whole, more);
}

-- the same by the coder
pub ends_or_goes_on : (a : Accepted) (bytes : List ℕ) (laws : BitLaws a bytes) (past : List Step) (read : List Bool) → SliceEnds a bytes past read → SliceGoesOn a bytes past read → ⊥
ends_or_goes_on a bytes laws past read f g = elim (cases_Bool (is_rice a.configuration.coder)) [
  | inl is ↦ padded_or_not a bytes laws past read (f.rice is) (g.rice is)
  | inr is ↦ ends_or_lacks a bytes past (f.range is) (g.range is)
]

pub end_within : (a : Accepted) (bytes : List ℕ) (past : List Step) (read : List Bool) → SliceEnds a bytes past read → IsWithin a bytes past
end_within a bytes past read f = elim (cases_Bool (is_rice a.configuration.coder)) [
  | inl is ↦ (f.rice is).within
  | inr is ↦ ending_within a bytes past (f.range is)
]

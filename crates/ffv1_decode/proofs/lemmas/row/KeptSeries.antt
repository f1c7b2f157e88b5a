-- What the lines of planes that are coded together need of the row above, and keep for the row below.
use Rattle.std.proofs.Common.{◌≡◌, ℕ, suc, ◌+◌, ◌-◌, ◌*◌, ◌<◌, ◌≤◌, inl, inr, true, List, length, get_or, take, ap, sym, subst, ◌∙◌, arith, length-append}
use Rattle.std.proofs.lemmas.Bool.{cases_lt}
use Rattle.std.proofs.lemmas.List.{get_or-take, get_or_append_left}
use Rattle.ffv1_record.specs.Configuration.{Configuration, is_rct}
use Rattle.ffv1_record.specs.Accepted.{Accepted}
use Rattle.ffv1_slice.specs.Grid.{division_of, across, down, shared_of}
use Rattle.ffv1_frame.specs.Picture.{plane, plane_count, plane_width}
use Rattle.ffv1_frame.specs.Order.{Event, lines_down}
use Rattle.ffv1_frame.specs.Runs.{Runs}
use Rattle.ffv1_frame.specs.Decoding.{State, StepsBy, slice_at, left_of, width_in}
use Rattle.ffv1_decode.specs.Internal.Places.{AreParts}
use Rattle.ffv1_decode.specs.Internal.Finished.{IsTogether}
use Rattle.ffv1_decode.specs.Internal.Tied.{TiedLine, TiedPlanes, TiedKept, TiedLast, IsKept, rolling_lines, plane_group}
use Rattle.ffv1_decode.specs.Internal.Shared.{KeepsLine, IsLast}
use Rattle.ffv1_frame.proofs.lemmas.laws.decoding.Machines.{Each}
use Rattle.ffv1_frame.proofs.lemmas.laws.decoding.ColumnSteps.{IsOfRow}
use Rattle.ffv1_frame.proofs.lemmas.laws.decoding.LinesMade.{goes_on}
use Rattle.ffv1_decode.proofs.lemmas.row.SeriesDecodes.{shared_alike}
use Rattle.ffv1_decode.proofs.lemmas.plane_lines.PlanesReads.{kept_stays}
use Rattle.ffv1_decode.proofs.lemmas.row.KeptLines.{last_stands}

module _ (c : Configuration) (first count r : ℕ) (together : IsTogether c first count) (flat : is_rct c.colour ≡ true → c.log2_v ≡ 0) (inside : r < c.rows) where
  -- a line has of the row above what is kept of it
  pub line_kept : (i y long here : ℕ) → i < count → KeepsLine c (first + i) long → (y < shared_of (down (division_of c) first) r → here ≡ long) → (shared_of (down (division_of c) first) r ≤ y → here ≡ 0) → IsKept c r (first + i) y here
  line_kept i y long here less keeps shown absent =
      let same = shared_alike c first count i r together flat less in
      elim (cases_lt y (shared_of (down (division_of c) first) r)) [
        | inl shared ↦ elim keeps [
          | inl none ↦ let apart = none.1 r inside in absurd (omega (arith, shared, same, apart))
          | inr all ↦ inr (shown shared ∙ all, omega (arith, shared, same))
        ]
        | inr apart ↦ inl (absent apart, omega (arith, apart, same))
      ]

  -- which is what the slices above have
  pub line_tied : (i y : ℕ) (here kept : List ℕ) (s t : State) → i < count → t.done ≡ s.done → (y < shared_of (down (division_of c) first) r → here ≡ kept) → TiedKept c r (first + i) y kept s → TiedKept c r (first + i) y here t
  line_tied i y here kept s t less done shown tied = λ shared k x inside small.
      let same = shared_alike c first count i r together flat less in
      let is : here ≡ kept = shown (omega (arith, shared, same)) in
      ap (λ xs. get_or xs (left_of c (first + i) k + x) 0) is ∙ kept_stays c r (first + i) y kept s t done tied shared k x inside small

-- the last line is kept
pub series_last : (c : Configuration) (r p count y n : ℕ) (two one kept : List ℕ) (s : State) → AreParts (across (division_of c) p) → 0 < lines_down c p r → 0 < count → y ≡ lines_down c p r →
    TiedPlanes c (plane_group p count) 0 0 y (rolling_lines two one one) s → n ≡ plane_width c p → kept ≡ take n one → IsLast c r p kept s
series_last c r p count y n two one kept s are some many high planes wide is =
    let first : p + 0 ≡ p = omega arith in
    let none : 0 * c.width ≡ 0 = omega arith in
    let next : y ≡ suc (y - 1) = omega (arith, some, high) in
    let line : TiedLine c p 0 0 (suc (y - 1)) (rolling_lines two one one) s =
    subst (λ z. TiedLine c p 0 0 z (rolling_lines two one one) s) next
    (subst (λ z. TiedLine c p z 0 y (rolling_lines two one one) s) none
    (subst (λ q. TiedLine c q (0 * c.width) 0 y (rolling_lines two one one) s) first (planes.todo 0 (omega arith) many))) in
    let stands : TiedLast c r p one s = last_stands c r p (y - 1) two one one s (sym next ∙ high) line in
    record {
      whole = λ k inside.
          let rolls = line.unread k (omega arith) inside in
          let all : suc (y - 1) ≡ lines_down c p r = sym next ∙ high in
          let long = rolls.long ∙ ap (λ h. h * width_in c p k) all in
          omega (arith, long);
      last = λ k x inside small.
          let within : left_of c p k + x < n = omega (arith, wide, small, are.ends k inside) in
          ap (λ xs. get_or xs (left_of c p k + x) 0) is ∙ get_or-take n one (left_of c p k + x) 0 within ∙ stands k x inside small;
    }

-- it stays so while other lines of the row are read
pub last_later : (a : Accepted) (coded : ℕ → List ℕ) (r p : ℕ) (kept : List ℕ) (es : List Event) (s t : State) → Each (IsOfRow a.configuration r) es → Runs (StepsBy a coded) s es t →
    length s.columns ≡ a.configuration.columns → ((k : ℕ) → k < a.configuration.columns → length (slice_at s k).cells ≡ plane_count a.configuration) → 0 < lines_down a.configuration p r →
    IsLast a.configuration r p kept s → IsLast a.configuration r p kept t
last_later a coded r p kept es s t all runs known cells some was =
    let c = a.configuration in
    let longer = λ (k : ℕ) (inside : k < c.columns). (goes_on a coded r k es s t all (omega (arith, inside, known)) (cells k inside) runs).more p in
    record {
      whole = λ k inside.
          let more = longer k inside in
          let long = ap (λ (xs : List ℕ). length xs) more.1 ∙ length-append (plane (slice_at s k).cells p) more.0 in
          omega (arith, long, was.whole k inside);
      last = λ k x inside small.
          let more = longer k inside in
          let w = width_in c p k in
          let h = lines_down c p r - 1 in
          let high : lines_down c p r ≡ suc h = omega (arith, some) in
          let whole : suc h * w ≤ length (plane (slice_at s k).cells p) = subst (λ z. z * w ≤ length (plane (slice_at s k).cells p)) high (was.whole k inside) in
          let place : h * w + x < length (plane (slice_at s k).cells p) = omega (arith, whole, small) in
          was.last k x inside small
          ∙ sym (ap (λ xs. get_or xs (h * w + x) 0) more.1 ∙ get_or_append_left (plane (slice_at s k).cells p) more.0 0 (h * w + x) place);
    }

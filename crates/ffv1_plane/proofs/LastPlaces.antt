-- The last places of the levels of a table.
use Rattle.std.proofs.Common.{◌≡◌, refl, ap, ◌∙◌, ℕ, zero, suc, ◌+◌, ◌-◌, ◌*◌, ◌%◌, ◌<◌, ◌≤◌, List, [], ◌∷◌, length, get_or, slice_index, take, sum, arith, inl, inr, set, length-set, min, nat_lt, ◌⊎◌}
use Rattle.std.specs.Prelude.{replicate}
use Rattle.std.proofs.lemmas.Bool.{cases_lt, cases_order, le-leb, lt-leb, lt-ltb, le-ltb}
use Rattle.std.proofs.lemmas.List.{get_or-set_same, get_or-set_other}
use Rattle.std.proofs.lemmas.List.Sums.{sum_by-cons, sum_by_more}
use Rattle.std.proofs.lemmas.Simd.{get_or-replicate}
use Rattle.std.specs.Prelude.{IsTrue, if◌then◌else◌, unsigned_abs, pos, ◌+ℤ◌, ◌-ℤ◌}
use Rattle.std.proofs.Math.Nat.{mul-add}
use Rattle.std.proofs.lemmas.Int.{ints}
use Rattle.ffv1_plane.specs.Quantisation.{runs_below, is_filled, entry_of}
use Rattle.ffv1_plane.specs.Raised.{RaisedTable, IsRaised, last_place, AreLastPlaces, raised_entry, half_of}
use Rattle.ffv1_plane.proofs.Levels.{Filled, filled_from, half_room, runs_below-low, entry_lower, entry_middle, entry_upper}

-- the same as far as level k
pub record AreLastPlacesBelow (runs last_places : List ℕ) (k : ℕ) : Type 0 where
  pub long : length last_places ≡ 5
  pub done : (j : ℕ) → j < k → slice_index last_places j ≡ sum (take (j + 1) runs) - 1
  pub rest : (j : ℕ) → k ≤ j → j < 5 → slice_index last_places j ≡ 255

pub none_yet : (runs : List ℕ) → AreLastPlacesBelow runs (replicate 5 255) 0
none_yet runs = record { long = refl; done = λ j below. absurd (omega arith); rest = λ j least below. get_or-replicate 5 j 255 0 below }

pub one_more : (runs last_places : List ℕ) (k end : ℕ) → k < 5 → end ≡ sum (take (k + 1) runs) → AreLastPlacesBelow runs last_places k → AreLastPlacesBelow runs (set last_places k (end - 1)) (k + 1)
one_more runs last_places k end inside ends so_far =
    let long = so_far.long in
    record {
      long = length-set last_places k (end - 1) ∙ long;
      done = λ j below. elim (cases_lt j k) [
        | inl less ↦ get_or-set_other last_places k j (end - 1) 0 (omega arith) ∙ so_far.done j less
        | inr more ↦ let same : j ≡ k = omega arith in rw (same, ← ends) (get_or-set_same last_places k (end - 1) 0 (omega arith))
      ];
      rest = λ j least below. get_or-set_other last_places k j (end - 1) 0 (omega arith) ∙ so_far.rest j (omega arith) below;
    }

pub all_of : (runs last_places : List ℕ) (k : ℕ) → k ≡ min (length runs - 1) 5 → AreLastPlacesBelow runs last_places k → AreLastPlaces runs last_places
all_of runs last_places k all so_far = record {
  each = λ j inside. elim (cases_lt (j + 1) (length runs)) [
    | inl less ↦ rw (lt-ltb (j + 1) (length runs) less) (so_far.done j (omega arith))
    | inr more ↦ rw (le-ltb (j + 1) (length runs) more) (so_far.rest j (omega arith) inside)
  ];
}

-- a part of filled runs has no more than all of them
pub part_of_sum : (runs : List ℕ) (k : ℕ) → sum (take k runs) ≤ sum runs
part_of_sum [] zero = omega arith
part_of_sum [] (suc k) = omega arith
part_of_sum (r ∷ rs) zero = omega arith
part_of_sum (r ∷ rs) (suc k) =
    let rest = part_of_sum rs k in
    let part = sum_by-cons (λ (x : ℕ). x) r (take k rs) in
    let whole = sum_by-cons (λ (x : ℕ). x) r rs in
    omega arith

-- whether a size lies above a sample
abbrev pub over : ℕ → ℕ → ℕ
over size place = min (size - place) 1

-- how many levels of a table lie below a size, by the runs one after the other
abbrev pub passed : List ℕ → ℕ → ℕ
passed [] size = 0
passed (r ∷ []) size = 0
passed (r ∷ s ∷ rs) size = over size (r - 1) + passed (s ∷ rs) (size - r)

passed_none : (runs : List ℕ) → passed runs 0 ≡ 0
passed_none [] = refl
passed_none (r ∷ []) = refl
passed_none (r ∷ s ∷ rs) =
    let rest = passed_none (s ∷ rs) in
    let none : 0 - r ≡ 0 = omega arith in
    rw (none, rest) (omega arith)

-- runs one after the other, none of them empty
abbrev pub ArePositive : List ℕ → Type 0
ArePositive runs = (k : ℕ) → k < length runs → 0 < get_or runs k 0

rest_positive : (r : ℕ) (rs : List ℕ) → ArePositive (r ∷ rs) → ArePositive rs
rest_positive r rs each = λ k below. each (suc k) (omega arith)

pub passed_is : (runs : List ℕ) (size : ℕ) → ArePositive runs → size < sum runs → passed runs size ≡ runs_below runs size
passed_is [] size each below = absurd (omega arith)
passed_is (r ∷ []) size each below = rw (lt-leb r size (omega arith)) refl
passed_is (r ∷ s ∷ rs) size each below =
    let joined = sum_by-cons (λ (x : ℕ). x) r (s ∷ rs) in
    let some = each 0 (omega arith) in
    elim (cases_lt size r) [
      | inl less ↦
          let none = passed_none (s ∷ rs) in
          let left : size - r ≡ 0 = omega arith in
          rw (lt-leb r size less, left) (omega arith)
      | inr more ↦
          let rest = passed_is (s ∷ rs) (size - r) (rest_positive r (s ∷ rs) each) (omega arith) in
          rw (le-leb r size more) (omega arith)
    ]

-- the same by the last places, where some runs lie before
abbrev pub passed_from : ℕ → List ℕ → ℕ → ℕ
passed_from before [] size = 0
passed_from before (r ∷ []) size = 0
passed_from before (r ∷ s ∷ rs) size = over size (before + r - 1) + passed_from (before + r) (s ∷ rs) size

pub passed_from_is : (before : ℕ) (runs : List ℕ) (size : ℕ) → ArePositive runs → passed_from before runs size ≡ passed runs (size - before)
passed_from_is before [] size each = refl
passed_from_is before (r ∷ []) size each = refl
passed_from_is before (r ∷ s ∷ rs) size each =
    let some = each 0 (omega arith) in
    let first : over size (before + r - 1) ≡ over (size - before) (r - 1) = omega arith in
    let left : size - (before + r) ≡ size - before - r = omega arith in
    let rest = passed_from_is (before + r) (s ∷ rs) size (rest_positive r (s ∷ rs) each) in
    rw (first, rest, left) refl

-- the same of a table of at most eleven levels
abbrev pub passed_by : List ℕ → ℕ → ℕ
passed_by runs size = over size (last_place runs 0) + over size (last_place runs 1) + over size (last_place runs 2) + over size (last_place runs 3) + over size (last_place runs 4)

five : (a b c d e p q r s t : ℕ) → a ≡ p → b ≡ q → c ≡ r → d ≡ s → e ≡ t → a + b + c + d + e ≡ p + (q + (r + (s + (t + 0))))
five a b c d e p q r s t h i j k l = omega arith

four : (a b c d e p q r s : ℕ) → a ≡ p → b ≡ q → c ≡ r → d ≡ s → e ≡ 0 → a + b + c + d + e ≡ p + (q + (r + (s + 0)))
four a b c d e p q r s h i j k l = omega arith

three : (a b c d e p q r : ℕ) → a ≡ p → b ≡ q → c ≡ r → d ≡ 0 → e ≡ 0 → a + b + c + d + e ≡ p + (q + (r + 0))
three a b c d e p q r h i j k l = omega arith

two : (a b c d e p q : ℕ) → a ≡ p → b ≡ q → c ≡ 0 → d ≡ 0 → e ≡ 0 → a + b + c + d + e ≡ p + (q + 0)
two a b c d e p q h i j k l = omega arith

one : (a b c d e p : ℕ) → a ≡ p → b ≡ 0 → c ≡ 0 → d ≡ 0 → e ≡ 0 → a + b + c + d + e ≡ p + 0
one a b c d e p h i j k l = omega arith

none : (a b c d e : ℕ) → a ≡ 0 → b ≡ 0 → c ≡ 0 → d ≡ 0 → e ≡ 0 → a + b + c + d + e ≡ 0
none a b c d e h i j k l = omega arith

nothing_over : (size : ℕ) → size < 256 → over size 255 ≡ 0
nothing_over size small = omega arith

pub passed_by_is : (runs : List ℕ) (size : ℕ) → length runs ≤ 6 → size < 256 → passed_by runs size ≡ passed_from 0 runs size
passed_by_is [] size few small = let n = nothing_over size small in none _ _ _ _ _ n n n n n
passed_by_is (a ∷ []) size few small = let n = nothing_over size small in none _ _ _ _ _ n n n n n
passed_by_is (a ∷ b ∷ []) size few small = let n = nothing_over size small in one _ _ _ _ _ _ (ap (over size) (omega arith)) n n n n
passed_by_is (a ∷ b ∷ c ∷ []) size few small = let n = nothing_over size small in two _ _ _ _ _ _ _ (ap (over size) (omega arith)) (ap (over size) (omega arith)) n n n
passed_by_is (a ∷ b ∷ c ∷ d ∷ []) size few small = let n = nothing_over size small in three _ _ _ _ _ _ _ _ (ap (over size) (omega arith)) (ap (over size) (omega arith)) (ap (over size) (omega arith)) n n
passed_by_is (a ∷ b ∷ c ∷ d ∷ e ∷ []) size few small = let n = nothing_over size small in
    four _ _ _ _ _ _ _ _ _ (ap (over size) (omega arith)) (ap (over size) (omega arith)) (ap (over size) (omega arith)) (ap (over size) (omega arith)) n
passed_by_is (a ∷ b ∷ c ∷ d ∷ e ∷ f ∷ []) size few small =
    five _ _ _ _ _ _ _ _ _ _ (ap (over size) (omega arith)) (ap (over size) (omega arith)) (ap (over size) (omega arith)) (ap (over size) (omega arith)) (ap (over size) (omega arith))
passed_by_is (a ∷ b ∷ c ∷ d ∷ e ∷ f ∷ g ∷ more) size few small = absurd (omega arith)

-- the size 128, which only place 128 has, passes as many as 127
last_is : (runs : List ℕ) (k : ℕ) → ArePositive runs → sum runs ≡ 128 → (last_place runs k ≤ 126) ⊎ (last_place runs k ≡ 255)
last_is runs k each total = elim (cases_lt (k + 1) (length runs)) [
  | inl less ↦
      let part = part_of_sum runs (k + 1 + 1) in
      let next = each (k + 1) less in
      let step = sum_by_more (λ (x : ℕ). x) runs (k + 1) 0 less in
      inl (rw (lt-ltb (k + 1) (length runs) less) (omega arith))
  | inr more ↦ inr (rw (le-ltb (k + 1) (length runs) more) refl)
]

over_same : (place : ℕ) → (place ≤ 126) ⊎ (place ≡ 255) → over 128 place ≡ over 127 place
over_same place (inl low) = omega arith
over_same place (inr none) = omega arith

pub middle_passes : (runs : List ℕ) → ArePositive runs → sum runs ≡ 128 → passed_by runs 128 ≡ passed_by runs 127
middle_passes runs each total =
    rw (over_same _ (last_is runs 0 each total), over_same _ (last_is runs 1 each total), over_same _ (last_is runs 2 each total), over_same _ (last_is runs 3 each total), over_same _ (last_is runs 4 each total)) refl

-- how many levels lie below a size
pub levels_below : (runs : List ℕ) (size : ℕ) → Filled runs → length runs ≤ 6 → size < 128 → passed_by runs size ≡ runs_below runs size
levels_below runs size filled few below =
    let total = filled.total in
    let all : size - 0 ≡ size = omega arith in
    passed_by_is runs size few (omega arith) ∙ passed_from_is 0 runs size filled.positive ∙ ap (passed runs) all ∙ passed_is runs size filled.positive (omega arith)

lifted : (scale most level : ℕ) → unsigned_abs (pos (scale * level) +ℤ pos (scale * most)) ≡ scale * (most + level)
lifted scale most level = omega (arith, ints)

lowered : (scale most level : ℕ) → level ≤ most → unsigned_abs (pos 0 -ℤ pos (scale * level) +ℤ pos (scale * most)) ≡ scale * (most - level)
lowered scale most level le =
    let whole : most ≡ most - level + level = omega arith in
    let split : scale * most ≡ scale * (most - level) + scale * level = ap (λ n. scale * n) whole ∙ mul-add scale (most - level) level in
    omega (arith, ints)

-- entry k of a table, raised by the greatest, by how many levels lie below its size
pub raised_by : (t : RaisedTable) (k : ℕ) → IsTrue (is_filled t.runs) → length t.runs ≤ 6 → k < 256 →
    raised_entry t k ≡ t.scale * (if nat_lt k 128 then length t.runs - 1 + passed_by t.runs (min k (256 - k)) else length t.runs - 1 - passed_by t.runs (min k (256 - k)))
unfolding raised_entry
raised_by t k is few below =
    let filled = filled_from t.runs is in
    elim (cases_order k 128) [
      | inl same ↦
          let size : min k (256 - k) ≡ 128 = omega arith in
          let level = middle_passes t.runs filled.positive filled.total ∙ levels_below t.runs 127 filled few (omega arith) in
          let most = runs_below-low t.runs 127 (omega (arith, filled.total)) in
          rw (entry_middle t.runs t.scale k same, le-ltb k 128 (omega arith), size, level) (lowered t.scale (length t.runs - 1) (runs_below t.runs 127) (omega arith))
      | inr other ↦ elim other [
        | inl less ↦
            let size : min k (256 - k) ≡ k = omega arith in
            let level = levels_below t.runs k filled few less in
            rw (entry_lower t.runs t.scale k less, lt-ltb k 128 less, size, level) (lifted t.scale (length t.runs - 1) (runs_below t.runs k))
        | inr more ↦
            let size : min k (256 - k) ≡ 256 - k = omega arith in
            let level = levels_below t.runs (256 - k) filled few (omega arith) in
            let most = runs_below-low t.runs (256 - k) (omega (arith, filled.total)) in
            rw (entry_upper t.runs t.scale k more, le-ltb k 128 (omega arith), size, level) (lowered t.scale (length t.runs - 1) (runs_below t.runs (256 - k)) (omega arith))
      ]
    ]

-- no more levels lie below a size than the table has but one
pub passed_le : (runs : List ℕ) (size : ℕ) → Filled runs → length runs ≤ 6 → size ≤ 128 → passed_by runs size ≤ length runs - 1
passed_le runs size filled few le =
    let total = filled.total in
    elim (cases_lt size 128) [
      | inl less ↦ let low = runs_below-low runs size (omega arith) in rw (levels_below runs size filled few less) (omega arith)
      | inr more ↦
          let same : size ≡ 128 = omega arith in
          let low = runs_below-low runs 127 (omega arith) in
          rw (same, middle_passes runs filled.positive total, levels_below runs 127 filled few (omega arith)) (omega arith)
    ]

-- an entry is raised by the greatest
pub raised_is : (t : RaisedTable) (raised : List ℕ) (k : ℕ) → IsRaised t.runs t.scale raised → k < 256 → pos (raised_entry t k) ≡ entry_of t.runs t.scale k +ℤ pos (half_of t)
unfolding raised_entry
raised_is t raised k is below = rw (← is.each k below) refl

pub raised_most : (t : RaisedTable) (raised : List ℕ) (k : ℕ) → IsRaised t.runs t.scale raised → k < 256 → raised_entry t k ≤ 2 * half_of t
unfolding raised_entry
raised_most t raised k is below = rw (← is.each k below) (is.most k below)

-- a raised entry has 16 bits
raised_fits : (t : RaisedTable) (raised : List ℕ) (k : ℕ) → IsRaised t.runs t.scale raised → k < 256 → raised_entry t k < 65536
raised_fits t raised k is below =
    let room = half_room t.scale (length t.runs) (filled_from t.runs is.filled).some is.room in
    let most = raised_most t raised k is below in
    omega (arith, most, room)

-- five lanes of 0 or 1, added as bytes
pub added : (a b c d e p q r s t : ℕ) → a ≡ min p 1 → b ≡ min q 1 → c ≡ min r 1 → d ≡ min s 1 → e ≡ min t 1 →
    ((((a + b) % 256 + c) % 256 + d) % 256 + e) % 256 ≡ a + b + c + d + e
added a b c d e p q r s t h i j k l = omega arith

-- the entry by lanes
pub lane_is : (t : RaisedTable) (raised : List ℕ) (k level most : ℕ) → IsRaised t.runs t.scale raised → length t.runs ≤ 6 → k < 256 → level ≡ passed_by t.runs (min k (256 - k)) → most ≡ length t.runs - 1 →
    ((if nat_lt k 128 then most + level else most - level) * t.scale) % 65536 ≡ raised_entry t k
lane_is t raised k level most is few below levels mosts =
    let entry = raised_by t k is.filled few below in
    let fits = raised_fits t raised k is below in
    rw (levels, mosts) (omega (arith, entry, fits))

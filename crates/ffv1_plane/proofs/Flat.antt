-- The context of a sample between equal samples.
use Rattle.std.proofs.Common.{◌≡◌, ap, ◌∙◌, ℕ, ◌-◌, ◌*◌, ◌<◌, ◌≤◌, List, [], ◌∷◌, length, take, sum, get_or, unsigned_abs, true, arith, ℤ, pos, ◌+ℤ◌}
use Rattle.std.proofs.lemmas.Int.{ints}
use Rattle.ffv1_plane.specs.declared.prediction.Around.{Around}
use Rattle.ffv1_plane.specs.Quantisation.{Set, IsSet, HasThreeTables, is_filled, runs_below, entry_of, entry, scale_behind}
use Rattle.ffv1_plane.specs.Context.{low, size_of}
use Rattle.ffv1_plane.proofs.Levels.{filled_from, runs_below-at, entry_lower}
use Rattle.ffv1_plane.proofs.Bounds.{entry_size}
use Rattle.ffv1_plane.proofs.Scales.{each_filled}

first_run : (runs : List ℕ) → 0 < length runs → 0 < get_or runs 0 0 → 0 < sum (take 1 runs)
first_run [] some positive = absurd (omega arith)
first_run (r ∷ rs) some positive = omega arith

-- a table begins with 0
first_entry : (runs : List ℕ) (scale k : ℕ) → is_filled runs ≡ true → k ≡ 0 → entry_of runs scale k ≡ pos 0
first_entry runs scale k is first =
    let filled = filled_from runs is in
    let level : runs_below runs 0 ≡ 0 = runs_below-at runs 0 0 filled.some (omega arith) (first_run runs filled.some (filled.positive 0 filled.some)) in
    let none : scale * runs_below runs 0 ≡ 0 = rw level (omega arith) in
    rw first (entry_lower runs scale 0 (omega arith) ∙ ap pos none)

-- and a table of one level has nothing else
only_entry : (runs : List ℕ) (scale k : ℕ) → is_filled runs ≡ true → length runs ≡ 1 → entry_of runs scale k ≡ pos 0
only_entry runs scale k is one =
    let none : length runs - 1 ≡ 0 = omega arith in
    let size : unsigned_abs (entry_of runs scale k) ≤ scale * 0 = rw none at (entry_size runs scale k is) in
    omega (arith, ints)

no_sum : (e1 e2 e3 e4 e5 : ℤ) → e1 ≡ pos 0 → e2 ≡ pos 0 → e3 ≡ pos 0 → e4 ≡ pos 0 → e5 ≡ pos 0 → unsigned_abs (e1 +ℤ e2 +ℤ e3 +ℤ e4 +ℤ e5) ≡ 0
no_sum e1 e2 e3 e4 e5 p q r s t = omega (arith, ints)

flat_listed : (a b c d e : List ℕ) (around : Around) → IsSet (a ∷ b ∷ c ∷ d ∷ e ∷ []) → HasThreeTables (a ∷ b ∷ c ∷ d ∷ e ∷ []) → around.t ≡ around.l → around.tl ≡ around.l → around.tr ≡ around.l →
    size_of (a ∷ b ∷ c ∷ d ∷ e ∷ []) around ≡ 0
unfolding size_of
flat_listed a b c d e around is three top left right =
    let set = a ∷ b ∷ c ∷ d ∷ e ∷ [] in
    let each = each_filled a b c d e is.filled in
    let s2 = scale_behind 1 (a ∷ []) in
    let s3 = scale_behind 1 (a ∷ b ∷ []) in
    let s4 = scale_behind 1 (a ∷ b ∷ c ∷ []) in
    let s5 = scale_behind 1 (a ∷ b ∷ c ∷ d ∷ []) in
    no_sum (entry set 0 (low around.l around.tl)) (entry set 1 (low around.tl around.t)) (entry set 2 (low around.t around.tr)) (entry set 3 (low around.ll around.l)) (entry set 4 (low around.tt around.t))
    (first_entry a 1 (low around.l around.tl) each.first (omega (arith, left))) (first_entry b s2 (low around.tl around.t) each.second (omega (arith, left, top)))
    (first_entry c s3 (low around.t around.tr) each.third (omega (arith, top, right)))
    (only_entry d s4 (low around.ll around.l) each.fourth three.fourth) (only_entry e s5 (low around.tt around.t) each.fifth three.fifth)

pub flat_size : (set : Set) → IsSet set → HasThreeTables set → (around : Around) → around.t ≡ around.l → around.tl ≡ around.l → around.tr ≡ around.l → size_of set around ≡ 0
flat_size [] is three around top left right = let five = is.five in absurd (omega arith)
flat_size (a ∷ []) is three around top left right = let five = is.five in absurd (omega arith)
flat_size (a ∷ b ∷ []) is three around top left right = let five = is.five in absurd (omega arith)
flat_size (a ∷ b ∷ c ∷ []) is three around top left right = let five = is.five in absurd (omega arith)
flat_size (a ∷ b ∷ c ∷ d ∷ []) is three around top left right = let five = is.five in absurd (omega arith)
flat_size (a ∷ b ∷ c ∷ d ∷ e ∷ []) is three around top left right = flat_listed a b c d e around is three top left right
flat_size (a ∷ b ∷ c ∷ d ∷ e ∷ f ∷ more) is three around top left right = let five = is.five in absurd (omega arith)

-- The size of a context.
use Rattle.std.proofs.Common.{◌≡◌, refl, ℕ, ◌+◌, ◌-◌, ◌*◌, ◌/◌, ◌<◌, ◌≤◌, List, [], ◌∷◌, length, arith, ℤ, ◌+ℤ◌, unsigned_abs, true, inl, inr}
use Rattle.std.proofs.lemmas.Int.{ints}
use Rattle.std.proofs.lemmas.Bool.{cases_order}
use Rattle.std.proofs.Math.Nat.{mul-le-mul_left}
use Rattle.ffv1_plane.specs.declared.prediction.Around.{Around}
use Rattle.ffv1_plane.specs.Quantisation.{Set, IsSet, is_filled, runs_below, entry_of, entry, scale_behind, contexts_of}
use Rattle.ffv1_plane.specs.Context.{low, size_of}
use Rattle.ffv1_plane.proofs.Levels.{Filled, filled_from, runs_below-low, entry_lower, entry_middle, entry_upper}
use Rattle.ffv1_plane.proofs.Scales.{each_filled, half_is}

level_size : (runs : List ℕ) (scale k : ℕ) → Filled runs → k < 128 → scale * runs_below runs k ≤ scale * (length runs - 1)
level_size runs scale k filled below =
    let total = filled.total in
    let low = runs_below-low runs k (omega arith) in
    mul-le-mul_left {m = runs_below runs k} {n = length runs - 1} scale (omega arith)

-- no entry is beyond the greatest
pub entry_size : (runs : List ℕ) (scale k : ℕ) → is_filled runs ≡ true → unsigned_abs (entry_of runs scale k) ≤ scale * (length runs - 1)
entry_size runs scale k is =
    let filled = filled_from runs is in
    elim (cases_order k 128) [
      | inl same ↦ let most = level_size runs scale 127 filled (omega arith) in rw (entry_middle runs scale k same) (omega (arith, ints))
      | inr other ↦ elim other [
        | inl less ↦ let most = level_size runs scale k filled less in rw (entry_lower runs scale k less) (omega (arith, ints))
        | inr more ↦ let most = level_size runs scale (256 - k) filled (omega arith) in rw (entry_upper runs scale k more) (omega (arith, ints))
      ]
    ]

sum_size : (e1 e2 e3 e4 e5 : ℤ) (h1 h2 h3 h4 h5 : ℕ) → unsigned_abs e1 ≤ h1 → unsigned_abs e2 ≤ h2 → unsigned_abs e3 ≤ h3 → unsigned_abs e4 ≤ h4 → unsigned_abs e5 ≤ h5 →
    unsigned_abs (e1 +ℤ e2 +ℤ e3 +ℤ e4 +ℤ e5) ≤ h1 + h2 + h3 + h4 + h5
sum_size e1 e2 e3 e4 e5 h1 h2 h3 h4 h5 p q r s t = omega (arith, ints)

counted : (size s h : ℕ) → size ≤ h → s ≡ 1 + 2 * h → size < (s + 1) / 2
counted size s h low e = omega arith

listed_below : (a b c d e : List ℕ) (around : Around) → IsSet (a ∷ b ∷ c ∷ d ∷ e ∷ []) → size_of (a ∷ b ∷ c ∷ d ∷ e ∷ []) around < contexts_of (a ∷ b ∷ c ∷ d ∷ e ∷ [])
unfolding size_of
listed_below a b c d e around is =
    let set = a ∷ b ∷ c ∷ d ∷ e ∷ [] in
    let each = each_filled a b c d e is.filled in
    let s2 = scale_behind 1 (a ∷ []) in
    let s3 = scale_behind 1 (a ∷ b ∷ []) in
    let s4 = scale_behind 1 (a ∷ b ∷ c ∷ []) in
    let s5 = scale_behind 1 (a ∷ b ∷ c ∷ d ∷ []) in
    let odd = half_is a b c d e s2 s3 s4 s5 (scale_behind 1 set) each.first each.second each.third each.fourth each.fifth refl refl refl refl refl in
    let size = sum_size (entry set 0 (low around.l around.tl)) (entry set 1 (low around.tl around.t)) (entry set 2 (low around.t around.tr)) (entry set 3 (low around.ll around.l)) (entry set 4 (low around.tt around.t)) _ _ _ _ _
    (entry_size a 1 (low around.l around.tl) each.first) (entry_size b s2 (low around.tl around.t) each.second) (entry_size c s3 (low around.t around.tr) each.third)
    (entry_size d s4 (low around.ll around.l) each.fourth) (entry_size e s5 (low around.tt around.t) each.fifth) in
    counted _ _ _ size odd

pub size_below : (set : Set) (around : Around) → IsSet set → size_of set around < contexts_of set
size_below [] around is = let five = is.five in absurd (omega arith)
size_below (a ∷ []) around is = let five = is.five in absurd (omega arith)
size_below (a ∷ b ∷ []) around is = let five = is.five in absurd (omega arith)
size_below (a ∷ b ∷ c ∷ []) around is = let five = is.five in absurd (omega arith)
size_below (a ∷ b ∷ c ∷ d ∷ []) around is = let five = is.five in absurd (omega arith)
size_below (a ∷ b ∷ c ∷ d ∷ e ∷ []) around is = listed_below a b c d e around is
size_below (a ∷ b ∷ c ∷ d ∷ e ∷ f ∷ more) around is = let five = is.five in absurd (omega arith)

-- The early part of a context's sum, and the rest.
use Rattle.std.proofs.Common.{◌≡◌, ap, ℕ, ◌+◌, ◌-◌, ◌*◌, ◌<◌, length, take, arith, ℤ, pos, ◌+ℤ◌, ◌-ℤ◌}
use Rattle.std.proofs.lemmas.Int.{ints}
use Rattle.ffv1_plane.specs.declared.prediction.Around.{Around}
use Rattle.ffv1_plane.specs.Quantisation.{HasThreeTables, entry_of, entry, scale_behind, contexts_of}
use Rattle.ffv1_plane.specs.Raised.{RaisedTable, AreRaised, half_of}
use Rattle.ffv1_plane.specs.Context.{low, context_of}
use Rattle.ffv1_plane.specs.Early.{IsEarly, greatest}
use Rattle.ffv1_plane.proofs.Scales.{each_filled}
use Rattle.ffv1_plane.proofs.Sums.{set_of, at_scale, level_one}

three : (e1 e2 e3 : ℤ) (r1 r2 r3 h1 h2 h3 g1 g2 g3 half count base : ℕ) → pos r1 ≡ e1 +ℤ pos h1 → pos r2 ≡ e2 +ℤ pos h2 → pos r3 ≡ e3 +ℤ pos h3 → h1 ≡ g1 → h2 ≡ g2 → h3 ≡ g3 →
    count ≡ half + 1 → half < base → pos (r1 + r2 + (base - half) + r3 + count) ≡ e1 +ℤ e2 +ℤ e3 +ℤ pos (g1 + g2 + g3 + (base + 1))
three e1 e2 e3 r1 r2 r3 h1 h2 h3 g1 g2 g3 half count base p q r s t u v w = omega (arith, ints)

five : (e1 e2 e3 e4 e5 : ℤ) (sum r1 r4 h1 h2 h3 h4 h5 g2 g3 g5 half count base : ℕ) → pos (sum + count) ≡ e2 +ℤ e3 +ℤ e5 +ℤ pos (g2 + g3 + g5 + (base + 1)) → pos r1 ≡ e1 +ℤ pos h1 → pos r4 ≡ e4 +ℤ pos h4 →
    h2 ≡ g2 → h3 ≡ g3 → h5 ≡ g5 → count ≡ half + 1 → h1 + h2 + h3 + h4 + h5 ≡ half → e1 +ℤ e2 +ℤ e3 +ℤ e4 +ℤ e5 ≡ pos (sum + r1 + r4) -ℤ pos base
five e1 e2 e3 e4 e5 sum r1 r4 h1 h2 h3 h4 h5 g2 g3 g5 half count base p q r s t u v w = omega (arith, ints)

module _ (first second third fourth fifth : RaisedTable) (half : ℕ) (is : AreRaised first second third fourth fifth half) where
  second_half : half_of second ≡ greatest (set_of first second third fourth fifth) 1
  second_half = ap (λ s. s * (length second.runs - 1)) is.second_scale

  third_half : half_of third ≡ greatest (set_of first second third fourth fifth) 2
  third_half = ap (λ s. s * (length third.runs - 1)) is.third_scale

  fifth_half : half_of fifth ≡ greatest (set_of first second third fourth fifth) 4
  fifth_half = ap (λ s. s * (length fifth.runs - 1)) is.fifth_scale

  few : half < 32768
  few = let most = is.set.few in let count = is.contexts in omega arith

  pub early_is : (tl t tr tt r2 r3 r5 : ℕ) → pos r2 ≡ entry_of second.runs second.scale (low tl t) +ℤ pos (half_of second) →
      pos r3 ≡ entry_of third.runs third.scale (low t tr) +ℤ pos (half_of third) →
      pos r5 ≡ entry_of fifth.runs fifth.scale (low tt t) +ℤ pos (half_of fifth) → IsEarly (set_of first second third fourth fifth) tl t tr tt (r2 + r3 + (32768 - half) + r5)
  early_is tl t tr tt r2 r3 r5 p q r =
      let set = set_of first second third fourth fifth in
      record {
        is = three (entry set 1 (low tl t)) (entry set 2 (low t tr)) (entry set 4 (low tt t)) r2 r3 r5 (half_of second) (half_of third) (half_of fifth) (greatest set 1) (greatest set 2) (greatest set 4)
            half (contexts_of set) 32768
            (at_scale second (scale_behind 1 (take 1 set)) (low tl t) r2 is.second_scale p) (at_scale third (scale_behind 1 (take 2 set)) (low t tr) r3 is.third_scale q)
            (at_scale fifth (scale_behind 1 (take 4 set)) (low tt t) r5 is.fifth_scale r) second_half third_half fifth_half is.contexts few;
      }

  pub early_of_three : (tl t tr tt r2 r3 : ℕ) → HasThreeTables (set_of first second third fourth fifth) → pos r2 ≡ entry_of second.runs second.scale (low tl t) +ℤ pos (half_of second) →
      pos r3 ≡ entry_of third.runs third.scale (low t tr) +ℤ pos (half_of third) → IsEarly (set_of first second third fourth fifth) tl t tr tt (r2 + r3 + (32768 - half))
  early_of_three tl t tr tt r2 r3 three p q =
      let each = each_filled first.runs second.runs third.runs fourth.runs fifth.runs is.set.filled in
      let sum : r2 + r3 + (32768 - half) + 0 ≡ r2 + r3 + (32768 - half) = omega arith in
      rw (← sum) (early_is tl t tr tt r2 r3 0 p q (level_one fifth (low tt t) each.fifth three.fifth))

  pub late_is : (a : Around) (sum r1 r4 : ℕ) → IsEarly (set_of first second third fourth fifth) a.tl a.t a.tr a.tt sum →
      pos r1 ≡ entry_of first.runs first.scale (low a.l a.tl) +ℤ pos (half_of first) → pos r4 ≡ entry_of fourth.runs fourth.scale (low a.ll a.l) +ℤ pos (half_of fourth) →
      context_of (set_of first second third fourth fifth) a ≡ pos (sum + r1 + r4) -ℤ pos 32768
  late_is a sum r1 r4 early p q =
      let set = set_of first second third fourth fifth in
      five (entry set 0 (low a.l a.tl)) (entry set 1 (low a.tl a.t)) (entry set 2 (low a.t a.tr)) (entry set 3 (low a.ll a.l)) (entry set 4 (low a.tt a.t)) sum r1 r4
      (half_of first) (half_of second) (half_of third) (half_of fourth) (half_of fifth) (greatest set 1) (greatest set 2) (greatest set 4) half (contexts_of set) 32768 early.is
      (at_scale first (scale_behind 1 (take 0 set)) (low a.l a.tl) r1 is.first_scale p) (at_scale fourth (scale_behind 1 (take 3 set)) (low a.ll a.l) r4 is.fourth_scale q)
      second_half third_half fifth_half is.contexts is.halves

  pub late_of_three : (a : Around) (sum r1 : ℕ) → HasThreeTables (set_of first second third fourth fifth) → IsEarly (set_of first second third fourth fifth) a.tl a.t a.tr a.tt sum →
      pos r1 ≡ entry_of first.runs first.scale (low a.l a.tl) +ℤ pos (half_of first) → context_of (set_of first second third fourth fifth) a ≡ pos (sum + r1) -ℤ pos 32768
  late_of_three a sum r1 three early p =
      let each = each_filled first.runs second.runs third.runs fourth.runs fifth.runs is.set.filled in
      let same : sum + r1 + 0 ≡ sum + r1 = omega arith in
      rw (← same) (late_is a sum r1 0 early p (level_one fourth (low a.ll a.l) each.fourth three.fourth))

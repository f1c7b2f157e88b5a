-- Samples that were read have so many bits.
use Rattle.std.proofs.Common.{◌≡◌, ℕ, zero, suc, ◌+◌, ◌^◌, ◌<◌, ◌≤◌, List, [], ◌∷◌, length, get_or, arith, ap, sym, subst, ◌∙◌, ℤ}
use Rattle.ffv1_plane.specs.Prediction.{predicted_in}
use Rattle.ffv1_plane.specs.Quantisation.{Set}
use Rattle.ffv1_plane.specs.Context.{flip_of}
use Rattle.ffv1_plane.proofs.Folding.{one_made}
use Rattle.ffv1_line.specs.Cell.{Cell, seen, around}
use Rattle.ffv1_line.specs.Row.{AreSuiting}
use Rattle.ffv1_line.specs.Decoded.{Lined, LinedToRefusal}
use Rattle.ffv1_line.proofs.lemmas.laws.SameRow.{number}
use Rattle.ffv1_line.proofs.lemmas.laws.ThreeRows.{three, seen_three, lined_suits, refused_suits}
use Rattle.ffv1_line.specs.Coding.{RowCoding}
use Rattle.ffv1_line.specs.Coder.{Decoder}
use Rattle.ffv1_line.specs.Above.{RowsAbove}

pub suiting_below : (set : Set) (bits : ℕ) (c : Cell) (y x k : ℕ) (qs : List ℤ) → AreSuiting set bits c y x qs → k < length qs → seen c (suc (suc (x + k))) (suc (suc y)) < 2 ^ bits
suiting_below set bits c y x k [] are h = absurd (omega (arith, h))
suiting_below set bits c y x zero (q ∷ qs) are h =
    let made = one_made bits (predicted_in bits (around c x y)) (flip_of set (around c x y)) q in
    let same : made.0 ≡ seen c (suc (suc x)) (suc (suc y)) = number _ _ (made.2 ∙ sym are.0.makes) in
    let below : seen c (suc (suc x)) (suc (suc y)) < 2 ^ bits = subst (λ s. s < 2 ^ bits) same made.1 in
    subst (λ n. seen c (suc (suc n)) (suc (suc y)) < 2 ^ bits) (omega arith) below
suiting_below set bits c y x (suc k) (q ∷ qs) are h =
    let rest = suiting_below set bits c y (suc x) k qs are.1 (omega (arith, h)) in
    subst (λ n. seen c (suc (suc n)) (suc (suc y)) < 2 ^ bits) (omega arith) rest

row_below : (set : Set) (bits : ℕ) (two one cur : List ℕ) (x n : ℕ) (qs : List ℤ) → length qs ≡ n → n ≤ length one → x < n → AreSuiting set bits (three two one cur) 2 0 qs → get_or cur x 0 < 2 ^ bits
row_below set bits two one cur x n qs long few h are =
    let below = suiting_below set bits (three two one cur) 2 0 x qs are (omega (arith, h, long)) in
    let at : seen (three two one cur) (suc (suc (0 + x))) 4 ≡ get_or cur x 0 = ap (λ k. seen (three two one cur) (suc (suc k)) 4) (omega arith) ∙ seen_three two one cur x (omega (arith, h, few)) in
    subst (λ s. s < 2 ^ bits) at below

module _ (coding : RowCoding) (old new : Decoder) (over : RowsAbove) (cur : List ℕ) (n : ℕ) (few : n ≤ length over.one) where
  pub lined_below : Lined coding old new over cur n → (x : ℕ) → x < n → get_or cur x 0 < 2 ^ coding.bits
  lined_below l x h = row_below coding.set coding.bits over.two over.one cur x n l.residuals l.count few h (lined_suits coding old new over cur n few l)

  pub refused_below : LinedToRefusal coding old new over cur n → (x : ℕ) → x < n → get_or cur x 0 < 2 ^ coding.bits
  refused_below r x h = row_below coding.set coding.bits over.two over.one cur x n r.residuals r.count few h (refused_suits coding old new over cur n few r)

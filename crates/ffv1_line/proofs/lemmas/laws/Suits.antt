-- Chosen residuals suit.
use Rattle.std.proofs.Common.{ℕ, ◌-◌, ◌<◌, ◌^◌, min, arith, zero, suc}
use Rattle.ffv1_plane.specs.Prediction.{predicted_in}
use Rattle.ffv1_plane.specs.Quantisation.{Set}
use Rattle.ffv1_plane.specs.Context.{flip_of}
use Rattle.ffv1_plane.proofs.Folding.{chosen_suits}
use Rattle.ffv1_line.specs.Cell.{Cell, seen, around}
use Rattle.ffv1_line.specs.Row.{AreSuiting, chosen_at, chosen_row, chosen_rows}
use Rattle.ffv1_line.specs.Decoded.{RowsSuit}
use Rattle.ffv1_line.proofs.lemmas.cell.Joined.{rows_suit-append}
use Rattle.ffv1_line.proofs.lemmas.cell.Cells.{length-rows}
use Rattle.ffv1_line.proofs.lemmas.cell.Rows.{suiting-append, length-chosen}

seen_small : (c : Cell) (x y limit : ℕ) → 0 < c.width → ((k : ℕ) → k < c.width → c.at k y < limit) → seen c (suc (suc x)) (suc (suc y)) < limit
unfolding seen
seen_small c x y limit some small = small (min x (c.width - 1)) (omega (arith, some))

pub chosen_row_suits : (set : Set) (bits : ℕ) (c : Cell) (y n : ℕ) → 0 < bits → bits < 32 → 0 < c.width → ((x : ℕ) → x < c.width → c.at x y < 2 ^ bits) → AreSuiting set bits c y 0 (chosen_row set bits c y n)
unfolding chosen_row
chosen_row_suits set bits c y zero some few wide small = tt
chosen_row_suits set bits c y (suc n) some few wide small =
    let long = length-chosen set bits c y n in
    suiting-append set bits c y 0 n (chosen_row set bits c y n) (chosen_at set bits c y n) (omega arith) (chosen_row_suits set bits c y n some few wide small)
    (chosen_suits bits (predicted_in bits (around c n y)) (flip_of set (around c n y)) (seen c (suc (suc n)) (suc (suc y))) some few (seen_small c n y (2 ^ bits) wide small))

pub chosen_rows_suit : (set : Set) (bits : ℕ) (c : Cell) (n : ℕ) → 0 < bits → bits < 32 → 0 < c.width → ((x y : ℕ) → x < c.width → y < n → c.at x y < 2 ^ bits) → RowsSuit set bits c 0 (chosen_rows set bits c n)
unfolding chosen_rows
chosen_rows_suit set bits c zero some few wide small = tt
chosen_rows_suit set bits c (suc n) some few wide small =
    rows_suit-append set bits c 0 n (chosen_rows set bits c n) (chosen_row set bits c n c.width) (omega (arith, length-rows set bits c n)) (length-chosen set bits c n c.width)
    (chosen_rows_suit set bits c n some few wide (λ x y h k. small x y h (omega (arith, k))))
    (chosen_row_suits set bits c n c.width some few wide (λ x h. small x n h (omega arith)))

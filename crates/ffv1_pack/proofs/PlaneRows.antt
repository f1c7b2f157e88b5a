-- The rows of a plane, one by one.
use Rattle.std.proofs.Common.{◌≡◌, ℕ, ◌+◌, ◌*◌, ◌<◌, List, take, drop, length, ◌∙◌, arith, suc, subst, length-take, length-drop}
use Rattle.std.proofs.Math.Nat.{mul-le-mul_left}
use Rattle.ffv1_line.specs.Cell.{Shows, cell_of}
use Rattle.ffv1_line.proofs.lemmas.cell.Cells.{shows_inside}

-- a row of a plane of w times h samples
pub row_long : (samples : List ℕ) (w h y : ℕ) → length samples ≡ w * h → y < h → length (take w (drop (y * w) samples)) ≡ w
row_long samples w h y whole inside =
    let more = mul-le-mul_left {m = suc y} {n = h} w inside in
    length-take w (drop (y * w) samples) ∙ (omega (arith, length-drop (y * w) samples, whole, more))

-- it is the cell's row
pub row_shown : (samples : List ℕ) (w y : ℕ) → Shows (cell_of w samples) (y + 2) (take w (drop (y * w) samples)) w
row_shown samples w y =
    let two_more : suc (suc y) ≡ y + 2 = omega arith in
    subst (λ n. Shows (cell_of w samples) n (take w (drop (y * w) samples)) w) two_more (shows_inside w samples y)

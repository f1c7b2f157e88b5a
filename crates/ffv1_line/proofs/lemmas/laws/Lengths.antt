-- How many decisions residuals take.
use Rattle.std.proofs.Common.{◌≡◌, refl, ℕ, ◌+◌, ◌-◌, ◌*◌, ◌^◌, ◌<◌, ◌≤◌, List, [], ◌∷◌, ◌++◌, length, arith, ◌∙◌, zero, suc, length-append, ℤ, pos, negsuc, unsigned_abs, true, false, ◌-ℤ◌, ◌≤ℤ◌, ◌<ℤ◌}
use Rattle.std.proofs.lemmas.Int.{ints}
use Rattle.ffv1_range.specs.Symbols.{signed_steps, exponent}
use Rattle.ffv1_range.specs.History.{AreBelow}
use Rattle.ffv1_range.proofs.Counting.{length-shifted, sized_length}
use Rattle.ffv1_range.proofs.Prefix.{exponent_of}
use Rattle.ffv1_range.proofs.Windows.{AreBelow-append}
use Rattle.ffv1_plane.specs.declared.prediction.Around.{Around}
use Rattle.ffv1_plane.specs.Quantisation.{Set, contexts_of}
use Rattle.ffv1_plane.specs.Context.{size_of, flip_of}
use Rattle.ffv1_plane.specs.Prediction.{predicted_in}
use Rattle.ffv1_plane.proofs.Folding.{chosen_folded}
use Rattle.ffv1_line.specs.Cell.{Cell, seen, around}
use Rattle.ffv1_line.specs.Row.{sample_steps, row_steps, cell_steps, chosen_at, chosen_row, chosen_rows}
use Rattle.ffv1_line.specs.Length.{binary_digits, decisions_of, row_decisions, cell_decisions, AreSmall, AreSmallRows, residuals_in}
use Rattle.ffv1_line.proofs.lemmas.cell.Joined.{row_below}
use Rattle.ffv1_line.proofs.lemmas.cell.Rows.{length-chosen}

digits_of_some : (n : ℕ) → 2 * exponent (suc n) + 3 ≡ 2 * binary_digits (suc n) + 1
digits_of_some n = omega arith

-- the decisions of a symbol
pub symbol_length : (v : ℤ) → unsigned_abs v < 2 ^ 31 → length (signed_steps v) ≡ decisions_of v
unfolding decisions_of
symbol_length (pos zero) small = omega arith
symbol_length (pos (suc n)) small = sized_length (suc n) false ∙ digits_of_some n
symbol_length (negsuc n) small = sized_length (suc n) true ∙ digits_of_some n

-- below 2 ^ 31 the highest digit stands below place 31
digits_most : (n : ℕ) → n < 2 ^ 31 → binary_digits n ≤ 31
digits_most zero small = omega arith
digits_most (suc n) small = let is = exponent_of (suc n) (omega arith) small in omega (arith, is.small)

-- at most 63
pub symbol_most : (v : ℤ) → unsigned_abs v < 2 ^ 31 → decisions_of v ≤ 63
unfolding decisions_of
symbol_most v small = let most = digits_most (unsigned_abs v) small in omega (arith, most)

pub row_length : (set : Set) (c : Cell) (y x : ℕ) (qs : List ℤ) → AreSmall qs → length (row_steps set c y x qs) ≡ row_decisions qs
row_length set c y x [] small = refl
row_length set c y x (q ∷ qs) small =
    let first = length-shifted (size_of set (around c x y) * 32) (signed_steps q) ∙ symbol_length q small.0 in
    let rest = row_length set c y (suc x) qs small.1 in
    length-append (sample_steps set (around c x y) q) (row_steps set c y (suc x) qs) ∙ (omega (arith, first, rest))

pub cell_length : (set : Set) (c : Cell) (y : ℕ) (rows : List (List ℤ)) → AreSmallRows rows → length (cell_steps set c y rows) ≡ cell_decisions rows
cell_length set c y [] small = refl
cell_length set c y (qs ∷ rows) small =
    let first = row_length set c y 0 qs small.0 in
    let rest = cell_length set c (suc y) rows small.1 in
    length-append (row_steps set c y 0 qs) (cell_steps set c (suc y) rows) ∙ (omega (arith, first, rest))

pub row_most : (qs : List ℤ) → AreSmall qs → row_decisions qs ≤ 63 * length qs
row_most [] small = omega arith
row_most (q ∷ qs) small =
    let first = symbol_most q small.0 in
    let rest = row_most qs small.1 in
    omega (arith, first, rest)

pub cell_most : (rows : List (List ℤ)) → AreSmallRows rows → cell_decisions rows ≤ 63 * residuals_in rows
cell_most [] small = omega arith
cell_most (qs ∷ rows) small =
    let first = row_most qs small.0 in
    let rest = cell_most rows small.1 in
    omega (arith, first, rest)

pub cell_below : (set : Set) (c : Cell) (y : ℕ) (rows : List (List ℤ)) → ((a : Around) → size_of set a < contexts_of set) → AreBelow (cell_steps set c y rows) (contexts_of set * 32)
cell_below set c y [] bound = tt
cell_below set c y (qs ∷ rows) bound =
    AreBelow-append (row_steps set c y 0 qs) (cell_steps set c (suc y) rows) (contexts_of set * 32) (row_below set c y 0 qs bound) (cell_below set c (suc y) rows bound)

-- what an encoder takes
small-append : (qs : List ℤ) (q : ℤ) → AreSmall qs → unsigned_abs q < 2 ^ 31 → AreSmall (qs ++ (q ∷ []))
small-append [] q small one = (one, tt)
small-append (p ∷ qs) q small one = (small.0, small-append qs q small.1 one)

small_rows-append : (rows : List (List ℤ)) (qs : List ℤ) → AreSmallRows rows → AreSmall qs → AreSmallRows (rows ++ (qs ∷ []))
small_rows-append [] qs small one = (one, tt)
small_rows-append (ps ∷ rows) qs small one = (small.0, small_rows-append rows qs small.1 one)

residuals-append : (rows : List (List ℤ)) (qs : List ℤ) → residuals_in (rows ++ (qs ∷ [])) ≡ residuals_in rows + length qs
residuals-append [] qs = omega arith
residuals-append (ps ∷ rows) qs = let rest = residuals-append rows qs in omega (arith, rest)

folded_small : (q : ℤ) (half : ℕ) → half < 2 ^ 31 → (pos 0 -ℤ pos half) ≤ℤ q → q <ℤ pos half → unsigned_abs q < 2 ^ 31
folded_small (pos n) half small least most = omega (arith, ints, small, most)
folded_small (negsuc n) half small least most = omega (arith, ints, small, least)

chosen_small : (set : Set) (bits : ℕ) (c : Cell) (y x : ℕ) → 0 < bits → 2 ^ (bits - 1) < 2 ^ 31 → unsigned_abs (chosen_at set bits c y x) < 2 ^ 31
chosen_small set bits c y x some few =
    let folded = chosen_folded bits (predicted_in bits (around c x y)) (flip_of set (around c x y)) (seen c (suc (suc x)) (suc (suc y))) some in
    folded_small _ (2 ^ (bits - 1)) few folded.least folded.most

pub chosen_row_small : (set : Set) (bits : ℕ) (c : Cell) (y n : ℕ) → 0 < bits → 2 ^ (bits - 1) < 2 ^ 31 → AreSmall (chosen_row set bits c y n)
unfolding chosen_row
chosen_row_small set bits c y zero some few = tt
chosen_row_small set bits c y (suc n) some few = small-append (chosen_row set bits c y n) (chosen_at set bits c y n) (chosen_row_small set bits c y n some few) (chosen_small set bits c y n some few)

pub chosen_rows_small : (set : Set) (bits : ℕ) (c : Cell) (n : ℕ) → 0 < bits → 2 ^ (bits - 1) < 2 ^ 31 → AreSmallRows (chosen_rows set bits c n)
unfolding chosen_rows
chosen_rows_small set bits c zero some few = tt
chosen_rows_small set bits c (suc n) some few = small_rows-append (chosen_rows set bits c n) (chosen_row set bits c n c.width) (chosen_rows_small set bits c n some few) (chosen_row_small set bits c n c.width some few)

pub chosen_rows_many : (set : Set) (bits : ℕ) (c : Cell) (n : ℕ) → residuals_in (chosen_rows set bits c n) ≡ n * c.width
unfolding chosen_rows
chosen_rows_many set bits c zero = omega arith
chosen_rows_many set bits c (suc n) =
    let rest = chosen_rows_many set bits c n in
    let long = length-chosen set bits c n c.width in
    residuals-append (chosen_rows set bits c n) (chosen_row set bits c n c.width) ∙ (omega (arith, rest, long))

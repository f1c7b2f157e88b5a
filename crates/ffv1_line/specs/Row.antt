-- The decisions of a row, and of a cell.
use Rattle.std.specs.Prelude.{ℕ, ◌*◌, List, [], ◌∷◌, ◌++◌, ℤ}
use Rattle.std.proofs.Common.{zero, suc}
use Rattle.ffv1_range.specs.Symbols.{Step, shifted, signed_steps, too_long}
use Rattle.ffv1_plane.specs.declared.prediction.Around.{Around}
use Rattle.ffv1_plane.specs.Prediction.{predicted_in}
use Rattle.ffv1_plane.specs.Quantisation.{Set}
use Rattle.ffv1_plane.specs.Context.{size_of, flip_of}
use Rattle.ffv1_plane.specs.Residual.{IsSuiting, chosen_of}
use Rattle.ffv1_line.specs.Cell.{Cell, seen, around}

-- the decisions of one residual, in the states of the place's context (RFC 9043, 3.8.1.2)
abbrev pub sample_steps : Set → Around → ℤ → List Step
sample_steps set a q = shifted (size_of set a * 32) (signed_steps q)

-- those of one that is refused
abbrev pub refused_steps : Set → Around → List Step
refused_steps set a = shifted (size_of set a * 32) too_long

-- a residual suits a sample at its position: with the place's prediction it makes the sample (RFC
-- 9043, 3.8)
abbrev pub SuitsAt : Set → ℕ → Around → ℕ → ℤ → Type 0
SuitsAt set bits a s q = IsSuiting bits (predicted_in bits a) (flip_of set a) s q

-- the decisions of the residuals of row y, from column x on
abbrev pub row_steps : Set → Cell → ℕ → ℕ → List ℤ → List Step
row_steps set c y x [] = []
row_steps set c y x (q ∷ qs) = sample_steps set (around c x y) q ++ row_steps set c y (suc x) qs

-- each residual suits its sample
abbrev pub AreSuiting : Set → ℕ → Cell → ℕ → ℕ → List ℤ → Type 0
AreSuiting set bits c y x [] = Unit {0}
AreSuiting set bits c y x (q ∷ qs) =
    SuitsAt set bits (around c x y) (seen c (suc (suc x)) (suc (suc y))) q ×
    AreSuiting set bits c y (suc x) qs

-- the residual that an encoder takes
abbrev pub chosen_at : Set → ℕ → Cell → ℕ → ℕ → ℤ
chosen_at set bits c y x = chosen_of bits (predicted_in bits (around c x y))
    (flip_of set (around c x y)) (seen c (suc (suc x)) (suc (suc y)))

-- those of the first n places of row y
unfoldable pub chosen_row : Set → ℕ → Cell → ℕ → ℕ → List ℤ
chosen_row set bits c y zero = []
chosen_row set bits c y (suc n) = chosen_row set bits c y n ++ (chosen_at set bits c y n ∷ [])

-- the rows of a cell one after the other, from row y on
abbrev pub cell_steps : Set → Cell → ℕ → List (List ℤ) → List Step
cell_steps set c y [] = []
cell_steps set c y (qs ∷ rows) = row_steps set c y 0 qs ++ cell_steps set c (suc y) rows

-- the residuals that an encoder takes of the first n rows
unfoldable pub chosen_rows : Set → ℕ → Cell → ℕ → List (List ℤ)
chosen_rows set bits c zero = []
chosen_rows set bits c (suc n) = chosen_rows set bits c n ++ (chosen_row set bits c n c.width ∷ [])

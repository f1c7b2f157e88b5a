-- What a decoder of samples reads.
use Rattle.std.specs.Prelude.{ℕ, ◌≡◌, ◌≤◌, slice_index, List, [], ◌∷◌, ◌++◌, length, ℤ}
use Rattle.std.proofs.Common.{suc}
use Rattle.ffv1_range.specs.Follows.{Follows}
use Rattle.ffv1_plane.specs.declared.prediction.Around.{Around}
use Rattle.ffv1_plane.specs.Quantisation.{Set}
use Rattle.ffv1_line.specs.Coding.{RowCoding}
use Rattle.ffv1_line.specs.Coder.{Decoder}
use Rattle.ffv1_line.specs.Above.{RowsAbove}
use Rattle.ffv1_line.specs.Cell.{Cell, Above, Shows, BeginsWith, cell_of, around}
use Rattle.ffv1_line.specs.Row.{SuitsAt, AreSuiting, sample_steps, refused_steps, row_steps}
use Rattle.ffv1_line.specs.Row.{cell_steps}

-- the places from x on are as before
pub record SameFrom (x : ℕ) (old new : List ℕ) : Type 0 where
  pub each : (k : ℕ) → x ≤ k → slice_index new k ≡ slice_index old k

-- one sample, by a residual that suits it
pub record Sampled (coding : RowCoding) (old new : Decoder) (a : Around) (s : ℕ) : Type 0 where
  pub residual : ℤ
  pub suits : SuitsAt coding.set coding.bits a s residual
  pub follows : Follows coding.table old.reading old.states new.reading new.states
      (sample_steps coding.set a residual)

-- the decoder read these residuals of row y of a cell
pub record RowRead (coding : RowCoding) (old new : Decoder) (residuals : List ℤ) (c : Cell)
    (y : ℕ) : Type 0 where
  pub suits : AreSuiting coding.set coding.bits c y 0 residuals
  pub follows : Follows coding.table old.reading old.states new.reading new.states
      (row_steps coding.set c y 0 residuals)

-- the decoder read the first n samples of a row, whatever the cell that it is a row of
pub record Lined (coding : RowCoding) (old new : Decoder) (above : RowsAbove) (cur : List ℕ)
    (n : ℕ) : Type 0 where
  pub residuals : List ℤ
  pub count : length residuals ≡ n
  pub coded : (c : Cell) (y : ℕ) → Above c y above.two above.one →
      Shows c (suc (suc y)) cur n → RowRead coding old new residuals c y

-- the same, and then a symbol at place n that is refused
pub record LinedToRefusal (coding : RowCoding) (old new : Decoder) (above : RowsAbove)
    (cur : List ℕ) (n : ℕ) : Type 0 where
  pub residuals : List ℤ
  pub count : length residuals ≡ n
  pub suits : (c : Cell) (y : ℕ) → Above c y above.two above.one →
      Shows c (suc (suc y)) cur n → AreSuiting coding.set coding.bits c y 0 residuals
  pub follows : (c : Cell) (y : ℕ) → Above c y above.two above.one →
      Shows c (suc (suc y)) cur n →
      Follows coding.table old.reading old.states new.reading new.states
      (row_steps coding.set c y 0 residuals ++ refused_steps coding.set (around c n y))

-- the residuals of the rows from row y on suit
abbrev pub RowsSuit : Set → ℕ → Cell → ℕ → List (List ℤ) → Type 0
RowsSuit set bits c y [] = Unit {0}
RowsSuit set bits c y (qs ∷ rows) = (length qs ≡ c.width) × AreSuiting set bits c y 0 qs ×
    RowsSuit set bits c (suc y) rows

-- the decoder read the first rows of a cell
pub record Rows (coding : RowCoding) (old new : Decoder) (c : Cell) (rows : List (List ℤ))
    : Type 0 where
  pub suits : RowsSuit coding.set coding.bits c 0 rows
  pub follows : Follows coding.table old.reading old.states new.reading new.states
      (cell_steps coding.set c 0 rows)

-- the decoder read the first n rows of any cell that begins with these samples
pub record RowsRead (coding : RowCoding) (old new : Decoder) (width : ℕ) (samples : List ℕ)
    (n : ℕ) : Type 0 where
  pub residuals : List (List ℤ)
  pub count : length residuals ≡ n
  pub rows : (c : Cell) → c.width ≡ width → BeginsWith c samples n →
      Rows coding old new c residuals

-- the decoder read all rows of the cell of these samples
pub record CellRead (coding : RowCoding) (old new : Decoder) (width height : ℕ)
    (samples : List ℕ) : Type 0 where
  pub residuals : List (List ℤ)
  pub count : length residuals ≡ height
  pub rows : Rows coding old new (cell_of width samples) residuals

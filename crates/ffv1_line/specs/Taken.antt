-- Rows of a cell that were decoded and handed over.
use Rattle.std.specs.Prelude.{ℕ, ◌≡◌, ◌+◌, ◌<◌, List, [], ◌∷◌, ◌++◌, length, slice_index_or}
use Rattle.ffv1_line.specs.Coding.{RowCoding}
use Rattle.ffv1_line.specs.Coder.{Decoder}
use Rattle.ffv1_line.specs.Above.{RowsAbove}
use Rattle.ffv1_line.specs.Cell.{Cell, Shows, Rolls}
use Rattle.ffv1_line.specs.Decoded.{RowsRead, LinedToRefusal}

-- a step of a sink of rows: what it is before, the row's samples, and what it is after
abbrev pub RowStep : Type 0 → Type 1
RowStep S = S → List ℕ → S → Type 0

-- the sink t is what s becomes by these rows, one step for each, in order
abbrev pub TakesRows : {S : Type 0} → RowStep S → S → List (List ℕ) → S → Type 0
TakesRows takes s [] t = t ≡ s
TakesRows {S = S} takes s (row ∷ rows) t = (m : S) × takes s row m × TakesRows takes m rows t

-- the samples of some rows
abbrev pub samples_in : List (List ℕ) → List ℕ
samples_in [] = []
samples_in (row ∷ rows) = row ++ samples_in rows

-- a sink took some rows of this width, and this holds of how many they are and of their samples
pub record RowsTaken {S : Type 0} (takes : RowStep S) (s t : S) (width : ℕ)
    (Holds : ℕ → List ℕ → Type 0) : Type 0 where
  pub rows : List (List ℕ)
  pub taken : TakesRows takes s rows t
  pub wide : (y : ℕ) → y < length rows → length (slice_index_or rows y []) ≡ width
  pub holds : Holds (length rows) (samples_in rows)

-- a decoder read y rows of these samples, and then a symbol at place x of the next row that is
-- refused
pub record RowsRefused (coding : RowCoding) (old new : Decoder) (width x y : ℕ)
    (samples : List ℕ) : Type 0 where
  pub between : Decoder
  pub above : RowsAbove
  pub cur : List ℕ
  pub rolls : Rolls width samples above.two above.one y
  pub read : RowsRead coding old between width samples y
  pub refused : LinedToRefusal coding between new above cur x

-- a sink took the first n rows of a cell
pub record TakesCell {S : Type 0} (takes : RowStep S) (c : Cell) (n : ℕ) (s t : S) : Type 0 where
  pub rows : List (List ℕ)
  pub taken : TakesRows takes s rows t
  pub count : length rows ≡ n
  pub wide : (y : ℕ) → y < n → length (slice_index_or rows y []) ≡ c.width
  pub shows : (y : ℕ) → y < n → Shows c (y + 2) (slice_index_or rows y []) c.width

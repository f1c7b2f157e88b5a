-- What is seen at a sample of a cell.
use Rattle.std.specs.Prelude.{ℕ, ◌≡◌, ◌+◌, ◌-◌, ◌*◌, ◌<◌, min, List, length, slice_index}
use Rattle.std.proofs.Common.{zero, suc}
use Rattle.ffv1_plane.specs.declared.prediction.Around.{Around}

-- the samples of one cell of a plane, by the column and the row from its corner
pub record Cell : Type 0 where
  pub width : ℕ
  pub at : ℕ → ℕ → ℕ

-- RFC 9043, 3.1 and 3.2; columns are counted from two to the left of the cell, rows from two above
-- it
unfoldable pub seen : Cell → ℕ → ℕ → ℕ
seen c zero y = 0
seen c (suc zero) zero = 0
seen c (suc zero) (suc y) = seen c 2 y
seen c (suc (suc x)) zero = 0
seen c (suc (suc x)) (suc zero) = 0
seen c (suc (suc x)) (suc (suc y)) = c.at (min x (c.width - 1)) y

-- the neighbours of a sample of the cell
abbrev pub around : Cell → ℕ → ℕ → Around
around c x y = record {
  l = seen c (suc x) (suc (suc y));
  t = seen c (suc (suc x)) (suc y);
  tl = seen c (suc x) (suc y);
  tr = seen c (suc (suc (suc x))) (suc y);
  ll = seen c x (suc (suc y));
  tt = seen c (suc (suc x)) y;
}

-- the first n samples of a row are those that are seen
pub record Shows (c : Cell) (y : ℕ) (row : List ℕ) (n : ℕ) : Type 0 where
  pub each : (x : ℕ) → x < n → slice_index row x ≡ seen c (suc (suc x)) y

-- two and one are the rows two and one above row y
pub record Above (c : Cell) (y : ℕ) (two one : List ℕ) : Type 0 where
  pub wide : length one ≡ c.width
  pub second : Shows c y two c.width
  pub first : Shows c (suc y) one c.width

-- the first n rows of a cell are these samples, row by row
pub record BeginsWith (c : Cell) (samples : List ℕ) (n : ℕ) : Type 0 where
  pub each : (x y : ℕ) → x < c.width → y < n → slice_index samples (y * c.width + x) ≡ c.at x y

-- two cells of one width have the same samples in the rows up to row y
pub record Agree (c d : Cell) (y : ℕ) : Type 0 where
  pub some : 0 < c.width
  pub wide : c.width ≡ d.width
  pub each : (x z : ℕ) → x < c.width → z < suc y → c.at x z ≡ d.at x z

-- the cell of some samples, row by row
abbrev pub cell_of : ℕ → List ℕ → Cell
cell_of width samples = record { width = width; at = λ x y. slice_index samples (y * width + x) }

-- the rolling rows are those above row n, whatever the cell that begins with these samples
pub record Rolls (width : ℕ) (samples two one : List ℕ) (n : ℕ) : Type 0 where
  pub long : length samples ≡ n * width
  pub two_long : length two ≡ width
  pub one_long : length one ≡ width
  pub above : (c : Cell) → c.width ≡ width → BeginsWith c samples n → Above c n two one

-- How pictures are divided into slices of one cell, plane by plane (RFC 9043, 4.6.1 to 4.6.4, 4.7.2
-- to 4.7.4, 4.8.1 to 4.8.3). Plane 0 is Y or red, 1 Cb or green, 2 Cr or blue, 3 transparency.
use Rattle.std.specs.Prelude.{◌≡◌, ℕ, ◌+◌, ◌-◌, ◌*◌, ◌/◌, ◌%◌, ◌^◌, ◌<◌, ◌≤◌, Bool, true, false}
use Rattle.std.proofs.Common.{zero, suc}
use Rattle.ffv1_record.specs.Configuration.{Configuration}
use Rattle.ffv1_record.specs.Accepted.{edge}
unfoldable pub use Rattle.ffv1_record.specs.Accepted.{reduced}

-- what the division of pictures depends on, and the bits of a sample
pub record Division : Type 0 where
  pub width : ℕ
  pub height : ℕ
  pub depth : ℕ
  pub columns : ℕ
  pub rows : ℕ
  pub log2_h : ℕ
  pub log2_v : ℕ
  pub planes : ℕ

-- how many planes there are, with or without chroma and transparency
abbrev pub planes_in : Bool → Bool → ℕ
planes_in chroma true = 4
planes_in true false = 3
planes_in false false = 1

abbrev pub division_of : Configuration → Division
division_of c = record {
  width = c.width;
  height = c.height;
  depth = c.depth;
  columns = c.columns;
  rows = c.rows;
  log2_h = c.log2_h;
  log2_v = c.log2_v;
  planes = planes_in c.chroma_planes c.extra_plane;
}

-- the logarithm of a plane's factor: planes 1 and 2 have the chroma's
abbrev pub factor_of : ℕ → ℕ → ℕ
factor_of log2 zero = 0
factor_of log2 (suc zero) = log2
factor_of log2 (suc (suc zero)) = log2
factor_of log2 (suc (suc (suc p))) = 0

-- a size that is divided into some parts, seen in a plane of some factor
pub record Side : Type 0 where
  pub size : ℕ
  pub count : ℕ
  pub log2 : ℕ

-- where the cell of part k begins in the plane, the part's edge over the factor, rounded down; and
-- how long it is, the part's own size over the factor, rounded up
abbrev pub first_of : Side → ℕ → ℕ
first_of s k = edge k s.size s.count / 2 ^ s.log2

abbrev pub coded_of : Side → ℕ → ℕ
coded_of s k = reduced s.log2 (edge (suc k) s.size s.count - edge k s.size s.count)

-- where that begins of part k which the part before does not code, and how long it is
abbrev pub begin_of : Side → ℕ → ℕ
begin_of s zero = 0
begin_of s (suc k) = first_of s k + coded_of s k

abbrev pub length_of : Side → ℕ → ℕ
length_of s k = begin_of s (suc k) - begin_of s k

-- how much of part k the part before codes, too
abbrev pub shared_of : Side → ℕ → ℕ
shared_of s k = begin_of s k - first_of s k

-- how long all of it is
abbrev pub whole_of : Side → ℕ
whole_of s = reduced s.log2 s.size

-- each part has a sample, and the last ends where all of it does
pub record IsDivided (s : Side) : Type 0 where
  pub some : 0 < s.count
  pub fits : s.count ≤ s.size
  pub covered : begin_of s s.count ≡ whole_of s

-- the width and the height of a plane
abbrev pub across : Division → ℕ → Side
across d p = record { size = d.width; count = d.columns; log2 = factor_of d.log2_h p }

abbrev pub down : Division → ℕ → Side
down d p = record { size = d.height; count = d.rows; log2 = factor_of d.log2_v p }

-- what holds of a division
pub record IsDivision (d : Division) : Type 0 where
  pub width : d.width ≤ 8192
  pub height : d.height ≤ 8192
  pub shallow : 8 ≤ d.depth
  pub deep : d.depth ≤ 16
  pub some_columns : 0 < d.columns
  pub columns : d.columns ≤ 32
  pub wide : d.columns ≤ d.width
  pub some_rows : 0 < d.rows
  pub rows : d.rows ≤ 32
  pub high : d.rows ≤ d.height
  pub log2_h : d.log2_h ≤ 2
  pub log2_v : d.log2_v ≤ 2
  pub covered_h : begin_of (record { size = d.width; count = d.columns; log2 = d.log2_h }) d.columns
      ≡ reduced d.log2_h d.width
  pub covered_v : begin_of (record { size = d.height; count = d.rows; log2 = d.log2_v }) d.rows
      ≡ reduced d.log2_v d.height
  pub planes : d.planes ≤ 4

-- how many slices there are, in raster order
abbrev pub slices_in : Division → ℕ
slices_in d = d.columns * d.rows

-- a position lies in what is coded of a part
pub record IsCoded (s : Side) (x k : ℕ) : Type 0 where
  pub inside : k < s.count
  pub least : first_of s k ≤ x
  pub most : x < first_of s k + coded_of s k

-- it lies in that of the part which the part before does not code
pub record Lies (s : Side) (x k : ℕ) : Type 0 where
  pub inside : k < s.count
  pub least : begin_of s k ≤ x
  pub most : x < begin_of s k + length_of s k

-- the cell of slice n in plane p has the sample in column x and line y
pub record CodedBy (d : Division) (p n x y : ℕ) : Type 0 where
  pub inside : n < slices_in d
  pub column : IsCoded (across d p) x (n % d.columns)
  pub row : IsCoded (down d p) y (n / d.columns)

-- the cell has it, and neither the cell to the left nor the one above has it
pub record Covers (d : Division) (p n x y : ℕ) : Type 0 where
  pub inside : n < slices_in d
  pub column : Lies (across d p) x (n % d.columns)
  pub row : Lies (down d p) y (n / d.columns)

-- so it is of one cell, and of no other
pub record CoversOnce (d : Division) (p x y : ℕ) : Type 0 where
  pub slice : ℕ
  pub covers : Covers d p slice x y
  pub only : (other : ℕ) → Covers d p other x y → other ≡ slice

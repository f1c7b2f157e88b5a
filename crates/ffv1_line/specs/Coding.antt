-- How the rows of a plane are coded.
use Rattle.std.specs.Prelude.{ℕ}
use Rattle.ffv1_range.specs.Table.{Table}
use Rattle.ffv1_plane.specs.Quantisation.{Set}

-- by a table of states, a quantisation table set, and samples of so many bits
pub record RowCoding : Type 0 where
  pub table : Table
  pub set : Set
  pub bits : ℕ

abbrev pub coding_by : Table → Set → ℕ → RowCoding
coding_by table set bits = record { table = table; set = set; bits = bits }

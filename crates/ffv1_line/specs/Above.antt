-- The rows above a row.
use Rattle.std.specs.Prelude.{ℕ, List}

-- the samples of the row two above, and of that one above
pub record RowsAbove : Type 0 where
  pub two : List ℕ
  pub one : List ℕ

abbrev pub rows_above : List ℕ → List ℕ → RowsAbove
rows_above two one = record { two = two; one = one }

-- The symbols of many numbers, each in a row of 32 of many states.
use Rattle.std.specs.Prelude.{ℕ, ◌+◌, ◌*◌, ◌^◌, ◌≤◌, ◌<◌, List, [], ◌++◌, length, slice_index}
use Rattle.std.specs.Prelude.{slice_index_or, ℤ, pos, unsigned_abs}
use Rattle.std.proofs.Common.{zero, suc}
use Rattle.ffv1_range.specs.Symbols.{Step, shifted, signed_steps}

-- the decisions of the first n numbers, each in its row
unfoldable pub rows_steps : List ℕ → List ℤ → ℕ → List Step
rows_steps rows numbers zero = []
rows_steps rows numbers (suc n) = rows_steps rows numbers n ++
    shifted (slice_index rows n * 32) (signed_steps (slice_index_or numbers n (pos 0)))

-- the rows are some of so many states
pub record AreRows (rows : List ℕ) (states : ℕ) : Type 0 where
  pub within : (k : ℕ) → k < length rows → slice_index rows k * 32 + 32 ≤ states

-- the numbers have symbols
pub record HaveSymbols (numbers : List ℤ) : Type 0 where
  pub size : (k : ℕ) → k < length numbers → unsigned_abs (slice_index_or numbers k (pos 0)) < 2 ^ 31

-- Rows of a mono plane that are compared with its samples.
use Rattle.std.specs.Prelude.{ℕ, ◌≡◌, ◌≤◌, ◌↔◌, Bool, true, List, length, take, drop}

-- a row was compared with the samples that come next, if all rows so far were the same; these are
-- left, and this tells whether all were the same
pub record Compared (rest : List ℕ) (same : Bool) (row left : List ℕ) (still : Bool) : Type 0 where
  pub goes_on : length row ≤ length rest → left ≡ drop (length row) rest
  pub tells : (still ≡ true) ↔ ((same ≡ true) × (row ≡ take (length row) rest))

-- How many decisions residuals take.
use Rattle.std.specs.Prelude.{ℕ, ◌+◌, ◌*◌, ◌^◌, ◌<◌, ◌≤◌, List, [], ◌∷◌, length, ℤ}
use Rattle.std.specs.Prelude.{unsigned_abs}
use Rattle.std.proofs.Common.{zero, suc}
use Rattle.ffv1_range.specs.Counts.{Counts, GoesOn, total}
use Rattle.ffv1_range.specs.Symbols.{exponent}

-- how many binary digits a number has: none for 0
abbrev pub binary_digits : ℕ → ℕ
binary_digits zero = 0
binary_digits (suc n) = exponent (suc n) + 1

-- the decisions of a residual of n binary digits: 2 n + 1 (RFC 9043, 3.8.1.2)
unfoldable pub decisions_of : ℤ → ℕ
decisions_of q = 2 * binary_digits (unsigned_abs q) + 1

-- those of a row, and of the rows of a cell
abbrev pub row_decisions : List ℤ → ℕ
row_decisions [] = 0
row_decisions (q ∷ qs) = decisions_of q + row_decisions qs

abbrev pub cell_decisions : List (List ℤ) → ℕ
cell_decisions [] = 0
cell_decisions (qs ∷ rows) = row_decisions qs + cell_decisions rows

-- each residual has a symbol
abbrev pub AreSmall : List ℤ → Type 0
AreSmall [] = Unit {0}
AreSmall (q ∷ qs) = (unsigned_abs q < 2 ^ 31) × AreSmall qs

abbrev pub AreSmallRows : List (List ℤ) → Type 0
AreSmallRows [] = Unit {0}
AreSmallRows (qs ∷ rows) = AreSmall qs × AreSmallRows rows

-- how many residuals there are
abbrev pub residuals_in : List (List ℤ) → ℕ
residuals_in [] = 0
residuals_in (qs ∷ rows) = length qs + residuals_in rows

-- the counters went on by at most so many decisions
pub record CountedAtMost (old new : Counts) (most : ℕ) : Type 0 where
  pub count : ℕ
  pub few : count ≤ most
  pub goes_on : GoesOn (total old) count (total new)

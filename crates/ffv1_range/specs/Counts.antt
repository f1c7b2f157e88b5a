-- How many decisions were 1 and how many 0, by counters of 64 bits that stay at their greatest
-- value.
use Rattle.std.specs.Prelude.{◌≡◌, ℕ, ◌+◌, ◌-◌, ◌^◌, Bool, true, false, min, List, [], ◌∷◌, length}
use Rattle.ffv1_range.specs.Weight.{one_if}
use Rattle.ffv1_range.specs.Symbols.{Step}

-- what the counters of a coder show
pub record Counts : Type 0 where
  pub ones : ℕ
  pub zeros : ℕ

-- what a counter of 64 bits shows of a number
abbrev pub saturated : ℕ → ℕ
saturated n = min n (2 ^ 64 - 1)

-- how many decisions they are
abbrev pub total : Counts → ℕ
total c = saturated (c.ones + c.zeros)

-- the counters before the first decision
abbrev pub uncounted : Counts
uncounted = record { ones = 0; zeros = 0 }

-- the counters after one more decision
abbrev pub counted : Counts → Bool → Counts
counted c true = record { ones = saturated (c.ones + 1); zeros = c.zeros }
counted c false = record { ones = c.ones; zeros = saturated (c.zeros + 1) }

-- how many of some steps are 1
abbrev pub ones_in : List Step → ℕ
ones_in [] = 0
ones_in (s ∷ ss) = one_if s.bit + ones_in ss

-- how many of some steps are 0
abbrev pub zeros_in : List Step → ℕ
zeros_in [] = 0
zeros_in (s ∷ ss) = (1 - one_if s.bit) + zeros_in ss

-- a counter that showed some number shows one greater by more
abbrev pub GoesOn : ℕ → ℕ → ℕ → Type 0
GoesOn old more new = (n : ℕ) → old ≡ saturated n → new ≡ saturated (n + more)

-- the counters went on by some steps
pub record Counted (old : Counts) (steps : List Step) (new : Counts) : Type 0 where
  pub of_ones : GoesOn old.ones (ones_in steps) new.ones
  pub of_zeros : GoesOn old.zeros (zeros_in steps) new.zeros
  pub of_all : GoesOn (total old) (length steps) (total new)

-- Decisions as numbers in a list.
use Rattle.std.specs.Prelude.{ℕ, ◌-◌, ◌/◌, ◌%◌, ◌==◌, nat_lt, if◌then◌else◌, List, [], ◌∷◌}
use Rattle.std.specs.Prelude.{ℤ, pos, negsuc}
use Rattle.ffv1_range.specs.Symbols.{Step}

-- the decision of a number: its slot times 512, and 256 more for a decision 1
abbrev pub step_of : ℕ → Step
step_of n = record { slot = n / 512; bit = ((n / 256) % 2) == 1 }

-- the decisions of a list
abbrev pub steps_of : List ℕ → List Step
steps_of [] = []
steps_of (n ∷ ns) = step_of n ∷ steps_of ns

-- a number of nine bits, modulo 512, as it lies from -256 to 255
abbrev pub of_nine_bits : ℕ → ℤ
of_nine_bits n = if nat_lt n 256 then pos n else negsuc (511 - n)

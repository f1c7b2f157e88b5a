-- A number by its size and its sign.
use Rattle.std.specs.Prelude.{ℕ, Bool, true, false, ℤ, pos, ◌-ℤ◌, Option, Some, None}
use Rattle.ffv1_range.specs.declared.decoder.fast_symbol.SignedNumber.{SignedNumber}

-- the number of a size, below 0 or not
abbrev pub signed_by : ℕ → Bool → ℤ
signed_by size false = pos size
signed_by size true = pos 0 -ℤ pos size

-- the number itself, if none stands for 0
abbrev pub number_of : Option SignedNumber → ℤ
number_of None = pos 0
number_of (Some s) = signed_by s.size s.negative

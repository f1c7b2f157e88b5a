-- A sample as a number beside its prediction.
use Rattle.std.specs.Prelude.{ℕ, ◌≡◌, ◌-◌, ◌^◌, ◌<◌, ◌≤ℤ◌, ◌<ℤ◌, Bool, true, false, ℤ, pos, ◌+ℤ◌}
use Rattle.std.specs.Prelude.{◌-ℤ◌, unsigned_abs}
use Rattle.std.specs.Int.{int_rem_euclid}

-- a number, its sign flipped or not
abbrev pub turned : Bool → ℤ → ℤ
turned false v = v
turned true v = pos 0 -ℤ v

-- the sample that a prediction and a residual make (RFC 9043, 3.5 and 3.8)
abbrev pub sample_of : ℕ → ℤ → Bool → ℤ → ℤ
sample_of bits prediction flip residual = int_rem_euclid (prediction +ℤ turned flip residual)
    (pos (2 ^ bits))

-- a difference into -2^(bits-1) .. 2^(bits-1) - 1 (RFC 9043, 3.8)
abbrev pub folded : ℕ → ℤ → ℤ
folded bits d = int_rem_euclid (d +ℤ pos (2 ^ (bits - 1))) (pos (2 ^ bits)) -ℤ pos (2 ^ (bits - 1))

-- the residual that an encoder takes: the difference is flipped first (RFC 9043, 3.5) and folded
-- then (3.8)
abbrev pub chosen_of : ℕ → ℤ → Bool → ℕ → ℤ
chosen_of bits prediction flip sample = folded bits (turned flip (pos sample -ℤ prediction))

-- a residual makes a sample, and has a symbol
pub record IsSuiting (bits : ℕ) (prediction : ℤ) (flip : Bool) (sample : ℕ) (residual : ℤ) : Type 0
  where
    pub size : unsigned_abs residual < 2 ^ 31
    pub makes : pos sample ≡ sample_of bits prediction flip residual

-- a number from -2^(bits-1) to 2^(bits-1) - 1
pub record IsFolded (bits : ℕ) (number : ℤ) : Type 0 where
  pub least : (pos 0 -ℤ pos (2 ^ (bits - 1))) ≤ℤ number
  pub most : number <ℤ pos (2 ^ (bits - 1))

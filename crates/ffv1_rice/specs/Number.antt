-- A number by a parameter: how many of its low bits are written as they are (RFC 9043, 3.8.2.1).
use Rattle.std.specs.Prelude.{ℕ, ◌≡◌, ◌+◌, ◌-◌, ◌/◌, ◌^◌, ◌<◌, ◌≤◌, ◌⊎◌, nat_lt, if◌then◌else◌}
use Rattle.std.specs.Prelude.{Bool, true, false, List, ◌∷◌, ◌++◌, length, replicate}
use Rattle.ffv1_rice.specs.Bits.{binary}

-- so many zeros begin a number that is written whole (RFC 9043, 3.8.2.1.1)
abbrev pub limit : ℕ
limit = 12

-- as many zeros as a number has 2^k, a 1, and the low k bits
abbrev pub short_code : ℕ → ℕ → List Bool
short_code k number = replicate (number / 2 ^ k) false ++ (true ∷ binary k number)

-- the number whole, less 11
abbrev pub whole_code : ℕ → ℕ → List Bool
whole_code bits number = replicate limit false ++ binary bits (number - (limit - 1))

-- the bits of a number below 2^bits
abbrev pub number_bits : ℕ → ℕ → ℕ → List Bool
number_bits bits k number =
    if nat_lt (number / 2 ^ k) limit then short_code k number else whole_code bits number

-- bits that a reader takes for a number in the first way: it may be 2^bits and more
pub record IsShort (k number : ℕ) (code : List Bool) : Type 0 where
  pub few : number / 2 ^ k < limit
  pub is : code ≡ short_code k number

-- and in the second one: it may have 2^k fewer than 12 times
pub record IsWhole (bits number : ℕ) (code : List Bool) : Type 0 where
  pub least : limit - 1 ≤ number
  pub most : number < 2 ^ bits + (limit - 1)
  pub is : code ≡ whole_code bits number

abbrev pub IsCode : ℕ → ℕ → ℕ → List Bool → Type 0
IsCode bits k number code = IsShort k number code ⊎ IsWhole bits number code

-- the bits end within a number
pub record Ends (bits k : ℕ) (text : List Bool) : Type 0 where
  pub number : ℕ
  pub more : List Bool
  pub some : 0 < length more
  pub is : IsCode bits k number (text ++ more)

-- the bits begin with a number that has no such bits: it is 2^bits or more, or is written whole and
-- has 2^k fewer than 12 times
pub record IsBad (bits k : ℕ) (text : List Bool) : Type 0 where
  pub number : ℕ
  pub code : List Bool
  pub rest : List Bool
  pub begins : text ≡ code ++ rest
  pub is : IsCode bits k number code
  pub bad : (2 ^ bits ≤ number) ⊎ ((number / 2 ^ k < limit) × IsWhole bits number code)

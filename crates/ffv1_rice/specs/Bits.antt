-- Bits of bytes, the high one of each byte first (RFC 9043, 3.8.2).
use Rattle.std.specs.Prelude.{ℕ, ◌≡◌, ◌<◌, ◌+◌, ◌-◌, ◌*◌, ◌/◌, ◌%◌, ◌^◌, ◌==◌, Bool, true, false}
use Rattle.std.specs.Prelude.{List, [], ◌∷◌, length, replicate, slice_index}
use Rattle.std.proofs.Common.{zero, suc}

-- a bit as a number
abbrev pub digit : Bool → ℕ
digit false = 0
digit true = 1

-- a bit of bytes, counted from the high one of the first byte
abbrev pub bit_of : List ℕ → ℕ → Bool
bit_of bytes place = slice_index bytes (place / 8) / 2 ^ (7 - place % 8) % 2 == 1

-- so many bits of bytes, from a place on
unfoldable pub bits_from : List ℕ → ℕ → ℕ → List Bool
bits_from bytes place zero = []
bits_from bytes place (suc count) = bit_of bytes place ∷ bits_from bytes (suc place) count

-- all bits of bytes
abbrev pub bits_of : List ℕ → List Bool
bits_of bytes = bits_from bytes 0 (8 * length bytes)

-- the low bits of a number, so many, the high one first
unfoldable pub binary : ℕ → ℕ → List Bool
binary zero number = []
binary (suc count) number = (number / 2 ^ count % 2 == 1) ∷ binary count number

-- the number of the first bits, so many, the high one first; after the last bit all are 0
unfoldable pub number_of : ℕ → List Bool → ℕ
number_of zero bits = 0
number_of (suc count) [] = 0
number_of (suc count) (bit ∷ bits) = digit bit * 2 ^ count + number_of count bits

-- what stands after the last bit that codes something: zeros to the end of its byte
pub record IsPadding (bits : List Bool) : Type 0 where
  pub few : length bits < 8
  pub zeros : bits ≡ replicate (length bits) false

-- The CRC-32 of an EBML element (RFC 8794, 11.3.1), which is the one of ISO 3309 and ITU-T V.42. A
-- polynomial over bits is the number that has its coefficients as binary digits, the highest power
-- last; the bytes of an element are one, low end first.
use Rattle.std.specs.Prelude.{ℕ, ◌+◌, ◌*◌, ◌/◌, ◌%◌, if◌then◌else◌, nat_eq, List, [], ◌∷◌, fold}
use Rattle.std.specs.Prelude.{bit_xor}
use Rattle.std.proofs.Common.{zero, suc}

-- the generator of degree 32, without that power, its highest power last: 0xEDB88320
abbrev pub generator : ℕ
generator = 3988292384

-- the first coefficient is struck out, by the generator if it is 1
abbrev pub bit_step : ℕ → ℕ
bit_step n = if nat_eq (n % 2) 1 then bit_xor (n / 2) generator else n / 2

-- so many of them
unfoldable pub bit_steps : ℕ → ℕ → ℕ
bit_steps zero n = n
bit_steps (suc count) n = bit_steps count (bit_step n)

-- the sum goes on by a byte
abbrev pub byte_step : ℕ → ℕ → ℕ
byte_step sum byte = bit_steps 8 (bit_xor sum byte)

-- it begins with 32 coefficients 1, and all are turned round at its end
abbrev pub turned : ℕ
turned = 4294967295

abbrev pub crc_of : List ℕ → ℕ
crc_of bytes = bit_xor (fold byte_step turned bytes) turned

-- the number of bytes, low end first
abbrev pub number_of : List ℕ → ℕ
number_of [] = 0
number_of (b ∷ bs) = b + 256 * number_of bs

-- a byte, and as many bytes 0 as `behind` says, struck out: an entry of the tables of eight
abbrev pub entry_of : ℕ → ℕ → ℕ
entry_of behind byte = bit_steps (8 * behind + 8) byte

-- The remainder that guards a configuration record (RFC 9043, 4.3.2) and a slice (4.9.3). A
-- polynomial over bits is the number that has its coefficients as binary digits; the bytes of a
-- record or slice are one, big end first.
use Rattle.std.specs.Prelude.{ℕ, ◌+◌, ◌-◌, ◌*◌, ◌^◌, if◌then◌else◌, nat_eq, List, length, bit_xor}
use Rattle.std.specs.Int.{bit_at}
use Rattle.std.proofs.Common.{zero, suc}
use Rattle.ffv1_range.specs.Codes.{value}

-- the generator of the standard, of degree 32: 0x104C11DB7
abbrev pub generator : ℕ
generator = 4374732215

-- a polynomial whose coefficient of degree 32 + place is struck out by the generator, if it is 1
abbrev pub struck : ℕ → ℕ → ℕ
struck place n = if nat_eq (bit_at n (32 + place)) 1 then bit_xor n (generator * 2 ^ place) else n

-- long division of a polynomial below degree 32 + count: each coefficient of degree 32 and more is
-- struck out, from the highest down; what is left is the remainder
unfoldable pub divided : ℕ → ℕ → ℕ
divided zero n = n
divided (suc place) n = divided place (struck place n)

-- the remainder of bytes
unfoldable pub remainder_of : List ℕ → ℕ
remainder_of bytes = divided (8 * length bytes - 32) (value bytes (length bytes))

-- the remainder of bytes followed by 32 bits 0
unfoldable pub parity_of : List ℕ → ℕ
parity_of bytes = divided (8 * length bytes) (value bytes (length bytes) * 2 ^ 32)

-- the remainder of a byte, as many bytes 0 as `behind` says, and 32 bits 0: an entry of the tables
-- of slicing by sixteen
abbrev pub byte_remainder : ℕ → ℕ → ℕ
byte_remainder behind byte = divided (8 * behind + 8) (byte * 2 ^ (8 * behind + 32))

-- the remainder of some bytes, so many bits more and 32 bits 0, by the remainder of the bytes and
-- 32 bits 0
abbrev pub remainder_behind : ℕ → ℕ → ℕ → ℕ
remainder_behind bits remainder more =
    bit_xor (divided bits (remainder * 2 ^ bits)) (divided bits (more * 2 ^ 32))

-- Variable-size integers (VINT, RFC 8794, 4), of which IDs and sizes are made: the first byte says
-- how many bytes there are, by the place of its highest bit 1, and what comes after that bit is the
-- data.
use Rattle.std.specs.Prelude.{◌≡◌, ◌≤◌, ℕ, ◌+◌, ◌*◌, ◌-◌, ◌%◌, ◌^◌, ◌==◌, if◌then◌else◌, nat_le}
use Rattle.std.specs.Prelude.{nat_lt}
use Rattle.std.specs.Prelude.{List, ◌++◌, length, slice_index, fold, Option, Some, None}
use Rattle.ffv1_reads.specs.Reads.{Reading, given, refused, taken, ◌>>=◌}
use Rattle.ffv1_reads.specs.declared.fault.FileFault.TheVariants as fault

-- how many bytes there are, by the first of them; 9 if it begins none
unfoldable pub length_of : ℕ → ℕ
length_of first =
    if nat_le 128 first then 1
    else if nat_le 64 first then 2
    else if nat_le 32 first then 3
    else if nat_le 16 first then 4
    else if nat_le 8 first then 5
    else if nat_le 4 first then 6
    else if nat_le 2 first then 7
    else if nat_le 1 first then 8
    else 9

-- bytes of which the first says how many there are
abbrev pub IsVint : List ℕ → Type 0
IsVint bytes = (1 ≤ length bytes) × (length bytes ≡ length_of (slice_index bytes 0))

-- all bytes, of which the first was read: at most so many, in a parent that has so many bytes left
abbrev pub vint_rest : ℕ → ℕ → List ℕ → Reading (List ℕ)
vint_rest most left first =
    if nat_lt most (length_of (slice_index first 0)) then refused fault.BadElement
    else if nat_lt left (length_of (slice_index first 0)) then refused fault.Truncated
    else (taken (length_of (slice_index first 0) - 1) >>= λ rest. given (first ++ rest))

unfoldable pub vint_read : ℕ → ℕ → Reading (List ℕ)
vint_read most left =
    if left == 0 then refused fault.Truncated else (taken 1 >>= vint_rest most left)

-- the number of bytes, big end first
abbrev pub number_of : List ℕ → ℕ
number_of bytes = fold (λ number byte. 256 * number + byte) 0 bytes

-- the data of a variable-size integer (VINT_DATA, 4.3): 7 bits a byte
abbrev pub data_of : List ℕ → ℕ
data_of bytes = number_of bytes % 2 ^ (7 * length bytes)

-- a size (6): the data; unknown if all bits of these are 1 (6.2)
unfoldable pub size_of : List ℕ → Option ℕ
size_of bytes = if data_of bytes + 1 == 2 ^ (7 * length bytes) then None else Some (data_of bytes)

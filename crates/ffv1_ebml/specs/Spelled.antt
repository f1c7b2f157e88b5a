-- Elements as they are spelled.
use Rattle.std.specs.Prelude.{◌≡◌, ◌⊎◌, ℕ, ◌+◌, ◌-◌, ◌^◌, ◌≤◌, ◌<◌, if◌then◌else◌, nat_lt, List, []}
use Rattle.std.specs.Prelude.{◌∷◌}
use Rattle.std.specs.Prelude.{◌++◌, length, Option}
use Rattle.ffv1_ebml.specs.Vints.{IsVint, size_of}
use Rattle.std.specs.Int.{bytes_high_first}

-- an ID of one to four bytes, with the bits that say how many (RFC 8794, 5)
abbrev pub IsIdent : ℕ → Type 0
IsIdent ident =
    ((128 ≤ ident) × (ident < 256))
    ⊎ (((16384 ≤ ident) × (ident < 32768))
    ⊎ (((2097152 ≤ ident) × (ident < 4194304)) ⊎ ((268435456 ≤ ident) × (ident < 536870912))))

unfoldable pub ident_length : ℕ → ℕ
ident_length ident =
    if nat_lt ident 256 then 1
    else if nat_lt ident 65536 then 2
    else if nat_lt ident 16777216 then 3
    else 4

abbrev pub ident_bytes : ℕ → List ℕ
ident_bytes ident = bytes_high_first (ident_length ident) ident

-- a size in one byte, and in eight
abbrev pub short : ℕ → List ℕ
short size = (128 + size) ∷ []

unfoldable pub long : ℕ → List ℕ
long size = bytes_high_first 8 (2 ^ 56 + size)

-- the unknown size, in eight bytes
abbrev pub unknown : List ℕ
unknown = long (2 ^ 56 - 1)

-- these bytes are a size that says this one; None is unknown
abbrev pub SaysSize : List ℕ → Option ℕ → Type 0
SaysSize bytes size = IsVint bytes × (length bytes ≤ 8) × (size_of bytes ≡ size)

-- an element: its ID, its size and its content
abbrev pub spelled : ℕ → List ℕ → List ℕ → List ℕ
spelled ident size content = (ident_bytes ident ++ size) ++ content

-- one that holds a number of so many bytes
abbrev pub number_element : ℕ → ℕ → ℕ → List ℕ
number_element ident width number =
    spelled ident (short width) (bytes_high_first width number)

-- Strings of a file, without the control characters that JSON does not escape.
use Rattle.std.specs.Prelude.{ℕ, ◌==◌, ◌&&◌, ◌||◌, Bool, if◌then◌else◌, nat_le, nat_lt, List, []}
use Rattle.std.specs.Prelude.{◌∷◌}

-- a byte that no UTF-8 has stands for DEL, and for the second byte of a control character from
-- U+0080 to U+009F, of which C2 is the first one
abbrev pub masked_byte : Bool → ℕ → ℕ
masked_byte after byte =
    if (byte == 0x7F) || (after && (nat_le 0x80 byte && nat_lt byte 0xA0)) then 0xFF else byte

-- all bytes, after C2 or not
unfoldable pub masked : Bool → List ℕ → List ℕ
masked after [] = []
masked after (byte ∷ bytes) = masked_byte after byte ∷ masked (byte == 0xC2) bytes

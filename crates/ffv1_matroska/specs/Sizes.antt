-- Sizes of elements (RFC 8794, 6), by how many bytes they have and what these say.
use Rattle.std.specs.Prelude.{ℕ, ◌+◌, ◌*◌, ◌^◌, ◌==◌, ◌&&◌, if◌then◌else◌, nat_le, Option, Some}
use Rattle.std.specs.Prelude.{None}

-- a size of so many bytes with this data, unknown if all its bits are 1 (6.2)
unfoldable pub size_with : ℕ → ℕ → Option ℕ
size_with n value = if nat_le n 8 && (value + 1 == 2 ^ (7 * n)) then None else Some value

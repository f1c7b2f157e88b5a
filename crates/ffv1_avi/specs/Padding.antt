-- Sizes and bytes of chunks, with the padding that makes each an even number of bytes.
use Rattle.std.specs.Prelude.{ℕ, ◌+◌, ◌%◌, List}
use Rattle.ffv1_reads.specs.Reads.{Reading, Want, given, passed, wanted, ◌>>=◌}

-- a size with its padding
abbrev pub padded : ℕ → ℕ
padded size = size + size % 2

-- so many bytes, and after them their padding
abbrev pub content : Want → ℕ → Reading (List ℕ)
content w size = wanted w size >>= λ bytes. (passed (size % 2) >>= λ _. given bytes)

-- What stands after the coded bytes of a slice (RFC 9043, 4.9): slice_size, and if ec is 1
-- error_status and slice_crc_parity.
use Rattle.std.specs.Prelude.{ℕ, ◌+◌, ◌-◌, ◌*◌, Bool, true, false, List, [], ◌∷◌}
use Rattle.std.specs.Prelude.{◌++◌, length, take, drop, slice_index}
use Rattle.std.proofs.Common.{suc}
use Rattle.ffv1_range.specs.Codes.{digits}
use Rattle.ffv1_record.specs.Parity.{parity_of}

-- how many bytes it has
abbrev pub foot_length : Bool → ℕ
foot_length false = 3
foot_length true = 8

-- the slice without its parity: the coded bytes, their number, and the status 0
abbrev pub unsealed : List ℕ → List ℕ
unsealed bytes = (bytes ++ digits 3 (length bytes)) ++ (0 ∷ [])

-- the footer of coded bytes
abbrev pub footer_of : Bool → List ℕ → List ℕ
footer_of false bytes = digits 3 (length bytes)
footer_of true bytes =
    (digits 3 (length bytes) ++ (0 ∷ [])) ++ digits 4 (parity_of (unsealed bytes))

-- the slice_size of a slice that ends at end, big end first
abbrev pub size_before : List ℕ → ℕ → ℕ → ℕ
size_before payload foot end =
    65536 * slice_index payload (end - foot)
    + 256 * slice_index payload (end - foot + 1)
    + slice_index payload (end - foot + 2)

-- the bytes of slice s, its footer among them
abbrev pub slice_of : List ℕ → (ℕ → ℕ) → ℕ → List ℕ
slice_of payload spans s = take (spans (suc s) - spans s) (drop (spans s) payload)

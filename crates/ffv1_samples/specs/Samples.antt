-- Samples of a depth as bytes: at a depth of 8 a sample is one byte, and at any other depth two
-- bytes, the low byte first.
use Rattle.std.specs.Prelude.{ℕ, ◌+◌, ◌*◌, ◌/◌, ◌%◌, ◌^◌, ◌==◌, ◌&&◌, ◌<◌, Bool, true}
use Rattle.std.specs.Prelude.{if◌then◌else◌, nat_lt, List, [], ◌∷◌, flat_map, slice_index}

-- the bytes of one sample
abbrev pub sample_bytes : ℕ → ℕ
sample_bytes depth = if depth == 8 then 1 else 2

-- the numbers of pairs of bytes, the low byte first; a last byte without another one is left out
abbrev pub numbers_of_pairs : List ℕ → List ℕ
numbers_of_pairs [] = []
numbers_of_pairs (low ∷ []) = []
numbers_of_pairs (low ∷ high ∷ bytes) = (low + 256 * high) ∷ numbers_of_pairs bytes

-- numbers as pairs of bytes, the low byte first
abbrev pub pairs_of_numbers : List ℕ → List ℕ
pairs_of_numbers numbers = flat_map (λ n. n % 256 ∷ n / 256 ∷ []) numbers

-- the samples of bytes
abbrev pub samples_of : ℕ → List ℕ → List ℕ
samples_of depth bytes = if depth == 8 then bytes else numbers_of_pairs bytes

-- the bytes of samples
abbrev pub bytes_of : ℕ → List ℕ → List ℕ
bytes_of depth samples = if depth == 8 then samples else pairs_of_numbers samples

-- all numbers lie below this one
abbrev pub all_below : ℕ → List ℕ → Bool
all_below most [] = true
all_below most (n ∷ ns) = nat_lt n most && all_below most ns

-- each sample of these bytes lies below 2 ^ depth; a byte lies below 2 ^ 8
abbrev pub are_in_depth : ℕ → List ℕ → Bool
are_in_depth depth bytes =
    if depth == 8 then true else all_below (2 ^ depth) (numbers_of_pairs bytes)

-- each number of a list lies below this one
abbrev pub AreBelow : ℕ → List ℕ → Type 0
AreBelow most numbers = (i : ℕ) → slice_index numbers i < most

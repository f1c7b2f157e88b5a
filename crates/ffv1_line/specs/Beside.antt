-- The neighbours of a sample of a row, from the row and the rows above it (RFC 9043, 3.1 and 3.2).
use Rattle.std.specs.Prelude.{ℕ, ◌+◌, ◌-◌, min, List, [], ◌++◌, length, slice_index, ℤ}
use Rattle.std.proofs.Common.{zero, suc}
use Rattle.ffv1_range.specs.Symbols.{Step}
use Rattle.ffv1_plane.specs.declared.prediction.Around.{Around}
use Rattle.ffv1_plane.specs.Prediction.{predicted_in}
use Rattle.ffv1_plane.specs.Quantisation.{Set}
use Rattle.ffv1_plane.specs.Context.{flip_of}
use Rattle.ffv1_plane.specs.Residual.{chosen_of}
use Rattle.ffv1_line.specs.Row.{sample_steps}

-- the sample before another one of a row: before the first stands the one above it
abbrev pub before : List ℕ → List ℕ → ℕ → ℕ
before above row zero = slice_index above 0
before above row (suc x) = slice_index row x

-- the one before that: 0 before the border
abbrev pub two_before : List ℕ → List ℕ → ℕ → ℕ
two_before above row zero = 0
two_before above row (suc x) = before above row x

-- the neighbours of place x of a row below two and one
abbrev pub beside : List ℕ → List ℕ → List ℕ → ℕ → Around
beside two one cur x = record {
  l = before one cur x;
  t = slice_index one x;
  tl = before two one x;
  tr = slice_index one (min (x + 1) (length one - 1));
  ll = two_before one cur x;
  tt = slice_index two x;
}

-- the residual that an encoder takes there
abbrev pub chosen_beside : Set → ℕ → List ℕ → List ℕ → List ℕ → ℕ → ℤ
chosen_beside set bits two one cur x = chosen_of bits (predicted_in bits (beside two one cur x))
    (flip_of set (beside two one cur x)) (slice_index cur x)

-- its decisions
abbrev pub place_steps : Set → ℕ → List ℕ → List ℕ → List ℕ → ℕ → List Step
place_steps set bits two one cur x = sample_steps set (beside two one cur x)
    (chosen_beside set bits two one cur x)

-- those of n places from one on
unfoldable pub places_steps : Set → ℕ → List ℕ → List ℕ → List ℕ → ℕ → ℕ → List Step
places_steps set bits two one cur from zero = []
places_steps set bits two one cur from (suc n) = places_steps set bits two one cur from n ++
    place_steps set bits two one cur (from + n)

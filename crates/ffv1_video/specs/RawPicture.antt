-- The bytes of a picture as FFmpeg has them in raw video.
use Rattle.std.specs.Prelude.{ℕ, ◌==◌, Bool, true, false, if◌then◌else◌, List, []}
use Rattle.std.specs.Prelude.{◌∷◌, ◌++◌, length, map, take, drop, flat_map, slice_index}
use Rattle.std.specs.List.{concat, range_with_len}
use Rattle.ffv1_frame.specs.Picture.{Planes}
use Rattle.std.specs.Prelude.{◌≡◌, ◌⊎◌, ◌<◌}
use Rattle.std.proofs.Common.{get_or}

-- the samples at one position, one of each plane
abbrev pub pixel : Planes → ℕ → List ℕ
pixel planes at = map (λ plane. slice_index plane at) planes

-- the samples of each place
abbrev pub pixels : Planes → List ℕ
pixels [] = []
pixels (first ∷ more) = flat_map (pixel (first ∷ more)) (range_with_len 0 (length first))

-- the second plane, the third and the first, and then the others: green, blue, red, transparency
abbrev pub green_first : Planes → Planes
green_first planes = take 2 (drop 1 planes) ++ (take 1 planes ++ drop 3 planes)

-- the bytes of a picture: YCbCr plane after plane, as it is; RGB of 8 bits a sample at a time
-- (rgb24, rgba), and of more bits plane after plane, green first (gbrp, gbrap)
abbrev pub raw_bytes : Bool → ℕ → Planes → List ℕ
raw_bytes false depth planes = concat planes
raw_bytes true depth planes = if depth == 8 then pixels planes else concat (green_first planes)

-- three or four planes of one size
pub record AreEven (planes : Planes) : Type 0 where
  pub count : (length planes ≡ 3) ⊎ (length planes ≡ 4)
  pub sizes : (p q : ℕ) → p < length planes → q < length planes →
      length (get_or planes p []) ≡ length (get_or planes q [])

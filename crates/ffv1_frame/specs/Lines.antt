-- The lines of a picture in the order in which they are handed over: a row of slices after the
-- other, and in it plane after plane, for RCT line by line red, green, blue and transparency.
use Rattle.std.specs.Prelude.{ℕ, ◌+◌, List, map}
use Rattle.std.specs.List.{flat_map, range_with_len}
use Rattle.ffv1_wire.specs.Runs.{Line}
use Rattle.ffv1_record.specs.Configuration.{Configuration}
use Rattle.ffv1_frame.specs.Picture.{Planes, plane, line_bytes}
use Rattle.ffv1_frame.specs.Order.{Series, series_of, new_planes}
use Rattle.ffv1_frame.specs.Decoding.{row_in, top_of}

-- line y of plane p, in bytes
abbrev pub line_in : Configuration → Planes → ℕ → ℕ → Line
line_in c planes y p = record {
  plane = p;
  row = y;
  samples = row_in (line_bytes c p) y (plane planes p);
}

-- those of a series in row r of the slices
abbrev pub lines_of_series : Configuration → Planes → ℕ → Series → List Line
lines_of_series c planes r s =
    flat_map (λ y. map (λ p. line_in c planes (top_of c p r + y) p) (new_planes c r s.planes y))
    (range_with_len 0 s.height)

-- all of them
abbrev pub lines_of : Configuration → Planes → List Line
lines_of c planes =
    flat_map (λ r. flat_map (lines_of_series c planes r) (series_of c r))
    (range_with_len 0 c.rows)

-- where the lines of a picture stand, in the same order: those of a series, and all of them
abbrev pub places_of_series : Configuration → ℕ → Series → List (ℕ × ℕ)
places_of_series c r s =
    flat_map (λ y. map (λ p. (p, top_of c p r + y)) (new_planes c r s.planes y))
    (range_with_len 0 s.height)

abbrev pub places_of : Configuration → List (ℕ × ℕ)
places_of c =
    flat_map (λ r. flat_map (places_of_series c r) (series_of c r)) (range_with_len 0 c.rows)

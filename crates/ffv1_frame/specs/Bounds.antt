-- How many decisions decoding makes at most.
use Rattle.std.specs.Prelude.{ℕ, ◌+◌, ◌-◌, ◌*◌, max, if◌then◌else◌, List, length}
use Rattle.std.specs.List.{sum_by, range_with_len}
use Rattle.ffv1_record.specs.Configuration.{Configuration}
use Rattle.ffv1_slice.specs.Footer.{foot_length}
use Rattle.ffv1_slice.specs.Grid.{division_of, across, down, coded_of}
use Rattle.ffv1_frame.specs.Picture.{plane_count}

-- how many samples the slices of a picture code; one that several slices code counts once for each
abbrev pub coded_samples : Configuration → ℕ
coded_samples c =
    sum_by (λ p. sum_by (coded_of (across (division_of c) p)) (range_with_len 0 c.columns)
    * sum_by (coded_of (down (division_of c) p)) (range_with_len 0 c.rows))
    (range_with_len 0 (plane_count c))

-- at most so many: 63 for each sample that a slice codes, and for each slice 559, its key and nine
-- symbols of a head of 62 each, with transparency ten
abbrev pub most_decisions : Configuration → ℕ
most_decisions c =
    63 * coded_samples c
    + (559 + (if c.extra_plane then 62 else 0)) * (c.columns * c.rows)

-- how many coded bytes the slices of a payload have: all but their footers
abbrev pub coded_bytes : Configuration → List ℕ → ℕ
coded_bytes c payload = length payload - c.columns * c.rows * foot_length c.ec

-- in Wide, if so many decisions in a row renormalise: at most so many for each coded byte and so
-- many a slice, or 169 if that is more, its key and a head of which a number is refused; and 63 for
-- each sample of one line of its cell
abbrev pub most_by_bytes : ℕ → Configuration → List ℕ → ℕ
most_by_bytes each c payload =
    each * coded_bytes c payload
    + max each 169 * (c.columns * c.rows)
    + 63 * (c.width * c.rows)

-- the same by the standard's table
abbrev pub most_by_standard : Configuration → List ℕ → ℕ
most_by_standard c payload =
    197 * (coded_bytes c payload + c.columns * c.rows) + 63 * (c.width * c.rows)

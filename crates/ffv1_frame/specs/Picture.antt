-- Pictures of a configuration, their coded samples, and the cells of their slices (RFC 9043, 3.2,
-- 3.7, 4.7 and 4.8). Plane 0 is Y or red, 1 Cb or green, 2 Cr or blue, 3 transparency; of the coded
-- planes of RCT 0 is Y, 1 Cb, 2 Cr.
use Rattle.std.specs.Prelude.{◌≡◌, ◌≢◌, ℕ, ◌+◌, ◌*◌, ◌/◌, ◌%◌, ◌^◌, ◌<◌, ◌&&◌, Bool, not, nat_lt}
use Rattle.std.specs.Prelude.{List, length}
use Rattle.std.specs.Prelude.{slice_index, slice_get, if◌then◌else◌, unsigned_abs, Option, Some}
use Rattle.std.specs.Prelude.{None}
use Rattle.std.specs.Prelude.{map, []}
use Rattle.std.proofs.Common.{zero, suc}
use Rattle.std.specs.declared.vec.Vec.{Vec}
use Rattle.ffv1_line.specs.Cell.{Cell}
use Rattle.ffv1_samples.specs.Samples.{AreBelow, sample_bytes, samples_of}
use Rattle.ffv1_rct.specs.Transform.{luma_of, chroma_in}
use Rattle.ffv1_record.specs.Configuration.{Configuration, is_rct}
use Rattle.ffv1_slice.specs.Grid.{Division, division_of, planes_in, across, down, first_of}
use Rattle.ffv1_slice.specs.Grid.{coded_of, whole_of}

-- the bytes of the samples of each plane, row after row
abbrev pub Planes : Type 0
Planes = List (List ℕ)

-- the bytes of some vectors
abbrev pub planes_of : {A : Type 0} → List (Vec ℕ A) → Planes
planes_of planes = map (λ v. v.items) planes

-- one plane, and none if there is none of that number
abbrev pub samples_in : Option (List ℕ) → List ℕ
samples_in None = []
samples_in (Some samples) = samples

abbrev pub plane : Planes → ℕ → List ℕ
plane planes p = samples_in (slice_get planes p)

-- how many planes there are, and their sizes
abbrev pub plane_count : Configuration → ℕ
plane_count c = planes_in c.chroma_planes c.extra_plane

abbrev pub plane_width : Configuration → ℕ → ℕ
plane_width c p = whole_of (across (division_of c) p)

abbrev pub plane_height : Configuration → ℕ → ℕ
plane_height c p = whole_of (down (division_of c) p)

-- how many bytes a line of a plane has, and the widest line of a picture
abbrev pub line_bytes : Configuration → ℕ → ℕ
line_bytes c p = sample_bytes c.depth * plane_width c p

abbrev pub width_bytes : Configuration → ℕ
width_bytes c = sample_bytes c.depth * c.width

-- planes of the number and the sizes of a division
pub record AreOf (d : Division) (planes : Planes) : Type 0 where
  pub count : length planes ≡ d.planes
  pub sizes : (p : ℕ) → p < d.planes → length (plane planes p)
      ≡ sample_bytes d.depth * (whole_of (across d p) * whole_of (down d p))

-- each sample of so many bits is below 2 ^ depth
abbrev pub AreInDepth : ℕ → Planes → Type 0
AreInDepth depth planes = (p : ℕ) → AreBelow (2 ^ depth) (samples_of depth (plane planes p))

-- the same, and above 8 bits no sample has more bits than the depth
pub record FitsIn (d : Division) (planes : Planes) : Type 0 where
  pub are : AreOf d planes
  pub small : d.depth ≢ 8 → AreInDepth d.depth planes

-- those of a configuration
abbrev pub Fits : Configuration → Planes → Type 0
Fits c planes = FitsIn (division_of c) planes

-- all are bytes
abbrev pub AreSamples : Planes → Type 0
AreSamples planes = (p i : ℕ) → slice_index (plane planes p) i < 256

-- the planes of a configuration, in bytes
pub record IsPicture (c : Configuration) (planes : Planes) : Type 0 where
  pub fits : Fits c planes
  pub bytes : AreSamples planes

-- the samples of a plane
abbrev pub plane_samples : Configuration → Planes → ℕ → List ℕ
plane_samples c planes p = samples_of c.depth (plane planes p)

-- the sample of a plane in column x and line y
abbrev pub sample_at : Configuration → Planes → ℕ → ℕ → ℕ → ℕ
sample_at c planes p x y = slice_index (plane_samples c planes p) (y * plane_width c p + x)

-- at 9 to 15 bits without transparency green and blue change places before they are coded
abbrev pub swaps : Configuration → Bool
swaps c = nat_lt 8 c.depth && (nat_lt c.depth 16 && not c.extra_plane)

-- the planes that are taken for green and for blue
abbrev pub green_of : Configuration → ℕ
green_of c = if swaps c then 2 else 1

abbrev pub blue_of : Configuration → ℕ
blue_of c = if swaps c then 1 else 2

-- RFC 9043, 3.7.2: the coded sample of RCT; transparency is coded as it is
abbrev pub transformed_at : Configuration → Planes → ℕ → ℕ → ℕ → ℕ
transformed_at c planes zero x y =
    unsigned_abs (luma_of (sample_at c planes 0 x y) (sample_at c planes (green_of c) x y)
    (sample_at c planes (blue_of c) x y))
transformed_at c planes (suc zero) x y =
    unsigned_abs (chroma_in c.depth (sample_at c planes (blue_of c) x y)
    (sample_at c planes (green_of c) x y))
transformed_at c planes (suc (suc zero)) x y =
    unsigned_abs (chroma_in c.depth (sample_at c planes 0 x y)
    (sample_at c planes (green_of c) x y))
transformed_at c planes (suc (suc (suc p))) x y = sample_at c planes (suc (suc (suc p))) x y

-- the coded sample of a plane in column x and line y
abbrev pub coded_at : Configuration → Planes → ℕ → ℕ → ℕ → ℕ
coded_at c planes p x y =
    if is_rct c.colour then transformed_at c planes p x y else sample_at c planes p x y

-- the cell of slice n in a plane, by the column and the line from its corner
abbrev pub cell_in : Configuration → Planes → ℕ → ℕ → Cell
cell_in c planes n p =
    let d = division_of c in record {
      width = coded_of (across d p) (n % c.columns);
      at = λ x y. coded_at c planes p (first_of (across d p) (n % c.columns) + x)
          (first_of (down d p) (n / c.columns) + y);
    }

-- how many lines it has
abbrev pub cell_height : Configuration → ℕ → ℕ → ℕ
cell_height c n p = coded_of (down (division_of c) p) (n / c.columns)

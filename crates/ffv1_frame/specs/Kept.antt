-- What sinks of a configuration's lines do with a line: it is taken into its place, or only looked
-- at, and refused exactly if it is no line of the configuration.
use Rattle.std.specs.Prelude.{◌≡◌, ℕ, ◌*◌, ◌<◌, List, ◌++◌, length, take, drop, slice_set}
use Rattle.std.specs.Prelude.{map, replicate}
use Rattle.std.specs.List.{range_with_len}
use Rattle.ffv1_wire.specs.Failures.{one_more}
use Rattle.ffv1_samples.specs.Samples.{sample_bytes}
use Rattle.ffv1_slice.specs.Grid.{Division, across, down, whole_of}
use Rattle.ffv1_frame.specs.Picture.{Planes, plane}

-- a line of a plane, in bytes
pub record IsLine (d : Division) (p y : ℕ) (samples : List ℕ) : Type 0 where
  pub in_plane : p < d.planes
  pub in_height : y < whole_of (down d p)
  pub long : length samples ≡ sample_bytes d.depth * whole_of (across d p)

-- samples with those of a line in their place
abbrev pub with_samples : List ℕ → ℕ → List ℕ → List ℕ
with_samples old y samples =
    take (y * length samples) old
    ++ (samples ++ drop (length samples) (drop (y * length samples) old))

-- planes with a line in its place
abbrev pub with_line : Planes → ℕ → ℕ → List ℕ → Planes
with_line planes p y samples = slice_set planes p (with_samples (plane planes p) y samples)

-- planes of zeros
abbrev pub zeros_of : Division → Planes
zeros_of d =
    map (λ p. replicate (sample_bytes d.depth * (whole_of (across d p) * whole_of (down d p))) 0)
    (range_with_len 0 d.planes)

-- a sink that keeps lines: the grid of its pictures, their planes, and how many lines it refused
pub record Kept : Type 0 where
  pub grid : Division
  pub planes : Planes
  pub failures : ℕ

abbrev pub Keeps : Kept → ℕ → ℕ → List ℕ → Kept → Type 0
Keeps s p y samples t =
    IsLine s.grid p y samples × (t ≡ record s { planes = with_line s.planes p y samples })

abbrev pub KeepsNot : Kept → ℕ → ℕ → List ℕ → Kept → Type 0
KeepsNot s p y samples t =
    (IsLine s.grid p y samples → ⊥) × (t ≡ record s { failures = one_more s.failures })

-- a sink that drops lines
pub record Dropped : Type 0 where
  pub grid : Division
  pub failures : ℕ

abbrev pub Drops : Dropped → ℕ → ℕ → List ℕ → Dropped → Type 0
Drops s p y samples t = IsLine s.grid p y samples × (t ≡ s)

abbrev pub DropsNot : Dropped → ℕ → ℕ → List ℕ → Dropped → Type 0
DropsNot s p y samples t =
    (IsLine s.grid p y samples → ⊥) × (t ≡ record s { failures = one_more s.failures })

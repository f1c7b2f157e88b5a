-- Planes of which some lines are kept, from the top: zeros stand for those that are missing.
use Rattle.std.specs.Prelude.{◌≡◌, ℕ, ◌*◌, ◌-◌, ◌<◌, List, ◌++◌, length, map, replicate}
use Rattle.std.specs.List.{range_with_len}
use Rattle.std.specs.Vec.{vec_capacity}
use Rattle.std.specs.declared.vec.Vec.{Vec}
use Rattle.std.proofs.Common.{get_or}
use Rattle.ffv1_samples.specs.Samples.{sample_bytes}
use Rattle.ffv1_slice.specs.Grid.{Division, across, down, whole_of}
use Rattle.ffv1_frame.specs.Picture.{Planes, plane}

-- bytes, with zeros after them up to a size
abbrev pub filled : ℕ → List ℕ → List ℕ
filled size bytes = bytes ++ replicate (size - length bytes) 0

-- how many bytes a plane has
abbrev pub plane_size : Division → ℕ → ℕ
plane_size d p = sample_bytes d.depth * (whole_of (across d p) * whole_of (down d p))

-- each plane up to its size
abbrev pub filled_planes : Division → Planes → Planes
filled_planes d planes =
    map (λ p. filled (plane_size d p) (plane planes p)) (range_with_len 0 d.planes)

-- each of the vectors has memory for exactly the bytes of its plane
abbrev pub AreRooms : {A : Type 0} → Division → List (Vec ℕ A) → Type 0
AreRooms {A = A} d planes =
    (p : ℕ) (v : Vec ℕ A) → p < d.planes → vec_capacity (get_or planes p v) ≡ plane_size d p

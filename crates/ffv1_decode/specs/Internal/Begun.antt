-- Vectors of planes of which some lines are kept.
use Rattle.std.specs.Prelude.{◌≡◌, ℕ, ◌≤◌, ◌<◌, List, length}
use Rattle.std.specs.declared.vec.Vec.{Vec}
use Rattle.ffv1_slice.specs.Grid.{Division, IsDivision}
use Rattle.ffv1_frame.specs.Picture.{plane, planes_of}
use Rattle.ffv1_decode.specs.Filled.{AreRooms, plane_size}

-- vectors of the planes of a division: none has more bytes than its plane, each has memory for
-- exactly these
pub record AreBegun {A : Type 0} (d : Division) (planes : List (Vec ℕ A)) : Type 0 where
  pub division : IsDivision d
  pub count : length planes ≡ d.planes
  pub few : (p : ℕ) → p < d.planes → length (plane (planes_of planes) p) ≤ plane_size d p
  pub room : AreRooms d planes

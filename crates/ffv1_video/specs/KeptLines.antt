-- A sink that keeps the lines of a picture.
use Rattle.std.specs.Prelude.{◌≡◌}
use Rattle.ffv1_record.specs.Accepted.{Accepted}
use Rattle.ffv1_slice.specs.Grid.{division_of}
use Rattle.ffv1_frame.specs.Kept.{Kept}
use Rattle.ffv1_frame.specs.Picture.{AreOf}

-- a sink keeps the lines of pictures of this configuration
pub record IsKeptFor (a : Accepted) (kept : Kept) : Type 0 where
  pub grid : kept.grid ≡ division_of a.configuration
  pub planes : AreOf kept.grid kept.planes

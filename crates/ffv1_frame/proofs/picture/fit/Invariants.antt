use Rattle.std.proofs.Common.{◌≡◌, ℕ, ◌*◌, ◌^◌, ◌<◌, length}
use Rattle.std.specs.Prelude.{slice_index}
use Rattle.ffv1_samples.specs.Samples.{AreBelow, sample_bytes, samples_of}
use Rattle.ffv1_slice.specs.Grid.{across, down, whole_of}
use Rattle.ffv1_frame.specs.Picture.{plane, planes_of}
use Rattle.ffv1_frame.proofs.picture.fit.Given as goal

abbrev pub invariant-loop-plane : goal.invariant-loop-plane
invariant-loop-plane g l = record {
  sizes : (p : ℕ) → p < l.plane → length (plane (planes_of l.planes) p) ≡ sample_bytes l.grid.depth
      * (whole_of (across l.grid p) * whole_of (down l.grid p));
  bytes : (p i : ℕ) → p < l.plane → slice_index (plane (planes_of l.planes) p) i < 256;
  small : (p : ℕ) → p < l.plane → AreBelow (2 ^ l.grid.depth)
      (samples_of l.grid.depth (plane (planes_of l.planes) p));
}

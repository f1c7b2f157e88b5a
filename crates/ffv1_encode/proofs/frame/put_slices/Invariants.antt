use Rattle.std.proofs.Common.{◌≡◌, ℕ, ◌*◌, ◌^◌, ◌<◌, ◌≤◌, length, map}
use Rattle.std.specs.Prelude.{◌≢◌, sum, vec_capacity}
use Rattle.std.specs.List.{flat_map, range_with_len}
use Rattle.ffv1_line.specs.Length.{row_decisions}
use Rattle.ffv1_slice.specs.Cutting.{joined_of}
use Rattle.ffv1_frame.specs.Frame.{slice_bytes}
use Rattle.ffv1_frame.specs.Length.{KeepsCapacities, slice_residuals, slice_renormalisations}
use Rattle.ffv1_frame.specs.SliceList.{bits_of}
use Rattle.ffv1_encode.specs.Internal.Scratch.{capacities_of, capacity_of_planes}
use Rattle.ffv1_encode.proofs.frame.put_slices.Given as goal

abbrev pub invariant-loop-number : goal.invariant-loop-number
invariant-loop-number g l =
    let a = l.checked in
    let bytes = slice_bytes a l.picture l.info in
    record {
      frame : l.frame.items ≡ joined_of a.configuration.ec (map bytes (range_with_len 0 l.number));
      few : (n : ℕ) → n < l.number → length (bytes n) ≤ 16777215;
      decisions : l.decisions ≡ row_decisions (flat_map
          (slice_residuals a.configuration l.picture l.info) (range_with_len 0 l.number));
      renormalisations : l.renormalisations ≡ sum
          (map (slice_renormalisations a l.picture l.info) (range_with_len 0 l.number));
      decisions_few : l.decisions ≤ l.number * 2 ^ 40;
      renormalisations_few : l.renormalisations ≤ l.number * 16777215;
      room : vec_capacity l.fn.scratch.states ≤ vec_capacity l.scratch.states;
      capacity : KeepsCapacities (capacities_of l.fn.scratch) (capacities_of l.scratch);
      wide_alone : bits_of a.configuration ≡ 17 → capacity_of_planes l.scratch.rows.narrow
          ≡ capacity_of_planes l.fn.scratch.rows.narrow;
      narrow_alone : bits_of a.configuration ≢ 17 → capacity_of_planes l.scratch.rows.wide
          ≡ capacity_of_planes l.fn.scratch.rows.wide;
    }

use Rattle.std.proofs.Common.{◌≤◌}
use Rattle.std.specs.List.{flat_map, range_with_len}
use Rattle.ffv1_range.specs.Symbols.{AllHeld}
use Rattle.ffv1_frame.specs.Picture.{cell_in, cell_height}
use Rattle.ffv1_frame.specs.SliceList.{lines_of_plane, chosen_head, chosen_body}
use Rattle.ffv1_encode.specs.Internal.HasPut.{PutsAfter}
use Rattle.ffv1_encode.specs.Internal.Scratch.{capacity_of_rows}
use Rattle.ffv1_encode.proofs.slice_body.put_planes.Given as goal

abbrev pub invariant-loop-plane : goal.invariant-loop-plane
invariant-loop-plane g l =
    let conf = l.slice.checked.now.configuration in
    let cell = cell_in conf l.slice.picture.now l.slice.number in
    record {
      held : AllHeld l.slice.checked.now.table l.states;
      capacity : capacity_of_rows l.fn.rows ≤ capacity_of_rows l.rows;
      puts : PutsAfter l.slice.checked.now.table l.fn.encoder l.fn.states l.encoder l.states
          (chosen_body conf (chosen_head conf l.slice.info) cell
          (flat_map (λ p. lines_of_plane (cell_height conf l.slice.number p) p)
          (range_with_len 0 l.plane)));
    }

use Rattle.std.proofs.Common.{◌≤◌}
use Rattle.std.specs.List.{flat_map, range_with_len}
use Rattle.ffv1_range.specs.Symbols.{AllHeld}
use Rattle.ffv1_frame.specs.Picture.{cell_in, plane_count}
use Rattle.ffv1_frame.specs.SliceList.{planes_of_line, chosen_head, chosen_body}
use Rattle.ffv1_encode.specs.Internal.HasPut.{PutsAfter}
use Rattle.ffv1_encode.specs.Internal.CellRows.{AllRolled}
use Rattle.ffv1_encode.specs.Internal.Scratch.{capacity_of_planes}
use Rattle.ffv1_encode.proofs.slice_body.put_lines.Given as goal

abbrev pub invariant-loop-y : goal.invariant-loop-y
invariant-loop-y g l =
    let conf = l.slice.checked.now.configuration in
    let cell = cell_in conf l.slice.picture.now l.slice.number in
    record {
      held : AllHeld l.slice.checked.now.table l.states;
      capacity : capacity_of_planes l.fn.rows ≤ capacity_of_planes l.rows;
      rolled : AllRolled g.W.Word.samples conf l.slice.picture.now l.slice.number l.y l.rows;
      puts : PutsAfter l.slice.checked.now.table l.fn.encoder l.fn.states l.encoder l.states
          (chosen_body conf (chosen_head conf l.slice.info) cell
          (flat_map (planes_of_line (plane_count conf)) (range_with_len 0 l.y)));
    }

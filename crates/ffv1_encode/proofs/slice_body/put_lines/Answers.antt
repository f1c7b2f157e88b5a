-- Codes the lines of RCT, one after the other, each plane by plane (RFC 9043, 4.7).
use Rattle.std.proofs.Common.{◌≡◌, subst, arith}
use Rattle.std.specs.List.{flat_map, range_with_len}
use Rattle.ffv1_frame.specs.Picture.{cell_in, cell_height, plane_count}
use Rattle.ffv1_frame.specs.SliceList.{chosen_head, chosen_body, planes_of_line}
use Rattle.ffv1_encode.specs.Internal.HasPut.{PutsAfter}
use Rattle.ffv1_encode.proofs.lemmas.slice_body.Bodies.{puts_none, parts_next, lines_in_order}
use Rattle.ffv1_encode.proofs.slice_body.put_lines.Goals as goal

pub loop-y-init : goal.loop-y-init
loop-y-init g c = record {
  held = c.requires.held;
  rolled = c.in_ok-restart_all.ensures.rolled;
  capacity = c.in_ok-restart_all.ensures.capacity;
  puts = puts_none
      c.args.slice.now.checked.now.table c.args.encoder.now c.args.states.now;
}

pub loop-y-preserved : goal.loop-y-preserved
loop-y-preserved g c =
    let slice = c.args.slice.now in
    let conf = slice.checked.now.configuration in
    record {
      held = c.in_ok-put_colours.ensures.held;
      rolled = c.in_ok-put_colours.ensures.rolled;
      capacity = omega (arith, c.loop-y.invariant.capacity, c.in_ok-put_colours.ensures.capacity);
      puts = parts_next slice.checked.now.table _ _ _ _ _ _ conf (chosen_head conf slice.info)
          (cell_in conf slice.picture.now slice.number) (planes_of_line (plane_count conf))
          c.loop-y.y
          c.loop-y.invariant.puts c.in_ok-put_colours.ensures.ok;
    }

pub returns-clause-ok : goal.returns-clause-ok
returns-clause-ok g c =
    let slice = c.args.slice.now in
    let conf = slice.checked.now.configuration in
    let body = chosen_body conf (chosen_head conf slice.info)
    (cell_in conf slice.picture.now slice.number) in
    let end = c.cell-y-end.ensures.height in
    let all : c.loop-y.y ≡ cell_height conf slice.number 0 = omega (arith, end) in
    subst (λ ls. PutsAfter slice.checked.now.table c.args.encoder.now c.args.states.now
    c.loop-y.encoder c.loop-y.states (body ls))
    (lines_in_order conf slice.number c.requires.rct)
    (subst (λ n. PutsAfter slice.checked.now.table c.args.encoder.now c.args.states.now
    c.loop-y.encoder c.loop-y.states (body
    (flat_map (planes_of_line (plane_count conf)) (range_with_len 0 n)))) all
    c.loop-y.invariant.puts)

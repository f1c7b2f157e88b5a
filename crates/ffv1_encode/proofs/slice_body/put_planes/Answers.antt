-- Codes the planes of YCbCr, one after the other (RFC 9043, 4.7).
use Rattle.std.proofs.Common.{◌≡◌, ◌∙◌, ap, subst, arith}
use Rattle.std.specs.List.{flat_map, range_with_len}
use Rattle.ffv1_slice.specs.Grid.{Division}
use Rattle.ffv1_frame.specs.Picture.{cell_in, cell_height, plane_count}
use Rattle.ffv1_frame.specs.SliceList.{chosen_head, chosen_body, lines_of_plane}
use Rattle.ffv1_encode.specs.Internal.HasPut.{PutsAfter}
use Rattle.ffv1_encode.proofs.lemmas.slice_body.Bodies.{puts_none, parts_next, planes_in_order}
use Rattle.ffv1_encode.proofs.slice_body.put_planes.Goals as goal

pub loop-plane-init : goal.loop-plane-init
loop-plane-init g c = record {
  held = c.requires.held;
  capacity = omega arith;
  puts = puts_none
      c.args.slice.now.checked.now.table c.args.encoder.now c.args.states.now;
}

pub loop-plane-preserved : goal.loop-plane-preserved
loop-plane-preserved g c =
    let slice = c.args.slice.now in
    let conf = slice.checked.now.configuration in
    record {
      held = c.in_ok-put_plane.ensures.held;
      capacity = omega (arith, c.loop-plane.invariant.capacity, c.in_ok-put_plane.ensures.capacity);
      puts = parts_next slice.checked.now.table _ _ _ _ _ _ conf (chosen_head conf slice.info)
          (cell_in conf slice.picture.now slice.number)
          (λ p. lines_of_plane (cell_height conf slice.number p) p) c.loop-plane.plane
          c.loop-plane.invariant.puts c.in_ok-put_plane.ensures.ok;
    }

pub returns-clause-ok : goal.returns-clause-ok
returns-clause-ok g c =
    let slice = c.args.slice.now in
    let conf = slice.checked.now.configuration in
    let body = chosen_body conf (chosen_head conf slice.info)
    (cell_in conf slice.picture.now slice.number) in
    let end = c.planes-plane-end.ensures ∙ ap (λ (d : Division). d.planes) slice.divided in
    let all : c.loop-plane.plane ≡ plane_count conf = omega (arith, end) in
    subst (λ ls. PutsAfter slice.checked.now.table c.args.encoder.now c.args.states.now
    c.loop-plane.encoder c.loop-plane.states (body ls))
    (planes_in_order conf slice.number c.requires.plain)
    (subst (λ n. PutsAfter slice.checked.now.table c.args.encoder.now c.args.states.now
    c.loop-plane.encoder c.loop-plane.states
    (body (flat_map (λ p. lines_of_plane (cell_height conf slice.number p) p)
    (range_with_len 0 n)))) all
    c.loop-plane.invariant.puts)

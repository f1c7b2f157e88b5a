-- Reads the planes of a picture in place of what the vectors had.
use Rattle.std.proofs.Common.{◌≡◌, ◌<◌, ◌≤◌, ◌∙◌, length, get_or, arith, length-set}
use Rattle.std.proofs.lemmas.List.{map-set, length-map}
use Rattle.std.proofs.lemmas.Result.{err_from_is_err_and}
use Rattle.std.specs.Vec.{vec_capacity}
use Rattle.ffv1_y4m.proofs.PlaneRooms.{bytes_long, room_at, room_next}
use Rattle.ffv1_y4m.specs.State.{samples_of}
use Rattle.ffv1_y4m.specs.VideoHead.{plane_bytes}
use Rattle.ffv1_y4m.proofs.PlaneByPlane.{partway_end, partway_step, partway_stop}
use Rattle.ffv1_y4m.proofs.planes.read_planes.Goals as goal

pub loop-plane-preserved : goal.loop-plane-preserved
loop-plane-preserved g c =
    let h = c.loop-plane.invariant in
    let a = rw c.plane_bytes-size.ensures at c.in_ok-read_plane.ensures in
    let many : length (samples_of c.loop-plane.planes.items) ≡ length
    (plane_bytes c.args.depth c.args.head.now) = length-map c.loop-plane.planes.items _ ∙ h.0 in
    let inside : c.loop-plane.plane < length (plane_bytes c.args.depth c.args.head.now) =
    omega (arith, h.0, bytes_long c.args.depth c.args.head.now) in (
      length-set _ _ _ ∙ h.0,
      a.answer.said.0 ∙ h.1,
      rw map-set (partway_step c.args.depth (plane_bytes c.args.depth c.args.head.now) _ _ _
          c.loop-plane.plane _ _ (samples_of c.loop-plane.planes.items) c.read_plane.new.plane.items
          inside many h.2 a.answer),
      (λ room. room_next (plane_bytes c.args.depth c.args.head.now) c.loop-plane.planes.items
          c.loop-plane.plane c.index_mut.result.now c.read_plane.new.plane inside (omega arith)
          (h.3 room)),
    )

pub returns-in_err-read_plane-clause-answer : goal.returns-in_err-read_plane-clause-answer
returns-in_err-read_plane-clause-answer g c =
    let p = err_from_is_err_and c.from_residual.result c.from_residual.ensures.1 in
    let h = c.loop-plane.invariant in
    let a = rw c.plane_bytes-size.ensures at c.in_err-read_plane.ensures.answer in
    let many : length (samples_of c.loop-plane.planes.items) ≡ length
    (plane_bytes c.args.depth c.args.head.now) = length-map c.loop-plane.planes.items _ ∙ h.0 in
    let inside : c.loop-plane.plane < length (plane_bytes c.args.depth c.args.head.now) =
    omega (arith, h.0, bytes_long c.args.depth c.args.head.now) in
    rw (p.1, p.2) (partway_stop c.args.depth (plane_bytes c.args.depth c.args.head.now) _ _ _
    c.loop-plane.plane _ _ _ (samples_of c.loop-plane.planes.items)
    c.in_err-read_plane.field-0.0 inside many h.2 h.1 a)

pub returns-in_err-read_plane-clause-room : goal.returns-in_err-read_plane-clause-room
returns-in_err-read_plane-clause-room g c = λ room.
    let p = err_from_is_err_and c.from_residual.result c.from_residual.ensures.1 in
    let h = c.loop-plane.invariant in
    let inside : c.loop-plane.plane < length (plane_bytes c.args.depth c.args.head.now) =
    omega (arith, h.0, bytes_long c.args.depth c.args.head.now) in
    let there : get_or (plane_bytes c.args.depth c.args.head.now) c.loop-plane.plane 0 ≤
    vec_capacity (get_or c.loop-plane.planes.items c.loop-plane.plane c.index_mut.result.now) =
    room_at (plane_bytes c.args.depth c.args.head.now) c.loop-plane.planes.items
    c.loop-plane.plane c.index_mut.result.now inside (omega arith) (h.3 room) in
    let fits : c.plane_bytes-size.result ≤ vec_capacity c.index_mut.result.now =
    rw c.plane_bytes-size.ensures (rw (← c.index_mut.ensures.value) at there) in
    rw (p.1, p.2) (c.in_err-read_plane.ensures.room fits)

pub returns-clause-answer : goal.returns-clause-answer
returns-clause-answer g c =
    let h = c.loop-plane.invariant in
    let many : length (samples_of c.loop-plane.planes.items) ≡ length
    (plane_bytes c.args.depth c.args.head.now) = length-map c.loop-plane.planes.items _ ∙ h.0 in
    let all : length (plane_bytes c.args.depth c.args.head.now) ≤ c.loop-plane.plane =
    omega (arith, h.0, bytes_long c.args.depth c.args.head.now) in
    let end = partway_end c.args.depth (plane_bytes c.args.depth c.args.head.now) _ _
    c.loop-plane.plane _ _ (samples_of c.loop-plane.planes.items) all many h.2 h.1 in
    end.0

-- Whether these are the same planes.
use Rattle.std.proofs.Common.{◌≡◌, ◌<◌, [], length, get_or, arith}
use Rattle.std.proofs.lemmas.Grind.{common_steps}
use Rattle.std.proofs.lemmas.List.{length-map}
use Rattle.ffv1_codec.specs.Picture.{planes_of}
use Rattle.ffv1_pack.proofs.Compared.{place_more}
use Rattle.ffv1_pack.proofs.FrameBack.{alike, plane_at}
use Rattle.ffv1_pack.proofs.verifying.are_same.Goals as goal

pub loop-plane-preserved : goal.loop-plane-preserved
loop-plane-preserved g c =
    let k = c.loop-plane.plane in
    let planes = c.args.planes.now in
    let others = c.args.others.now in
    let inside : k < length planes = c.loop-plane-test.true in
    let other : k < length others = grind (arith, common_steps, inside, c.if-planes-others.false) in
    let one = plane_at planes k c.index-planes-plane.result c.as_slice.result.now inside
    c.index-planes-plane.is c.as_slice.ensures.value in
    let two = plane_at others k c.index-others-plane.result c.as_slice-in-loop-plane.result.now
    other c.index-others-plane.is c.as_slice-in-loop-plane.ensures.value in
    let here = alike c.is_same-same.result c.as_slice.result.now c.as_slice-in-loop-plane.result.now
    (get_or (planes_of planes) k []) (get_or (planes_of others) k []) one two
    c.is_same-same.ensures in
    let long : length (planes_of planes) ≡ length planes = length-map planes _ in
    let other_long : length (planes_of others) ≡ length others = length-map others _ in
    place_more [] (planes_of planes) (planes_of others) k c.loop-plane.same c.is_same-same.result
    (omega (arith, inside, long)) (omega (arith, other, other_long)) c.loop-plane.invariant here

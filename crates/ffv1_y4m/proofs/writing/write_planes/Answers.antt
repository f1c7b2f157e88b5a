-- Writes the samples of the planes.
use Rattle.std.proofs.lemmas.Result.{err_from_is_err_and}
use Rattle.std.proofs.lemmas.List.Folds.{flat_map-map}
use Rattle.std.proofs.lemmas.List.{take_all}
use Rattle.std.proofs.Common.{arith}
use Rattle.std.proofs.lemmas.Grind.{common_steps}
use Rattle.ffv1_y4m.proofs.Written.{parts_stop}
use Rattle.ffv1_y4m.proofs.writing.write_planes.Goals as goal

pub returns-in_err-write_part : goal.returns-in_err-write_part
returns-in_err-write_part g c =
    let p = err_from_is_err_and c.from_residual.result c.from_residual.ensures.1 in
    let h = c.loop-plane.invariant in
    let w = rw (c.deref.ensures.value, c.plane-item.is) at c.in_err-write_part.ensures in
    rw (p.1, p.2, flat_map-map) (parts_stop (λ plane. plane.items) c.args.planes.now
    c.loop-plane.plane-index c.plane-item.result _ _ _ _ _ _ _ c.loop-plane-test.true h.0 h.1 w)

pub returns : goal.returns
returns g c =
    let h = c.loop-plane.invariant in
    let all = take_all c.loop-plane.plane-index c.args.planes.now c.loop-plane-test.false in
    rw flat_map-map (rw all at h)

pub loop-plane-init : goal.loop-plane-init
loop-plane-init g c = grind (arith, common_steps)

pub loop-plane-preserved : goal.loop-plane-preserved
loop-plane-preserved g c = grind (arith, common_steps)

-- The next step, in the innermost that has bytes left; None at the end of the Segment.
use Rattle.std.proofs.Common.{◌≡◌, arith}
use Rattle.ffv1_matroska.proofs.CuedElements.{cued_cluster, cued_group}
use Rattle.ffv1_matroska.proofs.segment.step.Goals as goal

pub returns-then-place-gt0-clause-cued : goal.returns-then-place-gt0-clause-cued
returns-then-place-gt0-clause-cued g c = cued_group c.args.track c.args.place c.args.cued.now _
    c.read_group.result (omega (arith, c.if-place-gt0.true)) c.read_group.ensures.answer

pub returns-then-place-gt0-2-clause-cued : goal.returns-then-place-gt0-2-clause-cued
returns-then-place-gt0-2-clause-cued g c =
    let none : c.args.place.group ≡ 0 = omega (arith, c.if-place-gt0.false) in
    cued_cluster c.args.track c.args.place c.args.cued.now _ c.read_cluster.result none
    (omega (arith, c.if-place-gt0-2.true)) c.read_cluster.ensures.answer

-- The neighbours of 16 places of a row from `x` on, which all stand in the rows, and the samples of
-- these places.
use Rattle.std.proofs.Common.{refl, slice_index, arith}
use Rattle.ffv1_plane.proofs.LaneValues.{loaded}
use Rattle.ffv1_line.proofs.lemmas.encode.BlockLanes.{around_lanes}
use Rattle.ffv1_line.proofs.encode.block.around_lanes.Goals as goal

pub returns-clause-around : goal.returns-clause-around
returns-clause-around c =
    let q = c.requires in
    around_lanes c.args.two.now c.args.one.now c.args.cur.now c.args.x q.inside q.within q.two_long
    q.one_long (λ k. (c.type_inv.two k).fits) (λ k. (c.type_inv.one k).fits)
    (λ k. (c.type_inv.cur k).fits) _ refl refl refl refl refl refl

pub returns-clause-samples : goal.returns-clause-samples
returns-clause-samples c = loaded c.args.x c.args.x 16 c.args.cur.now (slice_index c.args.cur.now)
    (omega (arith, c.requires.within)) (λ j below. refl)

pub returns-clause-small : goal.returns-clause-small
returns-clause-small c = λ k. (c.type_inv.cur k).fits

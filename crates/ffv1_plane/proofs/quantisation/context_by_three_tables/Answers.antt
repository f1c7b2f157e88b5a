-- `context_by_three_tables`: the same in a set whose fourth and fifth tables have one level,
-- without a look-up in them.
use Rattle.ffv1_plane.proofs.Bounds.{size_below}
use Rattle.ffv1_plane.proofs.Sums.{three_is}
use Rattle.ffv1_plane.proofs.quantisation.context_by_three_tables.Goals as goal

pub returns : goal.returns
returns g c =
    let three = rw (← c.set.view_is) at c.requires in
    let is = three_is c.set.inside.first c.set.inside.second c.set.inside.third c.set.inside.fourth
    c.set.inside.fifth c.set.inside.half
    c.raised-3.result c.raised.result c.raised-2.result c.args.around.now c.set.invariant three
    c.raised-3.ensures.value c.raised.ensures.value c.raised-2.ensures.value in
    let size = c.unraised.ensures.size _ _ is in
    record {
      size = rw (← c.set.view_is) size;
      flip = rw (← c.set.view_is) (c.unraised.ensures.flip _ _ is);
      below = rw (size, ← c.set.view_is) (size_below _ c.args.around.now c.set.invariant.set);
    }

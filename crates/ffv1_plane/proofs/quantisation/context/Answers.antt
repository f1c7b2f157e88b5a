-- The context of a sample (RFC 9043, 3.5): its number, which is the size of the sum of the five
-- look-ups, each by the low eight bits of a difference, and whether the sum is negative, so that
-- the sign of the sample difference is flipped.
use Rattle.ffv1_plane.proofs.Bounds.{size_below}
use Rattle.ffv1_plane.proofs.Sums.{context_is}
use Rattle.ffv1_plane.proofs.quantisation.context.Goals as goal

pub returns : goal.returns
returns g c =
    let is = context_is c.set.inside.first c.set.inside.second c.set.inside.third
    c.set.inside.fourth c.set.inside.fifth c.set.inside.half
    c.raised-4.result c.raised.result c.raised-2.result c.raised-5.result c.raised-3.result
    c.args.around.now c.set.invariant
    c.raised-4.ensures.value c.raised.ensures.value c.raised-2.ensures.value
    c.raised-5.ensures.value c.raised-3.ensures.value in
    let size = c.unraised.ensures.size _ _ is in
    record {
      size = rw (← c.set.view_is) size;
      flip = rw (← c.set.view_is) (c.unraised.ensures.flip _ _ is);
      below = rw (size, ← c.set.view_is) (size_below _ c.args.around.now c.set.invariant.set);
    }

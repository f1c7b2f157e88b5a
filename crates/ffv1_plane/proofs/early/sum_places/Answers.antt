-- The early sums of places `start` to before `end` of a block.
use Rattle.std.proofs.Common.{◌≢◌, ◌<◌, length, below_more, get_or-set_other, get_or-set_same}
use Rattle.std.proofs.Common.{arith}
use Rattle.ffv1_plane.proofs.early.sum_places.Goals as goal

pub loop-i-preserved : goal.loop-i-preserved
loop-i-preserved g c = record {
  each = below_more _ _
      (λ k h. let other : k ≢ c.loop-i.i = omega arith in rw get_or-set_other
      (c.loop-i.invariant.each k h))
      (let inside : c.loop-i.i < length c.loop-i.sum = omega arith in
      let left = c.requires.left c.loop-i.i c.loop-i-test.true in
      rw (get_or-set_same, ← left, ← c.min-right.ensures) c.early_sum.ensures);
}

-- Sets one after the other.
use Rattle.std.proofs.Common.{◌≡◌, ◌<◌, length, take, arith, []}
use Rattle.std.proofs.lemmas.List.{length-take}
use Rattle.ffv1_record.proofs.EncoderSteps.{wrote_more, taken_more}
use Rattle.ffv1_record.proofs.write.write_sets.Goals as goal

pub loop-index-preserved : goal.loop-index-preserved
loop-index-preserved g c =
    let inside : c.loop-index.index < length c.args.sets.now = omega arith in
    let long : length (take c.loop-index.index c.args.sets.now) ≡ c.loop-index.index =
    omega (arith, length-take c.loop-index.index c.args.sets.now) in
    rw (taken_more c.args.sets.now c.loop-index.index [] inside)
    (wrote_more _ _ _ _ _ c.loop-index.index long c.loop-index.invariant
    (rw c.get.ensures at c.in_ok-write_set.ensures.ok))

-- Each third sample after the first so many.
use Rattle.std.proofs.Common.{◌≡◌, ◌*◌, ◌%◌, ◌/◌, ◌<◌, ◌≤◌, ◌∙◌, length, arith}
use Rattle.ffv1_y4m.proofs.PairSteps.{part_end, part_step}
use Rattle.ffv1_y4m.proofs.pairs.part_pairs.Goals as goal

pub loop-place-preserved : goal.loop-place-preserved
loop-place-preserved c =
    let h = c.loop-place.invariant in
    let long : length c.args.text.now ≡ 3 * length c.loop-place.plane =
    omega (arith, h.0, c.requires.long) in
    let whole : length c.loop-place.plane % 2 ≡ 0 = omega (arith, h.0, c.requires.whole) in
    let inside : c.loop-place.place < length c.loop-place.plane / 2 = omega (arith, h.0) in (
      c.put_pair.auto.bytes ∙ h.0,
      part_step c.args.text.now c.loop-place.plane c.put_pair.new.bytes
          c.args.first c.loop-place.place c.requires.first long whole inside h.1 c.put_pair.ensures,
    )

pub returns : goal.returns
returns c =
    let h = c.loop-place.invariant in
    let long : length c.args.text.now ≡ 3 * length c.loop-place.plane =
    omega (arith, h.0, c.requires.long) in
    let whole : length c.loop-place.plane % 2 ≡ 0 = omega (arith, h.0, c.requires.whole) in
    let past : length c.loop-place.plane / 2 ≤ c.loop-place.place = omega (arith, h.0) in
    part_end c.args.text.now c.loop-place.plane c.args.first c.loop-place.place c.requires.first
    long whole past h.1

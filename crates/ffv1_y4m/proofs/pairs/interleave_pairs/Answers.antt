-- Red, green and blue of each place, one after the other.
use Rattle.std.proofs.Common.{◌/◌, ◌<◌, ◌≤◌, ◌∙◌, length, arith}
use Rattle.ffv1_y4m.proofs.PairSteps.{row_end, row_step}
use Rattle.ffv1_y4m.proofs.pairs.interleave_pairs.Goals as goal

pub loop-place-preserved : goal.loop-place-preserved
loop-place-preserved c =
    let h = c.loop-place.invariant in
    let inside : c.loop-place.place < length c.args.red.now / 2 = omega arith in (
      c.put_pair-in-loop-place-2.auto.bytes ∙ (c.put_pair-in-loop-place.auto.bytes ∙
          (c.put_pair.auto.bytes ∙ h.0)),
      row_step c.args.red.now c.args.green.now c.args.blue.now c.loop-place.text
          c.put_pair.new.bytes c.put_pair-in-loop-place.new.bytes
          c.put_pair-in-loop-place-2.new.bytes c.loop-place.place c.requires.whole c.requires.green
          c.requires.blue inside h.1 c.put_pair.ensures c.put_pair-in-loop-place.ensures
          c.put_pair-in-loop-place-2.ensures,
    )

pub returns : goal.returns
returns c =
    let h = c.loop-place.invariant in
    let past : length c.args.red.now / 2 ≤ c.loop-place.place = omega arith in
    row_end c.args.red.now c.args.green.now c.args.blue.now c.loop-place.text c.loop-place.place
    c.requires.whole c.requires.green c.requires.blue h.0 past h.1

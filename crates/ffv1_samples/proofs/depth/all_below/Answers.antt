-- Whether each number of pairs of bytes, the low byte first, lies below this one.
use Rattle.std.proofs.Common.{◌+◌, ◌*◌, ◌<◌, length, sym, ◌∙◌, arith}
use Rattle.ffv1_samples.proofs.Depths.{below_more, below_all}
use Rattle.ffv1_samples.proofs.depth.all_below.Goals as goal

pub loop-place-preserved : goal.loop-place-preserved
loop-place-preserved c =
    let place = c.loop-place.place in
    let test = c.loop-place-test.true in
    let inside : 2 * place + 1 < length c.args.bytes.now = omega (arith, test) in
    let low = c.from.ensures in
    let high = c.from-in-loop-place.ensures in
    let so_far = c.loop-place.invariant in
    rw (low, high, so_far) (sym (below_more c.args.most place c.args.bytes.now inside))

pub returns : goal.returns
returns c = c.loop-place.invariant ∙ below_all c.args.most c.loop-place.place c.args.bytes.now
    c.loop-place-test.false

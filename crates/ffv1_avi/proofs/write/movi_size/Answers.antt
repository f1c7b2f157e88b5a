-- The size of movi, if that of RIFF, which has so many bytes beside it, is not too great.
use Rattle.std.proofs.Common.{◌≡◌, ◌+◌, ◌<◌, length, get_or, arith, refl}
use Rattle.std.proofs.lemmas.Bool.{lt-leb}
use Rattle.std.proofs.lemmas.Grind.{common_steps}
use Rattle.ffv1_avi.specs.Written.{frames_of, frame_size, movi_size}
use Rattle.ffv1_avi.proofs.Sizes.{movi_more, movi_part}
use Rattle.ffv1_avi.proofs.write.movi_size.Goals as goal

pub returns-then-len-gt-MOST : goal.returns-then-len-gt-MOST
returns-then-len-gt-MOST g c =
    let i = c.loop-frame.frame-index in
    let more = movi_more c.args.frames.now i c.frame-item.result c.loop-frame-test.true in
    let part = movi_part c.args.frames.now (i + 1) in
    let long : 2147483647 < length (get_or c.args.frames.now i c.frame-item.result).items =
    rw (← c.frame-item.is) (omega (arith, c.if-len-gt-MOST.true, c.len.ensures)) in
    let big : 2147483647 < c.args.others + movi_size (frames_of c.args.frames.now) =
    omega (arith, more, part, long) in
    rw (lt-leb _ _ big) refl

pub returns-then-others-size-gt-MOST : goal.returns-then-others-size-gt-MOST
returns-then-others-size-gt-MOST g c =
    let i = c.loop-frame.frame-index in
    let more = movi_more c.args.frames.now i c.frame-item.result c.loop-frame-test.true in
    let part = movi_part c.args.frames.now (i + 1) in
    let same : c.padded.result + 8 ≡ frame_size
    (get_or c.args.frames.now i c.frame-item.result).items = rw (← c.frame-item.is)
    (omega (arith, c.padded.ensures, c.len-in-loop-frame.ensures)) in
    let big : 2147483647 < c.args.others + movi_size (frames_of c.args.frames.now) =
    omega (arith, more, part, same, c.if-others-size-gt-MOST.true, c.loop-frame.invariant.0) in
    rw (lt-leb _ _ big) refl

pub loop-frame-preserved : goal.loop-frame-preserved
loop-frame-preserved g c = grind (arith, common_steps)

pub returns-else-others-size-gt-MOST-2 : goal.returns-else-others-size-gt-MOST-2
returns-else-others-size-gt-MOST-2 g c = grind (arith, common_steps)

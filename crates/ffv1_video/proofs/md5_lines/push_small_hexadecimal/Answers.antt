-- Appends bytes in hexadecimal, two lower-case digits each.
use Rattle.std.proofs.Common.{refl, get_or}
use Rattle.ffv1_video.proofs.SmallDigits.{small_more}
use Rattle.ffv1_video.proofs.md5_lines.push_small_hexadecimal.Goals as goal

pub loop-at-preserved : goal.loop-at-preserved
loop-at-preserved g c =
    rw (c.in_ok-push-2.ensures.items, c.in_ok-push.ensures.items)
    (small_more c.args.text.now.items c.loop-at.text.items c.args.bytes.now c.loop-at.at
    (get_or c.args.bytes.now c.loop-at.at 0) c.small_digit.result
    c.small_digit-in-loop-at.result c.loop-at-test.true refl c.small_digit.ensures
    c.small_digit-in-loop-at.ensures c.loop-at.invariant)

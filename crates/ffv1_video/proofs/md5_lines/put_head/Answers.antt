-- The lines before those of the pictures, in place of what the text has.
use Rattle.std.proofs.Common.{refl}
use Rattle.ffv1_video.specs.Md5Text.{md5_head}
use Rattle.ffv1_video.proofs.md5_lines.put_head.Goals as goal

pub returns : goal.returns
unfolding md5_head
returns g c =
    rw (
      c.in_ok-extend_from_slice-3.ensures.items,
      c.in_ok-push_pair-3.ensures,
      c.in_ok-push_pair-2.ensures,
      c.in_ok-extend_from_slice-2.ensures.items,
      c.in_ok-push_pair.ensures,
      c.in_ok-extend_from_slice.ensures.items,
      c.clear.ensures.items,
      c.time_base-scale.ensures.scale,
      c.time_base-scale.ensures.rate,
      c.aspect-num.ensures.num,
      c.aspect-num.ensures.den,
    ) refl

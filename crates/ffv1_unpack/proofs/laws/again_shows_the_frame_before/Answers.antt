-- A frame that repeats another shows the coded one before it, and nothing before the first one; all
-- others show themselves.
use Rattle.std.proofs.Common.{refl}
use Rattle.ffv1_unpack.specs.Stream.{Again, Coded}
use Rattle.ffv1_unpack.proofs.FramesShown.{all_shown, shown_more}
use Rattle.ffv1_unpack.proofs.laws.again_shows_the_frame_before.Goals as goal

pub returns : goal.returns
returns c = record {
  none = all_shown;
  first = λ frames. refl;
  coded = λ frames f. shown_more frames (Coded f);
  again = λ frames. shown_more frames Again;
}

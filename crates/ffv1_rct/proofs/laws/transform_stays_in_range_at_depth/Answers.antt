-- The transform of a sample whose red, green and blue are below 2^depth: Y is below 2^depth, Cb and
-- Cr lie from 1 to 2^(depth+1) - 1.
use Rattle.ffv1_rct.proofs.Places.{small_if_colour, twice_is}
use Rattle.ffv1_rct.proofs.laws.transform_stays_in_range_at_depth.Goals as goal

pub returns : goal.returns
returns c = record {
  luma = λ depth r g b y cb cr is. (small_if_colour depth r g b y cb cr is).luma;
  blue = λ depth r g b y cb cr is. rw (twice_is depth)
      (small_if_colour depth r g b y cb cr is).blue;
  red = λ depth r g b y cb cr is. rw (twice_is depth) (small_if_colour depth r g b y cb cr is).red;
}

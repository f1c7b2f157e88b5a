-- The transform of a sample whose red, green and blue lie from 0 to 255: Y lies from 0 to 255, Cb
-- and Cr from 1 to 511.
use Rattle.ffv1_rct.proofs.Places.{small_if_colour}
use Rattle.ffv1_rct.proofs.laws.transform_of_bytes_stays_in_range.Goals as goal

pub returns : goal.returns
returns c = record {
  luma = λ r g b y cb cr is. (small_if_colour 8 r g b y cb cr is).luma;
  blue = λ r g b y cb cr is. (small_if_colour 8 r g b y cb cr is).blue;
  red = λ r g b y cb cr is. (small_if_colour 8 r g b y cb cr is).red;
}

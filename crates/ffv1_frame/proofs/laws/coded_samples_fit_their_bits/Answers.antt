-- The coded samples of a picture have as many bits as its depth, and one more in RCT.
use Rattle.std.proofs.Common.{ℕ, zero, suc, ◌+◌, ◌<◌, ◌^◌, Bool, true, false, if◌then◌else◌}
use Rattle.ffv1_record.specs.Configuration.{Configuration, is_rct}
use Rattle.ffv1_frame.specs.Picture.{Planes, IsPicture, green_of, blue_of, sample_at}
use Rattle.ffv1_frame.specs.Picture.{transformed_at}
use Rattle.ffv1_frame.proofs.lemmas.picture.CodedSamples.{Small, luma_small, blue_small, red_small, one_more_bit}
use Rattle.ffv1_frame.proofs.lemmas.picture.Words.{picture_small}
use Rattle.ffv1_frame.proofs.laws.coded_samples_fit_their_bits.Goals as goal

sample_small : (c : Configuration) (planes : Planes) (p x y : ℕ) → IsPicture c planes → sample_at c
    planes p x y < 2 ^ c.depth
sample_small c planes p x y is = picture_small c planes is p _

transformed_small : Small → (c : Configuration) (planes : Planes) (p x y : ℕ) → IsPicture c planes →
    transformed_at c planes p x y < 2 ^ (c.depth + 1)
transformed_small laws c planes zero x y is =
    luma_small laws c.depth (sample_at c planes 0 x y) (sample_at c planes (green_of c) x y)
    (sample_at c planes (blue_of c) x y)
    (sample_small c planes 0 x y is) (sample_small c planes (green_of c) x y is)
    (sample_small c planes (blue_of c) x y is)
transformed_small laws c planes (suc zero) x y is =
    blue_small laws c.depth (sample_at c planes 0 x y) (sample_at c planes (green_of c) x y)
    (sample_at c planes (blue_of c) x y)
    (sample_small c planes 0 x y is) (sample_small c planes (green_of c) x y is)
    (sample_small c planes (blue_of c) x y is)
transformed_small laws c planes (suc (suc zero)) x y is =
    red_small laws c.depth (sample_at c planes 0 x y) (sample_at c planes (green_of c) x y)
    (sample_at c planes (blue_of c) x y)
    (sample_small c planes 0 x y is) (sample_small c planes (green_of c) x y is)
    (sample_small c planes (blue_of c) x y is)
transformed_small laws c planes (suc (suc (suc p))) x y is =
    one_more_bit c.depth (sample_at c planes (suc (suc (suc p))) x y)
    (sample_small c planes (suc (suc (suc p))) x y is)

by_colour : (rct : Bool) (depth a b : ℕ) → a < 2 ^ (depth + 1) → b < 2 ^ depth →
    (if rct then a else b) < 2 ^ (if rct then depth + 1 else depth)
by_colour true depth a b p q = p
by_colour false depth a b p q = q

pub returns : goal.returns
returns c = λ a planes p x y is.
    let laws : Small = record {
      coded = c.line_transform_is_lists_at_depth.ensures.coded;
      luma =
          c.transform_stays_in_range_at_depth.ensures.luma;
      blue =
          c.transform_stays_in_range_at_depth.ensures.blue;
      red =
          c.transform_stays_in_range_at_depth.ensures.red;
    } in
    by_colour (is_rct a.configuration.colour) a.configuration.depth
    (transformed_at a.configuration planes p x y) (sample_at a.configuration planes p x y)
    (transformed_small laws a.configuration planes p x y is)
    (sample_small a.configuration planes p x y is)

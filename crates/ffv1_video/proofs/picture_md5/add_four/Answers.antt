-- A sample of each of four planes after them, place after place.
use Rattle.std.proofs.Common.{refl, [], ◌∷◌, ◌++◌}
use Rattle.std.specs.List.{flat_map, range_with_len}
use Rattle.ffv1_video.specs.RawPicture.{pixel}
use Rattle.ffv1_video.proofs.PixelsHashed.{pixels_more}
use Rattle.ffv1_video.proofs.picture_md5.add_four.Goals as goal

pub loop-at-preserved : goal.loop-at-preserved
loop-at-preserved c = λ m is.
    let planes = c.args.red.now ∷ c.args.green.now ∷ c.args.blue.now ∷ c.args.extra.now ∷ [] in
    pixels_more c.add.new.hashed planes m _ c.loop-at.at refl
    (c.add.ensures (m ++ flat_map (pixel planes) (range_with_len 0 c.loop-at.at))
    (c.loop-at.invariant m is))

use Rattle.std.specs.Prelude.{ℕ, ◌++◌, [], ◌∷◌, List, flat_map}
use Rattle.std.specs.List.{range_with_len}
use Rattle.ffv1_video.specs.RawPicture.{pixel}
use Rattle.ffv1_video.specs.Internal.RawPicture.{IsOf}
use Rattle.ffv1_video.proofs.picture_md5.add_four.Given as goal

abbrev pub invariant-loop-at : goal.invariant-loop-at
invariant-loop-at l =
    (m : List ℕ) → IsOf l.initial.hashed m → IsOf l.hashed
    (m ++ flat_map (pixel (l.red ∷ l.green ∷ l.blue ∷ l.extra ∷ [])) (range_with_len 0 l.at))

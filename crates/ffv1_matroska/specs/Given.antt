-- Frames that are given one by one, and where a reader stands after them.
use Rattle.std.specs.Prelude.{◌≡◌, ◌⊎◌, ℕ, ◌<◌, List, [], ◌∷◌, ◌++◌, Some, None, Ok, Err}
use Rattle.ffv1_reads.specs.Head.{Head}
use Rattle.ffv1_reads.specs.Reads.{Short, Stop, Want}
use Rattle.ffv1_matroska.specs.Files.{frame_read}
use Rattle.ffv1_matroska.specs.Opened.{Opened, open_read}
use Rattle.ffv1_matroska.specs.declared.place.Place.{Place}
use Rattle.ffv1_matroska.specs.declared.track.TrackNumbers.{TrackNumbers}

-- from a position on these frames are given, one by one, up to another place, where these bytes
-- come next
abbrev pub GivesTo : TrackNumbers → Place → List ℕ → List (List ℕ) → Place → List ℕ → Type 0
GivesTo track place text [] after rest = (place ≡ after) × (text ≡ rest)
GivesTo track place text (f ∷ fs) after rest =
    (next : Place) × (more : List ℕ) × (frame_read track place text ≡ Ok (Some (f, next), more))
    × GivesTo track next more fs after rest

-- a Cluster of known size that was entered from a position is read to its end: nothing is left of
-- it, or more of the Segment was read, or there are no more frames
abbrev pub ReadsToEnd : TrackNumbers → Place → Place → List ℕ → Type 0
ReadsToEnd track place after left =
    ((after.cluster ≡ 0) × (after.group ≡ 0))
    ⊎ ((after.segment < place.segment)
    ⊎ ((more : List ℕ) × (frame_read track after left ≡ Ok (None, more))))

-- from a position on these frames are given, one by one, and then reading stops so
abbrev pub FramesThen : TrackNumbers → Place → List ℕ → List (List ℕ) → Stop → Type 0
FramesThen track place text [] why = frame_read track place text ≡ Err why
FramesThen track place text (f ∷ fs) why =
    (next : Place) × (more : List ℕ) × (frame_read track place text ≡ Ok (Some (f, next), more))
    × FramesThen track next more fs why

-- a file is opened, and these frames are given, one by one, and then reading stops so; or it is
-- not opened
abbrev pub GivesThen : List ℕ → Head → List (List ℕ) → Stop → Type 0
GivesThen file head frames why =
    ((open_read file ≡ Err why) × (frames ≡ []))
    ⊎ ((o : Opened) × (rest : List ℕ) × (open_read file ≡ Ok (o, rest)) × (o.track.head ≡ head)
    × FramesThen o.track.numbers o.place rest frames why)

-- of a beginning of a file some of the first frames are given, one by one, and then more bytes are
-- wanted
abbrev pub StopsEarly : List ℕ → Head → List (List ℕ) → Type 0
StopsEarly bytes head frames =
    (w : Want) × (some : List (List ℕ)) × (others : List (List ℕ)) × (frames ≡ some ++ others)
    × GivesThen bytes head some (Short w)

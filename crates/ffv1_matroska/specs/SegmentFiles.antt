-- A file by its elements, wherever its Tracks stand, apart from how it is walked (RFC 9559, 5.1).
use Rattle.std.specs.Prelude.{◌≡◌, ◌⊎◌, ℕ, List, [], ◌∷◌, ◌++◌, length, Option}
use Rattle.ffv1_ebml.specs.Vints.{number_of}
use Rattle.ffv1_reads.specs.Head.{Head}
use Rattle.ffv1_matroska.specs.Elements.{AreParts, Part, Sized, Top, Unsized, parts_frames}
use Rattle.ffv1_matroska.specs.Elements.{parts_text}
use Rattle.ffv1_matroska.specs.MatroskaFiles.{FileBegins, IsTracks, SegmentEnds}
use Rattle.ffv1_matroska.specs.Opened.{tracks as tracks_ident}
use Rattle.ffv1_matroska.specs.Tracks.{Track}

-- the first Tracks among these parts of a Segment say this track
abbrev pub FirstTracks : List Part → Track → Type 0
FirstTracks [] track = ⊥
FirstTracks (Top t ∷ ps) track =
    IsTracks t track ⊎ ((number_of t.ident ≡ tracks_ident → ⊥) × FirstTracks ps track)
FirstTracks (Sized ident size pieces ∷ ps) track = FirstTracks ps track
FirstTracks (Unsized ident size pieces ∷ ps) track = FirstTracks ps track

-- none of these parts are Tracks
abbrev pub HaveNoTracks : List Part → Type 0
HaveNoTracks [] = Unit {0}
HaveNoTracks (Top t ∷ ps) = (number_of t.ident ≡ tracks_ident → ⊥) × HaveNoTracks ps
HaveNoTracks (Sized ident size pieces ∷ ps) = HaveNoTracks ps
HaveNoTracks (Unsized ident size pieces ∷ ps) = HaveNoTracks ps

-- a file with this head and these frames: the headers of EBML and of the Segment, and the parts of
-- that, Tracks among them; after the Segment may stand whatever does. The frames are the blocks of
-- the track that the first Tracks say, in order, whether they stand before these Tracks or after
pub record SegmentFile (file : List ℕ) (head : Head) (frames : List (List ℕ)) : Type 0 where
  pub size : Option ℕ
  pub track : Track
  pub parts : List Part
  pub rest : List ℕ
  pub begins : FileBegins file size (parts_text parts ++ rest)
  pub ends : SegmentEnds size (length (parts_text parts)) rest
  pub first : FirstTracks parts track
  pub head_is : track.head ≡ head
  pub parts_are : AreParts track.numbers parts
  pub frames_are : parts_frames parts ≡ frames

-- A file by its elements, apart from how it is walked (RFC 8794, 4 and 8; RFC 9559, 5).
use Rattle.std.specs.Prelude.{◌≡◌, ◌⊎◌, ℕ, ◌≤◌, ◌<◌, List, [], ◌∷◌, ◌++◌, length}
use Rattle.std.specs.Prelude.{Option, Some, None, Ok}
use Rattle.ffv1_reads.specs.Head.{Head, limit}
use Rattle.ffv1_ebml.specs.Spelled.{SaysSize}
use Rattle.ffv1_ebml.specs.Vints.{IsVint, number_of}
use Rattle.ffv1_matroska.specs.Elements.{AreParts, AreTopLevel, Part, TopLevel, parts_frames}
use Rattle.ffv1_matroska.specs.Elements.{parts_text, top_text, tops_text}
use Rattle.ffv1_matroska.specs.Opened.{ebml, tracks as tracks_ident}
use Rattle.ffv1_matroska.specs.Opening.{header_in, most_elements, segment, void}
use Rattle.ffv1_matroska.specs.Tracks.{Track, track_in}

-- four bytes that are this ID
abbrev pub SaysFour : List ℕ → ℕ → Type 0
SaysFour bytes ident = (length bytes ≡ 4) × (number_of bytes ≡ ident)

-- a Void, of any size that is known (RFC 8794, 11.3)
pub record IsVoid (t : TopLevel) : Type 0 where
  pub named : t.ident ≡ void ∷ []
  pub sized : SaysSize t.size (Some (length t.content))

abbrev pub AreVoids : List TopLevel → Type 0
AreVoids [] = Unit {0}
AreVoids (t ∷ ts) = IsVoid t × AreVoids ts

-- a file up to the content of its Segment: the header of EBML, which is of Matroska, any number of
-- Voids, and the header of the Segment, of this size
pub record FileBegins (file : List ℕ) (size : Option ℕ) (content : List ℕ) : Type 0 where
  pub ebml_ident : List ℕ
  pub ebml_size : List ℕ
  pub header : List ℕ
  pub voids : List TopLevel
  pub segment_ident : List ℕ
  pub segment_size : List ℕ
  pub bytes : file ≡ (ebml_ident ++ ebml_size)
      ++ (header ++ (tops_text voids ++ ((segment_ident ++ segment_size) ++ content)))
  pub ebml_is : SaysFour ebml_ident ebml
  pub ebml_sized : SaysSize ebml_size (Some (length header))
  pub short : length header ≤ limit
  pub of_matroska : header_in header ≡ Ok tt
  pub voids_are : AreVoids voids
  pub few : length voids < most_elements
  pub segment_is : SaysFour segment_ident segment
  pub sized : SaysSize segment_size size

-- how many bytes an open Segment counts as, one of unknown size: what all bits 1 of its size say
abbrev pub endless : ℕ
endless = 72057594037927935

-- if a Segment of this size has ended after so many bytes, with these after it: one of unknown
-- size ends with the file
abbrev pub SegmentEnds : Option ℕ → ℕ → List ℕ → Type 0
SegmentEnds (Some size) long rest = size ≡ long
SegmentEnds None long rest = (long ≡ endless) ⊎ ((long < endless) × (rest ≡ []))

-- Tracks, which say this track; their CRC-32 is right, if they begin with one
pub record IsTracks (t : TopLevel) (track : Track) : Type 0 where
  pub named : IsVint t.ident
  pub few : length t.ident ≤ 4
  pub is : number_of t.ident ≡ tracks_ident
  pub sized : SaysSize t.size (Some (length t.content))
  pub short : length t.content ≤ limit
  pub says : track_in t.content ≡ Ok track

-- no Tracks are among these
abbrev pub AreBefore : List TopLevel → Type 0
AreBefore [] = Unit {0}
AreBefore (t ∷ ts) = (number_of t.ident ≡ tracks_ident → ⊥) × AreBefore ts

-- a file with this head and these frames: the headers of EBML and of the Segment, elements
-- without frames, the first Tracks, and further parts of the Segment; after the Segment may stand
-- whatever does. The frames are the blocks of the track that the first Tracks say, in order
pub record MatroskaFile (file : List ℕ) (head : Head) (frames : List (List ℕ)) : Type 0 where
  pub size : Option ℕ
  pub before : List TopLevel
  pub tracks : TopLevel
  pub track : Track
  pub parts : List Part
  pub rest : List ℕ
  pub begins : FileBegins file size
      (tops_text before ++ (top_text tracks ++ (parts_text parts ++ rest)))
  pub ends : SegmentEnds size
      (length (tops_text before ++ (top_text tracks ++ parts_text parts))) rest
  pub before_are : AreTopLevel before
  pub first : AreBefore before
  pub tracks_is : IsTracks tracks track
  pub head_is : track.head ≡ head
  pub parts_are : AreParts track.numbers parts
  pub frames_are : parts_frames parts ≡ frames

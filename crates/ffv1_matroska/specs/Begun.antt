-- Files up to some element: one that may not come there, or one that passes what it stands in.
use Rattle.std.specs.Prelude.{◌≡◌, ℕ, ◌+◌, ◌≤◌, ◌<◌, List, [], ◌∷◌, ◌++◌, flat_map, length}
use Rattle.std.specs.Prelude.{Option, Some, None, Err}
use Rattle.ffv1_reads.specs.declared.fault.FileFault.TheVariants as fault
use Rattle.ffv1_ebml.specs.Contents.{content_told}
use Rattle.ffv1_ebml.specs.Spelled.{SaysSize}
use Rattle.ffv1_ebml.specs.Vints.{IsVint, number_of}
use Rattle.ffv1_reads.specs.Head.{limit}
use Rattle.ffv1_matroska.specs.Elements.{AreLeaves, AreLoose, AreParts, ArePieces, AreTopLevel}
use Rattle.ffv1_matroska.specs.Elements.{Leaf, Part, Piece, SaysIdent, TopLevel, leaves_text}
use Rattle.ffv1_matroska.specs.Elements.{parts_text, pieces_text, top_text, tops_text}
use Rattle.ffv1_matroska.specs.MatroskaFiles.{AreBefore, FileBegins, IsTracks, SaysFour}
use Rattle.ffv1_matroska.specs.MatroskaFiles.{endless}
use Rattle.ffv1_matroska.specs.Opened.{ebml, tracks}
use Rattle.ffv1_matroska.specs.Segments.{block, block_group, cluster}
use Rattle.ffv1_matroska.specs.Tracks.{Track, entry, track_type}
use Rattle.ffv1_matroska.specs.declared.track.TrackNumbers.{TrackNumbers}

-- how many bytes a Segment of this size has
abbrev pub room : Option ℕ → ℕ
room None = endless
room (Some size) = size

-- this header fits in so many bytes, with the content if its size is known
abbrev pub Fits : ℕ → List ℕ → Option ℕ → Type 0
Fits left header None = length header ≤ left
Fits left header (Some size) = length header + size ≤ left

-- the ID and the size of an element, which fit in a parent that has so many bytes left, while the
-- element passes it
pub record Passes (left : ℕ) (ident size : List ℕ) : Type 0 where
  pub named : IsVint ident
  pub few : length ident ≤ 4
  pub long : ℕ
  pub sized : SaysSize size (Some long)
  pub header : length (ident ++ size) ≤ left
  pub passes : left < length (ident ++ size) + long

-- a file up to a position in its Segment, after the first Tracks and parts: the Segment has so many
-- bytes left, and these come next
pub record SegmentBegins (file : List ℕ) (track : Track) (left : ℕ) (rest : List ℕ) : Type 0 where
  pub size : Option ℕ
  pub before : List TopLevel
  pub tracks : TopLevel
  pub parts : List Part
  pub begins : FileBegins file size
      (tops_text before ++ (top_text tracks ++ (parts_text parts ++ rest)))
  pub counted : room size
      ≡ length (tops_text before ++ (top_text tracks ++ parts_text parts)) + left
  pub before_are : AreTopLevel before
  pub first : AreBefore before
  pub tracks_is : IsTracks tracks track
  pub parts_are : AreParts track.numbers parts

-- a file up to a position in a Cluster of known size, after elements of it: the Cluster has so many
-- bytes left
pub record ClusterBegins (file : List ℕ) (track : Track) (left : ℕ) (rest : List ℕ) : Type 0 where
  pub ident : List ℕ
  pub size : List ℕ
  pub pieces : List Piece
  pub after : ℕ
  pub segment : SegmentBegins file track
      (length (ident ++ size) + ((length (pieces_text pieces) + left) + after))
      ((ident ++ size) ++ (pieces_text pieces ++ rest))
  pub named : SaysIdent ident cluster
  pub sized : SaysSize size (Some (length (pieces_text pieces) + left))
  pub are : ArePieces track.numbers pieces

-- a file up to a position in a Cluster of unknown size, after elements of it: the Segment has so
-- many bytes left
pub record LooseBegins (file : List ℕ) (track : Track) (left : ℕ) (rest : List ℕ) : Type 0 where
  pub ident : List ℕ
  pub size : List ℕ
  pub pieces : List Piece
  pub segment : SegmentBegins file track
      (length (ident ++ size) + (length (pieces_text pieces) + left))
      ((ident ++ size) ++ (pieces_text pieces ++ rest))
  pub named : SaysIdent ident cluster
  pub unsized : SaysSize size None
  pub are : ArePieces track.numbers pieces
  pub loose : AreLoose pieces

-- a BlockGroup begins, in a parent with so many bytes left, with elements of it: it has so many
-- bytes more
pub record GroupBegins (text : List ℕ) (track : TrackNumbers) (left more : ℕ)
    (rest : List ℕ) : Type 0 where
  pub ident : List ℕ
  pub size : List ℕ
  pub leaves : List Leaf
  pub bytes : text ≡ (ident ++ size) ++ (leaves_text leaves ++ rest)
  pub named : SaysIdent ident block_group
  pub sized : SaysSize size (Some (length (leaves_text leaves) + more))
  pub fits : length (ident ++ size) + (length (leaves_text leaves) + more) ≤ left
  pub are : AreLeaves block track leaves

-- a field in memory: its ID, its size and its content
pub record Field : Type 0 where
  pub ident : List ℕ
  pub size : List ℕ
  pub content : List ℕ

pub record IsField (f : Field) : Type 0 where
  pub named : IsVint f.ident
  pub few : length f.ident ≤ 4
  pub sized : SaysSize f.size (Some (length f.content))

abbrev pub fields_text : List Field → List ℕ
fields_text fields = flat_map (λ (f : Field). (f.ident ++ f.size) ++ f.content) fields

-- fields, of which none has this ID
abbrev pub AreOther : ℕ → List Field → Type 0
AreOther ident [] = Unit {0}
AreOther ident (f ∷ fs) = IsField f × (number_of f.ident ≡ ident → ⊥) × AreOther ident fs

-- fields without this ID, and then an element that passes the content
pub record FieldPasses (content : List ℕ) (looked_for : ℕ) : Type 0 where
  pub fields : List Field
  pub ident : List ℕ
  pub said : List ℕ
  pub bytes : List ℕ
  pub content_is : content ≡ fields_text fields ++ ((ident ++ said) ++ bytes)
  pub others : AreOther looked_for fields
  pub passes : Passes (length ((ident ++ said) ++ bytes)) ident said

-- elements of Tracks that are no TrackEntry, and then one of which a field passes it, before its
-- type
pub record EntryPasses (content : List ℕ) : Type 0 where
  pub fields : List Field
  pub first : Field
  pub more : List ℕ
  pub content_is : content ≡ fields_text fields
      ++ (((first.ident ++ first.size) ++ first.content) ++ more)
  pub others : AreOther entry fields
  pub is : IsField first
  pub named : number_of first.ident ≡ entry
  pub passes : FieldPasses first.content track_type

-- a CRC-32 that stands first is not wrong
abbrev pub IsNotWrong : List ℕ → Type 0
IsNotWrong content = content_told content ≡ Err fault.Checksum → ⊥

-- a file with this content of the header of EBML
pub record HeaderBegins (file header rest : List ℕ) : Type 0 where
  pub ident : List ℕ
  pub size : List ℕ
  pub bytes : file ≡ (ident ++ size) ++ (header ++ rest)
  pub named : SaysFour ident ebml
  pub sized : SaysSize size (Some (length header))
  pub short : length header ≤ limit

-- a file with this content of the first Tracks
pub record TracksBegin (file content rest : List ℕ) : Type 0 where
  pub known : Option ℕ
  pub before : List TopLevel
  pub ident : List ℕ
  pub size : List ℕ
  pub begins : FileBegins file known (tops_text before ++ ((ident ++ size) ++ (content ++ rest)))
  pub before_are : AreTopLevel before
  pub first : AreBefore before
  pub named : SaysIdent ident tracks
  pub sized : SaysSize size (Some (length content))
  pub short : length content ≤ limit
  pub fits : Fits (room known) (tops_text before ++ (ident ++ size)) (Some (length content))

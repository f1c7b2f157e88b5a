-- Elements of a Segment as they stand in a file, apart from how they are walked (RFC 8794, 3 to
-- 6; RFC 9559, 5.1). An ID and a size are bytes that say so, of any length that they may have.
use Rattle.std.specs.Prelude.{◌≡◌, ◌⊎◌, ℕ, ◌≤◌, ◌<◌, ◌==◌, ◌||◌, Bool, true, false, List, []}
use Rattle.std.specs.Prelude.{◌∷◌, ◌++◌}
use Rattle.std.specs.Prelude.{length, flat_map, Some, None, Ok}
use Rattle.ffv1_sum.specs.Sum.{crc_of, number_of as low_number}
use Rattle.ffv1_ebml.specs.Contents.{content_told}
use Rattle.ffv1_ebml.specs.Elements.{crc_ident, is_crc}
use Rattle.ffv1_ebml.specs.Spelled.{SaysSize}
use Rattle.ffv1_ebml.specs.Vints.{IsVint, data_of, number_of}
use Rattle.ffv1_matroska.specs.Blocks.{lacing_of}
use Rattle.ffv1_matroska.specs.Segments.{block, block_group, cluster, is_beside, is_filler}
use Rattle.ffv1_matroska.specs.Segments.{is_of_cluster, is_section, simple_block}
use Rattle.ffv1_matroska.specs.Blocks.{is_unknown}
use Rattle.ffv1_reads.specs.Head.{frame_limit}
use Rattle.ffv1_matroska.specs.declared.track.TrackNumbers.{TrackNumbers}

-- these bytes are an ID (RFC 8794, 5), which is compared with all its bits
abbrev pub SaysIdent : List ℕ → ℕ → Type 0
SaysIdent bytes ident = IsVint bytes × (length bytes ≤ 4) × (number_of bytes ≡ ident)

-- what an element holds that is not divided: bytes that are no block; a block of another track,
-- by its track number and what comes after that; or a block of the track, by its track number, two
-- bytes of time, its flags and its frame (RFC 9559, 10.1 and 10.2)
pub data Content : Type 0 where
  Plain : List ℕ → Content
  Other : List ℕ → List ℕ → Content
  Own : List ℕ → List ℕ → ℕ → List ℕ → Content

abbrev pub content_text : Content → List ℕ
content_text (Plain bytes) = bytes
content_text (Other number rest) = number ++ rest
content_text (Own number time flags frame) = number ++ ((time ++ flags ∷ []) ++ frame)

abbrev pub content_frames : Content → List (List ℕ)
content_frames (Plain bytes) = []
content_frames (Other number rest) = []
content_frames (Own number time flags frame) = frame ∷ []

-- a track number, as a size is one
abbrev pub SaysTrack : List ℕ → ℕ → Type 0
SaysTrack bytes track = IsVint bytes × (length bytes ≤ 8) × (data_of bytes ≡ track)

-- a block of the track has no lacing, and a frame that has bytes, and not too many
pub record IsOwn (track : TrackNumbers) (number time : List ℕ) (flags : ℕ) (frame : List ℕ)
    : Type 0 where
  pub own : SaysTrack number track.number
  pub timed : length time ≡ 2
  pub unlaced : lacing_of flags ≡ 0
  pub some : 0 < length frame
  pub short : length frame ≤ frame_limit

-- what an element holds that is a block of the track or of another one, or is none
abbrev pub IsContent : TrackNumbers → Bool → Content → Type 0
IsContent track is_block (Plain bytes) = is_block ≡ false
IsContent track is_block (Other number rest) =
    (is_block ≡ true) × IsVint number × (length number ≤ 8) × (data_of number ≡ track.number → ⊥)
    × (is_unknown track.known (data_of number) ≡ false)
IsContent track is_block (Own number time flags frame) =
    (is_block ≡ true) × IsOwn track number time flags frame

-- an element that is not divided: its ID, its size and what it holds
pub record Leaf : Type 0 where
  pub ident : List ℕ
  pub size : List ℕ
  pub content : Content

abbrev pub leaf_text : Leaf → List ℕ
leaf_text l = (l.ident ++ l.size) ++ content_text l.content

abbrev pub leaf_frames : Leaf → List (List ℕ)
leaf_frames l = content_frames l.content

-- it is a block if it has this ID
pub record IsLeaf (kind : ℕ) (track : TrackNumbers) (l : Leaf) : Type 0 where
  pub named : IsVint l.ident
  pub few : length l.ident ≤ 4
  pub sized : SaysSize l.size (Some (length (content_text l.content)))
  pub holds : IsContent track (number_of l.ident == kind) l.content

abbrev pub leaves_text : List Leaf → List ℕ
leaves_text ls = flat_map leaf_text ls

abbrev pub leaves_frames : List Leaf → List (List ℕ)
leaves_frames ls = flat_map leaf_frames ls

abbrev pub AreLeaves : ℕ → TrackNumbers → List Leaf → Type 0
AreLeaves kind track [] = Unit {0}
AreLeaves kind track (l ∷ ls) = IsLeaf kind track l × AreLeaves kind track ls

-- one of these has this ID
abbrev pub HasIdent : ℕ → List Leaf → Type 0
HasIdent ident [] = ⊥
HasIdent ident (l ∷ ls) = (number_of l.ident ≡ ident) ⊎ HasIdent ident ls

-- an element of a Cluster (5.1.3): one that is not divided; or a BlockGroup (5.1.3.5), by its ID,
-- its size and its elements
pub data Piece : Type 0 where
  Single : Leaf → Piece
  Group : List ℕ → List ℕ → List Leaf → Piece

abbrev pub piece_ident : Piece → ℕ
piece_ident (Single l) = number_of l.ident
piece_ident (Group ident size ls) = number_of ident

abbrev pub piece_text : Piece → List ℕ
piece_text (Single l) = leaf_text l
piece_text (Group ident size ls) = (ident ++ size) ++ leaves_text ls

abbrev pub piece_frames : Piece → List (List ℕ)
piece_frames (Single l) = leaf_frames l
piece_frames (Group ident size ls) = leaves_frames ls

-- an element that is not divided and may stand in a Cluster: a SimpleBlock, or one beside blocks
abbrev pub stands_single : ℕ → ℕ → Bool
stands_single ident size = ident == simple_block || is_beside ident size

-- a SimpleBlock holds a block, and so does a Block of a BlockGroup, which has at least one
abbrev pub IsPiece : TrackNumbers → Piece → Type 0
IsPiece track (Single l) =
    IsLeaf simple_block track l × ((number_of l.ident == block_group) ≡ false)
    × (stands_single (number_of l.ident) (length (content_text l.content)) ≡ true)
IsPiece track (Group ident size ls) =
    SaysIdent ident block_group × SaysSize size (Some (length (leaves_text ls)))
    × AreLeaves block track ls × HasIdent block ls

abbrev pub pieces_text : List Piece → List ℕ
pieces_text ps = flat_map piece_text ps

abbrev pub pieces_frames : List Piece → List (List ℕ)
pieces_frames ps = flat_map piece_frames ps

abbrev pub ArePieces : TrackNumbers → List Piece → Type 0
ArePieces track [] = Unit {0}
ArePieces track (p ∷ ps) = IsPiece track p × ArePieces track ps

-- if the first element of a Cluster is a CRC-32 of 4 bytes, they are the sum of all that comes
-- after it in the Cluster, low end first (RFC 8794, 11.3.1)
abbrev pub AreSummed : List Piece → Type 0
AreSummed [] = Unit {0}
AreSummed (Single l ∷ ps) =
    is_crc (number_of l.ident) (length (content_text l.content)) ≡ true →
    low_number (content_text l.content) ≡ crc_of (pieces_text ps)
AreSummed (Group ident size ls ∷ ps) = Unit {0}

-- after the header of a Cluster of unknown size may stand what only a Cluster has, and what may
-- stand anywhere; all else ends it (RFC 8794, 6.2)
abbrev pub AreLoose : List Piece → Type 0
AreLoose [] = Unit {0}
AreLoose (p ∷ ps) =
    ((is_of_cluster (piece_ident p) || is_filler (piece_ident p)) ≡ true) × AreLoose ps

-- an element of a Segment that holds no frames: its ID, its size and its content
pub record TopLevel : Type 0 where
  pub ident : List ℕ
  pub size : List ℕ
  pub content : List ℕ

abbrev pub top_text : TopLevel → List ℕ
top_text t = (t.ident ++ t.size) ++ t.content

-- it is one that is known, or may stand anywhere; the CRC-32 of one that is known is right, if
-- its content begins with one
pub record IsTopLevel (t : TopLevel) : Type 0 where
  pub named : IsVint t.ident
  pub few : length t.ident ≤ 4
  pub sized : SaysSize t.size (Some (length t.content))
  pub known : (is_section (number_of t.ident) || is_filler (number_of t.ident)) ≡ true
  pub told : is_section (number_of t.ident) ≡ true → content_told t.content ≡ Ok tt

abbrev pub tops_text : List TopLevel → List ℕ
tops_text ts = flat_map top_text ts

abbrev pub AreTopLevel : List TopLevel → Type 0
AreTopLevel [] = Unit {0}
AreTopLevel (t ∷ ts) = IsTopLevel t × AreTopLevel ts

-- a part of a Segment: an element without frames; a Cluster of known size, by its ID, its size
-- and its elements; or one of unknown size, whose elements stand after its header
pub data Part : Type 0 where
  Top : TopLevel → Part
  Sized : List ℕ → List ℕ → List Piece → Part
  Unsized : List ℕ → List ℕ → List Piece → Part

abbrev pub part_text : Part → List ℕ
part_text (Top t) = top_text t
part_text (Sized ident size ps) = (ident ++ size) ++ pieces_text ps
part_text (Unsized ident size ps) = (ident ++ size) ++ pieces_text ps

abbrev pub part_frames : Part → List (List ℕ)
part_frames (Top t) = []
part_frames (Sized ident size ps) = pieces_frames ps
part_frames (Unsized ident size ps) = pieces_frames ps

abbrev pub IsPart : TrackNumbers → Part → Type 0
IsPart track (Top t) = IsTopLevel t
IsPart track (Sized ident size ps) =
    SaysIdent ident cluster × SaysSize size (Some (length (pieces_text ps)))
    × ArePieces track ps × AreSummed ps
IsPart track (Unsized ident size ps) =
    SaysIdent ident cluster × SaysSize size None × ArePieces track ps × AreLoose ps

abbrev pub parts_text : List Part → List ℕ
parts_text ps = flat_map part_text ps

abbrev pub parts_frames : List Part → List (List ℕ)
parts_frames ps = flat_map part_frames ps

abbrev pub AreParts : TrackNumbers → List Part → Type 0
AreParts track [] = Unit {0}
AreParts track (p ∷ ps) = IsPart track p × AreParts track ps

-- the same in words, of its ID and its size: a SimpleBlock; Timestamp, Position or PrevSize of at
-- most 8 bytes; or SilentTracks, EncryptedBlock, Void or CRC-32
abbrev pub IsNumberIdent : ℕ → Type 0
IsNumberIdent ident = (ident ≡ 0xE7) ⊎ ((ident ≡ 0xA7) ⊎ (ident ≡ 0xAB))

abbrev pub IsPassedIdent : ℕ → Type 0
IsPassedIdent ident = (ident ≡ 0x5854) ⊎ ((ident ≡ 0xAF) ⊎ ((ident ≡ 0xEC) ⊎ (ident ≡ crc_ident)))

abbrev pub IsListed : ℕ → ℕ → Type 0
IsListed ident size =
    (ident ≡ simple_block) ⊎ ((IsNumberIdent ident × (size ≤ 8)) ⊎ IsPassedIdent ident)

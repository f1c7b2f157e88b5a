-- A file with an RIFF, or a first movi, whose size is not known, as chunks, apart from how it is
-- walked: from there on to the end of the file they stand one after the other.
use Rattle.std.specs.Prelude.{◌≡◌, ◌⊎◌, ℕ, ◌+◌, ◌-◌, ◌≤◌, ◌<◌, true, false, List, [], ◌∷◌}
use Rattle.std.specs.Prelude.{◌++◌, length, codes, flat_map}
use Rattle.byteorder.specs.Endian.{little_number}
use Rattle.ffv1_avi.specs.declared.place.Extent.TheVariants.{EveryRiff}
use Rattle.ffv1_avi.specs.declared.place.Names.{Names}
use Rattle.ffv1_avi.specs.declared.place.Open.{Open}
use Rattle.ffv1_avi.specs.declared.place.Open.TheVariants.{Sized, OpenRiff, OpenMovi}
use Rattle.ffv1_avi.specs.Begun.{parts_text}
use Rattle.ffv1_avi.specs.Chunks.{AreFrames, AreOthers, AreParts, AreTaken, Chunk, Fit, IsStream}
use Rattle.ffv1_avi.specs.Chunks.{Part, chunk_text, chunks_text, header_chunks, is_list, streams}
use Rattle.ffv1_avi.specs.Chunks.{those}
use Rattle.ffv1_avi.specs.Files.{has_form, room_in}
use Rattle.ffv1_avi.specs.Names.{opens}
use Rattle.ffv1_avi.specs.Opens.{goes_on}
use Rattle.ffv1_avi.specs.Padding.{padded}
use Rattle.ffv1_avi.specs.Places.{most_input}
use Rattle.ffv1_avi.specs.Riffs.{AreExtended, AreRiffs, AreSections, IsSection, Movi, Other, Riff}
use Rattle.ffv1_avi.specs.Riffs.{Section, movi_chunks, movis, names_of, riff_movis, riffs_text}
use Rattle.ffv1_avi.specs.Riffs.{section_text, sections_text, total}
use Rattle.ffv1_avi.specs.Walk.{is_known, is_name}
use Rattle.ffv1_reads.specs.Head.{Head}

-- what stands there: a further RIFF, by its size, as it is spelled; a list movi without size, up to
-- its own name; a chunk of such a movi; and a chunk of RIFF, or a movi of a known size
pub data Piece : Type 0 where
  Further : List ℕ → Piece
  Unsized : List ℕ → Piece
  Beside : Chunk → Piece
  Within : Section → Piece

abbrev pub piece_text : Piece → List ℕ
piece_text (Further size) = codes "RIFF" ++ size ++ codes "AVIX"
piece_text (Unsized size) = codes "LIST" ++ size ++ codes "movi"
piece_text (Beside c) = chunk_text c
piece_text (Within s) = section_text s

abbrev pub pieces_text : List Piece → List ℕ
pieces_text pieces = flat_map piece_text pieces

-- the chunks of a movi among them
abbrev pub piece_chunks : Piece → List Chunk
piece_chunks (Further size) = []
piece_chunks (Unsized size) = []
piece_chunks (Beside c) = c ∷ []
piece_chunks (Within s) = movi_chunks s

abbrev pub pieces_chunks : List Piece → List Chunk
pieces_chunks pieces = flat_map piece_chunks pieces

-- where a piece leads: into a movi without size, or into an RIFF without one
abbrev pub leads_to : Piece → Open
leads_to (Further size) = OpenRiff
leads_to (Unsized size) = OpenMovi
leads_to (Beside c) = OpenMovi
leads_to (Within s) = OpenRiff

-- another chunk of RIFF is no RIFF, and no list without size
abbrev pub IsWithin : Names → ℕ → Open → Section → Type 0
IsWithin names input open_in (Movi size cs) =
    IsSection names (Movi size cs) × (is_known (little_number 4 size) ≡ true)
    × (goes_on open_in (codes "LIST") ≡ false) × (8 + padded (little_number 4 size) < input)
IsWithin names input open_in (Other c) =
    IsSection names (Other c) × (is_name c.name (codes "RIFF") ≡ false)
    × (is_name c.name (codes "LIST") ≡ true → is_known (little_number 4 c.size) ≡ true)
    × (goes_on open_in c.name ≡ false) × (8 + padded (little_number 4 c.size) < input)

-- what may stand in an RIFF or a movi without size, if so many bytes are read at most; a movi goes
-- on with its chunks to an index or an RIFF
abbrev pub IsPiece : Names → ℕ → Open → Piece → Type 0
IsPiece names input open_in (Further size) = (length size ≡ 4) × (12 < input)
IsPiece names input open_in (Unsized size) =
    (length size ≡ 4) × (is_known (little_number 4 size) ≡ false)
    × (goes_on open_in (codes "LIST") ≡ false) × (12 < input)
IsPiece names input open_in (Beside c) =
    AreTaken (opens names) (c ∷ []) × (is_name c.name (codes "RIFF") ≡ false)
    × (goes_on open_in c.name ≡ true) × (8 + padded (little_number 4 c.size) < input)
IsPiece names input open_in (Within s) = IsWithin names input open_in s

abbrev pub ArePieces : Names → ℕ → Open → List Piece → Type 0
ArePieces names input open_in [] = Unit {0}
ArePieces names input open_in (p ∷ ps) =
    IsPiece names input open_in p × ArePieces names (input - length (piece_text p)) (leads_to p) ps

-- the first one is an RIFF whose size is not known
abbrev pub BeginsOpen : List Piece → Type 0
BeginsOpen (Further size ∷ ps) = is_known (little_number 4 size) ≡ false
BeginsOpen ps = ⊥

-- the sizes of RIFF and of the first movi, and how many bytes of RIFF stand before that movi
pub record Sizes : Type 0 where
  pub riff : ℕ
  pub before : ℕ
  pub movi : ℕ

abbrev pub sizes_of : List ℕ → ℕ → List ℕ → Sizes
sizes_of riff_size long movi_size =
    record { riff = little_number 4 riff_size; before = long; movi = little_number 4 movi_size }

-- where the first size stands that is not known: that of the first movi, which does not fit in RIFF
-- with it; of the first RIFF, or of a further one
pub record OpensMovi (names : Names) (sizes : Sizes) (chunks : List Chunk) (sections : List Section)
    (riffs : List Riff) (pieces : List Piece) : Type 0 where
  pub unknown : is_known sizes.movi ≡ false
  pub formed : has_form EveryRiff sizes.riff ≡ true
  pub room : sizes.before + 12 ≤ room_in EveryRiff sizes.riff
  pub bare : 4 ≤ sizes.movi → room_in EveryRiff sizes.riff < sizes.before + (8 + padded sizes.movi)
  pub no_chunks : chunks ≡ []
  pub no_sections : sections ≡ []
  pub no_riffs : riffs ≡ []
  pub are : ArePieces names most_input OpenMovi pieces

pub record OpensRiff (names : Names) (sizes : Sizes) (chunks : List Chunk) (sections : List Section)
    (riffs : List Riff) (pieces : List Piece) : Type 0 where
  pub unknown : is_known sizes.riff ≡ false
  pub formed : has_form EveryRiff sizes.riff ≡ true
  pub counted : sizes.movi ≡ 4 + length (chunks_text chunks)
  pub fit : Fit 0 chunks
  pub room : sizes.before + (8 + sizes.movi) ≤ room_in EveryRiff sizes.riff
  pub no_sections : sections ≡ []
  pub no_riffs : riffs ≡ []
  pub are : ArePieces names most_input OpenRiff pieces

pub record OpensBehind (names : Names) (sizes : Sizes) (chunks : List Chunk)
    (sections : List Section) (riffs : List Riff) (pieces : List Piece) : Type 0 where
  pub known : is_known sizes.riff ≡ true
  pub counted : sizes.movi ≡ 4 + length (chunks_text chunks)
  pub fit : Fit 0 chunks
  pub filled : sizes.riff ≡ 4 + sizes.before + (8 + sizes.movi) + length (sections_text sections)
  pub sections_are : AreSections names sections
  pub riffs_are : AreRiffs names riffs
  pub bounded : length (riffs_text riffs) < most_input
  pub begins : BeginsOpen pieces
  pub are : ArePieces names (most_input - length (riffs_text riffs)) Sized pieces

abbrev pub Opens : Names → Sizes → List Chunk → List Section → List Riff → List Piece → Type 0
Opens names sizes chunks sections riffs pieces =
    OpensMovi names sizes chunks sections riffs pieces
    ⊎ (OpensRiff names sizes chunks sections riffs pieces
    ⊎ OpensBehind names sizes chunks sections riffs pieces)

-- a file with this head and these frames of which an RIFF, or the first movi, has no size: what
-- comes before the first such size is as in any file; what comes after it ends with the file
pub record OpenFile (file : List ℕ) (head : Head) (frames : List (List ℕ)) : Type 0 where
  pub riff_size : List ℕ
  pub parts : List Part
  pub movi_size : List ℕ
  pub chunks : List Chunk
  pub sections : List Section
  pub riffs : List Riff
  pub pieces : List Piece
  pub before : List Chunk
  pub stream : Chunk
  pub after : List Chunk
  pub extended : List (List Chunk)
  pub bytes : file ≡ (codes "RIFF" ++ riff_size ++ codes "AVI ")
      ++ (parts_text parts ++ ((codes "LIST" ++ movi_size ++ codes "movi")
      ++ (chunks_text chunks
      ++ (sections_text sections ++ (riffs_text riffs ++ pieces_text pieces)))))
  pub riff_sized : length riff_size ≡ 4
  pub movi_sized : length movi_size ≡ 4
  pub each : AreParts parts
  pub opens_so : Opens (names_of before (streams parts))
      (sizes_of riff_size (length (parts_text parts)) movi_size) chunks sections riffs pieces
  pub streams_are : streams parts ≡ before ++ stream ∷ after
  pub others : AreOthers EveryRiff before
  pub few : length before < 100
  pub says : IsStream EveryRiff stream head
  pub extended_are : AreExtended (those (is_list (codes "odml")) (flat_map header_chunks parts))
      extended
  pub framed : AreFrames (names_of before (streams parts))
      (chunks ++ (movis sections ++ (riff_movis riffs ++ pieces_chunks pieces))) frames
  pub enough : total extended ≤ length frames

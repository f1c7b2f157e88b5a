-- A file as lists of chunks, apart from how it is walked.
use Rattle.std.specs.Prelude.{◌≡◌, ◌⊎◌, ℕ, ◌+◌, ◌≤◌, ◌<◌, ◌%◌, ◌^◌, ◌&&◌, ◌==◌, Bool, true, false}
use Rattle.std.specs.Prelude.{if◌then◌else◌, List, [], ◌∷◌, ◌++◌, length, take, codes, flat_map}
use Rattle.std.specs.Prelude.{◌||◌, map, nat_lt, Option, Some, None}
use Rattle.byteorder.specs.Endian.{little_number}
use Rattle.ffv1_avi.specs.declared.place.Extent.{Extent}
use Rattle.ffv1_avi.specs.declared.place.Extent.TheVariants.{FirstMovi, EveryRiff}
use Rattle.ffv1_avi.specs.declared.place.Names.{Names}
use Rattle.ffv1_avi.specs.declared.place.Names.TheVariants.{Any, Closed}
use Rattle.ffv1_avi.specs.Names.{is_barred, is_frame, least_bytes, most_bytes, most_in, opens}
use Rattle.ffv1_reads.specs.Colour.{unsaid}
use Rattle.ffv1_reads.specs.Head.{Head, limit}
use Rattle.ffv1_avi.specs.Padding.{padded}
use Rattle.ffv1_avi.specs.Walk.{is_name}
use Rattle.ffv1_avi.specs.Streams.{rates_of, format_of}
use Rattle.ffv1_avi.specs.Written.{most, riff_size}

-- a chunk: its name, its size as it is spelled, its bytes and its padding
pub record Chunk : Type 0 where
  pub name : List ℕ
  pub size : List ℕ
  pub bytes : List ℕ
  pub padding : List ℕ

-- a name and a size of four bytes each, as many bytes as the size says, and one more if they are
-- odd; a list has room for a name of its own
pub record IsChunk (c : Chunk) : Type 0 where
  pub named : length c.name ≡ 4
  pub sized : length c.size ≡ 4
  pub counted : little_number 4 c.size ≡ length c.bytes
  pub padded : length c.padding ≡ length c.bytes % 2
  pub listed : is_name c.name (codes "LIST") ≡ true → 4 ≤ length c.bytes

abbrev pub AreChunks : List Chunk → Type 0
AreChunks [] = Unit {0}
AreChunks (c ∷ cs) = IsChunk c × AreChunks cs

-- a list that is opened, up to its own name: its size counts the chunks after that
pub record IsOpened (c : Chunk) : Type 0 where
  pub named : c.name ≡ codes "LIST"
  pub sized : length c.size ≡ 4
  pub room : 4 ≤ little_number 4 c.size
  pub own : length c.bytes ≡ 4
  pub none_padded : length c.padding ≡ 0

abbrev pub chunk_text : Chunk → List ℕ
chunk_text c = c.name ++ c.size ++ c.bytes ++ c.padding

abbrev pub chunks_text : List Chunk → List ℕ
chunks_text cs = flat_map chunk_text cs

-- whether a chunk has this name
abbrev pub is_named : List ℕ → Chunk → Bool
is_named name c = is_name c.name name

-- whether a chunk is a list of this own name
abbrev pub is_list : List ℕ → Chunk → Bool
is_list own c = is_named (codes "LIST") c && is_name (take 4 c.bytes) own

-- a chunk of a list that opens the lists in it: no list, or one up to its own name
abbrev pub IsBeside : Chunk → Type 0
IsBeside c = (IsChunk c × (is_named (codes "LIST") c ≡ false)) ⊎ IsOpened c

abbrev pub AreBeside : List Chunk → Type 0
AreBeside [] = Unit {0}
AreBeside (c ∷ cs) = IsBeside c × AreBeside cs

-- the chunks of a list, by whether it opens the lists in it
abbrev pub AreTaken : Bool → List Chunk → Type 0
AreTaken false cs = AreChunks cs
AreTaken true cs = AreBeside cs

-- each fits by the size that it says, a list that is opened too, in a list with so many bytes after
-- them
abbrev pub Fit : ℕ → List Chunk → Type 0
Fit more [] = Unit {0}
Fit more (c ∷ cs) =
    (8 + padded (little_number 4 c.size) ≤ length (chunks_text (c ∷ cs)) + more) × Fit more cs

-- the chunks that pass a test
abbrev pub those : (Chunk → Bool) → List Chunk → List Chunk
those test [] = []
those test (c ∷ cs) = if test c then c ∷ those test cs else those test cs

-- the first chunk that passes a test
abbrev pub first_of : List Chunk → Option Chunk
first_of [] = None
first_of (c ∷ cs) = Some c

-- a chunk of RIFF: a list hdrl, by its chunks, or another one
pub data Part : Type 0 where
  Header : List ℕ → List Chunk → List ℕ → Part
  Other : Chunk → Part

-- the chunk that it is
abbrev pub part_chunk : Part → Chunk
part_chunk (Header size cs padding) =
    record {
      name = codes "LIST";
      size = size;
      bytes = codes "hdrl" ++ chunks_text cs;
      padding = padding;
    }
part_chunk (Other c) = c

-- the chunks in it, of a header
abbrev pub header_chunks : Part → List Chunk
header_chunks (Header size cs padding) = cs
header_chunks (Other c) = []

-- what may stand in RIFF before movi
abbrev pub IsPart : Part → Type 0
IsPart (Header size cs padding) = IsChunk (part_chunk (Header size cs padding)) × AreChunks cs
IsPart (Other c) =
    IsChunk c × (is_list (codes "hdrl") c ≡ false) × (is_list (codes "movi") c ≡ false)

abbrev pub AreParts : List Part → Type 0
AreParts [] = Unit {0}
AreParts (p ∷ ps) = IsPart p × AreParts ps

-- the streams of a file, in order
abbrev pub streams : List Part → List Chunk
streams parts = those (is_list (codes "strl")) (flat_map header_chunks parts)

-- what the first header and the first format of a stream say is this head, and nothing is said of
-- its colours
pub record Says (extent : Extent) (fields : List Chunk) (head : Head) : Type 0 where
  pub header : Chunk
  pub format : Chunk
  pub first_header : first_of (those (is_named (codes "strh")) fields) ≡ Some header
  pub first_format : first_of (those (is_named (codes "strf")) fields) ≡ Some format
  pub short : length format.bytes ≤ limit
  pub video : rates_of header.bytes ≡ Some (head.rate, head.scale)
  pub ffv1 : format_of extent format.bytes
      ≡ Some (record {
        width = head.width;
        height = head.height;
        config_record = head.config_record;
      })
  pub both : (head.rate == 0) ≡ (head.scale == 0)
  pub plain : head.colour ≡ unsaid

-- what a chunk says, if it is there and says anything
abbrev pub says_of : {X : Type 0} → (List ℕ → Option X) → Option Chunk → Option X
says_of says None = None
says_of says (Some c) = says c.bytes

-- what the first header and the first format of a stream say is no FFV1 video
pub record SaysOther (extent : Extent) (fields : List Chunk) : Type 0 where
  pub short : (format : Chunk) → first_of (those (is_named (codes "strf")) fields) ≡ Some format →
      length format.bytes ≤ limit
  pub other : (says_of rates_of (first_of (those (is_named (codes "strh")) fields)) ≡ None)
      ⊎ (says_of (format_of extent) (first_of (those (is_named (codes "strf")) fields)) ≡ None)

-- the number of frames that a chunk dmlh of these bytes says, if none did before
abbrev pub total_next : List ℕ → Option ℕ → Option ℕ
total_next bytes None =
    if nat_lt (length bytes) 4 then None else Some (little_number 4 bytes)
total_next bytes (Some frames) = Some frames

-- a stream's list has this head
pub record IsStream (extent : Extent) (stream : Chunk) (head : Head) : Type 0 where
  pub fields : List Chunk
  pub bytes : stream.bytes ≡ codes "strl" ++ chunks_text fields
  pub each : AreChunks fields
  pub says : Says extent fields head

-- a stream's list is no FFV1 video; if the first movi alone is read, there is no stream of this
-- kind
pub record IsOther (extent : Extent) (stream : Chunk) : Type 0 where
  pub extent_is : extent ≡ EveryRiff
  pub fields : List Chunk
  pub bytes : stream.bytes ≡ codes "strl" ++ chunks_text fields
  pub each : AreChunks fields
  pub says : SaysOther extent fields

abbrev pub AreOthers : Extent → List Chunk → Type 0
AreOthers extent [] = Unit {0}
AreOthers extent (s ∷ ss) = IsOther extent s × AreOthers extent ss

-- frames that have bytes, and at most so many
abbrev pub AreSized : ℕ → List (List ℕ) → Type 0
AreSized bound [] = Unit {0}
AreSized bound (f ∷ fs) = (0 < length f) × (length f ≤ bound) × AreSized bound fs

-- frames of at least so many bytes, and at most so many
abbrev pub AreWithin : ℕ → ℕ → List (List ℕ) → Type 0
AreWithin least bound [] = Unit {0}
AreWithin least bound (f ∷ fs) =
    (least ≤ length f) × (length f ≤ bound) × AreWithin least bound fs

-- whether a chunk is a list that is taken as more than this own name, or as another one
abbrev pub is_other_list : List ℕ → Chunk → Bool
is_other_list own c =
    if is_named (codes "LIST") c then (if is_name c.bytes own then false else true) else false

-- a chunk that may not stand in movi, by its name or, if every RIFF is read, as a list other than
-- the beginning of a list `rec `
abbrev pub barred_in : Names → Chunk → Bool
barred_in Any c = is_barred Any c.name
barred_in (Closed stream streams) c =
    is_barred (Closed stream streams) c.name || is_other_list (codes "rec ") c

-- a chunk that is a frame
abbrev pub frame_in : Names → Chunk → Bool
frame_in names c = is_frame names c.name

-- the frames are those chunks of movi that are frames by their name, and it has none that may not
-- stand there; if every RIFF is read, one of no bytes repeats the frame before it, and the chunks
-- of a list `rec ` are those of movi
pub record AreFrames (names : Names) (chunks : List Chunk) (frames : List (List ℕ))
    : Type 0 where
  pub each : AreTaken (opens names) chunks
  pub none_barred : those (barred_in names) chunks ≡ []
  pub those_of : map (λ (c : Chunk). c.bytes) (those (frame_in names) chunks) ≡ frames
  pub sized : AreWithin (least_bytes names) (most_bytes names) frames

-- a file with this head and these frames: RIFF with its parts and then the first movi, which fits
-- in it; after the chunks of movi may stand whatever does
pub record AviFile (file : List ℕ) (head : Head) (frames : List (List ℕ)) : Type 0 where
  pub riff_size : List ℕ
  pub parts : List Part
  pub movi_size : List ℕ
  pub chunks : List Chunk
  pub rest : List ℕ
  pub stream : Chunk
  pub others : List Chunk
  pub bytes : file ≡ (codes "RIFF" ++ riff_size ++ codes "AVI ")
      ++ (flat_map (λ p. chunk_text (part_chunk p)) parts
      ++ ((codes "LIST" ++ movi_size ++ codes "movi") ++ (chunks_text chunks ++ rest)))
  pub riff_sized : length riff_size ≡ 4
  pub movi_sized : length movi_size ≡ 4
  pub counted : little_number 4 movi_size ≡ 4 + length (chunks_text chunks)
  pub fits : 4 + length
      (flat_map (λ p. chunk_text (part_chunk p)) parts) + (8 + padded
      (little_number 4 movi_size)) ≤ little_number 4 riff_size
  pub each : AreParts parts
  pub first : streams parts ≡ stream ∷ others
  pub says : IsStream FirstMovi stream head
  pub framed : AreFrames Any chunks frames

-- a file whose first movi begins after these parts of RIFF, in which it fits
pub record MoviBegins (file : List ℕ) (parts : List Part) (rest : List ℕ) : Type 0 where
  pub riff_size : List ℕ
  pub movi_size : List ℕ
  pub bytes : file ≡ (codes "RIFF" ++ riff_size ++ codes "AVI ")
      ++ (flat_map (λ p. chunk_text (part_chunk p)) parts
      ++ ((codes "LIST" ++ movi_size ++ codes "movi") ++ rest))
  pub riff_sized : length riff_size ≡ 4
  pub movi_sized : length movi_size ≡ 4
  pub movi_named : 4 ≤ little_number 4 movi_size
  pub fits : 4 + length
      (flat_map (λ p. chunk_text (part_chunk p)) parts) + (8 + padded
      (little_number 4 movi_size)) ≤ little_number 4 riff_size
  pub each : AreParts parts

-- a header in a list with so many bytes left, whose chunk passes that list
pub record Passes (left : ℕ) (name size : List ℕ) : Type 0 where
  pub named : length name ≡ 4
  pub sized : length size ≡ 4
  pub header : 8 ≤ left
  pub passes : left < 8 + padded (little_number 4 size)

-- what is written so that it can be read so far: numbers of 32 bits, rate and scale both zero or
-- neither, frames and a format that are not too long, and a size of RIFF that is not too great
pub record IsWritable (extent : Extent) (head : Head) (frames : List (List ℕ)) : Type 0 where
  pub width : head.width < 2 ^ 32
  pub height : head.height < 2 ^ 32
  pub rate : head.rate < 2 ^ 32
  pub scale : head.scale < 2 ^ 32
  pub both : (head.rate == 0) ≡ (head.scale == 0)
  pub short : 40 + length head.config_record ≤ limit
  pub sized : AreSized (most_in extent) frames
  pub small : riff_size head frames ≤ most

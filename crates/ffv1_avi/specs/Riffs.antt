-- A file of one or more RIFFs as lists of chunks, apart from how it is walked.
use Rattle.std.specs.Prelude.{◌≡◌, ℕ, ◌+◌, ◌≤◌, ◌<◌, ◌&&◌, Bool, true, false, min, nat_le}
use Rattle.std.specs.Prelude.{List, []}
use Rattle.std.specs.Prelude.{◌∷◌, ◌++◌}
use Rattle.std.specs.Prelude.{length, codes, flat_map, Option, Some, None}
use Rattle.byteorder.specs.Endian.{little_number}
use Rattle.ffv1_avi.specs.declared.place.Extent.TheVariants.{EveryRiff}
use Rattle.ffv1_avi.specs.declared.place.Names.{Names}
use Rattle.ffv1_avi.specs.declared.place.Names.TheVariants.{Closed}
use Rattle.ffv1_avi.specs.Begun.{parts_text}
use Rattle.ffv1_avi.specs.Chunks.{AreChunks, AreFrames, AreOthers, AreParts, Chunk, Fit, IsChunk}
use Rattle.ffv1_avi.specs.Chunks.{IsStream, Part, chunk_text, chunks_text, first_of, frame_in}
use Rattle.ffv1_avi.specs.Chunks.{header_chunks, is_list, is_named, streams, those}
use Rattle.ffv1_reads.specs.Head.{Head}
use Rattle.ffv1_avi.specs.Places.{most_input}
use Rattle.ffv1_avi.specs.Walk.{is_known}

-- a chunk of an RIFF after its first movi, or of one of the RIFFs after the first: a list movi, by
-- its size and its chunks, or another one
pub data Section : Type 0 where
  Movi : List ℕ → List Chunk → Section
  Other : Chunk → Section

abbrev pub section_text : Section → List ℕ
section_text (Movi size cs) = (codes "LIST" ++ size ++ codes "movi") ++ chunks_text cs
section_text (Other c) = chunk_text c

-- another one is no frame, by its name
abbrev pub IsSection : Names → Section → Type 0
IsSection names (Movi size cs) =
    (length size ≡ 4) × (little_number 4 size ≡ 4 + length (chunks_text cs)) × Fit 0 cs
IsSection names (Other c) =
    IsChunk c × (is_list (codes "movi") c ≡ false) × (frame_in names c ≡ false)

-- the chunks of a movi
abbrev pub movi_chunks : Section → List Chunk
movi_chunks (Movi size cs) = cs
movi_chunks (Other c) = []

abbrev pub sections_text : List Section → List ℕ
sections_text sections = flat_map section_text sections

abbrev pub AreSections : Names → List Section → Type 0
AreSections names [] = Unit {0}
AreSections names (s ∷ ss) = IsSection names s × AreSections names ss

-- the chunks of every movi
abbrev pub movis : List Section → List Chunk
movis sections = flat_map movi_chunks sections

-- an RIFF after the first: its size as it is spelled, and its chunks
pub record Riff : Type 0 where
  pub size : List ℕ
  pub sections : List Section

abbrev pub riff_text : Riff → List ℕ
riff_text r = (codes "RIFF" ++ r.size ++ codes "AVIX") ++ sections_text r.sections

pub record IsRiff (names : Names) (r : Riff) : Type 0 where
  pub sized : length r.size ≡ 4
  pub known : is_known (little_number 4 r.size) ≡ true
  pub counted : little_number 4 r.size ≡ 4 + length (sections_text r.sections)
  pub each : AreSections names r.sections

abbrev pub riffs_text : List Riff → List ℕ
riffs_text riffs = flat_map riff_text riffs

abbrev pub AreRiffs : Names → List Riff → Type 0
AreRiffs names [] = Unit {0}
AreRiffs names (r ∷ rs) = IsRiff names r × AreRiffs names rs

abbrev pub riff_movis : List Riff → List Chunk
riff_movis riffs = flat_map (λ (r : Riff). movis r.sections) riffs

-- the chunks of each list odml
abbrev pub AreExtended : List Chunk → List (List Chunk) → Type 0
AreExtended [] [] = Unit {0}
AreExtended [] (inner ∷ inners) = ⊥
AreExtended (c ∷ cs) [] = ⊥
AreExtended (c ∷ cs) (inner ∷ inners) =
    (c.bytes ≡ codes "odml" ++ chunks_text inner) × AreChunks inner × AreExtended cs inners

-- a chunk dmlh that says how many frames the file has
abbrev pub is_total : Chunk → Bool
is_total c = is_named (codes "dmlh") c && nat_le 4 (length c.bytes)

-- that number, of the first one; 0 if there is none
abbrev pub total_of : Option Chunk → ℕ
total_of None = 0
total_of (Some c) = little_number 4 c.bytes

abbrev pub total : List (List Chunk) → ℕ
total inners = total_of (first_of (those is_total (flat_map (λ (cs : List Chunk). cs) inners)))

-- which chunks stand in each movi, by the streams: after so many that do not count, and of how many
-- two digits can name
abbrev pub names_of : List Chunk → List Chunk → Names
names_of before all = Closed (length before) (min (length all) 100)

-- a file with this head and these frames: RIFF with its parts, the first movi and what is after it
-- in RIFF, and further RIFFs to the end. The first stream of FFV1 video counts, of the first 100;
-- the frames are its chunks in every movi, in order, and not fewer than dmlh says. No movi has
-- chunks beside them that may not stand there, and no frame stands in RIFF after a movi
pub record RiffFile (file : List ℕ) (head : Head) (frames : List (List ℕ)) : Type 0 where
  pub riff_size : List ℕ
  pub parts : List Part
  pub movi_size : List ℕ
  pub chunks : List Chunk
  pub sections : List Section
  pub riffs : List Riff
  pub before : List Chunk
  pub stream : Chunk
  pub after : List Chunk
  pub extended : List (List Chunk)
  pub bytes : file ≡ (codes "RIFF" ++ riff_size ++ codes "AVI ")
      ++ (parts_text parts ++ ((codes "LIST" ++ movi_size ++ codes "movi")
      ++ (chunks_text chunks ++ (sections_text sections ++ riffs_text riffs))))
  pub riff_sized : length riff_size ≡ 4
  pub riff_known : is_known (little_number 4 riff_size) ≡ true
  pub movi_sized : length movi_size ≡ 4
  pub counted : little_number 4 movi_size ≡ 4 + length (chunks_text chunks)
  pub fit : Fit 0 chunks
  pub filled : little_number 4 riff_size
      ≡ 4 + length (parts_text parts) + (8 + little_number 4 movi_size)
      + length (sections_text sections)
  pub each : AreParts parts
  pub sections_are : AreSections (names_of before (streams parts)) sections
  pub riffs_are : AreRiffs (names_of before (streams parts)) riffs
  pub bounded : length (riffs_text riffs) < most_input
  pub streams_are : streams parts ≡ before ++ stream ∷ after
  pub others : AreOthers EveryRiff before
  pub few : length before < 100
  pub says : IsStream EveryRiff stream head
  pub extended_are : AreExtended (those (is_list (codes "odml")) (flat_map header_chunks parts))
      extended
  pub framed : AreFrames (names_of before (streams parts))
      (chunks ++ (movis sections ++ riff_movis riffs)) frames
  pub enough : total extended ≤ length frames

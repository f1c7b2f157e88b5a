-- Beginnings of files, up to a position in one of the lists before movi: RIFF, hdrl, and the first
-- strl.
use Rattle.std.specs.Prelude.{◌≡◌, ℕ, ◌+◌, ◌≤◌, List, [], ◌∷◌, ◌++◌, length, codes, flat_map}
use Rattle.std.specs.Prelude.{Some}
use Rattle.byteorder.specs.Endian.{little_number}
use Rattle.ffv1_avi.specs.declared.place.Extent.TheVariants.{FirstMovi}
use Rattle.ffv1_reads.specs.Head.{Head, limit}
use Rattle.ffv1_avi.specs.Padding.{padded}
use Rattle.ffv1_avi.specs.Chunks.{AreChunks, AreParts, Chunk, IsStream, Part, chunk_text}
use Rattle.ffv1_avi.specs.Chunks.{chunks_text, first_of, is_list, is_named, part_chunk, those}

-- the chunks of parts of RIFF, one after the other
abbrev pub parts_text : List Part → List ℕ
parts_text parts = flat_map (λ p. chunk_text (part_chunk p)) parts

-- of some streams the first is FFV1, or there is none
abbrev pub AreReadable : List Chunk → Type 0
AreReadable [] = Unit {0}
AreReadable (stream ∷ others) = (head : Head) × IsStream FirstMovi stream head

-- a file of which RIFF has these parts, so many bytes more, and after the parts these bytes
pub record RiffBegins (file : List ℕ) (parts : List Part) (left : ℕ) (rest : List ℕ)
    : Type 0 where
  pub riff_size : List ℕ
  pub bytes : file ≡ (codes "RIFF" ++ riff_size ++ codes "AVI ") ++ (parts_text parts ++ rest)
  pub sized : length riff_size ≡ 4
  pub counted : little_number 4 riff_size ≡ 4 + length (parts_text parts) + left
  pub each : AreParts parts

-- a list of this name with these chunks begins, in a list with room for it: it has so many bytes
-- more, and after the chunks stand these bytes
pub record ListBegins (text : List ℕ) (room : ℕ) (own : List ℕ) (chunks : List Chunk) (left : ℕ)
    (rest : List ℕ) : Type 0 where
  pub size : List ℕ
  pub bytes : text ≡ (codes "LIST" ++ size) ++ (own ++ (chunks_text chunks ++ rest))
  pub sized : length size ≡ 4
  pub counted : little_number 4 size ≡ 4 + length (chunks_text chunks) + left
  pub fits : 8 + padded (little_number 4 size) ≤ room
  pub each : AreChunks chunks

-- a file up to a position in hdrl, after parts of RIFF and chunks of hdrl
pub record HeaderBegins (file : List ℕ) (parts : List Part) (chunks : List Chunk) (left : ℕ)
    (rest : List ℕ) : Type 0 where
  pub room : ℕ
  pub text : List ℕ
  pub riff : RiffBegins file parts room text
  pub header : ListBegins text room (codes "hdrl") chunks left rest

-- a file up to a position in strl, after chunks of it
pub record StreamBegins (file : List ℕ) (parts : List Part) (chunks fields : List Chunk)
    (left : ℕ) (rest : List ℕ) : Type 0 where
  pub room : ℕ
  pub text : List ℕ
  pub header : HeaderBegins file parts chunks room text
  pub stream : ListBegins text room (codes "strl") fields left rest

-- the first format of a stream, if there is one, is not too long
abbrev pub HasShortFormat : List Chunk → Type 0
HasShortFormat fields =
    (format : Chunk) → first_of (those (is_named (codes "strf")) fields) ≡ Some format →
    length format.bytes ≤ limit

-- the streams among some chunks of hdrl
abbrev pub streams_of : List Chunk → List Chunk
streams_of chunks = those (is_list (codes "strl")) chunks

-- What the beginning of an AVI says of it (Microsoft's AVI RIFF File Reference). What is not found
-- in it is unknown.
use Rattle.std.specs.Prelude.{ℕ, zero, suc, ◌+◌, if◌then◌else◌, nat_lt, Bool, List, [], ◌∷◌}
use Rattle.std.specs.Prelude.{codes}
use Rattle.std.specs.Prelude.{decimal, drop, length, take, Option, Some, None}
use Rattle.byteorder.specs.Endian.{little_number}
use Rattle.ffv1_avi.specs.Padding.{padded}
use Rattle.ffv1_avi.specs.Walk.{is_name}
use Rattle.ffv1_ebml.specs.Contents.{text_in}
use Rattle.ffv1_outline.specs.declared.facts.Form.{Form}
use Rattle.ffv1_outline.specs.Facts.{known_string, unknown_value, word_value}
use Rattle.ffv1_outline.specs.Durations.{frames_last}
use Rattle.ffv1_outline.specs.Tracks.{Step, entry, tracks_in}

-- a chunk: its name and its content, of which what the bytes lack is left out, and what comes after
-- it; a list by its own name and what comes after that
pub record Chunk : Type 0 where
  pub name : List ℕ
  pub content : List ℕ
  pub rest : List ℕ

abbrev pub chunk_of : List ℕ → List ℕ → List ℕ → Chunk
chunk_of name content rest =
    if is_name name (codes "LIST")
    then record { name = take 4 content; content = drop 4 content; rest = rest }
    else record { name = name; content = content; rest = rest }

abbrev pub chunk_sized : ℕ → List ℕ → Chunk
chunk_sized size bytes =
    chunk_of (take 4 bytes) (take size (drop 8 bytes)) (drop (8 + padded size) bytes)

-- the first chunk of some bytes: a name and a size of four bytes each, as many bytes as that says,
-- and one more if they are odd; none if they have no room for a name and a size
unfoldable pub first_chunk : List ℕ → Option Chunk
first_chunk bytes =
    if nat_lt (length bytes) 8 then None
    else Some (chunk_sized (little_number 4 (drop 4 bytes)) bytes)

abbrev pub chunk_or_on : List ℕ → (List ℕ → List ℕ) → Option Chunk → List ℕ
chunk_or_on name on None = []
chunk_or_on name on (Some c) = if is_name c.name name then c.content else on c.rest

-- the content of the first chunk or list of this name, among at most so many
unfoldable pub chunk_up_to : ℕ → List ℕ → List ℕ → List ℕ
chunk_up_to zero name bytes = []
chunk_up_to (suc most) name bytes = chunk_or_on name (chunk_up_to most name) (first_chunk bytes)

-- among all; no bytes if there is none
abbrev pub found_chunk : List ℕ → List ℕ → List ℕ
found_chunk name bytes = chunk_up_to (length bytes) name bytes

-- the chunks of RIFF, after its own name
abbrev pub riff : List ℕ → List ℕ
riff bytes = drop 12 bytes

-- ISFT of the list INFO
abbrev pub software_in : Form → List ℕ → List ℕ
software_in form riff =
    known_string form (text_in (found_chunk (codes "ISFT") (found_chunk (codes "INFO") riff)))

-- a step through the chunks of the list hdrl: a list strl, or another chunk
abbrev pub step_at : Option Chunk → Option Step
step_at None = None
step_at (Some c) =
    Some (record {
      track = if is_name c.name (codes "strl") then Some c.content else None;
      rest = c.rest;
    })

unfoldable pub avi_step : List ℕ → Option Step
avi_step bytes = step_at (first_chunk bytes)

-- fccType of a stream's header
unfoldable pub stream_kind : Form → List ℕ → List ℕ
stream_kind form name =
    if is_name name (codes "vids") then word_value form (codes "video")
    else if is_name name (codes "auds") then word_value form (codes "audio")
    else if is_name name (codes "txts") then word_value form (codes "subtitles")
    else known_string form name

-- wFormatTag of a format of audio
abbrev pub format_tag : Form → List ℕ → List ℕ
format_tag form format =
    if nat_lt (length format) 2 then unknown_value form else decimal (little_number 2 format)

-- biCompression of a video's format, wFormatTag of audio, else fccHandler of the header
unfoldable pub stream_codec : Form → List ℕ → List ℕ → List ℕ
stream_codec form header format =
    if is_name (take 4 header) (codes "vids")
    then known_string form (text_in (take 4 (drop 16 format)))
    else if is_name (take 4 header) (codes "auds") then format_tag form format
    else known_string form (text_in (take 4 (drop 4 header)))

-- a list strl, by its header and its format
abbrev pub stream_entry : Form → ℕ → List ℕ → List ℕ → List ℕ
stream_entry form n header format =
    entry form n (stream_kind form (take 4 header)) (stream_codec form header format)
    (unknown_value form)

abbrev pub avi_entry : Form → ℕ → List ℕ → List ℕ
avi_entry form n track =
    stream_entry form n (found_chunk (codes "strh") track) (found_chunk (codes "strf") track)

-- the header of a stream, if one stands there
abbrev pub header_in : Option (List ℕ) → List ℕ
header_in None = []
header_in (Some track) = found_chunk (codes "strh") track

abbrev pub is_video : List ℕ → Bool
is_video header = is_name (take 4 header) (codes "vids")

-- the header of the first stream of video; no bytes if there is none
unfoldable pub first_video : List (List ℕ) → List ℕ
first_video [] = []
first_video (track ∷ tracks) =
    if is_video (found_chunk (codes "strh") track) then found_chunk (codes "strh") track
    else first_video tracks

abbrev pub video_header : List ℕ → List ℕ
video_header hdrl = first_video (tracks_in avi_step hdrl)

-- its dwLength, which is how many frames there are
unfoldable pub frames_in : Form → List ℕ → List ℕ
frames_in form header =
    if nat_lt (length header) 36 then unknown_value form
    else decimal (little_number 4 (drop 32 header))

-- they last dwScale seconds by dwRate each
unfoldable pub video_lasts : List ℕ → Option ℕ
video_lasts header =
    if nat_lt (length header) 36 then None
    else frames_last (little_number 4 (drop 32 header)) (little_number 4 (drop 20 header))
    (little_number 4 (drop 24 header))

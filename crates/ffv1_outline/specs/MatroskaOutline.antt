-- What the beginning of a Matroska file says of it (RFC 9559). What is not found in it, or cannot
-- be read, is unknown.
use Rattle.std.specs.Prelude.{ℕ, zero, suc, ◌+◌, ◌==◌, if◌then◌else◌, List, [], ◌∷◌, codes, decimal}
use Rattle.std.specs.Prelude.{drop, length, slice_index, take, Option, Some, None, Result, Ok, Err}
use Rattle.ffv1_avi.specs.Walk.{is_name}
use Rattle.ffv1_reads.specs.declared.fault.FileFault.{FileFault}
use Rattle.ffv1_ebml.specs.Contents.{Found, Part, first_part, found, number_in, text_in}
use Rattle.ffv1_ebml.specs.Vints.{length_of}
use Rattle.ffv1_outline.specs.declared.facts.Form.{Form}
use Rattle.ffv1_outline.specs.Durations.{duration_of}
use Rattle.ffv1_outline.specs.Facts.{known_string, string_value, unknown_value, word_value}
use Rattle.ffv1_outline.specs.Tracks.{Step, entry}

abbrev pub content_of : Found → List ℕ
content_of (Ok (Some content)) = content
content_of (Ok None) = []
content_of (Err f) = []

-- the content of the first child with this ID, or no bytes if it is not found
unfoldable pub child : ℕ → List ℕ → List ℕ
child ident content = content_of (found ident content)

-- DocType, by the first element, the EBML header (RFC 8794, 11.2.6)
abbrev pub header_of : Result (Option Part) FileFault → List ℕ
header_of (Ok (Some p)) = p.content
header_of (Ok None) = []
header_of (Err f) = []

unfoldable pub doc_type : List ℕ → List ℕ
doc_type bytes = text_in (child 0x4282 (header_of (first_part bytes)))

-- the ID of Segment
abbrev pub segment_ident : List ℕ
segment_ident = 0x18 ∷ 0x53 ∷ 0x80 ∷ 0x67 ∷ []

-- the content of a Segment: what comes after its ID and its size, which is not looked at
unfoldable pub segment_content : List ℕ → List ℕ
segment_content bytes =
    if is_name (take 4 bytes) segment_ident
    then drop (4 + length_of (slice_index bytes 4)) bytes
    else []

-- what comes after the Void that some bytes begin with, by their first element; none if they begin
-- with no Void (RFC 8794, 11.3.2)
abbrev pub void_passed : Result (Option Part) FileFault → Option (List ℕ)
void_passed (Ok (Some p)) = if p.ident == 0xEC then Some p.rest else None
void_passed (Ok None) = None
void_passed (Err f) = None

unfoldable pub after_void : List ℕ → Option (List ℕ)
after_void bytes = void_passed (first_part bytes)

abbrev pub on_or_stay : List ℕ → (List ℕ → List ℕ) → Option (List ℕ) → List ℕ
on_or_stay bytes on None = bytes
on_or_stay bytes on (Some rest) = on rest

-- what comes after at most so many Voids
unfoldable pub after_voids_up_to : ℕ → List ℕ → List ℕ
after_voids_up_to zero bytes = bytes
after_voids_up_to (suc most) bytes =
    on_or_stay bytes (after_voids_up_to most) (after_void bytes)

-- after all, of which each has at least 2 bytes
abbrev pub after_voids : List ℕ → List ℕ
after_voids bytes = after_voids_up_to (length bytes) bytes

-- the Segment is what comes after the first element, the EBML header (11.2), and Voids
abbrev pub segment_after : Result (Option Part) FileFault → List ℕ
segment_after (Ok (Some p)) = segment_content (after_voids p.rest)
segment_after (Ok None) = []
segment_after (Err f) = []

unfoldable pub segment : List ℕ → List ℕ
segment bytes = segment_after (first_part bytes)

-- WritingApp of Info (5.1.2)
abbrev pub application_in : Form → List ℕ → List ℕ
application_in form info = known_string form (text_in (child 0x5741 info))

-- a step through the content of Tracks: a TrackEntry, or another element (5.1.4)
abbrev pub step_of : Result (Option Part) FileFault → Option Step
step_of (Ok (Some p)) =
    Some (record { track = if p.ident == 0xAE then Some p.content else None; rest = p.rest })
step_of (Ok None) = None
step_of (Err f) = None

unfoldable pub matroska_step : List ℕ → Option Step
matroska_step content = step_of (first_part content)

-- a TrackType (5.1.4.1.3), which is above 0
unfoldable pub type_value : Form → ℕ → List ℕ
type_value form n =
    if n == 0 then unknown_value form
    else if n == 1 then word_value form (codes "video")
    else if n == 2 then word_value form (codes "audio")
    else if n == 17 then word_value form (codes "subtitles")
    else decimal n

abbrev pub kind_of : Form → Result ℕ FileFault → List ℕ
kind_of form (Ok n) = type_value form n
kind_of form (Err f) = unknown_value form

-- LanguageBCP47, or else Language, which is "eng" by default (5.1.4.1.19, 5.1.4.1.20)
abbrev pub language_of : List ℕ → List ℕ → List ℕ
language_of tag name =
    if length tag == 0 then (if length name == 0 then codes "eng" else name) else tag

-- a TrackEntry: its TrackType, its CodecID and its language
abbrev pub matroska_entry : Form → ℕ → List ℕ → List ℕ
matroska_entry form n track =
    entry form n (kind_of form (number_in 0 (child 0x83 track)))
    (known_string form (text_in (child 0x86 track)))
    (string_value
    (language_of (text_in (child 0x22B59D track)) (text_in (child 0x22B59C track))))

-- Duration of Info, in units of its TimestampScale (5.1.2)
abbrev pub info_lasts : List ℕ → Option ℕ
info_lasts info = duration_of (child 0x2AD7B1 info) (child 0x4489 info)

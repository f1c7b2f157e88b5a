-- What a file says of itself beside its video, by its beginning.
use Rattle.std.specs.Prelude.{ℕ, ◌&&◌, if◌then◌else◌, List, [], ◌∷◌, ◌++◌, codes, drop, take}
use Rattle.std.specs.Prelude.{Option}
use Rattle.ffv1_avi.specs.Walk.{is_name}
use Rattle.ffv1_outline.specs.declared.facts.Form.{Form}
use Rattle.ffv1_outline.specs.declared.outline.Container.{Container}
use Rattle.ffv1_outline.specs.declared.outline.Container.TheVariants as containers
use Rattle.ffv1_outline.specs.declared.tracks.Layout.{Layout}
use Rattle.ffv1_outline.specs.declared.tracks.Layout.TheVariants as layouts
use Rattle.ffv1_outline.specs.Facts.{fact, unknown_fact, unknown_value, word_value}
use Rattle.ffv1_outline.specs.Tracks.{Step, entries, tracks_fact, tracks_in}
use Rattle.ffv1_outline.specs.MatroskaOutline.{application_in, child, info_lasts, matroska_entry}
use Rattle.ffv1_outline.specs.MatroskaOutline.{doc_type, matroska_step, segment}
use Rattle.ffv1_outline.specs.AviOutline.{avi_entry, avi_step, found_chunk, frames_in, riff}
use Rattle.ffv1_outline.specs.AviOutline.{software_in, video_header, video_lasts}
use Rattle.ffv1_outline.specs.Durations.{seconds}

-- what holds the video, by how the file begins: an EBML header (RFC 8794, 11.2), as Matroska has
-- it, and WebM; RIFF whose own name is AVI; the type of a file at the fifth byte
-- (ISO/IEC 14496-12, 4.3); or the label of a partition pack (SMPTE 377-1)
unfoldable pub container_of : List ℕ → Container
container_of bytes =
    if is_name (take 4 bytes) (0x1A ∷ 0x45 ∷ 0xDF ∷ 0xA3 ∷ [])
    then (if is_name (doc_type bytes) (codes "webm") then containers.WebM else containers.Matroska)
    else if is_name (take 4 bytes) (codes "RIFF") && is_name (take 4 (drop 8 bytes)) (codes "AVI ")
    then containers.Avi
    else if is_name (take 4 (drop 4 bytes)) (codes "ftyp") then containers.QuickTime
    else if is_name (take 4 bytes) (0x06 ∷ 0x0E ∷ 0x2B ∷ 0x34 ∷ []) then containers.Mxf
    else containers.Unknown

abbrev pub container_value : Form → Container → List ℕ
container_value form containers.Avi = word_value form (codes "AVI")
container_value form containers.Matroska = word_value form (codes "Matroska")
container_value form containers.Mxf = word_value form (codes "MXF")
container_value form containers.QuickTime = word_value form (codes "QuickTime")
container_value form containers.Unknown = unknown_value form
container_value form containers.WebM = word_value form (codes "WebM")

-- a step through what lists the tracks, and what a track is written as
abbrev pub step_in : Layout → List ℕ → Option Step
step_in layouts.Avi = avi_step
step_in layouts.Matroska = matroska_step

abbrev pub entry_in : Layout → Form → ℕ → List ℕ → List ℕ
entry_in layouts.Avi = avi_entry
entry_in layouts.Matroska = matroska_entry

unfoldable pub tracks_of : Layout → Form → List ℕ → List ℕ
tracks_of layout form content =
    tracks_fact form (entries (entry_in layout form) 1 (tracks_in (step_in layout) content))

-- of a Segment, by its content: what Info says, and Tracks; how many frames there are is not said
unfoldable pub info_facts : Form → List ℕ → List ℕ
info_facts form info =
    fact form (codes "application") (application_in form info)
    ++ fact form (codes "duration") (seconds form (info_lasts info))

unfoldable pub matroska_facts : Form → List ℕ → List ℕ
matroska_facts form segment =
    info_facts form (child 0x1549A966 segment) ++ unknown_fact form (codes "frames")
    ++ tracks_of layouts.Matroska form (child 0x1654AE6B segment)

-- of an AVI, by the chunks of its RIFF: what INFO says, and the streams, the first of video before
unfoldable pub video_facts : Form → List ℕ → List ℕ
video_facts form header =
    fact form (codes "duration") (seconds form (video_lasts header))
    ++ fact form (codes "frames") (frames_in form header)

unfoldable pub streams_facts : Form → List ℕ → List ℕ
streams_facts form hdrl = video_facts form (video_header hdrl) ++ tracks_of layouts.Avi form hdrl

unfoldable pub avi_facts : Form → List ℕ → List ℕ
avi_facts form riff =
    fact form (codes "application") (software_in form riff)
    ++ streams_facts form (found_chunk (codes "hdrl") riff)

-- more is said of Matroska, as which WebM is read, and of AVI alone
abbrev pub facts_of : Form → Container → List ℕ → List ℕ
facts_of form containers.Avi bytes = avi_facts form (riff bytes)
facts_of form containers.Matroska bytes = matroska_facts form (segment bytes)
facts_of form containers.Mxf bytes = []
facts_of form containers.QuickTime bytes = []
facts_of form containers.Unknown bytes = []
facts_of form containers.WebM bytes = matroska_facts form (segment bytes)

-- the container, and those
abbrev pub outline_facts : Form → List ℕ → List ℕ
outline_facts form bytes =
    fact form (codes "container") (container_value form (container_of bytes))
    ++ facts_of form (container_of bytes) bytes

-- What is noted of a file, by its bytes alone: what the end of its frames leaves in doubt.
use Rattle.std.specs.Prelude.{◌≡◌, ◌≤◌, ◌⊎◌, ◌-◌, ◌^◌, min, ℕ, Bool, true, false, List, [], ◌∷◌}
use Rattle.std.specs.Prelude.{◌++◌, length}
use Rattle.std.specs.Prelude.{Option, Some, None, Result, Ok, Err, ⊤}
use Rattle.std.proofs.Common.{suc}
use Rattle.ffv1_wire.specs.Passage.{Passage}
use Rattle.ffv1_reads.specs.Head.{Head}
use Rattle.ffv1_reads.specs.Known.{Known}
use Rattle.ffv1_reads.specs.Offsets.{ReadsWhole, offset_after}
use Rattle.ffv1_reads.specs.declared.fault.FileFault.{FileFault}
use Rattle.ffv1_avi.specs.Behind.{IsOver}
use Rattle.ffv1_avi.specs.Files.{frames_read, others_read}
use Rattle.ffv1_avi.specs.Places.{extent_of, is_open}
use Rattle.ffv1_avi.specs.declared.place.Open.TheVariants.{Sized}
use Rattle.ffv1_avi.specs.declared.place.Extent.TheVariants.{FirstMovi, EveryRiff}
use Rattle.ffv1_avi.specs.declared.place.Place.{Place as AviPlace}
use Rattle.ffv1_matroska.specs.Cues.{cued_taken}
use Rattle.ffv1_matroska.specs.Late.{again_read}
use Rattle.ffv1_matroska.specs.Opened.{Opened}
use Rattle.ffv1_matroska.specs.Places.{amount}
use Rattle.ffv1_matroska.specs.Scales.{tick_in}
use Rattle.ffv1_matroska.specs.Segments.{step_read}
use Rattle.ffv1_matroska.specs.Times.{timed_taken, times_begun}
use Rattle.ffv1_matroska.specs.declared.place.Place.{Place as MatroskaPlace}
use Rattle.ffv1_matroska.specs.declared.times.Times.{Times}
use Rattle.ffv1_matroska.specs.declared.track.TrackNumbers.{TrackNumbers}
use Rattle.ffv1_files.specs.Behind.{notes_of, notes_told}
use Rattle.ffv1_files.specs.Files.{file_read}
use Rattle.ffv1_files.specs.Offsets.{AviReached}
use Rattle.ffv1_files.specs.Places.{InAvi, InMatroska, Place, least_bytes}
use Rattle.ffv1_files.specs.Readers.{Standing}
use Rattle.ffv1_files.specs.declared.container.Scope.{Scope}
use Rattle.ffv1_files.specs.declared.container.Scope.TheVariants as scope
use Rattle.ffv1_files.specs.declared.notes.Notes.{Notes}

-- nothing is noted
abbrev pub no_notes : Notes
no_notes = record { is_open = false; others = 0; times = None; repeated = 0; after = None }

-- how many bytes of a file come before those that are left of it; it is held in 8 bytes
abbrev pub bytes_before : List ℕ → List ℕ → ℕ
bytes_before file left = offset_after 0 (length file - length left)

-- the same of bytes that stand after its end, if any do
abbrev pub stands_after : List ℕ → List ℕ → Option ℕ
stands_after file [] = None
stands_after file (b ∷ bs) = Some (bytes_before file (b ∷ bs))

-- how many frames have no bytes, each of which repeats the one before it
abbrev pub repeats : List (List ℕ) → ℕ
repeats [] = 0
repeats ([] ∷ frames) = suc (repeats frames)
repeats ((b ∷ bs) ∷ frames) = repeats frames

-- that number; it is held in 8 bytes
abbrev pub repeated_in : List (List ℕ) → ℕ
repeated_in frames = min (repeats frames) (2 ^ 64 - 1)

-- an AVI: its chunks are read whole up to the end of an RIFF, after which no further one begins,
-- nor another file, and no frame is owed; in an RIFF or a movi without size, to the end of the
-- input. What stands there is noted, and is no chunk; and it is noted whether such a size ended it,
-- how many of its frames have no bytes, and how many further streams begin as FFV1 video
pub record RiffsEnd (file rest : List ℕ) (notes : Notes) : Type 0 where
  pub head : Head
  pub to : AviPlace
  pub offset : ℕ
  pub behind : List ℕ
  pub chunks : AviReached EveryRiff (Some file) (Some behind) head to offset
  pub movi : to.movi ≡ 0
  pub riff : to.open_in ≡ Sized → to.riff ≡ 0
  pub every : extent_of to ≡ EveryRiff
  pub over : IsOver to.open_in to behind rest
  pub frames : List (List ℕ)
  pub gives : file_read scope.Whole file ≡ Ok ((head, frames), rest)
  pub others : ℕ
  pub begun : List ℕ
  pub counts : others_read EveryRiff file ≡ Ok (others, begun)
  pub notes_are : notes ≡ record {
    is_open = is_open to.open_in;
    others = others;
    times = None;
    repeated = repeated_in frames;
    after = stands_after file behind;
  }

-- a Segment: from where its frames begin its elements are read whole up to a place, and Cues came
-- after the last Cluster of them or not
pub record SegmentRead (file left : List ℕ) (opened : Opened) (place : MatroskaPlace) (cued : Bool)
    : Type 0 where
  pub begun : List ℕ
  pub count : ℕ
  pub opens : again_read file ≡ Ok (opened, begun)
  pub elements : ReadsWhole (cued_taken opened.track.numbers) (opened.place, false) (Some begun)
      (Some left) (place, cued) count

-- the same, and what is known there of when frames come
pub record TimesRead (file left : List ℕ) (track : TrackNumbers) (place : MatroskaPlace)
    (times : Times) : Type 0 where
  pub opened : Opened
  pub begun : List ℕ
  pub count : ℕ
  pub opens : again_read file ≡ Ok (opened, begun)
  pub numbers : opened.track.numbers ≡ track
  pub elements : ReadsWhole (timed_taken track) (opened.place, times_begun (tick_in file))
      (Some begun) (Some left) (place, times) count

-- up to its end
pub record TimesEnd (file : List ℕ) (times : Times) : Type 0 where
  pub track : TrackNumbers
  pub to : MatroskaPlace
  pub behind : List ℕ
  pub read : TimesRead file behind track to times
  pub over : step_read track to behind ≡ Ok (None, behind)

-- up to its end, where no further element comes. What stands after it is noted, if its size is
-- known; and if it is not, that no Cues came after its last Cluster; and the first frame that comes
-- too early or too late
pub record SegmentEnds (file rest : List ℕ) (notes : Notes) : Type 0 where
  pub opened : Opened
  pub to : MatroskaPlace
  pub cued : Bool
  pub behind : List ℕ
  pub read : SegmentRead file behind opened to cued
  pub over : step_read opened.track.numbers to behind ≡ Ok (None, behind)
  pub times : Times
  pub timed : TimesEnd file times
  pub noted : notes_told times.off (InMatroska opened.segment opened.track.numbers to)
      (bytes_before file behind) cued None 0 0 false behind ≡ Ok (notes, rest)

-- what is noted of a file, and what is left after the bytes that were looked at for that. Up to
-- its first movi alone nothing is looked at, and nothing is noted
abbrev pub IsNotedOf : Scope → List ℕ → List ℕ → Notes → Type 0
IsNotedOf scope.FirstMovi file rest notes = notes ≡ no_notes
IsNotedOf scope.Whole file rest notes = RiffsEnd file rest notes ⊎ SegmentEnds file rest notes

-- a reader of a Segment, which ends where all was read that it has from its frames on
pub record SegmentReached (file left : List ℕ) (opened : Opened) (place : MatroskaPlace)
    (cued : Bool) (end : ℕ) : Type 0 where
  pub read : SegmentRead file left opened place cued
  pub fits : length read.begun ≤ length file
  pub end_is : end ≡ offset_after (bytes_before file read.begun) (amount opened.place)

-- what a reader knows of that where it stands, with this left of the file
abbrev pub notes_reached : Scope → Place → ℕ → Bool → Option ℕ → Bool → List ℕ → List ℕ → Type 0
notes_reached scope.FirstMovi (InAvi place) end cued after open_ended file left =
    (extent_of place ≡ FirstMovi) × (after ≡ None) × (open_ended ≡ false)
notes_reached scope.FirstMovi (InMatroska segment track place) end cued after open_ended file left =
    ⊥
notes_reached scope.Whole (InAvi place) end cued after open_ended file left =
    extent_of place ≡ EveryRiff
notes_reached scope.Whole (InMatroska segment track place) end cued after open_ended file left =
    (opened : Opened) × (opened.segment ≡ segment) × (opened.track.numbers ≡ track)
    × SegmentReached file left opened place cued end

-- these frames of an AVI come before a place in it: whatever frames are read from there on, the
-- file has these and then those
abbrev pub FramesBefore : List ℕ → List ℕ → Head → AviPlace → List (List ℕ) → Type 0
FramesBefore file left head place before =
    (more : List (List ℕ)) (rest : List ℕ) → frames_read place left ≡ Ok (more, rest) →
    file_read scope.Whole file ≡ Ok ((head, before ++ more), rest)

-- so many frames before a place have no bytes; none has, if the first movi is read alone
abbrev pub frames_reached : Scope → Head → Place → ℕ → List ℕ → List ℕ → Type 0
frames_reached scope.FirstMovi head place repeated file left =
    (1 ≤ least_bytes place) × (repeated ≡ 0)
frames_reached scope.Whole head (InAvi place) repeated file left =
    (before : List (List ℕ)) × FramesBefore file left head place before
    × (repeated ≡ repeated_in before)
frames_reached scope.Whole head (InMatroska segment track place) repeated file left = ⊤

-- so many further streams of an AVI begin as FFV1 video; none is looked at, if the first movi is
-- read alone
abbrev pub streams_reached : Scope → Place → ℕ → List ℕ → Type 0
streams_reached scope.FirstMovi place others file = others ≡ 0
streams_reached scope.Whole (InAvi place) others file =
    (begun : List ℕ) × (others_read EveryRiff file ≡ Ok (others, begun))
streams_reached scope.Whole (InMatroska segment track place) others file = ⊤

abbrev pub StreamsReached : Scope → Option (List ℕ) → Option (List ℕ) → Standing → Type 0
StreamsReached scope text left r =
    Known text left (λ file rest. streams_reached scope r.place r.others file)

-- what is known of when frames come where a file was opened, and where a reader stands; of an AVI
-- nothing
abbrev pub begins_timed : Place → Times → List ℕ → Type 0
begins_timed (InAvi place) times file = ⊤
begins_timed (InMatroska segment track place) times file = times ≡ times_begun (tick_in file)

abbrev pub TimesBegin : Option (List ℕ) → Option (List ℕ) → Standing → Type 0
TimesBegin text left r = Known text left (λ file rest. begins_timed r.place r.times file)

abbrev pub times_reached : Scope → Place → Times → List ℕ → List ℕ → Type 0
times_reached scope.FirstMovi place times file left = ⊤
times_reached scope.Whole (InAvi place) times file left = ⊤
times_reached scope.Whole (InMatroska segment track place) times file left =
    TimesRead file left track place times

-- if the bytes of the file are known
pub record NotesReached (scope : Scope) (text left : Option (List ℕ)) (r : Standing) : Type 0 where
  pub known : Known text left (notes_reached scope r.place r.end r.cued r.after r.open_ended)
  pub frames : Known text left (frames_reached scope r.head r.place r.repeated)
  pub streams : StreamsReached scope text left r
  pub times : Known text left (times_reached scope r.place r.times)

-- the notes that a reader reads, once the frames have ended, are those of its file
pub record NotesEnd (scope : Scope) (text left : Option (List ℕ)) (r : Standing) : Type 0 where
  pub known : Known text left (λ file behind. (notes : Notes) (rest : List ℕ) →
      notes_of r behind ≡ Ok (notes, rest) → IsNotedOf scope file rest notes)

-- after a call for the next frame
abbrev pub NotesNext : Scope → Option (List ℕ) → Passage → Result Bool FileFault → Standing → Type 0
NotesNext scope text p (Ok true) r = NotesReached scope text p.new r
NotesNext scope text p (Ok false) r = NotesEnd scope text p.new r
NotesNext scope text p (Err f) r = ⊤

-- notes are those of a file whose bytes are known
abbrev pub NotedOf : Scope → Option (List ℕ) → Option (List ℕ) → Notes → Type 0
NotedOf scope text left notes = Known text left (λ file rest. IsNotedOf scope file rest notes)

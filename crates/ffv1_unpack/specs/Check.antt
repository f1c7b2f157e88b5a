-- What `check` writes, and why it is refused.
use Rattle.std.specs.Prelude.{◌≡◌, ◌⊎◌, ℕ, Bool, true, List, ◌++◌, length, codes, decimal}
use Rattle.ffv1_range.specs.Counts.{saturated}
use Rattle.ffv1_wire.specs.Passage.{Passage}
use Rattle.ffv1_record.specs.Configuration.{Configuration}
use Rattle.ffv1_files.specs.declared.notes.Notes.{Notes}
use Rattle.ffv1_words.specs.declared.order.FrameRange.{FrameRange}
use Rattle.ffv1_video.specs.declared.profile.Profile.{Profile}
use Rattle.ffv1_video.specs.declared.fault.Fault.{Fault}
use Rattle.ffv1_video.specs.declared.fault.Fault.TheVariants as fault
use Rattle.ffv1_unpack.specs.declared.frame_line.FrameLine.TheVariants as line
use Rattle.ffv1_unpack.specs.Checked.{CheckedRangeStops, CheckedStops}
use Rattle.ffv1_unpack.specs.Containers.{is_profile_fault}
use Rattle.ffv1_unpack.specs.FrameLines.{frame_lines, lines_from}
use Rattle.ffv1_unpack.specs.Opens.{is_opening_fault}
use Rattle.ffv1_unpack.specs.Plays.{FileThen, PlaysFile}
use Rattle.ffv1_unpack.specs.Ranges.{PlaysRange, RangeThen, number_in}
use Rattle.ffv1_unpack.specs.Stream.{Frame, IsFrame, IsStream, Stream, frame_payload}
use Rattle.ffv1_unpack.specs.Told.{PayloadStops, PayloadStopsFrom, is_telling_fault}

-- how many frames there were
unfoldable pub count_line : ℕ → List ℕ
count_line n = codes "frames " ++ decimal n ++ codes "\n"

abbrev pub frame_count : List Frame → List ℕ
frame_count frames = count_line (saturated (length frames))

-- a line for each frame, and that one
abbrev pub check_text : Configuration → List Frame → List ℕ
check_text c frames = frame_lines line.Sizes c frames ++ frame_count frames

module _ (profile : Profile) (place : Bool) (input output : Passage) where
  -- all frames of the file, at least one, were decoded, and the text of them was written; this is
  -- noted of the end
  abbrev pub CheckDone : Notes → Type 0
  CheckDone =
      PlaysFile profile (λ s frames. check_text s.accepted.configuration frames) input output

  -- the payload after its first frames has its first fault
  pub record CheckPayload (f : Fault) : Type 0 where
    pub stream : Stream
    pub is : IsStream profile stream
    pub stops : PayloadStops (FileThen profile stream.head) line.Sizes place stream.accepted input
        output f

  -- why it is refused: a payload has a fault, or what else comes in the way
  abbrev pub CheckStops : Fault → Type 0
  CheckStops f =
      CheckPayload f
      ⊎ CheckedStops IsFrame frame_payload (frame_lines line.Sizes) frame_count profile place input
      output f

-- ---- the frames of a range

module _ (profile : Profile) (place : Bool) (range : FrameRange) (input output : Passage) where
  -- they were decoded, at least one, and the text of them was written; this is noted of the end, if
  -- it was read
  abbrev pub CheckRangeDone : Notes → Type 0
  CheckRangeDone = PlaysRange profile range (λ s frames.
      lines_from line.Sizes s.accepted.configuration range.first frames ++ frame_count frames)
      input output

  -- the payload after the first of them has its first fault
  pub record CheckRangePayload (f : Fault) : Type 0 where
    pub stream : Stream
    pub is : IsStream profile stream
    pub stops : PayloadStopsFrom (RangeThen profile range.first stream.head)
        (lines_from line.Sizes stream.accepted.configuration range.first) (number_in range) place
        stream.accepted input output f

  -- why they are refused: a payload has a fault, or what else comes in the way
  abbrev pub CheckRangeStops : Fault → Type 0
  CheckRangeStops f =
      CheckRangePayload f
      ⊎ CheckedRangeStops IsFrame frame_payload (λ c. lines_from line.Sizes c range.first)
      frame_count profile place range input output f

-- the faults that a check has, whatever the file: those of opening it and of telling its frames,
-- and that there is none
abbrev pub IsCheckFault : Profile → Fault → Type 0
IsCheckFault profile f =
    (is_opening_fault f ≡ true) ⊎ (is_telling_fault f ≡ true) ⊎ (f ≡ fault.NoFrames)
    ⊎ (is_profile_fault profile f ≡ true)

-- What `check_all` writes, and why it is refused.
use Rattle.std.specs.Prelude.{◌≡◌, ◌⊎◌, ℕ, ◌<◌, Bool, true, false, List, ◌++◌, length, slice_get}
use Rattle.std.specs.Prelude.{Option}
use Rattle.ffv1_files.specs.declared.notes.Notes.{Notes}
use Rattle.ffv1_words.specs.declared.order.FrameRange.{FrameRange}
use Rattle.std.specs.Io.KnownBytes.{Appends}
use Rattle.ffv1_range.specs.Counts.{saturated}
use Rattle.ffv1_wire.specs.Passage.{Passage}
use Rattle.ffv1_record.specs.Configuration.{Configuration}
use Rattle.ffv1_reads.specs.Known.{Known}
use Rattle.ffv1_video.specs.declared.profile.Profile.{Profile}
use Rattle.ffv1_video.specs.declared.fault.Fault.{Fault}
use Rattle.ffv1_unpack.specs.Behind.{NotedIn}
use Rattle.ffv1_unpack.specs.Checked.{CheckedRangeStops, CheckedStops}
use Rattle.ffv1_unpack.specs.Containers.{IsReadOn}
use Rattle.ffv1_unpack.specs.Judged.{IsJudged, Judged, counts_line, judged_from, judged_lines}
use Rattle.ffv1_unpack.specs.Judged.{payload_of, payloads_of, refusals}
use Rattle.ffv1_unpack.specs.AllItems.{ItemsDone, ItemsFault}
use Rattle.ffv1_unpack.specs.ToldItems.{AgainDone, AgainStops}
use Rattle.ffv1_unpack.specs.Plays.{AtMost, HoldsNoted, NextBehind, NotedAfter, has_more}
use Rattle.ffv1_unpack.specs.Ranges.{RangeThen}
use Rattle.ffv1_unpack.specs.Stream.{AreAll, IsStream, Stream}

-- how many frames there were, and how many of them were refused
abbrev pub judged_count : List Judged → List ℕ
judged_count js = counts_line (saturated (length js)) (saturated (length (refusals js)))

-- the lines of each frame, and that one
abbrev pub check_all_text : Bool → Configuration → List Judged → List ℕ
check_all_text place c js = judged_lines place c js ++ judged_count js

module _ (profile : Profile) (place : Bool) (input output : Passage) where
  -- all frames of the file, at least one, were judged, and the text of them was written; the answer
  -- is the fault of the first one that is refused, and what is noted of the end, which is what is
  -- noted of the bytes of the file
  pub record CheckAllDone (first : Option Fault) (notes : Notes) : Type 0 where
    pub stream : Stream
    pub judged : List Judged
    pub some : 0 < length judged
    pub is : IsStream profile stream
    pub are : AreAll (IsJudged stream.accepted) judged
    pub reads : Known input.old input.new (HoldsNoted profile notes stream.head
        (payloads_of judged))
    pub of_file : NotedIn profile input notes
    pub kept : input.after ≡ input.before
    pub written : output.after ≡ output.before
    pub writes : Appends output.old output.new
        (check_all_text place stream.accepted.configuration judged)
    pub told : first ≡ slice_get (refusals judged) 0

  -- why it is refused, which no fault of a payload is a reason for
  abbrev pub CheckAllStops : Fault → Type 0
  CheckAllStops f =
      CheckedStops IsJudged payload_of (judged_lines place) judged_count profile place input output
      f

  -- of a file of which the first movi alone is read its frames, up to the first fault of the file
  -- itself; else all that it gives; if it can't be opened plainly, that and what is told before its
  -- frames
  abbrev pub AllDone : Option Fault → Notes → Type 0
  AllDone first notes =
      (IsReadOn false profile input.old × CheckAllDone first notes)
      ⊎ (IsReadOn true profile input.old × ItemsDone profile place input output first notes)
      ⊎ AgainDone profile place input output first notes

  abbrev pub AllStops : Fault → Type 0
  AllStops f =
      (IsReadOn false profile input.old × CheckAllStops f)
      ⊎ (IsReadOn true profile input.old × ItemsFault profile place input output f)
      ⊎ AgainStops profile place input output f

-- ---- the frames of a range

module _ (profile : Profile) (place : Bool) (range : FrameRange) (input output : Passage) where
  -- they were judged, at least one, and the text of them was written; the answer is the fault of
  -- the first one that is refused, and what is noted of the end, if it was read, which is what is
  -- noted of the bytes of the file
  pub record CheckAllRangeDone (first : Option Fault) (notes : Notes) : Type 0 where
    pub stream : Stream
    pub judged : List Judged
    pub some : 0 < length judged
    pub few : AtMost range.count (length judged)
    pub is : IsStream profile stream
    pub are : AreAll (IsJudged stream.accepted) judged
    pub reads : Known input.old input.new (RangeThen profile range.first stream.head
        (payloads_of judged) (NextBehind notes range.count (length judged)))
    pub noted : NotedAfter notes range.count (length judged)
    pub of_file : has_more range.count (length judged) ≡ true → NotedIn profile input notes
    pub kept : input.after ≡ input.before
    pub written : output.after ≡ output.before
    pub writes : Appends output.old output.new
        (judged_from place stream.accepted.configuration range.first judged ++ judged_count judged)
    pub told : first ≡ slice_get (refusals judged) 0

  -- why they are refused, which no fault of a payload is a reason for
  abbrev pub CheckAllRangeStops : Fault → Type 0
  CheckAllRangeStops f =
      CheckedRangeStops IsJudged payload_of (λ c. judged_from place c range.first) judged_count
      profile place range input output f

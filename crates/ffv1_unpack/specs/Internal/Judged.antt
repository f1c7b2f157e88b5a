-- Writing lines of judged frames one after the other: what a step of that answers.
use Rattle.std.specs.Prelude.{◌≡◌, ℕ, Bool, List, [], length}
use Rattle.std.specs.Prelude.{slice_get, Option, Some, None, Result, Ok, Err, true, false}
use Rattle.std.specs.Io.KnownBytes.{Appends}
use Rattle.std.proofs.Common.{suc}
use Rattle.ffv1_range.specs.Counts.{saturated}
use Rattle.ffv1_wire.specs.Passage.{Passage}
use Rattle.ffv1_record.specs.Accepted.{Accepted}
use Rattle.ffv1_files.specs.Places.{Place}
use Rattle.ffv1_files.specs.declared.notes.Notes.{Notes}
use Rattle.ffv1_files.specs.Readers.{Standing}
use Rattle.ffv1_video.specs.declared.fault.Fault.{Fault}
use Rattle.ffv1_unpack.specs.declared.judging.JudgedCounts.{JudgedCounts}
use Rattle.ffv1_video.specs.Faults.{Cause, cause_of}
use Rattle.ffv1_unpack.specs.Internal.Play.{ReadsEnd}
use Rattle.ffv1_unpack.specs.Internal.Plays.{OneStopsBy, PlaysOne}
use Rattle.ffv1_unpack.specs.Located.{WritesLocated}
use Rattle.ffv1_unpack.specs.Internal.Located.{LocatedAfter}
use Rattle.ffv1_video.specs.Output.{Silent}
use Rattle.ffv1_unpack.specs.Judged.{IsJudged, Judged, judged_line, payload_of, refusal_of}
use Rattle.ffv1_unpack.specs.Judged.{refusals}

-- ---- how many they are

-- these are so many, of which so many are refused, the first one with this fault
pub record AreCounts (c : JudgedCounts) (js : List Judged) : Type 0 where
  pub frames : c.frames ≡ saturated (length js)
  pub faults : c.faults ≡ saturated (length (refusals js))
  pub first : c.first ≡ slice_get (refusals js) 0

abbrev pub first_of : Option Fault → Fault → Option Fault
first_of None f = Some f
first_of (Some g) f = Some g

-- the counts after one more
abbrev pub one_counted : JudgedCounts → Option Fault → JudgedCounts
one_counted c None = record c { frames = saturated (suc c.frames) }
one_counted c (Some f) = record {
  frames = saturated (suc c.frames);
  faults = saturated (suc c.faults);
  first = first_of c.first f;
}

-- ---- one frame, with this number

-- from this reader on
module _ (place byte : Bool) (a : Accepted) (i : ℕ) (from : Standing) (to : Place)
    (input output : Passage) where
  -- why there is none, or its lines were not written, by the cause
  abbrev pub JudgeStopsBy : Fault → Cause → Type 0
  JudgeStopsBy f why =
      OneStopsBy (IsJudged a) payload_of (judged_line place a.configuration i)
      (λ g. WritesLocated (LocatedAfter from input) byte i [] g output) from.place to input output
      f why

  -- what judging a frame answers, by what is noted of the end, if there is none, and by the counts
  -- before and after
  abbrev pub JudgeAnswers : Notes → JudgedCounts → JudgedCounts → Result Bool Fault → Type 0
  JudgeAnswers notes old new (Ok true) =
      (j : Judged) × PlaysOne (IsJudged a) payload_of from.place to input j
      × (output.after ≡ output.before)
      × Appends output.old output.new (judged_line place a.configuration i j)
      × (new ≡ one_counted old (refusal_of j))
  JudgeAnswers notes old new (Ok false) =
      ReadsEnd from.place notes input × Silent output × (new ≡ old)
  JudgeAnswers notes old new (Err f) = JudgeStopsBy f (cause_of f)

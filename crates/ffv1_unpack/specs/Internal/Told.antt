-- Writing lines of frames one after the other: what a step of that answers.
use Rattle.std.specs.Prelude.{◌≡◌, ◌⊎◌, ◌<◌, ℕ, Bool, true, false, List, [], length}
use Rattle.std.specs.Prelude.{Option, Result, Ok, Err, ⊤}
use Rattle.std.specs.Io.KnownBytes.{Appends, Keeps}
use Rattle.ffv1_range.specs.declared.tally.Tally.{Tally}
use Rattle.ffv1_wire.specs.Failures.{one_more}
use Rattle.ffv1_wire.specs.Passage.{Passage}
use Rattle.ffv1_wire.specs.Runs.{LineStep}
use Rattle.ffv1_wire.specs.Writes.{AppendsBeginning}
use Rattle.ffv1_record.specs.Accepted.{Accepted}
use Rattle.ffv1_record.specs.Configuration.{Configuration}
use Rattle.ffv1_codec.specs.Answer.{Answers}
use Rattle.ffv1_codec.specs.SliceList.{Said}
use Rattle.ffv1_files.specs.Answers.{Endings, ReadFails, WantsMore}
use Rattle.ffv1_files.specs.Places.{Place}
use Rattle.ffv1_files.specs.declared.notes.Notes.{Notes}
use Rattle.ffv1_words.specs.declared.order.FrameRange.{FrameRange}
use Rattle.ffv1_files.specs.Readers.{Standing}
use Rattle.ffv1_reads.specs.Reads as avi
use Rattle.ffv1_reads.specs.Known.{Known}
use Rattle.ffv1_reads.specs.declared.fault.FileFault.{FileFault}
use Rattle.ffv1_video.specs.declared.fault.Fault.{Fault}
use Rattle.ffv1_video.specs.declared.fault.Fault.TheVariants as fault
use Rattle.ffv1_unpack.specs.declared.player.NextFrame.{NextFrame}
use Rattle.ffv1_unpack.specs.declared.player.NextFrame.TheVariants as next
use Rattle.ffv1_unpack.specs.declared.player.Stop.{Stop}
use Rattle.ffv1_unpack.specs.declared.player.Stop.TheVariants as stop
use Rattle.ffv1_unpack.specs.declared.frame_line.FrameLine.{FrameLine}
use Rattle.ffv1_unpack.specs.Internal.Containers.{IsContainerFault}
use Rattle.ffv1_video.specs.Faults.{Cause, cause_of, of_avi}
use Rattle.ffv1_video.specs.Faults.Cause.{Reading, Writing, Memory, Content}
use Rattle.ffv1_unpack.specs.Stream.{Frame, IsFrame, frame_payload}
use Rattle.ffv1_unpack.specs.Play.{FaultsRead}
use Rattle.ffv1_unpack.specs.Internal.Play.{ReadsEnd, ReadsPayload}
use Rattle.ffv1_unpack.specs.Plays.{GoesFrom, NextHasFault, NextPayloadLacks, NextReadFails}
use Rattle.ffv1_unpack.specs.Ranges.{number_in}
use Rattle.ffv1_unpack.specs.Internal.Plays.{OneStopsBy, PayloadFaults}
use Rattle.ffv1_unpack.specs.Internal.Plays.{PlaysFrame}
use Rattle.ffv1_unpack.specs.FrameLines.{line_of, lines_from, place_text}
use Rattle.ffv1_unpack.specs.Located.{WritesLine, WritesLocated}
use Rattle.ffv1_unpack.specs.Internal.Located.{LocatedAfter}
use Rattle.ffv1_video.specs.Output.{Silent}
use Rattle.ffv1_unpack.specs.Told.{PayloadStopsFrom, is_telling_fault}

-- if the text is known, it has this fault
abbrev pub FaultsKnown : {X : Type 0} → avi.Reading X → Option (List ℕ) → Option (List ℕ) → Fault →
    Type 0
FaultsKnown reading old new f = Known old new (λ text rest. FaultsRead reading text rest f)

-- why a file is not read on, by what the end of the input may be and by the cause: a read failed,
-- which was counted; memory was refused for bytes that are kept, of which more were wanted; or what
-- was read has this fault
abbrev pub FileStopsBy : {X : Type 0} → Endings X → avi.Reading X → Passage → Fault → Cause → Type 0
FileStopsBy ends reading p f Reading =
    (p.after ≡ one_more p.before) × Known p.old p.new (ReadFails ends reading)
FileStopsBy ends reading p f Writing = ⊥
FileStopsBy ends reading p f Memory =
    (p.after ≡ p.before) × Known p.old p.new (WantsMore reading avi.Kept)
FileStopsBy ends reading p f Content =
    (p.after ≡ p.before) × FaultsKnown reading p.old p.new f

abbrev pub FileStops : {X : Type 0} → Endings X → avi.Reading X → Passage → Fault → Type 0
FileStops ends reading p f = FileStopsBy ends reading p f (cause_of f)

-- the same of the next frame from a position on, and of what comes after the last one
abbrev pub StopsFromBy : Place → Passage → Fault → Cause → Type 0
StopsFromBy from p f Reading =
    (p.after ≡ one_more p.before) × Known p.old p.new (NextReadFails from)
StopsFromBy from p f Writing = ⊥
StopsFromBy from p f Memory = (p.after ≡ p.before) × Known p.old p.new (NextPayloadLacks from)
StopsFromBy from p f Content = (p.after ≡ p.before) × Known p.old p.new (NextHasFault f from)

abbrev pub StopsFrom : Place → Passage → Fault → Type 0
StopsFrom from p f = StopsFromBy from p f (cause_of f)

-- what reading the next payload answers: it was read, there is none, and this is noted of the end,
-- or why it was not
abbrev pub ReadAnswers : Place → Place → List ℕ → Notes → Passage → Result Bool FileFault → Type 0
ReadAnswers from to payload notes p (Ok true) = ReadsPayload from to payload p
ReadAnswers from to payload notes p (Ok false) = ReadsEnd from notes p
ReadAnswers from to payload notes p (Err f) = StopsFrom from p (of_avi f)

-- the payload was decoded, or has no bytes, or is refused, or was not read
abbrev pub StepAnswers : {S : Type 0} → LineStep S → LineStep S → Accepted → Place → Place →
    List ℕ → Tally → Notes → Passage → S → S → Result (NextFrame Said) Stop → Type 0
StepAnswers takes refuses a from to payload tally notes p old new (Ok next.End) =
    ReadsEnd from notes p × (new ≡ old)
StepAnswers takes refuses a from to payload tally notes p old new (Ok (next.Coded info)) =
    ReadsPayload from to payload p × Answers takes refuses a payload old new tally (Ok info)
    × (0 < length payload)
StepAnswers takes refuses a from to payload tally notes p old new (Ok next.Again) =
    ReadsPayload from to [] p × (new ≡ old)
StepAnswers takes refuses a from to payload tally notes p old new (Err (stop.File f)) =
    StopsFrom from p (of_avi f) × (new ≡ old)
StepAnswers takes refuses a from to payload tally notes p old new (Err (stop.Payload f)) =
    ReadsPayload from to payload p × (0 < length payload)
    × Answers takes refuses a payload old new tally (Err f)

-- if a frame comes
abbrev pub IfMore : {I : Type 0} → NextFrame I → Type 0 → Type 0
IfMore next.End P = ⊤
IfMore next.Again P = P
IfMore (next.Coded info) P = P

-- the lines of frames
abbrev pub told_line : FrameLine → Configuration → ℕ → Frame → List ℕ
told_line kind c i f = line_of kind c i f

-- by how a file has payloads
module _ (Has : List (List ℕ) → (Place → List ℕ → List ℕ → Type 0) → List ℕ → List ℕ → Type 0)
    (kind : FrameLine) (range : FrameRange) (place : Bool) (a : Accepted)
    (input output : Passage) where
  -- why no further line of a range is printed, with the offset at which the file stops: the next
  -- payload has a fault; or by the cause
  abbrev pub TellingStops : (Fault → ℕ → Type 0) → Bool → Fault → Type 0
  TellingStops Stops byte f =
      PayloadStopsFrom Has (lines_from kind a.configuration range.first) (number_in range) place a
      input output f
      ⊎ GoesFrom (IsFrame a) frame_payload Has (lines_from kind a.configuration range.first) input
      output (number_in range) Stops byte f (cause_of f)

-- of the frame with this number
module _ (kind : FrameLine) (place byte : Bool) (a : Accepted) (i : ℕ) (from : Standing)
    (to : Place) (input output : Passage) where
  -- its payload has its first fault
  pub record FrameStops (f : Fault) : Type 0 where
    pub payload : PayloadFaults a from.place to input f
    pub writes : WritesLine [] (place_text place i payload.fault payload.tally) output

  -- or why there is none, or its line is not written, by the cause
  abbrev pub FrameStopsBy : Fault → Cause → Type 0
  FrameStopsBy f why =
      OneStopsBy (IsFrame a) frame_payload (told_line kind a.configuration i)
      (λ g. WritesLocated (LocatedAfter from input) byte i [] g output) from.place to input output
      f why

  -- what writing a frame's line answers: that it is written, that there is none, and this is noted
  -- of the end, or why it is not
  abbrev pub FrameAnswers : Notes → Result Bool Fault → Type 0
  FrameAnswers notes (Ok true) =
      (frame : Frame) × PlaysFrame a from.place to input frame × (output.after ≡ output.before)
      × Appends output.old output.new (told_line kind a.configuration i frame)
  FrameAnswers notes (Ok false) = ReadsEnd from.place notes input × Silent output
  FrameAnswers notes (Err f) = FrameStops f ⊎ FrameStopsBy f (cause_of f)

-- a line was written; or a write failed, which was counted, after a beginning of it; or memory for
-- it was refused
abbrev pub WritesFrame : List ℕ → Passage → Result (Unit {0}) Fault → Type 0
WritesFrame line p (Ok done) = (p.after ≡ p.before) × Appends p.old p.new line
WritesFrame line p (Err f) =
    ((f ≡ fault.Write) × (p.after ≡ one_more p.before) × AppendsBeginning p.old p.new line)
    ⊎ ((f ≡ fault.OutOfMemory) × (p.after ≡ p.before) × Keeps p.old p.new)

-- if a payload is refused, the file may be read on, as this says
abbrev pub OnPayload : Type 0 → Stop → Type 0
OnPayload P (stop.File f) = ⊤
OnPayload P (stop.Payload f) = P

-- with those of the container that the frames are in, by where a reader stands, and what is left
-- there
abbrev pub IsToldFault : Standing → Option (List ℕ) → Fault → Type 0
IsToldFault r left f = (is_telling_fault f ≡ true) ⊎ IsContainerFault r left f

-- if reading a frame ends, it is by one of those
abbrev pub IsOwnStop : Standing → Option (List ℕ) → Stop → Type 0
IsOwnStop r left (stop.File f) = IsToldFault r left (of_avi f)
IsOwnStop r left (stop.Payload f) = ⊤

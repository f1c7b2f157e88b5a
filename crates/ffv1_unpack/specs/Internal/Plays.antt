-- A step of playing a file.
use Rattle.std.specs.Prelude.{◌≡◌, ◌⊎◌, ℕ, Bool, true, false, List, length, Option, None}
use Rattle.std.specs.Prelude.{Result, Ok, Err}
use Rattle.std.specs.Io.KnownBytes.{Appends}
use Rattle.ffv1_range.specs.declared.tally.Tally.{Tally}
use Rattle.ffv1_wire.specs.Failures.{one_more}
use Rattle.ffv1_wire.specs.Passage.{Passage}
use Rattle.ffv1_wire.specs.Writes.{AppendsBeginning}
use Rattle.ffv1_record.specs.Accepted.{Accepted}
use Rattle.ffv1_frame.specs.declared.fault.FrameFault.{FrameFault}
use Rattle.ffv1_files.specs.Places.{Place}
use Rattle.ffv1_files.specs.declared.notes.Notes.{Notes}
use Rattle.ffv1_reads.specs.Known.{Known}
use Rattle.ffv1_video.specs.declared.fault.Fault.{Fault}
use Rattle.ffv1_video.specs.Faults.{Cause, cause_of, of_codec}
use Rattle.ffv1_video.specs.Faults.Cause.{Reading, Writing, Memory, Content}
use Rattle.ffv1_unpack.specs.Internal.Play.{ReadsEnd, ReadsPayload}
use Rattle.ffv1_unpack.specs.Stream.{Frame, IsFrame, IsRefusedPayload, frame_payload}
use Rattle.ffv1_video.specs.Output.{Silent}
use Rattle.ffv1_unpack.specs.Plays.{AtMost, NextBehind, NextHasFault, NextLacks, NextReadFails}
use Rattle.ffv1_unpack.specs.Plays.{PlaysThen}

-- ---- what is played, frames or payloads that are judged: by what each is, and its payload

module _ {X : Type 0} (Is : X → Type 0) (payload : X → List ℕ) where
  -- from this place of the file one comes, and then that place
  pub record PlaysOne (from to : Place) (input : Passage) (x : X) : Type 0 where
    pub is : Is x
    pub reads : ReadsPayload from to (payload x) input

  -- with a text of one, and by what is written if the file is refused: why there is none, or its
  -- text was not written, by the cause
  abbrev pub OneStopsBy : (X → List ℕ) → (Fault → Type 0) → Place → Place → Passage → Passage →
      Fault → Cause → Type 0
  OneStopsBy text Refused from to input output f Writing =
      (x : X) × PlaysOne from to input x × (output.after ≡ one_more output.before)
      × AppendsBeginning output.old output.new (text x)
  OneStopsBy text Refused from to input output f Reading =
      Refused f × (input.after ≡ one_more input.before)
      × Known input.old input.new (NextReadFails from)
  OneStopsBy text Refused from to input output f Memory =
      Silent output × (input.after ≡ input.before)
      × Known input.old input.new (NextLacks Is payload from)
  OneStopsBy text Refused from to input output f Content =
      Refused f × (input.after ≡ input.before) × Known input.old input.new (NextHasFault f from)

-- all of them, by how a file has payloads, and what text they have
module _ {X : Type 0} (Is : X → Type 0) (payload : X → List ℕ)
    (Has : List (List ℕ) → (Place → List ℕ → List ℕ → Type 0) → List ℕ → List ℕ → Type 0)
    (text : List X → List ℕ) (input output : Passage) where
  -- they are all, of at most so many, and this is noted of the end
  pub record PlaysMost (notes : Notes) (most : Option ℕ) (xs : List X) : Type 0 where
    pub plays : PlaysThen Is payload Has text input output xs (NextBehind notes most (length xs))
    pub few : AtMost most (length xs)
    pub kept : input.after ≡ input.before

  -- they are all
  abbrev pub PlaysAll : Notes → List X → Type 0
  PlaysAll notes xs = PlaysMost notes None xs

-- ---- one frame

-- a frame was read and decoded
abbrev pub PlaysFrame : Accepted → Place → Place → Passage → Frame → Type 0
PlaysFrame a from to input f = PlaysOne (IsFrame a) frame_payload from to input f

-- its payload has its first fault
pub record PayloadFaults (a : Accepted) (from to : Place) (input : Passage) (f : Fault)
    : Type 0 where
  pub payload : List ℕ
  pub fault : FrameFault
  pub tally : Tally
  pub reads : ReadsPayload from to payload input
  pub faulty : IsRefusedPayload a payload fault tally
  pub is : f ≡ of_codec fault.fault
  pub content : cause_of f ≡ Content

-- by what text it has
module _ (a : Accepted) (text : Frame → List ℕ) (from to : Place) (input output : Passage) where
  -- what playing it answers, if a refusal writes nothing: its text was written, there is none,
  -- and this is noted of the end, or why it was not
  abbrev pub NextAnswers : Notes → Result Bool Fault → Type 0
  NextAnswers notes (Ok true) =
      (frame : Frame) × PlaysFrame a from to input frame × (output.after ≡ output.before)
      × Appends output.old output.new (text frame)
  NextAnswers notes (Ok false) = ReadsEnd from notes input × Silent output
  NextAnswers notes (Err f) =
      (Silent output × PayloadFaults a from to input f)
      ⊎ OneStopsBy (IsFrame a) frame_payload text (λ g. Silent output) from to input output f
      (cause_of f)

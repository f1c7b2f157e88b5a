-- Writing pictures of YCbCr one after the other: the text of the next one, and what writing it
-- answers.
use Rattle.std.specs.Prelude.{◌≡◌, ◌⊎◌, ℕ, Bool, true, false, List, [], ◌∷◌, Option, Some, None}
use Rattle.std.specs.Prelude.{Result, Ok, Err, ⊤}
use Rattle.std.specs.Io.KnownBytes.{Appends}
use Rattle.ffv1_wire.specs.Failures.{one_more}
use Rattle.ffv1_wire.specs.Passage.{Passage}
use Rattle.ffv1_wire.specs.Writes.{AppendsBeginning}
use Rattle.ffv1_record.specs.Accepted.{Accepted}
use Rattle.ffv1_codec.specs.Picture.{Planes}
use Rattle.ffv1_codec.specs.SliceList.{Said}
use Rattle.ffv1_files.specs.Places.{Place}
use Rattle.ffv1_files.specs.declared.notes.Notes.{Notes}
use Rattle.ffv1_y4m.specs.Canonical.{next_text}
use Rattle.ffv1_y4m.specs.Writes.{Y4mWriting}
use Rattle.ffv1_y4m.specs.declared.head.VideoHead.{VideoHead}
use Rattle.ffv1_reads.specs.Known.{Known}
use Rattle.ffv1_video.specs.declared.fault.Fault.{Fault}
use Rattle.ffv1_video.specs.declared.fault.Fault.TheVariants as fault
use Rattle.ffv1_video.specs.Faults.{Cause, cause_of}
use Rattle.ffv1_video.specs.Faults.Cause.{Reading, Writing, Memory, Content}
use Rattle.ffv1_unpack.specs.Stream.{Again, Coded, CodedFrame, Frame, coded_frames, last_of}
use Rattle.ffv1_unpack.specs.Internal.Play.{ReadsEnd}
use Rattle.ffv1_unpack.specs.Plays.{NextHasFault, NextPayloadLacks, NextReadFails}
use Rattle.ffv1_unpack.specs.Internal.Carried.{CarriedFaults, PlaysCarried}
use Rattle.ffv1_video.specs.Output.{Silent}

-- the head for pictures that say this
abbrev pub head_saying : VideoHead → Said → VideoHead
head_saying h said = record h {
  structure = said.structure;
  sar_num = said.sar_num;
  sar_den = said.sar_den;
}

-- what the first picture of a text said, and the text's writer
abbrev pub Begun : Type 0
Begun = Option (Said × Y4mWriting)

-- the writer of a text of this depth whose pictures say this, after a picture
abbrev pub writer_behind : ℕ → VideoHead → Said → Y4mWriting
writer_behind depth h said =
    record { head = head_saying h said; depth = depth; begun = true; failed = false }

-- the writer after the pictures of frames
abbrev pub begun_behind : ℕ → VideoHead → List CodedFrame → Begun
begun_behind depth h [] = None
begun_behind depth h (f ∷ fs) = Some (f.said, writer_behind depth h f.said)

-- a text that is begun has that writer
abbrev pub IsBegun : ℕ → VideoHead → Begun → Type 0
IsBegun depth h None = ⊤
IsBegun depth h (Some t) = t.1 ≡ writer_behind depth h t.0

-- what its pictures say
abbrev pub said_in : Begun → Option Said
said_in None = None
said_in (Some t) = Some t.0

-- a picture says what those before it say
abbrev pub SaysAgain : Option Said → Said → Type 0
SaysAgain None said = ⊤
SaysAgain (Some first) said = said ≡ first

-- the text of a picture after those that say this: the header before the first one
abbrev pub text_behind : ℕ → VideoHead → Option Said → Said → Planes → List ℕ
text_behind depth h None said planes = next_text depth (head_saying h said) false planes
text_behind depth h (Some first) said planes = next_text depth (head_saying h said) true planes

-- the text of the next frame, if these planes are those of the last picture: of one that repeats it
-- that picture, and nothing before the first one
abbrev pub text_next : ℕ → VideoHead → Option Said → Planes → Frame → List ℕ
text_next depth h first kept (Coded f) = text_behind depth h first f.said f.planes
text_next depth h None kept Again = []
text_next depth h (Some said) kept Again = text_behind depth h (Some said) said kept

-- it says what those before it say
abbrev pub SaysNext : Option Said → Frame → Type 0
SaysNext first (Coded f) = SaysAgain first f.said
SaysNext first Again = ⊤

-- what is begun after it
abbrev pub begun_next : ℕ → VideoHead → Begun → Frame → Begun
begun_next depth h begun (Coded f) = Some (f.said, writer_behind depth h f.said)
begun_next depth h begun Again = begun

-- and the planes of the last picture
abbrev pub planes_next : Planes → Frame → Planes
planes_next kept (Coded f) = f.planes
planes_next kept Again = kept

-- these planes are those of the last coded frame, if there is one
abbrev pub KeepsLast : Planes → List Frame → Type 0
KeepsLast kept frames =
    (f : CodedFrame) → last_of (coded_frames frames) ≡ Some f → kept ≡ f.planes

-- what writing a picture answers, and the text after it: that is written, or a write failed, which
-- was counted, after a beginning of it; or the picture says something else, and nothing is written
abbrev pub WritesPicture : ℕ → VideoHead → Option Said → Said → Planes → Passage → Begun →
    Result (Unit {0}) Fault → Type 0
WritesPicture depth h first said planes p after (Ok done) =
    SaysAgain first said × (p.after ≡ p.before)
    × Appends p.old p.new (text_behind depth h first said planes)
    × (after ≡ Some (said, writer_behind depth h said))
WritesPicture depth h first said planes p after (Err f) =
    ((f ≡ fault.Write) × SaysAgain first said × (p.after ≡ one_more p.before)
    × AppendsBeginning p.old p.new (text_behind depth h first said planes))
    ⊎ ((f ≡ fault.FormatChanged) × (SaysAgain first said → ⊥) × Silent p)

-- what writing the last picture once more answers, and the text after it: nothing is written before
-- the first one
abbrev pub RepeatsPicture : ℕ → VideoHead → Begun → Planes → Passage → Begun →
    Result (Unit {0}) Fault → Type 0
RepeatsPicture depth h begun kept p after (Ok done) =
    (p.after ≡ p.before) × Appends p.old p.new (text_next depth h (said_in begun) kept Again)
    × (after ≡ begun)
RepeatsPicture depth h begun kept p after (Err f) =
    (f ≡ fault.Write) × (p.after ≡ one_more p.before)
    × AppendsBeginning p.old p.new (text_next depth h (said_in begun) kept Again)

-- of the next frame, to which this is carried over, after pictures of which the text begins so, and
-- the last one has these planes
module _ (a : Accepted) (carried : List ℕ) (h : VideoHead) (begun : Begun) (kept : Planes)
    (from to : Place) (input output : Passage) where
  -- it was decoded, and says something else
  pub record FrameChanges (f : Fault) : Type 0 where
    pub frame : CodedFrame
    pub plays : PlaysCarried a carried from to input (Coded frame)
    pub changed : SaysAgain (said_in begun) frame.said → ⊥
    pub is : f ≡ fault.FormatChanged

  -- why there is none, or it is not written, by the cause
  abbrev pub NextStopsBy : Fault → Cause → Type 0
  NextStopsBy f Writing =
      (frame : Frame) × PlaysCarried a carried from to input frame × SaysNext (said_in begun) frame
      × (output.after ≡ one_more output.before)
      × AppendsBeginning output.old output.new
      (text_next a.configuration.depth h (said_in begun) kept frame)
  NextStopsBy f Reading =
      Silent output × (input.after ≡ one_more input.before)
      × Known input.old input.new (NextReadFails from)
  NextStopsBy f Memory =
      Silent output × (input.after ≡ input.before)
      × Known input.old input.new (NextPayloadLacks from)
  NextStopsBy f Content =
      Silent output × (input.after ≡ input.before)
      × (Known input.old input.new (NextHasFault f from) ⊎ CarriedFaults a carried from to input f
      ⊎ FrameChanges f)

  -- what its writing answers, and the text and the planes after it: its picture was written, there
  -- is none, and this is noted of the end, or why it was not
  abbrev pub WritesNext : Notes → Begun → Planes → Result Bool Fault → Type 0
  WritesNext notes after planes (Ok true) =
      (frame : Frame) × PlaysCarried a carried from to input frame × SaysNext (said_in begun) frame
      × (output.after ≡ output.before)
      × Appends output.old output.new
      (text_next a.configuration.depth h (said_in begun) kept frame)
      × (after ≡ begun_next a.configuration.depth h begun frame)
      × (planes ≡ planes_next kept frame)
  WritesNext notes after planes (Ok false) = ReadsEnd from notes input × Silent output
  WritesNext notes after planes (Err f) = NextStopsBy f (cause_of f)

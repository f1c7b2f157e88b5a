-- Decoding the frames of a file one after the other, and writing a line of each at once: how far
-- that goes, and why it goes no further.
use Rattle.std.specs.Prelude.{◌≡◌, ℕ, Bool, true, false, List, length}
use Rattle.ffv1_range.specs.declared.tally.Tally.{Tally}
use Rattle.ffv1_range.specs.Counts.{saturated}
use Rattle.ffv1_wire.specs.Passage.{Passage}
use Rattle.ffv1_record.specs.Accepted.{Accepted}
use Rattle.ffv1_frame.specs.declared.fault.FrameFault.{FrameFault}
use Rattle.ffv1_files.specs.Places.{Place}
use Rattle.ffv1_video.specs.declared.fault.Fault.{Fault}
use Rattle.ffv1_frame.specs.declared.fault.CodecFault.TheVariants as codec_fault
use Rattle.ffv1_reads.specs.declared.fault.FileFault.TheVariants as file_fault
use Rattle.ffv1_video.specs.declared.fault.Fault.TheVariants as fault
use Rattle.ffv1_unpack.specs.declared.frame_line.FrameLine.{FrameLine}
use Rattle.ffv1_video.specs.Faults.{cause_of, is_codec_fault, of_codec}
use Rattle.ffv1_video.specs.Faults.Cause.{Content}
use Rattle.ffv1_unpack.specs.Stream.{Frame, IsFrame, IsRefusedPayload, frame_payload}
use Rattle.ffv1_unpack.specs.Plays.{GoesThen, NextIsPayload}
use Rattle.ffv1_unpack.specs.FrameLines.{frame_lines, place_text}
use Rattle.ffv1_unpack.specs.Located.{WritesLine}

-- by how a file has payloads
module _ (Has : List (List ℕ) → (Place → List ℕ → List ℕ → Type 0) → List ℕ → List ℕ → Type 0)
    (lines : List Frame → List ℕ) (number : ℕ → ℕ) (place : Bool) (a : Accepted)
    (input output : Passage) where
  -- the payload after these frames, with these lines, has its first fault; its number is by how
  -- many they are
  pub record PayloadStopsFrom (f : Fault) : Type 0 where
    pub frames : List Frame
    pub payload : List ℕ
    pub fault : FrameFault
    pub tally : Tally
    pub goes : GoesThen (IsFrame a) frame_payload Has lines input output frames
        (NextIsPayload payload)
    pub faulty : IsRefusedPayload a payload fault tally
    pub is : f ≡ of_codec fault.fault
    pub content : cause_of f ≡ Content
    pub kept : input.after ≡ input.before
    pub writes : WritesLine (lines frames)
        (place_text place (number (length frames)) fault tally) output

-- the same where the first frame has the number 0
abbrev pub PayloadStops :
    (List (List ℕ) → (Place → List ℕ → List ℕ → Type 0) → List ℕ → List ℕ → Type 0) →
    FrameLine → Bool → Accepted → Passage → Passage → Fault → Type 0
PayloadStops Has kind place a =
    PayloadStopsFrom Has (frame_lines kind a.configuration) saturated place a

-- the faults that telling frames has, whatever the file: those of reading a frame, of decoding it,
-- and of writing its line
abbrev pub is_telling_fault : Fault → Bool
is_telling_fault fault.OutOfMemory = true
is_telling_fault fault.Read = true
is_telling_fault fault.Write = true
is_telling_fault (fault.File file_fault.NotAvi) = true
is_telling_fault (fault.File file_fault.Truncated) = true
is_telling_fault (fault.File file_fault.ChunkTooLong) = true
is_telling_fault (fault.File file_fault.EmptyFrame) = true
is_telling_fault (fault.Codec codec_fault.SliceTooLong) = false
is_telling_fault (fault.Codec codec_fault.Sink) = false
is_telling_fault (fault.Codec f) = is_codec_fault f
is_telling_fault f = false

-- Decoding the frames of a file one after the other, and writing each picture: how far that goes,
-- and why it goes no further.
use Rattle.std.specs.Prelude.{◌≡◌, ◌⊎◌, ℕ, true, List, [], ◌∷◌, ◌++◌, length, Option, Some}
use Rattle.std.specs.Io.KnownBytes.{Appends}
use Rattle.ffv1_range.specs.declared.tally.Tally.{Tally}
use Rattle.ffv1_wire.specs.Failures.{one_more}
use Rattle.ffv1_wire.specs.Passage.{Passage}
use Rattle.ffv1_wire.specs.Runs.{Line}
use Rattle.ffv1_frame.specs.declared.fault.FrameFault.{FrameFault}
use Rattle.ffv1_files.specs.Places.{Place}
use Rattle.ffv1_files.specs.declared.notes.Notes.{Notes}
use Rattle.ffv1_video.specs.declared.fault.Fault.{Fault}
use Rattle.ffv1_video.specs.declared.fault.Fault.TheVariants as fault
use Rattle.ffv1_video.specs.Faults.{Cause, cause_of, of_codec}
use Rattle.ffv1_video.specs.Faults.Cause.{Reading, Writing, Memory, Content}
use Rattle.ffv1_codec.specs.Outcome.{OffersLine}
use Rattle.ffv1_unpack.specs.Stream.{Coded, CodedFrame, Frame, IsFrame, IsRefusedPayload, Stream}
use Rattle.ffv1_unpack.specs.Stream.{coded_frames, frame_payload, last_of, payloads, shown_frames}
use Rattle.ffv1_video.specs.Output.{WritesUpTo}
use Rattle.ffv1_unpack.specs.Plays.{AtMost, FramesThen, GoesThen, NextBehind, NextHasFault}
use Rattle.ffv1_unpack.specs.Plays.{NextIsPayload}
use Rattle.ffv1_unpack.specs.Plays.{NextPayloadLacks, NextReadFails, NextStays, TextFails}
use Rattle.ffv1_unpack.specs.Plays.{WritesText}
use Rattle.ffv1_codec.specs.Outcome.{lines_before}
use Rattle.ffv1_unpack.specs.Unpacked.{AreAlike, is_ppm_stream, rows_of, shown_text}

-- the payload whose picture the next one shows: its own, or if it has no bytes that of the last
-- coded frame before it
abbrev pub Shows : List Frame → List ℕ → List ℕ → Type 0
Shows frames [] source =
    (f : CodedFrame) × (last_of (coded_frames frames) ≡ Some f) × (source ≡ f.payload)
Shows frames (b ∷ bs) source = source ≡ b ∷ bs

-- by how a file has payloads
module _ (Has : List (List ℕ) → (Place → List ℕ → List ℕ → Type 0) → List ℕ → List ℕ → Type 0)
    (s : Stream) (input output : Passage) where
  -- the file has these frames, which say the same, and then this stands; and their text was written
  pub record UnpacksThen (frames : List Frame) (Next : Place → List ℕ → List ℕ → Type 0)
      : Type 0 where
    pub plays : FramesThen Has s.accepted (shown_text s) input output frames Next
    pub alike : AreAlike s (shown_frames frames)

  -- they are all, of at most so many, and this is noted of the end
  pub record UnpacksMost (notes : Notes) (most : Option ℕ) (frames : List Frame) : Type 0 where
    pub unpacks : UnpacksThen frames (NextBehind notes most (length frames))
    pub few : AtMost most (length frames)
    pub kept : input.after ≡ input.before

  -- the picture of the last of them was not written whole
  pub record PictureFails (frames : List Frame) : Type 0 where
    pub fails : TextFails (IsFrame s.accepted) frame_payload Has (shown_text s) input output frames
    pub alike : AreAlike s (shown_frames frames)

  -- the frame after these, decoded, says something else than they do
  pub record FormatChanges (f : Fault) : Type 0 where
    pub frames : List Frame
    pub last : CodedFrame
    pub goes : GoesThen (IsFrame s.accepted) frame_payload Has (shown_text s) input output
        (frames ++ (Coded last ∷ [])) NextStays
    pub alike : AreAlike s (shown_frames frames)
    pub changed : AreAlike s (shown_frames (frames ++ (Coded last ∷ []))) → ⊥
    pub is : f ≡ fault.FormatChanged
    pub wrote :
        WritesText (IsFrame s.accepted) frame_payload Has (shown_text s) input output frames

  -- by how a payload comes after those of frames
  module _ (Comes : List (List ℕ) → List ℕ → Place → List ℕ → List ℕ → Type 0) where
    -- the same, and the payload after them comes next
    abbrev pub GoesTo : List Frame → List ℕ → Type 0
    GoesTo frames payload =
        GoesThen (IsFrame s.accepted) frame_payload Has (shown_text s) input output frames
        (Comes (payloads frames) payload)

    -- of the image after these frames, which a payload codes, a row was not written whole, which a
    -- line was to bring
    pub record RowFails : Type 0 where
      pub frames : List Frame
      pub payload : List ℕ
      pub source : List ℕ
      pub shows : Shows frames payload source
      pub lines : List Line
      pub next : Line
      pub ppm : is_ppm_stream s ≡ true
      pub goes : GoesTo frames payload
      pub hands : OffersLine s.accepted source lines next
      pub kept : input.after ≡ input.before
      pub written : output.after ≡ one_more output.before
      pub writes : WritesUpTo output.old output.new
          (length (shown_text s frames ++ rows_of s lines))
          (shown_text s frames ++ rows_of s (lines ++ (next ∷ [])))

    -- the payload after these frames has its first fault; of its image the rows before are written
    pub record PayloadStops (f : Fault) : Type 0 where
      pub frames : List Frame
      pub payload : List ℕ
      pub fault : FrameFault
      pub tally : Tally
      pub goes : GoesTo frames payload
      pub alike : AreAlike s (shown_frames frames)
      pub faulty : IsRefusedPayload s.accepted payload fault tally
      pub is : f ≡ of_codec fault.fault
      pub written : output.after ≡ output.before
      pub writes : Appends output.old output.new
          (shown_text s frames ++ rows_of s (lines_before faulty.faulty))

    -- why no further picture is written, by the cause: a write failed, which was counted; a read of
    -- the next frame failed, which was counted; memory was refused for the next payload, or before
    -- the first frame for what a picture is written from; or the file has this fault
    abbrev pub UnpackingStopsIn : Fault → Cause → Type 0
    UnpackingStopsIn f Writing = ((frames : List Frame) × PictureFails frames) ⊎ RowFails
    UnpackingStopsIn f Reading =
        (input.after ≡ one_more input.before)
        × (frames : List Frame) × UnpacksThen frames NextReadFails
    UnpackingStopsIn f Memory =
        (input.after ≡ input.before)
        × (((frames : List Frame) × UnpacksThen frames NextPayloadLacks)
        ⊎ UnpacksThen [] NextStays)
    UnpackingStopsIn f Content =
        (input.after ≡ input.before)
        × (((frames : List Frame) × UnpacksThen frames (NextHasFault f))
        ⊎ PayloadStops f ⊎ FormatChanges f)

  -- if it is the next one of the file
  abbrev pub UnpackingStopsBy : Fault → Cause → Type 0
  UnpackingStopsBy = UnpackingStopsIn (λ before. NextIsPayload)

  abbrev pub UnpackingStops : Fault → Type 0
  UnpackingStops f = UnpackingStopsBy f (cause_of f)

-- Writing images row by row, each while it is decoded: what the next frame answers, and what is
-- written of it.
use Rattle.std.specs.Prelude.{◌≡◌, ◌⊎◌, ◌<◌, ℕ, Bool, true, false, List, [], ◌∷◌, ◌++◌, length}
use Rattle.std.specs.Prelude.{flat_map, Option, Some, None, Result, Ok, Err}
use Rattle.std.specs.Io.KnownBytes.{Appends}
use Rattle.ffv1_wire.specs.Failures.{one_more}
use Rattle.ffv1_wire.specs.Passage.{Passage}
use Rattle.ffv1_wire.specs.Runs.{Line}
use Rattle.ffv1_record.specs.Accepted.{Accepted}
use Rattle.ffv1_record.specs.Configuration.{Configuration}
use Rattle.ffv1_files.specs.Places.{Place}
use Rattle.ffv1_files.specs.declared.notes.Notes.{Notes}
use Rattle.ffv1_y4m.specs.Images.{AtImage, image_text, text_of_lines}
use Rattle.ffv1_y4m.specs.Sink.{PpmSink}
use Rattle.ffv1_reads.specs.Known.{Known}
use Rattle.ffv1_video.specs.declared.fault.Fault.{Fault}
use Rattle.ffv1_video.specs.declared.fault.Fault.TheVariants as fault
use Rattle.ffv1_video.specs.Faults.{Cause, cause_of}
use Rattle.ffv1_video.specs.Faults.Cause.{Reading, Writing, Memory, Content}
use Rattle.ffv1_unpack.specs.Stream.{Again, Coded, CodedFrame, Frame, coded_frames, last_of, those}
use Rattle.ffv1_unpack.specs.Unpacking.{Shows}
use Rattle.ffv1_unpack.specs.Internal.Play.{ReadsEnd}
use Rattle.ffv1_video.specs.Output.{WritesUpTo}
use Rattle.ffv1_unpack.specs.Plays.{NextHasFault, NextPayloadLacks, NextReadFails}
use Rattle.ffv1_unpack.specs.Internal.Carried.{CarriedFaults, PlaysCarried, ReadsCarried}
use Rattle.ffv1_video.specs.Output.{Silent}
use Rattle.ffv1_codec.specs.Outcome.{lines_before}
use Rattle.ffv1_codec.specs.Outcome.{OffersLine}

-- a sink of images of a configuration's size and depth that has taken whole images
pub record IsSinkFor {W : Type 0} (c : Configuration) (s : PpmSink W) : Type 0 where
  pub at : AtImage s
  pub width : s.width ≡ c.width
  pub height : s.height ≡ c.height
  pub depth : s.depth ≡ c.depth

-- what the first lines of an image make a sink write: its header, and the rows that are whole
abbrev pub rows_so_far : Configuration → List Line → List ℕ
rows_so_far c lines = text_of_lines c.depth c.width c.height [] 0 lines

-- the image of a coded frame
abbrev pub image_of : Configuration → CodedFrame → List ℕ
image_of c f = image_text c.depth c.width c.height f.planes

-- of the next frame after these: of one that repeats another the last image, if there is one
abbrev pub image_next : Configuration → List Frame → Frame → List ℕ
image_next c frames (Coded f) = image_of c f
image_next c frames Again = flat_map (image_of c) (those (last_of (coded_frames frames)))

-- this is the payload of a coded frame, which has bytes; or there is no frame, and it has none
abbrev pub IsPayloadOf : Option CodedFrame → List ℕ → Type 0
IsPayloadOf None payload = payload ≡ []
IsPayloadOf (Some f) payload = (payload ≡ f.payload) × (0 < length payload)

-- that of the last coded frame of these
abbrev pub IsLastPayload : List Frame → List ℕ → Type 0
IsLastPayload frames payload = IsPayloadOf (last_of (coded_frames frames)) payload

-- of the next frame, to which this is carried over, after whole images of these
module _ (a : Accepted) (carried : List ℕ) (frames : List Frame) (from to : Place)
    (input output : Passage) where
  -- a row was not written whole, which a line was to bring
  pub record RowCut : Type 0 where
    pub payload : List ℕ
    pub source : List ℕ
    pub shows : Shows frames payload source
    pub lines : List Line
    pub next : Line
    pub reads : ReadsCarried carried from to payload input
    pub hands : OffersLine a source lines next
    pub written : output.after ≡ one_more output.before
    pub writes : WritesUpTo output.old output.new (length (rows_so_far a.configuration lines))
        (rows_so_far a.configuration (lines ++ (next ∷ [])))

  -- its payload has its first fault
  pub record ImageFaults (f : Fault) : Type 0 where
    pub payload : CarriedFaults a carried from to input f
    pub written : output.after ≡ output.before
    pub writes : Appends output.old output.new
        (rows_so_far a.configuration (lines_before payload.faulty.faulty))

  -- why there is no image of it, or not all of one, by the cause
  abbrev pub ImageStopsBy : Fault → Cause → Type 0
  ImageStopsBy f Writing = RowCut
  ImageStopsBy f Reading =
      Silent output × (input.after ≡ one_more input.before)
      × Known input.old input.new (NextReadFails from)
  ImageStopsBy f Memory =
      Silent output × (input.after ≡ input.before)
      × Known input.old input.new (NextPayloadLacks from)
  ImageStopsBy f Content =
      (input.after ≡ input.before)
      × ((Silent output × Known input.old input.new (NextHasFault f from)) ⊎ ImageFaults f)

  -- what it answers, and the payload that is kept then: its image was written, there is none, and
  -- this is noted of the end, or why it was not
  abbrev pub WritesImage : Notes → List ℕ → Result Bool Fault → Type 0
  WritesImage notes last (Ok true) =
      (frame : Frame) × PlaysCarried a carried from to input frame × (output.after ≡ output.before)
      × Appends output.old output.new (image_next a.configuration frames frame)
      × IsLastPayload (frames ++ (frame ∷ [])) last
  WritesImage notes last (Ok false) = ReadsEnd from notes input × Silent output
  WritesImage notes last (Err f) = ImageStopsBy f (cause_of f)

-- what writing the last image once more answers: nothing is written before the first one
abbrev pub RepeatsImage : Accepted → List Frame → List ℕ → Passage → Result (Unit {0}) Fault →
    Type 0
RepeatsImage a frames source p (Ok done) =
    (p.after ≡ p.before) × Appends p.old p.new (image_next a.configuration frames Again)
RepeatsImage a frames source p (Err f) =
    (f ≡ fault.Write) × (p.after ≡ one_more p.before)
    × Shows frames [] source × (lines : List Line) × (next : Line)
    × OffersLine a source lines next
    × WritesUpTo p.old p.new (length (rows_so_far a.configuration lines))
    (rows_so_far a.configuration (lines ++ (next ∷ [])))

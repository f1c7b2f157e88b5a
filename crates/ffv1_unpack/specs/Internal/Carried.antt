-- A payload that is carried over to the next frame, which shows it if it has no bytes of its own.
use Rattle.std.specs.Prelude.{◌≡◌, ◌<◌, ℕ, Bool, true, false, List, [], length, Result, Ok}
use Rattle.std.specs.Prelude.{Err}
use Rattle.ffv1_range.specs.declared.tally.Tally.{Tally}
use Rattle.ffv1_wire.specs.Passage.{Passage}
use Rattle.ffv1_wire.specs.Runs.{LineStep}
use Rattle.ffv1_record.specs.Accepted.{Accepted}
use Rattle.ffv1_codec.specs.Answer.{Answers}
use Rattle.ffv1_codec.specs.SliceList.{Said}
use Rattle.ffv1_frame.specs.declared.fault.FrameFault.{FrameFault}
use Rattle.ffv1_files.specs.Places.{Place}
use Rattle.ffv1_files.specs.declared.notes.Notes.{Notes}
use Rattle.ffv1_reads.specs.declared.fault.FileFault.{FileFault}
use Rattle.ffv1_video.specs.declared.fault.Fault.{Fault}
use Rattle.ffv1_video.specs.Faults.{cause_of, of_avi, of_codec}
use Rattle.ffv1_video.specs.Faults.Cause.{Content}
use Rattle.ffv1_unpack.specs.declared.player.NextFrame.{NextFrame}
use Rattle.ffv1_unpack.specs.declared.player.NextFrame.TheVariants as next
use Rattle.ffv1_unpack.specs.declared.player.Stop.{Stop}
use Rattle.ffv1_unpack.specs.declared.player.Stop.TheVariants as stop
use Rattle.ffv1_unpack.specs.Plays.{HasThen}
use Rattle.ffv1_unpack.specs.Stream.{Frame, IsFrame, IsRefusedPayload, bytes_or, frame_payload}
use Rattle.ffv1_unpack.specs.Stream.{shown_by}
use Rattle.ffv1_unpack.specs.Internal.Play.{ReadsEnd, ReadsPayload}
use Rattle.ffv1_unpack.specs.Internal.Told.{StopsFrom}

-- nothing failed, and from this place of the file comes a payload, and then that place; it shows
-- this one
pub record ReadsCarried (carried : List ℕ) (from to : Place) (payload : List ℕ) (p : Passage)
    : Type 0 where
  pub own : List ℕ
  pub reads : ReadsPayload from to own p
  pub is : payload ≡ bytes_or own carried

-- from this place of a file this text begins with payloads that show these; and then comes a
-- position where this stands of what is left before and after
abbrev pub ShowsThen : List ℕ → Place → List (List ℕ) → (Place → List ℕ → List ℕ → Type 0) →
    List ℕ → List ℕ → Type 0
ShowsThen carried from held Next text rest =
    (own : List (List ℕ)) × (held ≡ shown_by carried own) × HasThen from own Next text rest

-- what reading the next payload answers: it was read, there is none, and this is noted of the end,
-- or why it was not
abbrev pub CarriedRead : List ℕ → Place → Place → List ℕ → Notes → Passage →
    Result Bool FileFault → Type 0
CarriedRead carried from to payload notes p (Ok true) = ReadsCarried carried from to payload p
CarriedRead carried from to payload notes p (Ok false) = ReadsEnd from notes p
CarriedRead carried from to payload notes p (Err f) = StopsFrom from p (of_avi f)

-- the payload was decoded, or has no bytes, or is refused, or was not read
abbrev pub CarriedAnswers : {S : Type 0} → LineStep S → LineStep S → Accepted → List ℕ → Place →
    Place → List ℕ → Tally → Notes → Passage → S → S → Result (NextFrame Said) Stop → Type 0
CarriedAnswers takes refuses a carried from to payload tally notes p old new (Ok next.End) =
    ReadsEnd from notes p × (new ≡ old)
CarriedAnswers takes refuses a carried from to payload tally notes p old new
    (Ok (next.Coded info)) =
    ReadsCarried carried from to payload p × Answers takes refuses a payload old new tally (Ok info)
    × (0 < length payload)
CarriedAnswers takes refuses a carried from to payload tally notes p old new (Ok next.Again) =
    ReadsCarried carried from to [] p × (new ≡ old)
CarriedAnswers takes refuses a carried from to payload tally notes p old new (Err (stop.File f)) =
    StopsFrom from p (of_avi f) × (new ≡ old)
CarriedAnswers takes refuses a carried from to payload tally notes p old new
    (Err (stop.Payload f)) =
    ReadsCarried carried from to payload p × (0 < length payload)
    × Answers takes refuses a payload old new tally (Err f)

-- a frame was read and decoded
pub record PlaysCarried (a : Accepted) (carried : List ℕ) (from to : Place) (input : Passage)
    (f : Frame) : Type 0 where
  pub is : IsFrame a f
  pub reads : ReadsCarried carried from to (frame_payload f) input

-- its payload has its first fault
pub record CarriedFaults (a : Accepted) (carried : List ℕ) (from to : Place) (input : Passage)
    (f : Fault) : Type 0 where
  pub payload : List ℕ
  pub fault : FrameFault
  pub tally : Tally
  pub reads : ReadsCarried carried from to payload input
  pub faulty : IsRefusedPayload a payload fault tally
  pub is : f ≡ of_codec fault.fault
  pub content : cause_of f ≡ Content

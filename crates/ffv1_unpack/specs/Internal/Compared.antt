-- A step of comparing the pictures of a file with a list of MD5s.
use Rattle.std.specs.Prelude.{◌≡◌, ◌+◌, ℕ, true, false, List, [], ◌∷◌, map, take, slice_get}
use Rattle.std.specs.Prelude.{Option, Some, None, Result, Ok, Err, ⊤}
use Rattle.ffv1_range.specs.Counts.{saturated}
use Rattle.ffv1_wire.specs.Passage.{Passage, at_rest}
use Rattle.ffv1_record.specs.Accepted.{Accepted}
use Rattle.ffv1_files.specs.Places.{Place}
use Rattle.ffv1_files.specs.declared.notes.Notes.{Notes}
use Rattle.ffv1_unpack.specs.Compared.{DiffersAt, frame_number, frame_numbers, is_md5, met}
use Rattle.ffv1_unpack.specs.Internal.Play.{ReadsEnd}
use Rattle.ffv1_unpack.specs.Internal.Plays.{NextAnswers, PlaysFrame}
use Rattle.ffv1_unpack.specs.Plays.{HasThen, PlayStops}
use Rattle.ffv1_unpack.specs.Stream.{Again, Coded, CodedFrame, Frame, coded_frames}
use Rattle.ffv1_unpack.specs.declared.comparing.Met.{Met}
use Rattle.ffv1_unpack.specs.declared.comparing.Unlike.{Unlike}
use Rattle.ffv1_unpack.specs.declared.comparing.Unlike.TheVariants as unlike

-- the list has the MD5 of a frame there, if it is coded
abbrev pub AgreesThere : Accepted → List ℕ → ℕ → Frame → Type 0
AgreesThere a md5s there (Coded f) = is_md5 (slice_get md5s there) (frame_number a f) ≡ true
AgreesThere a md5s there Again = ⊤

-- how far it was compared after one more
abbrev pub met_after : Met → Frame → Met
met_after met (Coded f) =
    record { frames = saturated (met.frames + 1); md5s = met.md5s + 1 }
met_after met Again = record { frames = saturated (met.frames + 1); md5s = met.md5s }

-- what comparing the next frame answers: it agrees, there is none, or why it does not
abbrev pub CompareAnswers : Accepted → List ℕ → Met → Place → Place → Passage → Notes →
    Result (Option Met) Unlike → Type 0
CompareAnswers a md5s met from to input notes (Ok (Some after)) =
    (frame : Frame) × PlaysFrame a from to input frame × AgreesThere a md5s met.md5s frame
    × (after ≡ met_after met frame)
CompareAnswers a md5s met from to input notes (Ok None) = ReadsEnd from notes input
CompareAnswers a md5s met from to input notes (Err (unlike.Differs k)) =
    (k ≡ met.frames) × (frame : CodedFrame) × PlaysFrame a from to input (Coded frame)
    × (is_md5 (slice_get md5s met.md5s) (frame_number a frame) ≡ false)
CompareAnswers a md5s met from to input notes (Err (unlike.Fault f)) =
    NextAnswers a (λ frame. map (frame_number a) (coded_frames (frame ∷ []))) from to input
    (at_rest (Some (take met.md5s md5s)) 0) notes (Err f)

-- why no further frame is compared
abbrev pub FramesStop : Place → Accepted → List ℕ → Passage → Unlike → Type 0
FramesStop from a md5s input (unlike.Differs number) =
    DiffersAt (HasThen from) a md5s input number
FramesStop from a md5s input (unlike.Fault f) =
    (count : ℕ) × PlayStops (HasThen from) a (frame_numbers a) input (met md5s count) f

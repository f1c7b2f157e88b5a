-- Decoding frame after frame of a file, and writing text of each: what that answers, writes, and is
-- refused by.
use Rattle.std.specs.Prelude.{◌≡◌, ◌⊎◌, ℕ, List, [], ◌∷◌, Option, Ok, Err, ⊤}
use Rattle.ffv1_range.specs.declared.tally.Tally.{Tally}
use Rattle.ffv1_record.specs.Accepted.{Accepted}
use Rattle.ffv1_record.specs.Reading.{IsRefused}
use Rattle.ffv1_record.specs.declared.fault.RecordFault.{RecordFault}
use Rattle.ffv1_frame.specs.declared.fault.FrameFault.{FrameFault}
use Rattle.ffv1_files.specs.Places.{Place}
use Rattle.ffv1_files.specs.Files.{once_read, open_read}
use Rattle.ffv1_files.specs.declared.notes.Notes.{Notes}
use Rattle.ffv1_reads.specs.Head.{Head}
use Rattle.ffv1_reads.specs.Reads.{Reading, Want, Short, Met}
use Rattle.ffv1_reads.specs.declared.fault.FileFault.{FileFault}
use Rattle.ffv1_reads.specs.Known.{Known}
use Rattle.ffv1_video.specs.declared.profile.Profile.{Profile}
use Rattle.ffv1_video.specs.Profiles.{greatest_depth, record_profile, scope_in}
use Rattle.ffv1_video.specs.declared.fault.Fault.{Fault}
use Rattle.ffv1_reads.specs.declared.fault.FileFault.TheVariants as file_fault
use Rattle.ffv1_video.specs.declared.fault.Fault.TheVariants as fault
use Rattle.ffv1_video.specs.Faults.{of_avi, of_codec, of_record}
use Rattle.ffv1_unpack.specs.Stream.{AreFrames, Frame, IsRefusedPayload, IsStream}
use Rattle.ffv1_unpack.specs.Stream.{Stream}

-- bytes of a file have this fault, with this left; those that end where more are wanted are
-- truncated
abbrev pub FaultsRead : {X : Type 0} → Reading X → List ℕ → List ℕ → Fault → Type 0
FaultsRead reading text rest f =
    ((w : Want) × (reading text ≡ Err (Short w)) × (rest ≡ [])
    × (f ≡ fault.File file_fault.Truncated))
    ⊎ ((g : FileFault) × (reading text ≡ Err (Met g rest)) × (f ≡ of_avi g))

-- a file with a head whose record is refused
pub record LacksRecord (profile : Profile) (file rest : List ℕ) (f : Fault) : Type 0 where
  pub head : Head
  pub place : Place
  pub opened : open_read (scope_in profile) file ≡ Ok ((head, place), rest)
  pub refusal : RecordFault
  pub refused : IsRefused (record_profile profile) (greatest_depth profile) head.config_record
      head.width head.height refusal
  pub is : f ≡ of_record refusal

-- the first fault of a file before its frames; or that of one that is read once, if the input can't
-- begin again
abbrev pub FaultsOpening : Profile → List ℕ → List ℕ → Fault → Type 0
FaultsOpening profile file rest f =
    FaultsRead (open_read (scope_in profile)) file rest f
    ⊎ FaultsRead (once_read (scope_in profile)) file rest f

-- the first fault of a file that has no stream, if it is known
abbrev pub LacksStream : Profile → Option (List ℕ) → Option (List ℕ) → Fault → Type 0
LacksStream profile old new f = Known old new (λ file rest.
    FaultsOpening profile file rest f ⊎ LacksRecord profile file rest f)

-- why there is no further frame: the file has a fault, or the next payload has one, after so much
-- was decided, or there is none, and this is noted of the end
pub data End : Type 0 where
  File : Fault → End
  Payload : List ℕ → FrameFault → Tally → End
  Over : Notes → End

-- the payload at which it ends has its fault
abbrev pub IsFaulty : Accepted → End → Type 0
IsFaulty a (File f) = ⊤
IsFaulty a (Payload payload f tally) = IsRefusedPayload a payload f tally
IsFaulty a (Over notes) = ⊤

-- the fault that this is
abbrev pub EndsWith : List Frame → End → Fault → Type 0
EndsWith frames (File f) g = g ≡ f
EndsWith frames (Payload payload f tally) g = g ≡ of_codec f.fault
EndsWith frames (Over notes) g = (frames ≡ []) × (g ≡ fault.NoFrames)

-- frames of a stream
pub record Played (profile : Profile) (s : Stream) (frames : List Frame) : Type 0 where
  pub stream : IsStream profile s
  pub decoded : AreFrames s.accepted frames

-- all but the last
abbrev pub but_last : {X : Type 0} → List X → List X
but_last [] = []
but_last (x ∷ []) = []
but_last (x ∷ y ∷ zs) = x ∷ but_last (y ∷ zs)

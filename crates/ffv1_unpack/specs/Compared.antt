-- Comparing the pictures of a file with a list of MD5s.
use Rattle.std.specs.Prelude.{◌≡◌, ◌⊎◌, ℕ, ◌<◌, ◌==◌, Bool, false, List, [], ◌∷◌, ◌++◌}
use Rattle.std.specs.Prelude.{length, map, take, slice_get, Option, Some, None}
use Rattle.std.specs.Int.{from_be_bytes, w128}
use Rattle.md5.specs.Md5.{md5}
use Rattle.ffv1_range.specs.Counts.{saturated}
use Rattle.ffv1_wire.specs.Passage.{Passage, between}
use Rattle.ffv1_record.specs.Accepted.{Accepted}
use Rattle.ffv1_record.specs.Configuration.{is_rct}
use Rattle.ffv1_codec.specs.Picture.{Planes}
use Rattle.ffv1_files.specs.Places.{Place}
use Rattle.ffv1_files.specs.declared.notes.Notes.{Notes}
use Rattle.ffv1_video.specs.RawPicture.{raw_bytes}
use Rattle.ffv1_video.specs.declared.fault.Fault.{Fault}
use Rattle.ffv1_video.specs.declared.profile.Profile.{Profile}
use Rattle.ffv1_unpack.specs.Plays.{FileStops, FileThen, GoesThen, NextOver, NextStays, PlaysFile}
use Rattle.ffv1_unpack.specs.Stream.{Coded, CodedFrame, Frame, IsFrame, IsStream, Stream}
use Rattle.ffv1_unpack.specs.Stream.{coded_frames, frame_payload}
use Rattle.ffv1_unpack.specs.declared.comparing.Unlike.{Unlike}
use Rattle.ffv1_unpack.specs.declared.comparing.Unlike.TheVariants as unlike

-- the MD5 of a picture, as a number whose first byte is the highest
abbrev pub picture_number : Accepted → Planes → ℕ
picture_number a planes = from_be_bytes w128
    (md5 (raw_bytes (is_rct a.configuration.colour) a.configuration.depth planes))

abbrev pub frame_number : Accepted → CodedFrame → ℕ
frame_number a f = picture_number a f.planes

-- the MD5s of frames: one that repeats another has none
abbrev pub frame_numbers : Accepted → List Frame → List ℕ
frame_numbers a frames = map (frame_number a) (coded_frames frames)

abbrev pub stream_numbers : Stream → List Frame → List ℕ
stream_numbers s = frame_numbers s.accepted

-- so many MD5s of a list, in the place of what is written of as many frames
abbrev pub met : List ℕ → ℕ → Passage
met md5s count = between (Some []) (Some (take count md5s)) 0 0

-- all frames of the file, at least one, were decoded, and their MD5s are those of the list, in
-- turn; this is noted of the end
abbrev pub Agrees : Profile → List ℕ → Passage → Notes → Type 0
Agrees profile md5s input = PlaysFile profile stream_numbers input (met md5s (length md5s))

-- whether the list has this MD5 there
abbrev pub is_md5 : Option ℕ → ℕ → Bool
is_md5 None number = false
is_md5 (Some md5) number = md5 == number

-- by how a file has payloads
module _ (Has : List (List ℕ) → (Place → List ℕ → List ℕ → Type 0) → List ℕ → List ℕ → Type 0)
    (a : Accepted) (md5s : List ℕ) (input : Passage) where
  abbrev pub ComparedThen : List Frame → (Place → List ℕ → List ℕ → Type 0) → Type 0
  ComparedThen frames Next = GoesThen (IsFrame a) frame_payload Has (frame_numbers a) input
      (met md5s (length (coded_frames frames))) frames Next

  -- after the first frames, whose MD5s are the first ones of the list, a further one has another
  -- MD5 than the next one, or the list has no next one; or there is no further one, and the list
  -- has
  pub record DiffersAt (number : ℕ) : Type 0 where
    pub frames : List Frame
    pub is : number ≡ saturated (length frames)
    pub agree : frame_numbers a frames ≡ take (length (coded_frames frames)) md5s
    pub kept : input.after ≡ input.before
    pub differs :
        ((f : CodedFrame) × ComparedThen (frames ++ (Coded f ∷ [])) NextStays
        × (is_md5 (slice_get md5s (length (coded_frames frames))) (frame_number a f) ≡ false))
        ⊎ ((notes : Notes) × ComparedThen frames (NextOver notes) × (0 < number)
        × (length (coded_frames frames) < length md5s))

-- the first frame that differs has this number
pub record FileDiffers (profile : Profile) (md5s : List ℕ) (input : Passage) (number : ℕ)
    : Type 0 where
  pub stream : Stream
  pub is : IsStream profile stream
  pub at : DiffersAt (FileThen profile stream.head) stream.accepted md5s input number

-- why not: a frame differs; or the file has a fault, after frames that do not
abbrev pub ComparingStops : Profile → List ℕ → Passage → Unlike → Type 0
ComparingStops profile md5s input (unlike.Differs number) = FileDiffers profile md5s input number
ComparingStops profile md5s input (unlike.Fault f) =
    (count : ℕ) × FileStops profile stream_numbers input (met md5s count) f

-- a difference, or a fault of this kind
abbrev pub IsUnlike : (Fault → Type 0) → Unlike → Type 0
IsUnlike are (unlike.Differs number) = Unit {0}
IsUnlike are (unlike.Fault f) = are f

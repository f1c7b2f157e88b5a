-- The stream of a file: what its head says, its configuration, and its frames, decoded one after
-- the other.
use Rattle.std.specs.Prelude.{◌≡◌, ◌≤◌, ◌<◌, ℕ, List, [], ◌∷◌, ◌++◌, length, map, Option, Some}
use Rattle.std.specs.Prelude.{None, Ok, ⊤}
use Rattle.ffv1_range.specs.declared.tally.Tally.{Tally}
use Rattle.ffv1_record.specs.Accepted.{Accepted, IsAccepted, PassesAll, checks}
use Rattle.ffv1_record.specs.Record.{IsRecord}
use Rattle.ffv1_codec.specs.Outcome.{CountOf, FaultsOf}
use Rattle.ffv1_codec.specs.Frame.{CodesPicture}
use Rattle.ffv1_codec.specs.Picture.{Planes}
use Rattle.ffv1_codec.specs.SliceList.{Said}
use Rattle.ffv1_frame.specs.declared.fault.FrameFault.{FrameFault}
use Rattle.ffv1_files.specs.Places.{Place}
use Rattle.ffv1_avi.specs.Chunks.{AviFile}
use Rattle.ffv1_files.specs.Files.{frame_read}
use Rattle.ffv1_reads.specs.Head.{Head}
use Rattle.ffv1_files.specs.Whole.{IsWhole}
use Rattle.ffv1_video.specs.declared.profile.Profile.{Profile}
use Rattle.ffv1_video.specs.declared.profile.Profile.TheVariants.{Strict, Wide}
use Rattle.ffv1_video.specs.Profiles.{greatest_depth, record_profile}

-- the head of a file, and the configuration of its frames
pub record Stream : Type 0 where
  pub head : Head
  pub accepted : Accepted

-- the head's record is of that configuration, for pictures of the head's size, in the profile,
-- whose checks it passes, and which reads samples of that depth
pub record IsStream (profile : Profile) (s : Stream) : Type 0 where
  pub coded : IsRecord s.head.config_record s.accepted.configuration
  pub width : s.accepted.configuration.width ≡ s.head.width
  pub height : s.accepted.configuration.height ≡ s.head.height
  pub accepted : IsAccepted s.accepted.configuration s.accepted.table
  pub passes : PassesAll (record_profile profile) checks s.accepted.configuration
  pub profiled : s.accepted.profile ≡ record_profile profile
  pub deep : s.accepted.configuration.depth ≤ greatest_depth profile

-- a coded frame: its payload, the picture that it codes, what it says of it, and what was decided
pub record CodedFrame : Type 0 where
  pub payload : List ℕ
  pub planes : Planes
  pub said : Said
  pub tally : Tally

-- a coded frame of a configuration
pub record IsCoded (a : Accepted) (f : CodedFrame) : Type 0 where
  pub codes : CodesPicture a f.payload f.planes f.said
  pub decided : CountOf a f.payload f.tally

-- a payload that has bytes has this first fault, after so much was decided
pub record IsRefusedPayload (a : Accepted) (payload : List ℕ) (f : FrameFault)
    (tally : Tally) : Type 0 where
  pub some : 0 < length payload
  pub faulty : FaultsOf a payload f tally

-- a frame: it is coded; or its payload has no bytes, and it repeats the frame before it
pub data Frame : Type 0 where
  Coded : CodedFrame → Frame
  Again : Frame

-- a frame of a configuration
abbrev pub IsFrame : Accepted → Frame → Type 0
IsFrame a (Coded f) = IsCoded a f
IsFrame a Again = ⊤

-- this stands of each one
abbrev pub AreAll : {X : Type 0} → (X → Type 0) → List X → Type 0
AreAll Is [] = Unit {0}
AreAll Is (x ∷ xs) = Is x × AreAll Is xs

abbrev pub AreFrames : Accepted → List Frame → Type 0
AreFrames a frames = AreAll (IsFrame a) frames

abbrev pub frame_payload : Frame → List ℕ
frame_payload (Coded f) = f.payload
frame_payload Again = []

abbrev pub payloads : List Frame → List (List ℕ)
payloads frames = map frame_payload frames

-- the coded ones
abbrev pub with_coded : Frame → List CodedFrame → List CodedFrame
with_coded (Coded f) fs = f ∷ fs
with_coded Again fs = fs

abbrev pub coded_frames : List Frame → List CodedFrame
coded_frames [] = []
coded_frames (f ∷ fs) = with_coded f (coded_frames fs)

-- one, or none
abbrev pub those : {X : Type 0} → Option X → List X
those None = []
those (Some x) = x ∷ []

-- the coded frame that each one shows, after this one: its own; or that of the frame before it, and
-- none before the first
abbrev pub shown_after : Option CodedFrame → List Frame → List CodedFrame
shown_after last [] = []
shown_after last (Coded f ∷ fs) = f ∷ shown_after (Some f) fs
shown_after last (Again ∷ fs) = those last ++ shown_after last fs

abbrev pub shown_frames : List Frame → List CodedFrame
shown_frames frames = shown_after None frames

-- the last one
abbrev pub last_of : {X : Type 0} → List X → Option X
last_of [] = None
last_of (x ∷ []) = Some x
last_of (x ∷ y ∷ ys) = last_of (y ∷ ys)

-- these bytes; or if there are none, those
abbrev pub bytes_or : List ℕ → List ℕ → List ℕ
bytes_or [] other = other
bytes_or (b ∷ bs) other = b ∷ bs

-- the last one of payloads that has bytes; none if no one has any
abbrev pub last_bytes : List (List ℕ) → List ℕ
last_bytes [] = []
last_bytes (p ∷ ps) = bytes_or (last_bytes ps) p

-- the payloads whose pictures a part of a file shows, after this one, which is carried over to it:
-- its own, but in place of a first one that has no bytes that one
abbrev pub shown_by : List ℕ → List (List ℕ) → List (List ℕ)
shown_by carried [] = []
shown_by carried (p ∷ ps) = bytes_or p carried ∷ ps

-- what is carried over to the payload after these
abbrev pub carried_after : List ℕ → List (List ℕ) → List ℕ
carried_after carried [] = carried
carried_after carried (p ∷ ps) = []

-- frames after this coded one: a first one that repeats it is that one itself
abbrev pub frames_after : Option CodedFrame → List Frame → List Frame
frames_after (Some f) (Again ∷ fs) = Coded f ∷ fs
frames_after last frames = frames

-- from this place of the file this text begins with these frames; then come that place and that
-- text
abbrev pub ReadsFrames : Place → List ℕ → List (List ℕ) → Place → List ℕ → Type 0
ReadsFrames from text [] to rest = (to ≡ from) × (rest ≡ text)
ReadsFrames from text (frame ∷ frames) to rest =
    (after : Place) × (behind : List ℕ) × (frame_read from text ≡ Ok (Some (frame, after), behind))
    × ReadsFrames after behind frames to rest

-- a file was read to its end, with this head and these payloads, and this is left of it: an AVI by
-- its chunks, after whose first movi that stands; or one that was read whole, an AVI by the chunks
-- of every RIFF, or a Matroska file by its elements
abbrev pub HoldsPayloads : Profile → List ℕ → List ℕ → Head → List (List ℕ) → Type 0
HoldsPayloads Strict file rest head held = (is : AviFile file head held) × (rest ≡ is.rest)
HoldsPayloads Wide file rest head held = IsWhole file head held rest

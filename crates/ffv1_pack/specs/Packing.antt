-- What a video is packed as: its configuration, the frames of its pictures, and the file.
use Rattle.std.specs.Prelude.{◌≡◌, ℕ, Bool, true, if◌then◌else◌, List, [], ◌∷◌, length, map}
use Rattle.std.specs.Prelude.{◌+◌, ◌<◌, ◌≤◌, pos, replicate}
use Rattle.ffv1_plane.specs.Quantisation.{Set, small_set, large_set}
use Rattle.ffv1_record.specs.Configuration.{Configuration}
use Rattle.ffv1_record.specs.Accepted.{Accepted, IsAccepted, PassesAll, checks}
use Rattle.ffv1_record.specs.Record.{record_of}
use Rattle.ffv1_record.specs.declared.config.Coder.{Coder}
use Rattle.ffv1_record.specs.declared.config.Coder.TheVariants as coder
use Rattle.ffv1_record.specs.declared.config.Colour.{Colour}
use Rattle.ffv1_record.specs.declared.config.Colour.TheVariants as colour
use Rattle.ffv1_codec.specs.Picture.{Planes}
use Rattle.ffv1_codec.specs.SliceList.{Said}
use Rattle.ffv1_codec.specs.Frame.{frame_of, HasLongSlice}
use Rattle.ffv1_reads.specs.Head.{Head, frame_limit, limit}
use Rattle.ffv1_avi.specs.Written.{file_of}
use Rattle.ffv1_video.specs.Colours.{file_colour}
use Rattle.ffv1_video.specs.Video.{SaidHead}
use Rattle.ffv1_words.specs.declared.order.Choice.{Choice}
use Rattle.ffv1_video.specs.declared.profile.Profile.{Profile}
use Rattle.ffv1_record.specs.declared.config.Profile.{Profile as RecordProfile}
use Rattle.ffv1_record.specs.declared.config.Profile.TheVariants as record_profiles
use Rattle.ffv1_video.specs.Profiles.{record_profile}
use Rattle.ffv1_words.specs.declared.order.CoderChoice.{CoderChoice}
use Rattle.ffv1_words.specs.declared.order.CoderChoice.TheVariants as coder_choice
use Rattle.ffv1_video.specs.Video.{Video}

-- the standard's state transition table, or one that is carried, by deltas that are all 0
abbrev pub coder_for : CoderChoice → Coder
coder_for coder_choice.Standard = coder.One
coder_for coder_choice.Carried = coder.Two (replicate 255 (pos 0))

abbrev pub set_for : Bool → Set
set_for large = if large then large_set else small_set

-- PPM is coded by the colour transform
abbrev pub colour_for : Bool → Colour
colour_for ppm = if ppm then colour.Rct else colour.YCbCr

-- the configuration of the frames: one set, and all of them key frames
abbrev pub configuration_for : Choice → Bool → SaidHead → Configuration
configuration_for choice ppm h = record {
  width = h.head.width;
  height = h.head.height;
  depth = h.depth;
  coder = coder_for choice.coder;
  colour = colour_for ppm;
  chroma_planes = h.head.chroma_planes;
  extra_plane = h.head.extra_plane;
  log2_h = h.head.log2_h;
  log2_v = h.head.log2_v;
  columns = choice.columns;
  rows = choice.rows;
  sets = set_for choice.large ∷ [];
  ec = choice.ec;
  intra = true;
}

-- what each frame says of its picture
abbrev pub said_for : SaidHead → Said
said_for h = record {
  structure = h.head.structure;
  sar_num = h.head.sar_num;
  sar_den = h.head.sar_den;
}

-- the head of the file, with what its colours are, of which an AVI says nothing; PPM has no rate of
-- its own
abbrev pub head_for : Choice → Bool → SaidHead → Configuration → Head
head_for choice ppm h c = record {
  width = h.head.width;
  height = h.head.height;
  rate = if ppm then choice.rate else h.head.rate;
  scale = if ppm then choice.scale else h.head.scale;
  config_record = record_of c;
  colour = file_colour choice.colour h.head;
}

-- an accepted configuration is the one of this video, and passes the checks of a profile
pub record IsFor (profile : Profile) (choice : Choice) (ppm : Bool) (h : SaidHead) (a : Accepted)
    : Type 0 where
  pub configuration : a.configuration ≡ configuration_for choice ppm h
  pub accepted : IsAccepted a.configuration a.table
  pub passes : PassesAll (record_profile profile) checks a.configuration
  pub profiled : a.profile ≡ record_profile profile

-- there is one for this video
abbrev pub HasConfiguration : Profile → Choice → Bool → SaidHead → Type 0
HasConfiguration profile choice ppm h = (a : Accepted) × IsFor profile choice ppm h a

-- the frames of pictures
abbrev pub frames_for : Accepted → SaidHead → List Planes → List (List ℕ)
frames_for a h pictures = map (λ planes. frame_of a planes (said_for h)) pictures

-- none of the pictures has a slice that is too long
abbrev pub AllShort : Accepted → SaidHead → List Planes → Type 0
AllShort a h [] = Unit {0}
AllShort a h (p ∷ ps) = (HasLongSlice a p (said_for h) → ⊥) × AllShort a h ps

-- the most bytes of a frame that is read in a profile: 67108864, and 1073741824
abbrev pub most_frame : RecordProfile → ℕ
most_frame record_profiles.Strict = limit
most_frame record_profiles.Wide = frame_limit

-- none of these frames is longer
abbrev pub AreReadable : RecordProfile → List (List ℕ) → Type 0
AreReadable p [] = Unit {0}
AreReadable p (f ∷ fs) = (length f ≤ most_frame p) × AreReadable p fs

-- none of these frames of an AVI is: only `Wide` refuses to pack longer ones into it
abbrev pub AreReadableIn : RecordProfile → List (List ℕ) → Type 0
AreReadableIn p frames = p ≡ record_profiles.Wide → AreReadable p frames

-- a frame of an AVI is longer
abbrev pub IsLongIn : RecordProfile → List ℕ → Type 0
IsLongIn p frame = (p ≡ record_profiles.Wide) × (most_frame p < length frame)

-- the head and the frames of the file, and all its bytes
abbrev pub packed_head : Choice → Video → Accepted → Head
packed_head choice v a = head_for choice v.ppm v.head a.configuration

abbrev pub packed_frames : Video → Accepted → List (List ℕ)
packed_frames v a = frames_for a v.head v.pictures

abbrev pub packed_file : Choice → Video → Accepted → List ℕ
packed_file choice v a = file_of (packed_head choice v a) (packed_frames v a)

-- how many bytes frames have
abbrev pub bytes_in : List (List ℕ) → ℕ
bytes_in [] = 0
bytes_in (f ∷ fs) = length f + bytes_in fs

-- What packing a video answers, writes, and is refused by.
use Rattle.std.specs.Prelude.{◌≡◌, ◌⊎◌, ℕ, ◌<◌, ◌≤◌, Bool, true, false, List, [], length, Option}
use Rattle.std.specs.Prelude.{Some, None, Ok, Err, ⊤}
use Rattle.std.specs.Io.KnownBytes.{Appends}
use Rattle.ffv1_wire.specs.Failures.{one_more}
use Rattle.ffv1_wire.specs.Passage.{Passage}
use Rattle.ffv1_wire.specs.Writes.{AppendsBeginning}
use Rattle.ffv1_record.specs.Accepted.{Accepted, IsFirstUpTo}
use Rattle.ffv1_record.specs.declared.fault.RecordFault.{RecordFault}
use Rattle.ffv1_codec.specs.Picture.{Planes}
use Rattle.ffv1_codec.specs.Frame.{frame_of, HasLongSlice}
use Rattle.ffv1_avi.specs.Written.{most as most_bytes, riff_size}
use Rattle.ffv1_y4m.specs.declared.fault.Fault.{Fault as Y4mFault}
use Rattle.ffv1_video.specs.Video.{SaidHead}
use Rattle.ffv1_reads.specs.Known.{Known}
use Rattle.ffv1_video.specs.declared.profile.Profile.{Profile}
use Rattle.ffv1_video.specs.declared.profile.Profile.TheVariants.{Wide}
use Rattle.ffv1_video.specs.declared.fault.Fault.{Fault}
use Rattle.ffv1_record.specs.declared.fault.RecordFault.TheVariants as record_fault
use Rattle.ffv1_frame.specs.declared.fault.CodecFault.TheVariants as codec_fault
use Rattle.ffv1_reads.specs.declared.fault.FileFault.TheVariants as file_fault
use Rattle.ffv1_video.specs.declared.fault.Fault.TheVariants as fault
use Rattle.ffv1_words.specs.declared.order.Choice.{Choice}
use Rattle.ffv1_pack.specs.declared.packing.Packed.{Packed}
use Rattle.ffv1_video.specs.Colours.{loses_colour}
use Rattle.ffv1_video.specs.Faults.{Cause, cause_of, is_text_fault, of_y4m, of_record}
use Rattle.ffv1_video.specs.Faults.Cause.{Reading, Writing, Memory, Content}
use Rattle.ffv1_video.specs.Output.{Silent}
use Rattle.ffv1_video.specs.Video.{Video, Begins, ReadsVideo, at_first, is_ppm, picture_next}
use Rattle.ffv1_video.specs.Video.{video_head}
use Rattle.ffv1_video.specs.Profiles.{greatest_depth, record_profile}
use Rattle.ffv1_pack.specs.Packing.{AllShort, AreReadableIn, HasConfiguration, IsFor, IsLongIn}
use Rattle.ffv1_pack.specs.Packing.{bytes_in, configuration_for, packed_file, packed_frames}
use Rattle.ffv1_pack.specs.Packing.{packed_head, said_for}
use Rattle.ffv1_pack.specs.VideoReads.{PictureLacks, PictureWants, Taken}
use Rattle.ffv1_y4m.specs.Reads.{Wants}
use Rattle.ffv1_y4m.specs.Sequence.{Reading as TextReading}

-- a video of at least one picture, of a depth and a grid that a profile packs, whose file may be
-- written: each slice, and the file, is short enough; in `Wide` each frame, too
pub record IsPackable (profile : Profile) (choice : Choice) (v : Video) (a : Accepted)
    : Type 0 where
  pub deep : v.head.depth ≤ greatest_depth profile
  pub for : IsFor profile choice v.ppm v.head a
  pub some : 0 < length v.pictures
  pub short : AllShort a v.head v.pictures
  pub readable : AreReadableIn (record_profile profile) (packed_frames v a)
  pub small : riff_size (packed_head choice v a) (packed_frames v a) ≤ most_bytes

-- the video was read, its file was written, and what was counted
pub record Packs (profile : Profile) (choice : Choice) (input output : Passage) (packed : Packed)
    : Type 0 where
  pub video : Video
  pub accepted : Accepted
  pub reads : ReadsVideo (greatest_depth profile) input.old input.new video
  pub packable : IsPackable profile choice video accepted
  pub writes : Appends output.old output.new (packed_file choice video accepted)
  pub frames : packed.frames ≡ length video.pictures
  pub bytes : packed.bytes ≡ bytes_in (packed_frames video accepted)
  pub loses : packed.loses_colour ≡ loses_colour (packed_head choice video accepted).colour
  pub read : input.after ≡ input.before
  pub written : output.after ≡ output.before

-- the video was read, and a beginning of its file was written
pub record PacksBeginning (profile : Profile) (choice : Choice) (input output : Passage)
    : Type 0 where
  pub video : Video
  pub accepted : Accepted
  pub reads : ReadsVideo (greatest_depth profile) input.old input.new video
  pub packable : IsPackable profile choice video accepted
  pub writes : AppendsBeginning output.old output.new (packed_file choice video accepted)

-- the text has no head of a depth up to `most`: this is its fault, and this is left
abbrev pub LacksHead : ℕ → List ℕ → List ℕ → Fault → Type 0
LacksHead most text rest f =
    (g : Y4mFault) × (video_head most text ≡ Err (g, rest)) × (f ≡ of_y4m g)

-- its head asks for a configuration that is not accepted in the profile
pub record IsRejected (profile : Profile) (choice : Choice) (text rest : List ℕ) (f : Fault)
    : Type 0 where
  pub head : SaidHead
  pub read : video_head (greatest_depth profile) text ≡ Ok (head, rest)
  pub refusal : RecordFault
  pub first : IsFirstUpTo (record_profile profile) (greatest_depth profile)
      (configuration_for choice (is_ppm text) head) refusal
  pub is : f ≡ of_record refusal

-- the next picture has no frame: a slice of it is too long; or, in `Wide`, its frame is too long to
-- be read
abbrev pub LacksFrame : Profile → Video → Accepted → Planes → Fault → Type 0
LacksFrame profile v a p f =
    (HasLongSlice a p (said_for v.head) × (f ≡ fault.Codec codec_fault.SliceTooLong))
    ⊎ ((HasLongSlice a p (said_for v.head) → ⊥)
    × IsLongIn (record_profile profile) (frame_of a p (said_for v.head))
    × (f ≡ fault.File file_fault.ChunkTooLong))

-- the next picture of a text in a profile, after those of a video
abbrev pub next_in : Profile → Video → TextReading (Option Planes)
next_in profile v = picture_next v.ppm (greatest_depth profile) v.head (at_first v.pictures)

-- why packing ends after the pictures of a video: the next one has a fault, or no frame; or there
-- is no more, and there was none, or their file would be too large
abbrev pub EndsBehind : Profile → Choice → Video → Accepted → List ℕ → List ℕ → Fault → Type 0
EndsBehind profile choice v a left rest f =
    ((g : Y4mFault) × (next_in profile v left ≡ Err (g, rest)) × (f ≡ of_y4m g))
    ⊎ ((p : Planes) × (next_in profile v left ≡ Ok (Some p, rest)) × LacksFrame profile v a p f)
    ⊎ ((next_in profile v left ≡ Ok (None, rest))
    × (((v.pictures ≡ []) × (f ≡ fault.NoFrames))
    ⊎ ((0 < length v.pictures)
    × (most_bytes < riff_size (packed_head choice v a) (packed_frames v a))
    × (f ≡ fault.File file_fault.TooLarge))))

-- its first pictures are encoded, and then packing ends
pub record Ends (profile : Profile) (choice : Choice) (text rest : List ℕ) (f : Fault)
    : Type 0 where
  pub video : Video
  pub accepted : Accepted
  pub left : List ℕ
  pub begins : Begins (greatest_depth profile) text video left
  pub for : IsFor profile choice video.ppm video.head accepted
  pub short : AllShort accepted video.head video.pictures
  pub readable : AreReadableIn (record_profile profile) (packed_frames video accepted)
  pub ends : EndsBehind profile choice video accepted left rest f

-- the first fault of a text that is packed, if that is known, with this left
abbrev pub FaultsPacked : Profile → Choice → Option (List ℕ) → Option (List ℕ) → Fault → Type 0
FaultsPacked profile choice old new f = Known old new (λ text rest.
    LacksHead (greatest_depth profile) text rest f ⊎ IsRejected profile choice text rest f
    ⊎ Ends profile choice text rest f)

-- a text, if it is known, has a head
abbrev pub HasHead : ℕ → Option (List ℕ) → Type 0
HasHead most None = ⊤
HasHead most (Some text) =
    (h : SaidHead) × (rest : List ℕ) × (video_head most text ≡ Ok (h, rest))

-- a text, if it is known, has a head, whose configuration is accepted in a profile
abbrev pub HasAccepted : Profile → Choice → Option (List ℕ) → Type 0
HasAccepted profile choice None = ⊤
HasAccepted profile choice (Some text) =
    (h : SaidHead) × (rest : List ℕ) × (video_head (greatest_depth profile) text ≡ Ok (h, rest))
    × HasConfiguration profile choice (is_ppm text) h

-- the pictures of a video are encoded, and of the text, if it is known, this video was read, and
-- then so much as this says
pub record EncodesSome (profile : Profile) (Next : Video → List ℕ → List ℕ → Type 0)
    (choice : Choice) (input : Passage) : Type 0 where
  pub video : Video
  pub accepted : Accepted
  pub for : IsFor profile choice video.ppm video.head accepted
  pub short : AllShort accepted video.head video.pictures
  pub readable : AreReadableIn (record_profile profile) (packed_frames video accepted)
  pub taken : Known input.old input.new (λ text rest.
      (left : List ℕ) × Begins (greatest_depth profile) text video left × Next video left rest)

-- and then a read failed, if the next picture wants one more byte
abbrev pub EncodingReadFails : Profile → Choice → Passage → Type 0
EncodingReadFails profile choice input = EncodesSome profile
    (λ v. PictureWants v.ppm (greatest_depth profile) v.head v.pictures) choice input

-- and then memory was refused for the next picture, or for the frame of it
abbrev pub EncodingLacks : Profile → Choice → Passage → Type 0
EncodingLacks profile choice input = EncodesSome profile
    (λ v. PictureLacks v.ppm (greatest_depth profile) v.head v.pictures) choice input

-- if the text is known, its head was read, and nothing after it
abbrev pub StandsAfterHead : ℕ → Option (List ℕ) → Option (List ℕ) → Type 0
StandsAfterHead most old new = Known old new (λ text rest.
    (h : SaidHead) × (video_head most text ≡ Ok (h, rest)))

-- the head of a text, if that is known, wants one more byte
abbrev pub HeadWants : ℕ → Option (List ℕ) → Option (List ℕ) → Type 0
HeadWants most old new = Known old new (Taken (Wants (video_head most)))

-- why packing is refused, by what the fault comes from: a write that failed, which was counted,
-- after a beginning of the file; and else with nothing written a read that failed, which was
-- counted, if the head or the next picture wants one more byte; memory after a head, or for the
-- next picture; or the first fault of the text
abbrev pub RefusesBy : Profile → Cause → Choice → Passage → Passage → Fault → Type 0
RefusesBy profile Writing choice input output f =
    PacksBeginning profile choice input output × (output.after ≡ one_more output.before)
    × (input.after ≡ input.before)
RefusesBy profile Reading choice input output f =
    Silent output × (input.after ≡ one_more input.before)
    × (HeadWants (greatest_depth profile) input.old input.new
    ⊎ EncodingReadFails profile choice input)
RefusesBy profile Memory choice input output f =
    Silent output × (input.after ≡ input.before) × HasHead (greatest_depth profile) input.old
    × (StandsAfterHead (greatest_depth profile) input.old input.new
    ⊎ EncodingLacks profile choice input)
RefusesBy profile Content choice input output f =
    Silent output × (input.after ≡ input.before)
    × FaultsPacked profile choice input.old input.new f

abbrev pub RefusesPack : Profile → Choice → Passage → Passage → Fault → Type 0
RefusesPack profile choice input output f = RefusesBy profile (cause_of f) choice input output f

-- the faults that packing has
abbrev pub is_pack_fault : Fault → Bool
is_pack_fault fault.OutOfMemory = true
is_pack_fault fault.Read = true
is_pack_fault fault.Write = true
is_pack_fault fault.NoFrames = true
is_pack_fault fault.FormatChanged = true
is_pack_fault (fault.Record record_fault.Grid) = true
is_pack_fault (fault.Record record_fault.ChromaEdge) = true
is_pack_fault (fault.Codec codec_fault.SliceTooLong) = true
is_pack_fault (fault.File file_fault.TooLarge) = true
is_pack_fault (fault.Text f) = is_text_fault f
is_pack_fault f = false

-- with those of `Wide`: of a depth that is read and not accepted, and of a frame that is too long
abbrev pub IsPackFault : Profile → Fault → Type 0
IsPackFault profile f = (is_pack_fault f ≡ true)
    ⊎ ((profile ≡ Wide)
    × ((f ≡ fault.Record record_fault.Depth) ⊎ (f ≡ fault.File file_fault.ChunkTooLong)))

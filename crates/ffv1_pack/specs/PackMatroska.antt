-- What packing a video into Matroska answers, writes, and is refused by.
use Rattle.std.specs.Prelude.{◌≡◌, ◌⊎◌, ℕ, ◌+◌, ◌<◌, ◌≤◌, Bool, true, false, List, [], ◌∷◌, ◌++◌}
use Rattle.std.specs.Prelude.{length, Option, Some, None, Ok, Err, ⊤}
use Rattle.std.specs.Io.KnownBytes.{Appends, Keeps}
use Rattle.ffv1_wire.specs.Failures.{one_more}
use Rattle.ffv1_wire.specs.Passage.{Passage}
use Rattle.ffv1_wire.specs.Patches.{PatchesBeginning}
use Rattle.ffv1_wire.specs.Seeks.{Overwriting}
use Rattle.ffv1_record.specs.Accepted.{Accepted, IsFirstUpTo}
use Rattle.ffv1_record.specs.declared.fault.RecordFault.{RecordFault}
use Rattle.ffv1_codec.specs.Picture.{Planes}
use Rattle.ffv1_codec.specs.Frame.{frame_of, HasLongSlice}
use Rattle.ffv1_reads.specs.Known.{Known}
use Rattle.ffv1_matroska.specs.Rates.{IsTimed}
use Rattle.ffv1_matroska.specs.Writers.{rate_in}
use Rattle.ffv1_matroska.specs.Written.{begun_of, end_place, finish_of, finished_of, open_of}
use Rattle.ffv1_matroska.specs.Written.{opening}
use Rattle.ffv1_matroska.specs.WrittenPlaces.{cluster_bytes, last_place}
use Rattle.ffv1_matroska.specs.declared.track_entry.TrackEntry.{TrackEntry}
use Rattle.ffv1_y4m.specs.Reads.{Wants}
use Rattle.ffv1_y4m.specs.declared.fault.Fault.{Fault as Y4mFault}
use Rattle.ffv1_video.specs.Video.{SaidHead}
use Rattle.ffv1_words.specs.declared.order.Choice.{Choice}
use Rattle.ffv1_words.specs.declared.order.CodecIdChoice.{CodecIdChoice}
use Rattle.ffv1_words.specs.declared.order.CodecIdChoice.TheVariants as choice_of
use Rattle.ffv1_matroska.specs.declared.track_entry.CodecId.{CodecId}
use Rattle.ffv1_matroska.specs.declared.track_entry.CodecId.TheVariants as codec_id
use Rattle.ffv1_video.specs.declared.profile.Profile.{Profile}
use Rattle.ffv1_video.specs.declared.profile.Profile.TheVariants.{Wide}
use Rattle.ffv1_video.specs.declared.fault.Fault.{Fault}
use Rattle.ffv1_record.specs.declared.fault.RecordFault.TheVariants as record_fault
use Rattle.ffv1_frame.specs.declared.fault.CodecFault.TheVariants as codec_fault
use Rattle.ffv1_reads.specs.declared.fault.FileFault.TheVariants as file_fault
use Rattle.ffv1_video.specs.declared.fault.Fault.TheVariants as fault
use Rattle.ffv1_pack.specs.declared.matroska_packing.PackedMatroska.{PackedMatroska}
use Rattle.ffv1_video.specs.Faults.{Cause, cause_of, of_record, of_y4m}
use Rattle.ffv1_video.specs.Faults.Cause.{Reading, Writing, Memory, Content}
use Rattle.ffv1_pack.specs.Grids.{choice_for}
use Rattle.ffv1_pack.specs.Pack.{HasHead, HeadWants, LacksHead, StandsAfterHead, is_pack_fault}
use Rattle.ffv1_pack.specs.Pack.{next_in}
use Rattle.ffv1_pack.specs.Packing.{AllShort, AreReadable, IsFor, bytes_in, configuration_for}
use Rattle.ffv1_pack.specs.Packing.{head_for, most_frame}
use Rattle.ffv1_pack.specs.Packing.{packed_frames, packed_head, said_for}
use Rattle.ffv1_video.specs.Profiles.{greatest_depth, record_profile}
use Rattle.ffv1_video.specs.Output.{WritesUpTo}
use Rattle.ffv1_video.specs.Video.{Begins, ReadsVideo, Video, at_first, is_ppm, picture_next}
use Rattle.ffv1_video.specs.Video.{video_head}
use Rattle.ffv1_pack.specs.VideoReads.{IsHeadBy, PictureLacks}
use Rattle.ffv1_pack.specs.VideoReads.{PictureWants, Taken}

-- what a choice calls the codec
abbrev pub codec_id_for : CodecIdChoice → CodecId
codec_id_for choice_of.Native = codec_id.Native
codec_id_for choice_of.Vfw = codec_id.Vfw

-- what the TrackEntry of a video says beside the head of its file: the codec's ID of the choice,
-- and how the pictures are shown
abbrev pub details_for : Choice → SaidHead → TrackEntry
details_for choice h = record {
  codec_id = codec_id_for choice.codec_id;
  structure = h.head.structure;
  sar_num = h.head.sar_num;
  sar_den = h.head.sar_den;
}

-- the file of a video: while pictures may still come; with all of them, if it cannot be written
-- over; and finished
abbrev pub begun_file : Choice → Video → Accepted → List ℕ
begun_file choice v a =
    begun_of (packed_head choice v a) (details_for choice v.head) (packed_frames v a)

abbrev pub open_file : Choice → Video → Accepted → List ℕ
open_file choice v a =
    open_of (packed_head choice v a) (details_for choice v.head) (packed_frames v a)

abbrev pub finished_file : Choice → Video → Accepted → List ℕ
finished_file choice v a =
    finished_of (packed_head choice v a) (details_for choice v.head) (packed_frames v a)

-- by whether it was written over
abbrev pub whole_file : Bool → Choice → Video → Accepted → List ℕ
whole_file true choice v a = finished_file choice v a
whole_file false choice v a = open_file choice v a

-- what stands before Tracks of the finished one
abbrev pub finished_opening_of : Choice → Video → Accepted → List ℕ
finished_opening_of choice v a = opening (packed_head choice v a)
    (Some (finish_of (packed_head choice v a) (details_for choice v.head) (packed_frames v a)))

-- where the Clusters of a video end
abbrev pub clusters_end : Choice → Video → Accepted → ℕ
clusters_end choice v a =
    end_place (packed_head choice v a) (details_for choice v.head) (packed_frames v a)

-- a video whose pictures have Clusters: its configuration has the grid of the choice, or the
-- default one; whole nanoseconds say its rate, no slice is too long, no frame is too long to be
-- read, and the last Cluster does not end too far
pub record HasClusters (profile : Profile) (choice : Choice) (v : Video) (a : Accepted)
    : Type 0 where
  pub head : IsHeadBy v.ppm v.head.head
  pub for : IsFor profile (choice_for profile choice v.head) v.ppm v.head a
  pub timed : IsTimed (rate_in (packed_head choice v a))
  pub short : AllShort a v.head v.pictures
  pub readable : AreReadable (record_profile profile) (packed_frames v a)
  pub near : 0 < length v.pictures → clusters_end choice v a ≤ last_place

-- the video was read, its file was written, and what was counted
pub record PacksMatroska (profile : Profile) (choice : Choice) (input output : Passage)
    (packed : PackedMatroska) : Type 0 where
  pub video : Video
  pub accepted : Accepted
  pub deep : video.head.depth ≤ greatest_depth profile
  pub reads : ReadsVideo (greatest_depth profile) input.old input.new video
  pub some : 0 < length video.pictures
  pub has : HasClusters profile choice video accepted
  pub writes : Appends output.old output.new (whole_file packed.finished choice video accepted)
  pub frames : packed.frames ≡ length video.pictures
  pub bytes : packed.bytes ≡ bytes_in (packed_frames video accepted)
  pub read : input.after ≡ input.before
  pub written : output.after ≡ output.before

-- the output, once it had the open file, was asked to be written over by the finished opening, as
-- many bytes before its end as that file has, and this is what it answered
pub record AsksMatroska {S : Type 0} (contents : S → Option (List ℕ)) (overwrites : Overwriting S)
    (old new : S) (choice : Choice) (video : Video) (accepted : Accepted) (finished : Bool)
    : Type 0 where
  pub complete : S
  pub writes : Appends (contents old) (contents complete) (open_file choice video accepted)
  pub does : overwrites complete (length (open_file choice video accepted))
      (finished_opening_of choice video accepted) (Ok finished) new

-- its head asks for a configuration that is not accepted in the profile
pub record HasRejected (profile : Profile) (choice : Choice) (text rest : List ℕ) (f : Fault)
    : Type 0 where
  pub head : SaidHead
  pub read : video_head (greatest_depth profile) text ≡ Ok (head, rest)
  pub refusal : RecordFault
  pub first : IsFirstUpTo (record_profile profile) (greatest_depth profile)
      (configuration_for (choice_for profile choice head) (is_ppm text) head) refusal
  pub is : f ≡ of_record refusal

-- its head asks for a configuration that is accepted, and says a rate that no whole nanoseconds say
pub record IsUntimed (profile : Profile) (choice : Choice) (text rest : List ℕ) (f : Fault)
    : Type 0 where
  pub head : SaidHead
  pub read : video_head (greatest_depth profile) text ≡ Ok (head, rest)
  pub accepted : Accepted
  pub for : IsFor profile (choice_for profile choice head) (is_ppm text) head accepted
  pub untimed : IsTimed (rate_in (head_for choice (is_ppm text) head accepted.configuration)) → ⊥
  pub is : f ≡ fault.File file_fault.Rate

-- a text, if it is known, has a head, whose configuration is accepted in a profile, and whose rate
-- whole nanoseconds say
abbrev pub HasTimed : Profile → Choice → Option (List ℕ) → Type 0
HasTimed profile choice None = ⊤
HasTimed profile choice (Some text) =
    (h : SaidHead) × (rest : List ℕ) × (video_head (greatest_depth profile) text ≡ Ok (h, rest))
    × (a : Accepted) × IsFor profile (choice_for profile choice h) (is_ppm text) h a
    × IsTimed (rate_in (head_for choice (is_ppm text) h a.configuration))

-- the first fault of a text before its pictures, if it is known
abbrev pub FaultsBefore : Profile → Choice → Option (List ℕ) → Option (List ℕ) → Fault → Type 0
FaultsBefore profile choice old new f = Known old new (λ text rest.
    LacksHead (greatest_depth profile) text rest f ⊎ HasRejected profile choice text rest f
    ⊎ IsUntimed profile choice text rest f)

-- the next picture has no Cluster: a slice of it is too long, or its frame is too long to be read,
-- or its Cluster would end too far
abbrev pub LacksCluster : Profile → Choice → Video → Accepted → Planes → Fault → Type 0
LacksCluster profile choice v a p f =
    (HasLongSlice a p (said_for v.head) × (f ≡ fault.Codec codec_fault.SliceTooLong))
    ⊎ ((HasLongSlice a p (said_for v.head) → ⊥)
    × (most_frame (record_profile profile) < length (frame_of a p (said_for v.head)))
    × (f ≡ fault.File file_fault.ChunkTooLong))
    ⊎ ((HasLongSlice a p (said_for v.head) → ⊥)
    × (length (frame_of a p (said_for v.head)) ≤ most_frame (record_profile profile))
    × (last_place
    < clusters_end choice v a + cluster_bytes + length (frame_of a p (said_for v.head)))
    × (f ≡ fault.File file_fault.TooLarge))

-- why packing ends after the pictures of a video: the next one has a fault, or no Cluster; or there
-- is no more, and there was none
abbrev pub EndsClusters : Profile → Choice → Video → Accepted → List ℕ → List ℕ → Fault → Type 0
EndsClusters profile choice v a left rest f =
    ((g : Y4mFault) × (next_in profile v left ≡ Err (g, rest)) × (f ≡ of_y4m g))
    ⊎ ((p : Planes) × (next_in profile v left ≡ Ok (Some p, rest))
    × LacksCluster profile choice v a p f)
    ⊎ ((next_in profile v left ≡ Ok (None, rest))
    × (v.pictures ≡ []) × (f ≡ fault.NoFrames))

-- the Clusters of a video were written, and of the text, if it is known, this video was read,
-- and then so much as this says
pub record PacksSome (profile : Profile) (Next : Video → Accepted → List ℕ → List ℕ → Type 0)
    (choice : Choice) (input output : Passage) : Type 0 where
  pub video : Video
  pub accepted : Accepted
  pub has : HasClusters profile choice video accepted
  pub taken : Known input.old input.new (λ text rest.
      (left : List ℕ) × Begins (greatest_depth profile) text video left
      × Next video accepted left rest)
  pub writes : Appends output.old output.new (begun_file choice video accepted)

-- and then packing ends
abbrev pub EndsMatroska : Profile → Choice → Passage → Passage → Fault → Type 0
EndsMatroska profile choice input output f =
    PacksSome profile
    (λ v a left rest. EndsClusters profile choice v a left rest f)
    choice input output

-- and then a read failed, if the next picture wants one more byte
abbrev pub PackReadFails : Profile → Choice → Passage → Passage → Type 0
PackReadFails profile choice input output =
    PacksSome profile (λ v a. PictureWants v.ppm (greatest_depth profile) v.head v.pictures)
    choice input output

-- and then memory was refused for the next picture, or for the frame of it
abbrev pub PackLacks : Profile → Choice → Passage → Passage → Type 0
PackLacks profile choice input output =
    PacksSome profile (λ v a. PictureLacks v.ppm (greatest_depth profile) v.head v.pictures)
    choice input output

-- the same video with a picture more
abbrev pub with_picture : Video → Planes → Video
with_picture v p = record { ppm = v.ppm; head = v.head; pictures = v.pictures ++ p ∷ [] }

-- a write of the Cluster of the next picture failed: of that a beginning was written, and of the
-- text, if it is known, nothing after that picture was read
pub record ClusterFails (profile : Profile) (choice : Choice) (input output : Passage)
    : Type 0 where
  pub video : Video
  pub accepted : Accepted
  pub has : HasClusters profile choice video accepted
  pub next : Planes
  pub reads : Known input.old input.new (λ text rest.
      Begins (greatest_depth profile) text (with_picture video next) rest)
  pub short : HasLongSlice accepted next (said_for video.head) → ⊥
  pub readable : length (frame_of accepted next (said_for video.head))
      ≤ most_frame (record_profile profile)
  pub near : clusters_end choice video accepted + cluster_bytes
      + length (frame_of accepted next (said_for video.head)) ≤ last_place
  pub writes : WritesUpTo output.old output.new (length (begun_file choice video accepted))
      (begun_file choice (with_picture video next) accepted)

-- a write after all Clusters failed: of Cues a beginning was written; or the whole open file was,
-- and over its own opening a beginning of the finished one
pub record FinishFails (profile : Profile) (choice : Choice) (input output : Passage) : Type 0 where
  pub video : Video
  pub accepted : Accepted
  pub reads : ReadsVideo (greatest_depth profile) input.old input.new video
  pub some : 0 < length video.pictures
  pub has : HasClusters profile choice video accepted
  pub writes :
      WritesUpTo output.old output.new (length (begun_file choice video accepted))
      (open_file choice video accepted)
      ⊎ ((mid : Option (List ℕ)) × Appends output.old mid (open_file choice video accepted)
      × PatchesBeginning mid output.new (length (open_file choice video accepted))
      (finished_opening_of choice video accepted))

-- why packing is refused, by what the fault comes from: a write that failed, which was counted; a
-- read that failed, which was counted, if the head wants one more byte, with nothing written, or
-- the picture after those whose Clusters are written; memory after a head, with nothing written, or
-- for the picture after those whose Clusters are; and else the first fault of the text, before its
-- pictures, if nothing is written, or after those that it begins with, whose Clusters are
abbrev pub RefusesMatroskaBy : Profile → Cause → Choice → Passage → Passage → Fault → Type 0
RefusesMatroskaBy profile Writing choice input output f =
    (output.after ≡ one_more output.before) × (input.after ≡ input.before)
    × (ClusterFails profile choice input output ⊎ FinishFails profile choice input output)
RefusesMatroskaBy profile Reading choice input output f =
    (output.after ≡ output.before) × (input.after ≡ one_more input.before)
    × ((Keeps output.old output.new
    × HeadWants (greatest_depth profile) input.old input.new)
    ⊎ PackReadFails profile choice input output)
RefusesMatroskaBy profile Memory choice input output f =
    (output.after ≡ output.before) × (input.after ≡ input.before)
    × HasHead (greatest_depth profile) input.old
    × ((Keeps output.old output.new × StandsAfterHead (greatest_depth profile) input.old input.new)
    ⊎ PackLacks profile choice input output)
RefusesMatroskaBy profile Content choice input output f =
    (output.after ≡ output.before) × (input.after ≡ input.before)
    × ((Keeps output.old output.new × FaultsBefore profile choice input.old input.new f)
    ⊎ EndsMatroska profile choice input output f)

abbrev pub RefusesMatroska : Profile → Choice → Passage → Passage → Fault → Type 0
RefusesMatroska profile choice input output f =
    RefusesMatroskaBy profile (cause_of f) choice input output f

-- the faults that it has
abbrev pub is_matroska_pack_fault : Fault → Bool
is_matroska_pack_fault (fault.File file_fault.Rate) = true
is_matroska_pack_fault (fault.File file_fault.ChunkTooLong) = true
is_matroska_pack_fault f = is_pack_fault f

-- with the one of a depth that is read and not accepted
abbrev pub IsMatroskaPackFault : Profile → Fault → Type 0
IsMatroskaPackFault profile f =
    (is_matroska_pack_fault f ≡ true) ⊎ ((profile ≡ Wide) × (f ≡ fault.Record record_fault.Depth))

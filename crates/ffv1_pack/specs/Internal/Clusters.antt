-- Encoding pictures of a video, and writing the Cluster of each at once.
use Rattle.std.specs.Prelude.{◌≡◌, ◌⊎◌, ℕ, ◌+◌, ◌<◌, ◌≤◌, List, [], ◌∷◌, ◌++◌, length, Some, Ok}
use Rattle.std.specs.Prelude.{true}
use Rattle.std.specs.Io.KnownBytes.{Appends}
use Rattle.ffv1_wire.specs.Failures.{one_more}
use Rattle.ffv1_wire.specs.Passage.{Passage}
use Rattle.ffv1_record.specs.Accepted.{Accepted}
use Rattle.ffv1_codec.specs.Frame.{frame_of, HasLongSlice}
use Rattle.ffv1_codec.specs.Picture.{Planes}
use Rattle.ffv1_reads.specs.Known.{Known}
use Rattle.ffv1_matroska.specs.Writers.{Writing as Writer, writing_of}
use Rattle.ffv1_matroska.specs.Written.{begun_of, end_place}
use Rattle.ffv1_matroska.specs.WrittenPlaces.{cluster_bytes, last_place}
use Rattle.ffv1_video.specs.declared.fault.Fault.{Fault}
use Rattle.ffv1_reads.specs.declared.fault.FileFault.TheVariants as file_fault
use Rattle.ffv1_video.specs.declared.fault.Fault.TheVariants as fault
use Rattle.ffv1_pack.specs.declared.matroska_packing.Put.{Put}
use Rattle.ffv1_pack.specs.Internal.Encoding.{EncodesAll, EndsAt, EndsLong, PicturesKnown}
use Rattle.ffv1_video.specs.Faults.{Cause, cause_of}
use Rattle.ffv1_video.specs.Faults.Cause.{Reading, Writing, Memory, Content}
use Rattle.ffv1_pack.specs.Packing.{AllShort, AreReadable, bytes_in, frames_for, most_frame}
use Rattle.ffv1_pack.specs.Packing.{said_for}
use Rattle.ffv1_record.specs.declared.config.Profile.{Profile as RecordProfile}
use Rattle.ffv1_video.specs.Output.{WritesUpTo}
use Rattle.ffv1_video.specs.Video.{ReadsPictures, at_first, picture_next}
use Rattle.ffv1_pack.specs.VideoReads.{PictureLacks, PictureWants}
use Rattle.ffv1_pack.specs.Internal.VideoReads.{VideoReading}

-- the Clusters of these frames, which are read in a profile, were written, and counted, by a writer
-- that was new
pub record PutAll (p : RecordProfile) (old new : Writer) (frames : List (List ℕ))
    (output : Passage) (packed : Put) : Type 0 where
  pub is : new ≡ writing_of old.head old.details frames
  pub readable : AreReadable p frames
  pub near : 0 < length frames → new.at ≤ last_place
  pub writes : Appends output.old output.new (begun_of old.head old.details frames)
  pub kept : output.after ≡ output.before
  pub frames_are : packed.frames ≡ length frames
  pub bytes_are : packed.bytes ≡ bytes_in frames

-- pictures whose Clusters may be written
pub record AreClusters (a : Accepted) (r : VideoReading) (w : Writer) (pictures : List Planes)
    : Type 0 where
  pub short : AllShort a r.head pictures
  pub readable : AreReadable a.profile (frames_for a r.head pictures)
  pub near : 0 < length pictures →
      end_place w.head w.details (frames_for a r.head pictures) ≤ last_place

-- their Clusters
abbrev pub begun_for : Accepted → VideoReading → Writer → List Planes → List ℕ
begun_for a r w pictures = begun_of w.head w.details (frames_for a r.head pictures)

-- all pictures have Clusters, which were written
pub record PutsAll (a : Accepted) (r : VideoReading) (old new : Writer) (input output : Passage)
    (packed : Put) : Type 0 where
  pub frames : List (List ℕ)
  pub all : EncodesAll input a r frames
  pub put : PutAll a.profile old new frames output packed

-- the Clusters of these pictures were written, and of the text, if it is known, these pictures
-- were read, and then so much as this says
pub record PutsSome (Next : List Planes → List ℕ → List ℕ → Type 0) (a : Accepted)
    (r : VideoReading) (w : Writer) (input output : Passage) : Type 0 where
  pub pictures : List Planes
  pub are : AreClusters a r w pictures
  pub taken : Known input.old input.new (λ text rest.
      (left : List ℕ) × ReadsPictures r.ppm r.most r.head true text pictures left
      × Next pictures left rest)
  pub writes : Appends output.old output.new (begun_for a r w pictures)

-- its Cluster would end too far
abbrev pub EndsFar : Accepted → VideoReading → Writer → List Planes → List ℕ → List ℕ → Fault →
    Type 0
EndsFar a r w pictures left rest f =
    (p : Planes) × (picture_next r.ppm r.most r.head (at_first pictures) left ≡ Ok (Some p, rest))
    × (HasLongSlice a p (said_for r.head) → ⊥)
    × (length (frame_of a p (said_for r.head)) ≤ most_frame a.profile)
    × (last_place < end_place w.head w.details (frames_for a r.head pictures)
    + cluster_bytes + length (frame_of a p (said_for r.head)))
    × (f ≡ fault.File file_fault.TooLarge)

-- the next picture has a fault, or no Cluster
abbrev pub EndsPutting : Accepted → VideoReading → Writer → Fault → List Planes → List ℕ →
    List ℕ → Type 0
EndsPutting a r w f pictures left rest =
    EndsAt a r pictures left rest f
    ⊎ EndsLong (λ frame. most_frame a.profile < length frame) a r pictures left rest f
    ⊎ EndsFar a r w pictures left rest f

-- the Clusters of these pictures were written, and of the Cluster of the next one a beginning; of
-- the text, if it is known, these pictures and the next one were read, and nothing after it
pub record PutsBeginning (a : Accepted) (r : VideoReading) (w : Writer) (input output : Passage)
    : Type 0 where
  pub pictures : List Planes
  pub are : AreClusters a r w pictures
  pub next : Planes
  pub reads : PicturesKnown input.old input.new r (pictures ++ next ∷ [])
  pub short : HasLongSlice a next (said_for r.head) → ⊥
  pub readable : length (frame_of a next (said_for r.head)) ≤ most_frame a.profile
  pub near : end_place w.head w.details (frames_for a r.head pictures) + cluster_bytes
      + length (frame_of a next (said_for r.head)) ≤ last_place
  pub writes : WritesUpTo output.old output.new (length (begun_for a r w pictures))
      (begun_for a r w (pictures ++ next ∷ []))

-- why not all have Clusters that were written: a read of the next picture failed, which was
-- counted; a write of its Cluster did; memory was refused for it; or it has a fault, or no Cluster
abbrev pub StopsPuttingBy : Cause → Accepted → VideoReading → Writer → Passage → Passage → Fault →
    Type 0
StopsPuttingBy Reading a r w input output f =
    (output.after ≡ output.before) × (input.after ≡ one_more input.before)
    × PutsSome (PictureWants r.ppm r.most r.head) a r w input output
StopsPuttingBy Writing a r w input output f =
    (output.after ≡ one_more output.before) × (input.after ≡ input.before)
    × PutsBeginning a r w input output
StopsPuttingBy Memory a r w input output f =
    (output.after ≡ output.before) × (input.after ≡ input.before)
    × PutsSome (PictureLacks r.ppm r.most r.head) a r w input output
StopsPuttingBy Content a r w input output f =
    (output.after ≡ output.before) × (input.after ≡ input.before)
    × PutsSome (EndsPutting a r w f) a r w input output

abbrev pub StopsPutting : Accepted → VideoReading → Writer → Passage → Passage → Fault → Type 0
StopsPutting a r w input output f = StopsPuttingBy (cause_of f) a r w input output f

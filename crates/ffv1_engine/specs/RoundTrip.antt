-- What is packed is unpacked: of a text that was packed, what its file holds, and the text that is
-- written of the file.
use Rattle.std.specs.Prelude.{◌≡◌, ◌⊎◌, ℕ, ◌≤◌, Bool, true, false, List, [], length, map, flat_map}
use Rattle.std.specs.Prelude.{Some}
use Rattle.std.specs.Io.KnownBytes.{Appends}
use Rattle.ffv1_wire.specs.Passage.{Passage}
use Rattle.ffv1_range.specs.Codes.{AreBytes}
use Rattle.ffv1_range.specs.Counts.{saturated}
use Rattle.ffv1_record.specs.Accepted.{Accepted, PassesAll, checks}
use Rattle.ffv1_codec.specs.Picture.{Planes}
use Rattle.ffv1_avi.specs.Chunks.{AviFile}
use Rattle.ffv1_reads.specs.Head.{Head}
use Rattle.ffv1_avi.specs.Riffs.{RiffFile}
use Rattle.ffv1_y4m.specs.Canonical.{as_said, canonical_text}
use Rattle.ffv1_y4m.specs.Images.{image_text}
use Rattle.ffv1_y4m.specs.VideoHead.{IsRatio}
use Rattle.ffv1_video.specs.Colours.{plain}
use Rattle.ffv1_video.specs.Video.{SaidHead}
use Rattle.ffv1_video.specs.declared.profile.Profile.{Profile}
use Rattle.ffv1_video.specs.declared.profile.Profile.TheVariants.{Strict, Wide}
use Rattle.ffv1_video.specs.declared.fault.Fault.{Fault}
use Rattle.ffv1_video.specs.declared.fault.Fault.TheVariants as fault
use Rattle.ffv1_words.specs.declared.order.Choice.{Choice}
use Rattle.ffv1_pack.specs.declared.packing.Packed.{Packed}
use Rattle.ffv1_pack.specs.Pack.{Packs}
use Rattle.ffv1_pack.specs.Packing.{AreReadable, packed_file, packed_frames, said_for}
use Rattle.ffv1_unpack.specs.Play.{Played}
use Rattle.ffv1_video.specs.Profiles.{greatest_depth, record_profile}
use Rattle.ffv1_unpack.specs.Stream.{Coded, CodedFrame, Stream, payloads}
use Rattle.ffv1_unpack.specs.Unpacked.{AllSay, AreAlike, HasText, pictures, text_of}
use Rattle.ffv1_video.specs.Video.{Video}

-- a text of bytes that was packed in a profile, in `Strict` with no frame that is too long to be
-- read there: `Wide` packs none that it does not read. PPM has the rate and the scale of the
-- choice: numbers of 32 bits, both zero or neither, since the file has 32 bits for each, and its
-- reader refuses a rate without a scale and a scale without a rate
pub record WasPacked (packing : Profile) (choice : Choice) (text : List ℕ) : Type 0 where
  pub input : Passage
  pub output : Passage
  pub packed : Packed
  pub packs : Packs packing choice input output packed
  pub known : input.old ≡ Some text
  pub bytes : AreBytes text
  pub readable : packing ≡ Strict →
      AreReadable (record_profile packing) (packed_frames packs.video packs.accepted)
  pub rated : packs.video.ppm ≡ true → IsRatio 4294967295 choice.rate choice.scale

-- the video of the text, and what an AVI holds of it: range and siting are not part of that
abbrev pub text_video : {packing : Profile} → {choice : Choice} → {text : List ℕ} →
    WasPacked packing choice text → Video
text_video w = w.packs.video

abbrev pub video_in : {packing : Profile} → {choice : Choice} → {text : List ℕ} →
    WasPacked packing choice text → Video
video_in w = plain (text_video w)

-- the file that was written of it

abbrev pub file_in : {packing : Profile} → {choice : Choice} → {text : List ℕ} →
    WasPacked packing choice text → List ℕ
file_in {choice = choice} w = packed_file choice w.packs.video w.packs.accepted

-- and what was accepted for its pictures
abbrev pub accepted_in : {packing : Profile} → {choice : Choice} → {text : List ℕ} →
    WasPacked packing choice text → Accepted
accepted_in w = w.packs.accepted

-- a profile reads samples of the depth of a video, accepts the configuration of its pictures, and
-- reads frames as long as theirs
pub record IsReadIn (profile : Profile) (v : Video) (a : Accepted) : Type 0 where
  pub deep : v.head.depth ≤ greatest_depth profile
  pub passes : PassesAll (record_profile profile) checks a.configuration
  pub readable : AreReadable (record_profile profile) (packed_frames v a)

-- the canonical text of a video: of YUV4MPEG2 the header with each tag but X, in one order, and
-- after them the range, and each picture after `FRAME`; of PPM each image after its header
abbrev pub canonical_by : Bool → SaidHead → List Planes → List ℕ
canonical_by false h pictures = canonical_text h.depth h.head pictures
canonical_by true h pictures =
    flat_map (image_text h.depth h.head.width h.head.height) pictures

abbrev pub canonical_of : Video → List ℕ
canonical_of v = canonical_by v.ppm v.head v.pictures

-- a video as its canonical text says it, if depths up to `most` are read: above 8 bits 4:2:0 of 8
-- bits lies in the centre if the video says nothing else
abbrev pub said_again : ℕ → Bool → SaidHead → SaidHead
said_again most true h = h
said_again most false h = record h { head = as_said most h.depth h.head }

abbrev pub read_again : ℕ → Video → Video
read_again most v = record v { head = said_again most v.ppm v.head }

-- a file of this head and these frames, by its chunks: those of its first movi, or of every RIFF
abbrev pub IsFileIn : Profile → List ℕ → Head → List (List ℕ) → Type 0
IsFileIn Strict file head frames = AviFile file head frames
IsFileIn Wide file head frames = RiffFile file head frames

-- a file, of whatever kind, is a stream of coded frames, one for each picture of a video: they code
-- those pictures and say what the video's head says; and their text is the canonical text of the
-- video
pub record HoldsBy (IsFile : List ℕ → Head → List (List ℕ) → Type 0) (profile : Profile)
    (file : List ℕ) (v : Video) : Type 0 where
  pub stream : Stream
  pub frames : List CodedFrame
  pub is : IsFile file stream.head (payloads (map Coded frames))
  pub played : Played profile stream (map Coded frames)
  pub pictures_are : pictures frames ≡ v.pictures
  pub say : AllSay (said_for v.head) frames
  pub text : HasText stream
  pub alike : AreAlike stream frames
  pub writes : text_of stream frames ≡ canonical_of v

-- an AVI is so
abbrev pub Holds : Profile → List ℕ → Video → Type 0
Holds profile file v = HoldsBy (IsFileIn profile) profile file v

-- the whole file was read, and the canonical text of this video was written of it
pub record IsUnpacked (v : Video) (input output : Passage) (count : ℕ) : Type 0 where
  pub left : input.new ≡ Some []
  pub counted : count ≡ saturated (length v.pictures)
  pub writes : Appends output.old output.new (canonical_of v)

-- a fault that is none of a file: memory was refused, or a read or a write failed
abbrev pub IsNoContent : Fault → Type 0
IsNoContent f = (f ≡ fault.OutOfMemory) ⊎ (f ≡ fault.Read) ⊎ (f ≡ fault.Write)

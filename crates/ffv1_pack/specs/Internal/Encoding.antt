-- What encoding the next picture of a video answers.
use Rattle.std.specs.Prelude.{◌≡◌, ◌⊎◌, ℕ, true, List, Option, Some, None, Ok, Err}
use Rattle.std.specs.declared.vec.Vec.{Vec}
use Rattle.ffv1_wire.specs.Failures.{one_more}
use Rattle.ffv1_wire.specs.Passage.{Passage}
use Rattle.ffv1_record.specs.Accepted.{Accepted}
use Rattle.ffv1_codec.specs.Frame.{frame_of, HasLongSlice}
use Rattle.ffv1_codec.specs.Picture.{Planes}
use Rattle.ffv1_reads.specs.Known.{Known}
use Rattle.ffv1_video.specs.declared.fault.Fault.{Fault}
use Rattle.ffv1_frame.specs.declared.fault.CodecFault.TheVariants as codec_fault
use Rattle.ffv1_reads.specs.declared.fault.FileFault.TheVariants as file_fault
use Rattle.ffv1_video.specs.declared.fault.Fault.TheVariants as fault
use Rattle.ffv1_y4m.specs.declared.fault.Fault.{Fault as Y4mFault}
use Rattle.ffv1_video.specs.Faults.{Cause, cause_of, of_y4m}
use Rattle.ffv1_video.specs.Faults.Cause.{Reading, Writing, Memory, Content}
use Rattle.ffv1_pack.specs.Packing.{AllShort, AreReadableIn, IsLongIn, frames_for, said_for}
use Rattle.ffv1_pack.specs.VideoReads.{PictureLacks, PictureWants}
use Rattle.ffv1_video.specs.Video.{ReadsPictures, at_first, picture_next}
use Rattle.ffv1_pack.specs.Internal.VideoReads.{NextRead, NextRefusedBy, StopsKnown, VideoReading}

-- a picture was read, and this is its frame; or there was none
abbrev pub EncodesOne : Passage → Accepted → VideoReading → VideoReading → Option (List ℕ) → Type 0
EncodesOne p a r s None = NextRead p r None s
EncodesOne p a r s (Some frame) =
    (planes : Planes) × NextRead p r (Some planes) s
    × (HasLongSlice a planes (said_for r.head) → ⊥)
    × (frame ≡ frame_of a planes (said_for r.head))

-- the bytes of a frame in memory
abbrev pub frame_in : {A : Type 0} → Option (Vec ℕ A) → Option (List ℕ)
frame_in None = None
frame_in (Some frame) = Some frame.items

-- a picture was read that has a slice that is too long
pub record IsTooLong (p : Passage) (a : Accepted) (r : VideoReading) (f : Fault) : Type 0 where
  pub planes : Planes
  pub after : VideoReading
  pub read : NextRead p r (Some planes) after
  pub long : HasLongSlice a planes (said_for r.head)
  pub is : f ≡ fault.Codec codec_fault.SliceTooLong

-- a picture was read
abbrev pub ReadsOne : Passage → VideoReading → Type 0
ReadsOne p r = (planes : Planes) × (s : VideoReading) × NextRead p r (Some planes) s

-- why none was encoded: no picture was read; or memory was refused for the frame of one
abbrev pub StopsBy : Cause → Passage → Accepted → VideoReading → Fault → Type 0
StopsBy Reading p a r f = NextRefusedBy Reading p r f
StopsBy Writing p a r f = ⊥
StopsBy Memory p a r f = NextRefusedBy Memory p r f ⊎ ReadsOne p r
StopsBy Content p a r f =
    ((p.after ≡ p.before) × StopsKnown p.old p.new r f) ⊎ IsTooLong p a r f

abbrev pub StopsNext : Passage → Accepted → VideoReading → Fault → Type 0
StopsNext p a r f = StopsBy (cause_of f) p a r f

-- if the text is known, it begins with these pictures
abbrev pub PicturesKnown : Option (List ℕ) → Option (List ℕ) → VideoReading → List Planes → Type 0
PicturesKnown old new r pictures = Known old new (λ text rest.
    ReadsPictures r.ppm r.most r.head true text pictures rest)

-- so far some pictures were read and encoded, and these are their frames
pub record Encoded (p : Passage) (a : Accepted) (r s : VideoReading) (frames : List (List ℕ))
    : Type 0 where
  pub pictures : List Planes
  pub known : PicturesKnown p.old p.new r pictures
  pub kept : p.after ≡ p.before
  pub short : AllShort a r.head pictures
  pub are : frames ≡ frames_for a r.head pictures
  pub ppm : s.ppm ≡ r.ppm
  pub head : s.head ≡ r.head
  pub failed : s.failed ≡ None
  pub begun : s.ppm ≡ true → s.begun ≡ at_first pictures
  pub most : s.most ≡ r.most

-- if the text is known, it has these pictures and no more
abbrev pub AllKnown : Option (List ℕ) → Option (List ℕ) → VideoReading → List Planes → Type 0
AllKnown old new r pictures = Known old new (λ text rest.
    (left : List ℕ) × ReadsPictures r.ppm r.most r.head true text pictures left
    × (picture_next r.ppm r.most r.head (at_first pictures) left ≡ Ok (None, rest)))

-- all pictures were read and encoded, and these are their frames
pub record EncodesAll (p : Passage) (a : Accepted) (r : VideoReading) (frames : List (List ℕ))
    : Type 0 where
  pub pictures : List Planes
  pub known : AllKnown p.old p.new r pictures
  pub kept : p.after ≡ p.before
  pub short : AllShort a r.head pictures
  pub are : frames ≡ frames_for a r.head pictures

-- the picture after some has a fault, or a slice that is too long
abbrev pub EndsAt : Accepted → VideoReading → List Planes → List ℕ → List ℕ → Fault → Type 0
EndsAt a r pictures left rest f =
    ((g : Y4mFault) × (picture_next r.ppm r.most r.head (at_first pictures) left ≡ Err (g, rest))
    × (f ≡ of_y4m g))
    ⊎ ((q : Planes)
    × (picture_next r.ppm r.most r.head (at_first pictures) left ≡ Ok (Some q, rest))
    × HasLongSlice a q (said_for r.head) × (f ≡ fault.Codec codec_fault.SliceTooLong))

-- the frame of the picture after some is so long
abbrev pub EndsLong : (List ℕ → Type 0) → Accepted → VideoReading → List Planes → List ℕ → List ℕ →
    Fault → Type 0
EndsLong IsLong a r pictures left rest f =
    (p : Planes) × (picture_next r.ppm r.most r.head (at_first pictures) left ≡ Ok (Some p, rest))
    × (HasLongSlice a p (said_for r.head) → ⊥)
    × IsLong (frame_of a p (said_for r.head))
    × (f ≡ fault.File file_fault.ChunkTooLong)

-- if the text is known, so it ends
abbrev pub EndsKnown : Option (List ℕ) → Option (List ℕ) → Accepted → VideoReading → List Planes →
    Fault → Type 0
EndsKnown old new a r pictures f = Known old new (λ text rest.
    (left : List ℕ) × ReadsPictures r.ppm r.most r.head true text pictures left
    × EndsAt a r pictures left rest f)

-- some pictures were encoded for an AVI, and of the text, if it is known, these pictures were read,
-- and then so much as this says
pub record EncodesUpTo (Next : List Planes → List ℕ → List ℕ → Type 0) (p : Passage)
    (a : Accepted) (r : VideoReading) : Type 0 where
  pub pictures : List Planes
  pub taken : Known p.old p.new (λ text rest.
      (left : List ℕ) × ReadsPictures r.ppm r.most r.head true text pictures left
      × Next pictures left rest)
  pub short : AllShort a r.head pictures
  pub readable : AreReadableIn a.profile (frames_for a r.head pictures)

-- and then the next one has a fault, or too long a frame
abbrev pub EndsOne : Accepted → VideoReading → Fault → List Planes → List ℕ → List ℕ → Type 0
EndsOne a r f pictures left rest =
    EndsAt a r pictures left rest f ⊎ EndsLong (IsLongIn a.profile) a r pictures left rest f

-- why not all were encoded: a read of the next picture failed, which was counted; memory was
-- refused for it; or it has a fault, or no frame
abbrev pub StopsEncodingBy : Cause → Passage → Accepted → VideoReading → Fault → Type 0
StopsEncodingBy Reading p a r f =
    (p.after ≡ one_more p.before) × EncodesUpTo (PictureWants r.ppm r.most r.head) p a r
StopsEncodingBy Writing p a r f = ⊥
StopsEncodingBy Memory p a r f =
    (p.after ≡ p.before) × EncodesUpTo (PictureLacks r.ppm r.most r.head) p a r
StopsEncodingBy Content p a r f =
    (p.after ≡ p.before) × EncodesUpTo (EndsOne a r f) p a r

abbrev pub StopsEncoding : Passage → Accepted → VideoReading → Fault → Type 0
StopsEncoding p a r f = StopsEncodingBy (cause_of f) p a r f

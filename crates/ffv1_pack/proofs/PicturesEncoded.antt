-- A picture that was read and encoded, after others.
use Rattle.std.specs.Prelude.{◌≡◌, ◌⊎◌, ℕ, true, List, [], ◌∷◌, ◌++◌, Option, Some, IfSome}
use Rattle.std.proofs.Common.{refl, ◌∙◌, ap, inl, inr, subst, sym}
use Rattle.std.specs.declared.vec.Vec.{Vec}
use Rattle.ffv1_wire.specs.Passage.{Passage}
use Rattle.ffv1_record.specs.Accepted.{Accepted}
use Rattle.ffv1_codec.specs.Frame.{frame_of, HasLongSlice}
use Rattle.ffv1_codec.specs.Picture.{Planes}
use Rattle.ffv1_codec.specs.SliceList.{Said}
use Rattle.ffv1_avi.specs.Written.{frames_of}
use Rattle.ffv1_video.specs.declared.fault.Fault.{Fault}
use Rattle.ffv1_frame.specs.declared.fault.CodecFault.TheVariants as codec_fault
use Rattle.ffv1_video.specs.declared.fault.Fault.TheVariants as fault
use Rattle.ffv1_pack.specs.Internal.Encoding.{EncodesOne, StopsBy, StopsNext}
use Rattle.ffv1_video.specs.Faults.{Cause, cause_of}
use Rattle.ffv1_video.specs.Faults.Cause.{Reading, Writing, Memory, Content}
use Rattle.ffv1_pack.specs.Packing.{said_for}
use Rattle.ffv1_pack.specs.Internal.VideoReads.{NextRead, NextRefused, NextRefusedBy, VideoReading}

pub frames_behind : {A : Type 0} (old : List (Vec ℕ A)) (frame : Vec ℕ A) → frames_of (old ++ (frame ∷ [])) ≡ frames_of old ++ (frame.items ∷ [])
frames_behind [] frame = refl
frames_behind (f ∷ fs) frame = ap (λ z. f.items ∷ z) (frames_behind fs frame)

pub made_of : (made : Option Planes) (picture planes : Planes) → made ≡ Some picture → IfSome made (λ p. p ≡ planes) → picture ≡ planes
made_of made picture planes e some = subst (λ r. IfSome r (λ p. p ≡ planes)) e some

pub encoded_one : {A : Type 0} (p : Passage) (a : Accepted) (r s : VideoReading) (planes picture : Planes) (info : Said) (frame : Vec ℕ A)
    → NextRead p r (Some planes) s → picture ≡ planes → info ≡ said_for r.head → (HasLongSlice a picture info → ⊥) → frame.items ≡ frame_of a picture info
    → EncodesOne p a r s (Some frame.items)
encoded_one p a r s planes picture info frame read same said short bytes = (
  planes,
  read,
  subst (λ i. HasLongSlice a planes i → ⊥) said (subst (λ q. HasLongSlice a q info → ⊥) same short),
  bytes ∙ (ap (λ q. frame_of a q info) same ∙ ap (λ i. frame_of a planes i) said),
)

-- ---- why none was

next_stops_by : (c : Cause) (p : Passage) (a : Accepted) (r : VideoReading) (f : Fault) → NextRefusedBy c p r f → StopsBy c p a r f
next_stops_by Reading p a r f n = n
next_stops_by Writing p a r f n = n
next_stops_by Memory p a r f n = inl n
next_stops_by Content p a r f n = inl n

-- there was no picture
pub next_stops : (p : Passage) (a : Accepted) (r : VideoReading) (f : Fault) → NextRefused p r f → StopsNext p a r f
next_stops p a r f n = next_stops_by (cause_of f) p a r f n

-- or no frame of it
pub frame_stops : (p : Passage) (a : Accepted) (r s : VideoReading) (planes picture : Planes) (info : Said) (f : Fault) → NextRead p r (Some planes) s → picture ≡ planes → info ≡ said_for r.head
    → (f ≡ fault.OutOfMemory) ⊎ ((f ≡ fault.Codec codec_fault.SliceTooLong) × HasLongSlice a picture info) → StopsNext p a r f
frame_stops p a r s planes picture info f read same said (inl e) = subst (StopsNext p a r) (sym e) (inr (planes, s, read))
frame_stops p a r s planes picture info f read same said (inr (e, long)) = subst (StopsNext p a r) (sym e) (inr (record {
  planes = planes;
  after = s;
  read = read;
  long = subst (λ i. HasLongSlice a planes i) said (subst (λ q. HasLongSlice a q info) same long);
  is = refl;
}))

-- Pictures that are encoded one after the other.
use Rattle.std.specs.Prelude.{◌≡◌, ◌⊎◌, ℕ, true, List, [], ◌∷◌, ◌++◌, Option, Some, None, Ok}
use Rattle.std.proofs.Common.{sym, ◌∙◌, refl, ap, subst, inl, inr}
use Rattle.ffv1_wire.specs.Passage.{Passage}
use Rattle.ffv1_wire.specs.Failures.{one_more}
use Rattle.ffv1_record.specs.Accepted.{Accepted}
use Rattle.ffv1_codec.specs.Frame.{frame_of, HasLongSlice}
use Rattle.ffv1_codec.specs.Picture.{Planes}
use Rattle.ffv1_reads.specs.Known.{Known}
use Rattle.ffv1_video.specs.Video.{SaidHead}
use Rattle.ffv1_video.specs.declared.fault.Fault.{Fault}
use Rattle.ffv1_reads.specs.declared.fault.FileFault.TheVariants as file_fault
use Rattle.ffv1_video.specs.declared.fault.Fault.TheVariants as fault
use Rattle.ffv1_pack.specs.Internal.Encoding.{Encoded, EncodesAll, EncodesOne, EncodesUpTo, EndsAt, EndsKnown, EndsOne, IsTooLong, PicturesKnown, ReadsOne, StopsBy, StopsEncoding, StopsEncodingBy, StopsNext}
use Rattle.ffv1_video.specs.Faults.{Cause, cause_of}
use Rattle.ffv1_video.specs.Faults.Cause.{Reading, Writing, Memory, Content}
use Rattle.ffv1_pack.specs.Packing.{AllShort, AreReadable, AreReadableIn, IsLongIn, frames_for, said_for}
use Rattle.ffv1_video.specs.Video.{ReadsPictures, at_first, picture_next}
use Rattle.ffv1_pack.specs.VideoReads.{PictureLacks, PictureWants}
use Rattle.ffv1_pack.specs.Internal.VideoReads.{NextRead, NextRefusedBy, StopsKnown, VideoReading}
use Rattle.ffv1_video.proofs.KnownTexts.{known_map}
use Rattle.ffv1_pack.proofs.PicturesRead as read
use Rattle.ffv1_pack.proofs.PicturesRead.{ReadSo, joined, memory_kept, read_none}

all_short : (a : Accepted) (h : SaidHead) (ps : List Planes) (q : Planes) → AllShort a h ps → (HasLongSlice a q (said_for h) → ⊥) → AllShort a h (ps ++ (q ∷ []))
all_short a h [] q s n = (n, tt)
all_short a h (p ∷ ps) q s n = (s.0, all_short a h ps q s.1 n)

pub all_frames : (a : Accepted) (h : SaidHead) (ps : List Planes) (q : Planes) → frames_for a h (ps ++ (q ∷ [])) ≡ frames_for a h ps ++ (frame_of a q (said_for h) ∷ [])
all_frames a h [] q = refl
all_frames a h (p ∷ ps) q = ap (λ z. frame_of a p (said_for h) ∷ z) (all_frames a h ps q)

-- none yet
pub encoded_none : (o : Option (List ℕ)) (n : ℕ) (a : Accepted) (r : VideoReading) → r.failed ≡ None → r.begun ≡ true → Encoded (record { old = o; new = o; before = n; after = n }) a r r []
encoded_none o n a r working begun = record {
  pictures = [];
  known = (read_none o n r working begun).known;
  kept = refl;
  short = tt;
  are = refl;
  ppm = refl;
  head = refl;
  failed = working;
  begun = λ is. begun;
  most = refl;
}

-- p leads to where the reader is s and the frames are these; a call q follows it
module _ (p q : Passage) (a : Accepted) (r s : VideoReading) (frames : List (List ℕ)) (e : Encoded p a r s frames)
    (joins : q.old ≡ p.new) (counts : q.before ≡ p.after) where
  so : ReadSo p r s e.pictures
  so = record {
    known = e.known;
    kept = e.kept;
    ppm = e.ppm;
    head = e.head;
    failed = e.failed;
    begun = e.begun;
    most = e.most;
  }

  pub encoded_more : (t : VideoReading) (frame : List ℕ) → EncodesOne q a s t (Some frame) → Encoded (joined p q) a r t (frames ++ (frame ∷ []))
  encoded_more t frame (planes, n, short, is) =
      let now = read.read_more p q r s e.pictures so joins counts t planes n in
      record {
        pictures = e.pictures ++ (planes ∷ []);
        known = now.known;
        kept = now.kept;
        short = all_short a r.head e.pictures planes e.short (subst (λ h. HasLongSlice a planes (said_for h) → ⊥) e.head short);
        are = ap (λ z. frames ++ (z ∷ [])) is ∙ (ap (λ z. frames ++ (frame_of a planes (said_for z) ∷ [])) e.head ∙ (ap (λ z. z ++ (frame_of a planes (said_for r.head) ∷ [])) e.are ∙ sym (all_frames a r.head e.pictures planes)));
        ppm = now.ppm;
        head = now.head;
        failed = now.failed;
        begun = now.begun;
        most = now.most;
      }

  pub encoded_all : (t : VideoReading) → EncodesOne q a s t None → EncodesAll (joined p q) a r frames
  encoded_all t n = record {
    pictures = e.pictures;
    known = read.read_all p q r s e.pictures so joins counts t n;
    kept = n.kept ∙ (counts ∙ e.kept);
    short = e.short;
    are = e.are;
  }

  -- the next picture was read, if the text is known
  pub known_next : (t : VideoReading) (planes : Planes) → NextRead q s (Some planes) t → PicturesKnown p.old q.new r (e.pictures ++ (planes ∷ []))
  known_next = read.known_next p q r s e.pictures so joins counts

  pub known_after : (t : VideoReading) (planes : Planes) → NextRead q s (Some planes) t →
      Known p.old q.new (λ text rest. (left : List ℕ) × ReadsPictures r.ppm r.most r.head true text e.pictures left × (picture_next r.ppm r.most r.head (at_first e.pictures) left ≡ Ok (Some planes, rest)))
  known_after = read.known_after p q r s e.pictures so joins counts

  abbrev Ends : Fault → List ℕ → List ℕ → Type 0
  Ends f text rest = (left : List ℕ) × ReadsPictures r.ppm r.most r.head true text e.pictures left × EndsAt a r e.pictures left rest f

  pub ends_after : (f : Fault) → ((q.after ≡ q.before) × StopsKnown q.old q.new s f) ⊎ IsTooLong q a s f → (q.after ≡ p.before) × EndsKnown p.old q.new a r e.pictures f
  ends_after f (inl n) = (n.0 ∙ (counts ∙ e.kept), known_map p.old q.new _ (Ends f) (λ text rest is. (is.0, is.1, inl is.2)) (read.stops_after p q r s e.pictures so joins counts f n.1))
  ends_after f (inr l) =
      let long = subst (λ h. HasLongSlice a l.planes (said_for h)) e.head l.long in
      (l.read.kept ∙ (counts ∙ e.kept), known_map p.old q.new _ (Ends f) (λ text rest is. (is.0, is.1, inr (l.planes, is.2, long, l.is))) (known_after l.after l.planes l.read))

  -- a read of the next picture failed, or memory was refused for it
  pub wants_after : (f : Fault) → NextRefusedBy Reading q s f → Known p.old q.new (λ text rest. (left : List ℕ) × ReadsPictures r.ppm r.most r.head true text e.pictures left × PictureWants r.ppm r.most r.head e.pictures left rest)
  wants_after = read.wants_after p q r s e.pictures so joins counts

  pub lacks_after : (f : Fault) → NextRefusedBy Memory q s f ⊎ ReadsOne q s → Known p.old q.new (λ text rest. (left : List ℕ) × ReadsPictures r.ppm r.most r.head true text e.pictures left × PictureLacks r.ppm r.most r.head e.pictures left rest)
  lacks_after = read.lacks_after p q r s e.pictures so joins counts

  -- a picture was encoded
  module _ (t : VideoReading) (frame : List ℕ) (one : EncodesOne q a s t (Some frame)) where
    pub short_next : HasLongSlice a one.0 (said_for r.head) → ⊥
    short_next = subst (λ h. HasLongSlice a one.0 (said_for h) → ⊥) e.head one.2

    pub frame_next : frame ≡ frame_of a one.0 (said_for r.head)
    frame_next = one.3 ∙ ap (λ h. frame_of a one.0 (said_for h)) e.head

  -- the pictures of an AVI
  module _ (readable : AreReadableIn a.profile frames) where
    up_to : (Next : List Planes → List ℕ → List ℕ → Type 0) → Known p.old q.new (λ text rest. (left : List ℕ) × ReadsPictures r.ppm r.most r.head true text e.pictures left × Next e.pictures left rest) → EncodesUpTo Next (joined p q) a r
    up_to Next taken = record {
      pictures = e.pictures;
      taken = taken;
      short = e.short;
      readable = λ wide. subst (AreReadable a.profile) e.are (readable wide);
    }

    -- of which the next one has a fault
    abbrev Ended : Fault → List ℕ → List ℕ → Type 0
    Ended f text rest = (left : List ℕ) × ReadsPictures r.ppm r.most r.head true text e.pictures left × EndsOne a r f e.pictures left rest

    stops_by : (c : Cause) (f : Fault) → StopsBy c q a s f → StopsEncodingBy c (joined p q) a r f
    stops_by Reading f n = (n.0 ∙ ap one_more (counts ∙ e.kept), up_to (PictureWants r.ppm r.most r.head) (wants_after f n))
    stops_by Writing f n = n
    stops_by Memory f n = (memory_kept q s f n ∙ (counts ∙ e.kept), up_to (PictureLacks r.ppm r.most r.head) (lacks_after f n))
    stops_by Content f n =
        let known = ends_after f n in
        (known.0, up_to (EndsOne a r f) (known_map p.old q.new _ (Ended f) (λ text rest is. (is.0, is.1, inl is.2)) known.1))

    pub encoding_stops : (f : Fault) → StopsNext q a s f → StopsEncoding (joined p q) a r f
    encoding_stops f n = stops_by (cause_of f) f n

    -- or too long a frame
    pub long_stops : (t : VideoReading) (frame : List ℕ) → EncodesOne q a s t (Some frame) → IsLongIn a.profile frame → StopsEncoding (joined p q) a r (fault.File file_fault.ChunkTooLong)
    long_stops t frame one long =
        let is_long = subst (λ z. IsLongIn a.profile z) (frame_next t frame one) long in
        let short = short_next t frame one in (
          one.1.kept ∙ (counts ∙ e.kept),
          up_to (EndsOne a r (fault.File file_fault.ChunkTooLong)) (known_map p.old q.new _ (Ended (fault.File file_fault.ChunkTooLong)) (λ text rest is. (is.0, is.1, inr (one.0, is.2, short, is_long, refl))) (known_after t one.0 one.1)),
        )

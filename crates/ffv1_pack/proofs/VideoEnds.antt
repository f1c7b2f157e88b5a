-- A video whose pictures have ended is read whole.
use Rattle.std.specs.Prelude.{◌≡◌, ℕ, ◌==◌, Bool, true, false, List, [], ◌∷◌, Option, Some, None, Ok, Err, ◌&&◌, ◌<◌, length}
use Rattle.std.proofs.Common.{arith, refl, sym, ◌∙◌, ap, subst, cond}
use Rattle.ffv1_codec.specs.Picture.{Planes}
use Rattle.ffv1_y4m.specs.Images.{IsImagesIn, ReadsFrom, ReadsImages}
use Rattle.ffv1_y4m.specs.Pictures.{bytes_read, frame_begun, frame_line, picture_read, planes_read}
use Rattle.ffv1_y4m.specs.Ppm.{colours_read, image_begun, image_bytes, image_header, image_read, same_format}
use Rattle.ffv1_y4m.specs.Sequence.{◌>>=◌, Outcome, Reading, give, refuse, where_begun}
use Rattle.ffv1_y4m.specs.Text.{IsText, ReadsAll}
use Rattle.ffv1_y4m.specs.VideoHead.{plane_bytes}
use Rattle.ffv1_y4m.specs.declared.fault.Fault.TheVariants as fault
use Rattle.ffv1_video.specs.declared.profile.Profile.{Profile}
use Rattle.ffv1_video.specs.Profiles.{greatest_depth, record_profile}
use Rattle.ffv1_video.specs.Video.{SaidHead}
use Rattle.ffv1_y4m.specs.declared.head.VideoHead.{VideoHead}
use Rattle.ffv1_wire.specs.Passage.{Passage}
use Rattle.ffv1_record.specs.Accepted.{Accepted}
use Rattle.std.specs.declared.vec.Vec.{Vec}
use Rattle.ffv1_reads.specs.Head.{Head}
use Rattle.ffv1_avi.specs.Written.{frames_of}
use Rattle.ffv1_y4m.specs.Header.{header_of}
use Rattle.ffv1_words.specs.declared.order.Choice.{Choice}
use Rattle.ffv1_pack.specs.Internal.Encoding.{AllKnown, EncodesAll}
use Rattle.ffv1_pack.specs.Internal.Pack.{EncodesVideo, EndsVideo}
use Rattle.ffv1_pack.specs.Packing.{AreReadable, AreReadableIn, IsFor, frames_for, head_for}
use Rattle.ffv1_video.specs.Video.{IsReadVideoBy, ReadsPictures, ReadsVideo, at_first, is_ppm, picture_next, seen_as, video_head}
use Rattle.ffv1_pack.specs.VideoReads.{IsHeadBy}
use Rattle.ffv1_pack.specs.Internal.VideoReads.{HeadKnown, HeadRead, IsHeadOf, VideoReading}
use Rattle.ffv1_pack.proofs.PicturesRead.{joined}
use Rattle.ffv1_pack.proofs.VideoEncoded.{next_up_to, reads_up_to, short_in, video_of}

-- an outcome is no false, unless it is a fault
abbrev IsBegun : Outcome Bool → Type 0
IsBegun (Ok p) = p.0 ≡ true
IsBegun (Err f) = Unit {0}

told : {X : Type 0} → Outcome X → Option X
told (Ok p) = Some p.0
told (Err f) = None

some_none : {X : Type 0} (x : X) (rest left : List ℕ) → give (Some x) rest ≡ Ok (None, left) → ⊥
unfolding told
some_none x rest left e =
    let first : Some (Some x) ≡ Some None = ap told e in
    absurd (cc)

none_in : {X : Type 0} (r : Outcome X) (left : List ℕ) → (r >>= λ p. give (Some p.0) p.1) ≡ Ok (None, left) → ⊥
none_in (Ok p) left e =
    some_none p.0 p.1 left e
none_in (Err f) left e = absurd (cc)

begun_cond : (b : Bool) (r s : Outcome Bool) → IsBegun r → IsBegun s → IsBegun (cond b r s)
begun_cond true r s h k = h
begun_cond false r s h k = k

line_begun : (line text : List ℕ) → IsBegun (bytes_read line text)
line_begun [] text = refl
line_begun (b ∷ bs) [] = tt
line_begun (b ∷ bs) (c ∷ cs) = begun_cond (c == b) (bytes_read bs cs) (Err (fault.FrameLine, cs)) (line_begun bs cs) tt

-- so it has not ended
some_behind : {X : Type 0} (reading : Reading X) (rest left : List ℕ) → where_begun reading true rest ≡ Ok (None, left) → ⊥
some_behind reading rest left e = none_in (reading rest) left e

none_ended : {X : Type 0} (r : Outcome Bool) (reading : Reading X) (left : List ℕ) → IsBegun r → (r >>= λ p. where_begun reading p.0 p.1) ≡ Ok (None, left) → ⊥
none_ended (Ok (true, rest)) reading left is e = some_behind reading rest left e
none_ended (Ok (false, rest)) reading left is e = absurd (cc)
none_ended (Err f) reading left is e = absurd (cc)

remains : {X : Type 0} → Outcome X → List ℕ
remains (Ok p) = p.1
remains (Err f) = f.1

ended : {X : Type 0} (rest : List ℕ) → give {X = Option X} None [] ≡ Ok (None, rest) → rest ≡ []
unfolding remains
ended rest e = sym (ap remains e)

pub picture_end : (depth : ℕ) (h : VideoHead) (text rest : List ℕ) → picture_read depth h text ≡ Ok (None, rest) → rest ≡ []
unfolding frame_begun
picture_end depth h [] rest e = ended rest e
picture_end depth h (c ∷ cs) rest e = absurd (none_ended (bytes_read frame_line (c ∷ cs)) (planes_read depth (plane_bytes depth h)) rest (line_begun frame_line (c ∷ cs)) e)

begun_either : (b : Bool) (text : List ℕ) → IsBegun (cond b (give true) (refuse fault.FormatChanged) text)
begun_either true text = refl
begun_either false text = tt

header_begun : {X : Type 0} (r : Outcome X) (next : X → Reading Bool) → ((x : X) (text : List ℕ) → IsBegun (next x text)) → IsBegun (r >>= λ p. next p.0 p.1)
header_begun (Ok p) next all = all p.0 p.1
header_begun (Err f) next all = tt

pub image_end : (most : ℕ) (h : SaidHead) (first : Bool) (text rest : List ℕ) → image_read most (record { head = h.head; depth = h.depth }) first text ≡ Ok (None, rest) → rest ≡ []
image_end most h true text rest e = absurd (some_behind (colours_read h.depth (image_bytes (record { head = h.head; depth = h.depth }))) text rest e)
image_end most h false [] rest e = ended rest e
image_end most h false (c ∷ cs) rest e = absurd (none_ended (image_begun most (record { head = h.head; depth = h.depth }) (c ∷ cs)) (colours_read h.depth (image_bytes (record { head = h.head; depth = h.depth }))) rest (header_begun (image_header most (c ∷ cs)) (λ k. same_format (record { head = h.head; depth = h.depth }) k)
    (λ k text. begun_either (h.head.width == k.head.width && (h.head.height == k.head.height && h.depth == k.depth)) text)) e)

pub video_end : (ppm : Bool) (most : ℕ) (h : SaidHead) (first : Bool) (text rest : List ℕ) → picture_next ppm most h first text ≡ Ok (None, rest) → rest ≡ []
video_end true most h first text rest e = image_end most h first text rest e
video_end false most h first text rest e = picture_end h.depth h.head text rest e

-- all pictures of YUV4MPEG2
pub all_pictures : (most : ℕ) (h : SaidHead) (first : Bool) (text : List ℕ) (ps : List Planes) (left rest : List ℕ) → ReadsPictures false most h first text ps left → picture_read h.depth h.head left ≡ Ok (None, rest) → ReadsAll h.depth h.head text ps
all_pictures most h first text [] left rest e end =
    subst (λ t. picture_read h.depth h.head t ≡ Ok (None, [])) e (end ∙ ap (λ r. Ok (None, r)) (picture_end h.depth h.head left rest end))
all_pictures most h first text (p ∷ ps) left rest (next, e, more) end = (next, e, all_pictures most h false next ps left rest more end)

-- all images of PPM
later_images : (most : ℕ) (h : SaidHead) (text : List ℕ) (ps : List Planes) (left rest : List ℕ) → ReadsPictures true most h false text ps left → image_read most (record { head = h.head; depth = h.depth }) false left ≡ Ok (None, rest) → ReadsImages most (record { head = h.head; depth = h.depth }) text ps
later_images most h text [] left rest e end = subst (λ t. image_read most (record { head = h.head; depth = h.depth }) false t ≡ Ok (None, [])) e (end ∙ ap (λ r. Ok (None, r)) (image_end most h false left rest end))
later_images most h text (p ∷ ps) left rest (next, e, more) end = (next, e, later_images most h next ps left rest more end)

pub all_images : (most : ℕ) (h : SaidHead) (text : List ℕ) (p : Planes) (ps : List Planes) (left rest : List ℕ) → ReadsPictures true most h true text (p ∷ ps) left → image_read most (record { head = h.head; depth = h.depth }) false left ≡ Ok (None, rest) → ReadsFrom most (record { head = h.head; depth = h.depth }) text p ps
all_images most h text p ps left rest (next, e, more) end = (next, e, later_images most h next ps left rest more end)

pub no_frames : {A : Type 0} (xs : List (Vec ℕ A)) → length xs ≡ 0 → frames_of xs ≡ []
no_frames [] e = refl
no_frames (x ∷ xs) e = absurd (omega (arith, e))

pub some_frames : {A : Type 0} (xs : List (Vec ℕ A)) → 0 < length xs → 0 < length (frames_of xs)
some_frames [] e = e
some_frames (x ∷ xs) e = omega (arith)

ends_video : (most : ℕ) (old mid new : Option (List ℕ)) (r : VideoReading) (ps : List Planes) → (r.ppm ≡ true → r.most ≡ most) → HeadKnown most old mid r.ppm r.head → AllKnown mid new r ps → EndsVideo most old new (video_of r ps)
ends_video most None mid new r ps later h k = tt
ends_video most (Some text) None new r ps later h k = absurd h
ends_video most (Some text) (Some behind) None r ps later h k = k
ends_video most (Some text) (Some behind) (Some rest) r ps later h (left, reads, end) = (
  left,
  record { kind = h.0; behind = behind; head = h.1; pictures = reads_up_to r.ppm r.most most r.head true behind ps left later reads },
  sym (next_up_to r.ppm r.most most r.head (at_first ps) left later) ∙ end,
)

pub some_pictures : (a : Accepted) (r : VideoReading) (ps : List Planes) (frames : List (List ℕ)) → frames ≡ frames_for a r.head ps → 0 < length frames → 0 < length ps
some_pictures a r [] frames e some = subst (λ f. 0 < length f) e some
some_pictures a r (p ∷ ps) frames e some = omega (arith)

-- what is seen so was read
unseen : {X : Type 0} (view : X → SaidHead) (make : SaidHead → X) (same : (x : X) → make (view x) ≡ x) (r : Outcome X) (h : SaidHead) (rest : List ℕ) → seen_as r view ≡ Ok (h, rest) → r ≡ Ok (make h, rest)
unfolding told remains
unseen view make same (Ok p) h rest e =
    let first : Some (view p.0) ≡ Some h = ap told e in
    let head : view p.0 ≡ h = cc in
    let left : p.1 ≡ rest = ap remains e in
    ap (λ x. Ok (x, p.1)) (sym (same p.0) ∙ ap make head) ∙ ap (λ t. Ok (make h, t)) left
unseen view make same (Err f) h rest e = absurd (cc)

text_read : (most : ℕ) (text : List ℕ) (h : SaidHead) (rest : List ℕ) → is_ppm text ≡ false → video_head most text ≡ Ok (h, rest) → header_of most text ≡ Ok (record { head = h.head; depth = h.depth }, rest)
text_read most text h rest kind e =
    unseen (λ k. record { head = k.head; depth = k.depth }) (λ k. record { head = k.head; depth = k.depth }) (λ k. refl) (header_of most text) h rest
    (sym (ap (λ b. cond b (seen_as (image_header most text) (λ k. record { head = k.head; depth = k.depth })) (seen_as (header_of most text) (λ k. record { head = k.head; depth = k.depth }))) kind) ∙ e)

images_read : (most : ℕ) (text : List ℕ) (h : SaidHead) (rest : List ℕ) → is_ppm text ≡ true → video_head most text ≡ Ok (h, rest) → image_header most text ≡ Ok (record { head = h.head; depth = h.depth }, rest)
images_read most text h rest kind e =
    unseen (λ k. record { head = k.head; depth = k.depth }) (λ k. record { head = k.head; depth = k.depth }) (λ k. refl) (image_header most text) h rest
    (sym (ap (λ b. cond b (seen_as (image_header most text) (λ k. record { head = k.head; depth = k.depth })) (seen_as (header_of most text) (λ k. record { head = k.head; depth = k.depth }))) kind) ∙ e)

module _ (texts_only : (text : List ℕ) (most depth : ℕ) (h : VideoHead) (rest : List ℕ) (pictures : List (List (List ℕ))) → header_of most text ≡ Ok (record { head = h; depth = depth }, rest) → ReadsAll depth h rest pictures → IsText most text depth h pictures)
    (images_only : (text : List ℕ) (most depth : ℕ) (h : VideoHead) (rest : List ℕ) (image : List (List ℕ)) (images : List (List (List ℕ))) → image_header most text ≡ Ok (record { head = h; depth = depth }, rest) → ReadsFrom most (record { head = h; depth = depth }) rest image images → IsImagesIn most text depth h.width h.height (image ∷ images)) where
  by_kind : (ppm : Bool) (most : ℕ) (h : SaidHead) (text behind left rest : List ℕ) (ps : List Planes) → ppm ≡ is_ppm text → video_head most text ≡ Ok (h, behind) → ReadsPictures ppm most h true behind ps left →
      picture_next ppm most h (at_first ps) left ≡ Ok (None, rest) → 0 < length ps → IsHeadBy ppm h.head → IsReadVideoBy most ppm text h ps
  by_kind true most h text behind left rest [] kind head reads end some is = absurd (omega (arith, some))
  by_kind true most h text behind left rest (p ∷ ps) kind head reads end some is =
      (is.1, images_only text most h.depth h.head behind p ps (images_read most text h behind (sym kind) head) (all_images most h behind p ps left rest reads end))
  by_kind false most h text behind left rest ps kind head reads end some is =
      texts_only text most h.depth h.head behind ps (text_read most text h behind (sym kind) head) (all_pictures most h true behind ps left rest reads end)

  pub reads_video : (most : ℕ) (old mid new : Option (List ℕ)) (r : VideoReading) (ps : List Planes) → (r.ppm ≡ true → r.most ≡ most) → HeadKnown most old mid r.ppm r.head → IsHeadOf r → AllKnown mid new r ps → 0 < length ps → ReadsVideo most old new (video_of r ps)
  reads_video most None mid new r ps later h is k some = tt
  reads_video most (Some text) None new r ps later h is k some = absurd h
  reads_video most (Some text) (Some behind) None r ps later h is k some = k
  reads_video most (Some text) (Some behind) (Some rest) r ps later h is (left, reads, end) some =
      let reads_all = reads_up_to r.ppm r.most most r.head true behind ps left later reads in
      let over = sym (next_up_to r.ppm r.most most r.head (at_first ps) left later) ∙ end in
      (by_kind r.ppm most r.head text behind left rest ps h.0 h.1 reads_all over some is, video_end r.ppm most r.head (at_first ps) left rest over)

  pub encodes_video : (profile : Profile) (choice : Choice) (p q : Passage) (a : Accepted) (r : VideoReading) (head : Head) (frames : List (List ℕ)) → q.old ≡ p.new → q.before ≡ p.after → HeadRead (greatest_depth profile) p r → IsHeadOf r → IsFor profile choice r.ppm r.head a → EncodesAll q a r frames → AreReadableIn a.profile frames → 0 < length frames →
      head ≡ head_for choice r.ppm r.head a.configuration → EncodesVideo profile choice (joined p q) head frames
  encodes_video profile choice p q a r head frames joins counts h is for all readable some e =
      let many = some_pictures a r all.pictures frames all.are some in
      let known = subst (λ o. AllKnown o q.new r all.pictures) joins all.known in record {
        video = video_of r all.pictures;
        accepted = a;
        reads = reads_video (greatest_depth profile) p.old p.new q.new r all.pictures h.later h.known is known many;
        ends = ends_video (greatest_depth profile) p.old p.new q.new r all.pictures h.later h.known known;
        deep = h.deep;
        for = for;
        some = many;
        short = all.short;
        readable = short_in profile choice p q a r joins counts h for all.pictures (λ wide. subst (AreReadable a.profile) all.are (readable wide));
        head_is = e;
        frames_are = all.are;
        kept = all.kept ∙ (counts ∙ h.kept);
      }

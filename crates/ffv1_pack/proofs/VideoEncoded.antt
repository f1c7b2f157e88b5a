-- A video that is read and encoded.
use Rattle.std.specs.Prelude.{◌≡◌, ◌⊎◌, ℕ, Bool, true, false, List, [], ◌∷◌, Option, Some, None, Ok}
use Rattle.std.proofs.Common.{refl, sym, ◌∙◌, ap, subst, inl, inr}
use Rattle.ffv1_wire.specs.Passage.{Passage}
use Rattle.ffv1_wire.specs.Failures.{one_more}
use Rattle.ffv1_record.specs.Accepted.{Accepted, IsFirstIn, IsFirstUpTo, checks}
use Rattle.ffv1_record.specs.Configuration.{Configuration}
use Rattle.ffv1_record.specs.declared.fault.RecordFault.{RecordFault}
use Rattle.ffv1_codec.specs.Picture.{Planes}
use Rattle.ffv1_video.specs.Video.{SaidHead}
use Rattle.ffv1_words.specs.declared.order.Choice.{Choice}
use Rattle.ffv1_video.specs.declared.fault.Fault.{Fault}
use Rattle.ffv1_video.specs.declared.fault.Fault.TheVariants as fault
use Rattle.ffv1_pack.specs.Internal.Encoding.{AllKnown, EncodesAll, EncodesUpTo, EndsOne, StopsEncoding, StopsEncodingBy}
use Rattle.ffv1_video.specs.Faults.{Cause, cause_of, of_record}
use Rattle.ffv1_video.specs.Faults.Cause.{Reading, Writing, Memory, Content}
use Rattle.ffv1_pack.specs.Pack.{EncodesSome, Ends, EndsBehind, FaultsPacked, HasHead, IsRejected, LacksHead, StandsAfterHead}
use Rattle.ffv1_pack.specs.Internal.Pack.{StopsVideo, StopsVideoBy}
use Rattle.ffv1_pack.specs.Packing.{AllShort, AreReadable, AreReadableIn, IsFor, IsLongIn, configuration_for, frames_for, said_for}
use Rattle.ffv1_video.specs.Video.{Begins, ReadsPictures, Video, at_first, is_ppm, picture_next, video_head}
use Rattle.ffv1_pack.specs.VideoReads.{LacksKnown, PictureLacks, PictureWants}
use Rattle.ffv1_codec.specs.Frame.{frame_of}
use Rattle.ffv1_reads.specs.Known.{Known}
use Rattle.ffv1_y4m.specs.Reads.{Wants}
use Rattle.ffv1_pack.specs.Internal.VideoReads.{HeadKnown, HeadRead, HeadRefused, HeadRefusedBy, VideoReading}
use Rattle.ffv1_record.specs.declared.config.Profile.{Profile as RecordProfile}
use Rattle.ffv1_video.specs.declared.profile.Profile.{Profile}
use Rattle.ffv1_video.specs.Profiles.{greatest_depth, record_profile}
use Rattle.ffv1_video.proofs.Depths.{first_or_depth}
use Rattle.ffv1_video.proofs.KnownTexts.{known_map}
use Rattle.ffv1_pack.proofs.KnownTaken.{known_taken}
use Rattle.ffv1_pack.proofs.PicturesRead.{joined}

-- the faults of a configuration are no want of memory
first_content : (k : RecordProfile) (c : Configuration) (g : RecordFault) → IsFirstIn k checks c g → cause_of (of_record g) ≡ Content
first_content k c g (inl p) = rw p.1 refl
first_content k c g (inr (a, inl p)) = rw p.1 refl
first_content k c g (inr (a, inr (b, inl p))) = rw p.1 refl
first_content k c g (inr (a, inr (b, inr (d, inl p)))) = rw p.1 refl
first_content k c g (inr (a, inr (b, inr (d, inr (e, inl p))))) = rw p.1 refl
first_content k c g (inr (a, inr (b, inr (d, inr (e, inr (f, inl p)))))) = rw p.1 refl
first_content k c g (inr (a, inr (b, inr (d, inr (e, inr (f, inr (i, inl p))))))) = rw p.1 refl
first_content k c g (inr (a, inr (b, inr (d, inr (e, inr (f, inr (i, inr (j, inl p)))))))) = rw p.1 refl
first_content k c g (inr (a, inr (b, inr (d, inr (e, inr (f, inr (i, inr (j, inr (l, p))))))))) = absurd p

pub content_check : (k : RecordProfile) (most : ℕ) (c : Configuration) (g : RecordFault) → IsFirstUpTo k most c g → cause_of (of_record g) ≡ Content
content_check k most c g first = elim (first_or_depth k most c g first) [
  | inl check ↦ first_content k c g check
  | inr depth ↦ ap (λ z. cause_of (of_record z)) depth
]

lacks_packed : (profile : Profile) (old new : Option (List ℕ)) (choice : Choice) (f : Fault) → LacksKnown (greatest_depth profile) old new f → FaultsPacked profile choice old new f
lacks_packed profile None new choice f k = tt
lacks_packed profile (Some text) None choice f k = k
lacks_packed profile (Some text) (Some rest) choice f k = inl k

no_head_by : (profile : Profile) (c : Cause) (choice : Choice) (p : Passage) (f : Fault) → HeadRefusedBy (greatest_depth profile) c p f → StopsVideoBy profile c choice p f
no_head_by profile Reading choice p f h = (h.0, inl (known_taken p.old p.new (Wants (video_head (greatest_depth profile))) (Wants (video_head (greatest_depth profile))) (λ bytes is. is) h.1))
no_head_by profile Writing choice p f h = absurd h
no_head_by profile Memory choice p f h = absurd h
no_head_by profile Content choice p f h = (h.0, lacks_packed profile p.old p.new choice f h.1)

-- it has no head
pub no_head : (profile : Profile) (choice : Choice) (p : Passage) (f : Fault) → HeadRefused (greatest_depth profile) p f → StopsVideo profile choice p f
no_head profile choice p f h = no_head_by profile (cause_of f) choice p f h

-- YUV4MPEG2 does not ask which depths a header may say
pub next_up_to : (ppm : Bool) (n most : ℕ) (h : SaidHead) (first : Bool) (text : List ℕ) → (ppm ≡ true → n ≡ most) → picture_next ppm n h first text ≡ picture_next ppm most h first text
next_up_to true n most h first text e = ap (λ k. picture_next true k h first text) (e refl)
next_up_to false n most h first text e = refl

pub reads_up_to : (ppm : Bool) (n most : ℕ) (h : SaidHead) (first : Bool) (text : List ℕ) (ps : List Planes) (left : List ℕ) → (ppm ≡ true → n ≡ most) → ReadsPictures ppm n h first text ps left → ReadsPictures ppm most h first text ps left
reads_up_to ppm n most h first text [] left e r = r
reads_up_to ppm n most h first text (p ∷ ps) left e (rest, next, more) = (rest, sym (next_up_to ppm n most h first text e) ∙ next, reads_up_to ppm n most h false rest ps left e more)

pub has_head : (most : ℕ) (old new : Option (List ℕ)) (r : VideoReading) → HeadKnown most old new r.ppm r.head → HasHead most old
has_head most None new r k = tt
has_head most (Some text) None r k = absurd k
has_head most (Some text) (Some rest) r k = (r.head, rest, k.1)

pub after_head : (most : ℕ) (old new : Option (List ℕ)) (r : VideoReading) → HeadKnown most old new r.ppm r.head → StandsAfterHead most old new
after_head most old new r k = known_map old new (λ text rest. (r.ppm ≡ is_ppm text) × (video_head most text ≡ Ok (r.head, rest))) (λ text rest. (h : SaidHead) × (video_head most text ≡ Ok (h, rest))) (λ text rest is. (r.head, is.1)) k

rejected_by : (profile : Profile) (old new : Option (List ℕ)) (choice : Choice) (r : VideoReading) (g : RecordFault) → HeadKnown (greatest_depth profile) old new r.ppm r.head → IsFirstUpTo (record_profile profile) (greatest_depth profile) (configuration_for choice r.ppm r.head) g → FaultsPacked profile choice old new (of_record g)
rejected_by profile None new choice r g k i = tt
rejected_by profile (Some text) None choice r g k i = k
rejected_by profile (Some text) (Some rest) choice r g k i = inr (inl (record {
  head = r.head;
  read = k.1;
  refusal = g;
  first = subst (λ b. IsFirstUpTo (record_profile profile) (greatest_depth profile) (configuration_for choice b r.head) g) k.0 i;
  is = refl;
}))

-- after its head memory is refused, or the configuration is
pub wants_memory : (profile : Profile) (choice : Choice) (p : Passage) (r : VideoReading) (f : Fault) → HeadRead (greatest_depth profile) p r → f ≡ fault.OutOfMemory → StopsVideo profile choice p f
wants_memory profile choice p r f h e = rw e (h.kept, has_head (greatest_depth profile) p.old p.new r h.known, inl (after_head (greatest_depth profile) p.old p.new r h.known))

pub rejected : (profile : Profile) (choice : Choice) (p : Passage) (r : VideoReading) (f : Fault) → HeadRead (greatest_depth profile) p r → (f ≡ fault.OutOfMemory) ⊎ ((g : RecordFault) × IsFirstUpTo (record_profile profile) (greatest_depth profile) (configuration_for choice r.ppm r.head) g × (f ≡ of_record g)) → StopsVideo profile choice p f
rejected profile choice p r f h (inl e) = wants_memory profile choice p r f h e
rejected profile choice p r f h (inr (g, i, e)) =
    subst (λ x. StopsVideo profile choice p x) (sym e) (subst (λ c. StopsVideoBy profile c choice p (of_record g)) (sym (content_check (record_profile profile) (greatest_depth profile) (configuration_for choice r.ppm r.head) g i)) (h.kept, rejected_by profile p.old p.new choice r g h.known i))

-- the video of a reader and its pictures
abbrev pub video_of : VideoReading → List Planes → Video
video_of r pictures = record { ppm = r.ppm; head = r.head; pictures = pictures }

-- YUV4MPEG2 does not ask which depths a header may say
pub wants_up_to : (ppm : Bool) (n most : ℕ) (h : SaidHead) (ps : List Planes) (left rest : List ℕ) → (ppm ≡ true → n ≡ most) → PictureWants ppm n h ps left rest → PictureWants ppm most h ps left rest
wants_up_to true n most h ps left rest e is = subst (λ k. PictureWants true k h ps left rest) (e refl) is
wants_up_to false n most h ps left rest e is = is

pub lacks_up_to : (ppm : Bool) (n most : ℕ) (h : SaidHead) (ps : List Planes) (left rest : List ℕ) → (ppm ≡ true → n ≡ most) → PictureLacks ppm n h ps left rest → PictureLacks ppm most h ps left rest
lacks_up_to true n most h ps left rest e is = subst (λ k. PictureLacks true k h ps left rest) (e refl) is
lacks_up_to false n most h ps left rest e is = is

-- after its head these pictures of a text were read, and then so much
pub video_then : (most : ℕ) (old mid new : Option (List ℕ)) (r : VideoReading) (ps : List Planes) (P Q : List ℕ → List ℕ → Type 0) → ((left rest : List ℕ) → P left rest → Q left rest) → (r.ppm ≡ true → r.most ≡ most) → HeadKnown most old mid r.ppm r.head →
    Known mid new (λ text rest. (left : List ℕ) × ReadsPictures r.ppm r.most r.head true text ps left × P left rest) → Known old new (λ text rest. (left : List ℕ) × Begins most text (video_of r ps) left × Q left rest)
video_then most None mid new r ps P Q f later h k = tt
video_then most (Some text) None new r ps P Q f later h k = absurd h
video_then most (Some text) (Some behind) None r ps P Q f later h k = k
video_then most (Some text) (Some behind) (Some rest) r ps P Q f later h (left, reads, is) =
    (left, record { kind = h.0; behind = behind; head = h.1; pictures = reads_up_to r.ppm r.most most r.head true behind ps left later reads }, f left rest is)

-- the pictures of an AVI, after its head
module _ (profile : Profile) (choice : Choice) (p q : Passage) (a : Accepted) (r : VideoReading) (joins : q.old ≡ p.new) (counts : q.before ≡ p.after) (h : HeadRead (greatest_depth profile) p r) (for : IsFor profile choice r.ppm r.head a) where
  abbrev most : ℕ
  most = greatest_depth profile

  ends_behind : (ps : List Planes) (left rest : List ℕ) (f : Fault) → EndsOne a r f ps left rest → EndsBehind profile choice (video_of r ps) a left rest f
  ends_behind ps left rest f ends =
      let same = sym (next_up_to r.ppm r.most most r.head (at_first ps) left h.later) in
      elim ends [
        | inl at ↦ elim at [
          | inl faulty ↦ inl (faulty.0, same ∙ faulty.1, faulty.2)
          | inr long ↦ inr (inl (long.0, same ∙ long.1, inl (long.2, long.3)))
        ]
        | inr long ↦ inr (inl (long.0, same ∙ long.1, inr (long.2, subst (λ k. IsLongIn k (frame_of a long.0 (said_for r.head))) for.profiled long.3, long.4)))
      ]

  -- of so many the frames are not too long
  pub short_in : (ps : List Planes) → AreReadableIn a.profile (frames_for a r.head ps) → AreReadableIn (record_profile profile) (frames_for a r.head ps)
  short_in ps are = subst (λ k. AreReadableIn k (frames_for a r.head ps)) for.profiled are

  then : (Next After : List Planes → List ℕ → List ℕ → Type 0) → ((ps : List Planes) (left rest : List ℕ) → Next ps left rest → After ps left rest) → (s : EncodesUpTo Next q a r) →
      Known p.old q.new (λ text rest. (left : List ℕ) × Begins most text (video_of r s.pictures) left × After s.pictures left rest)
  then Next After f s = video_then most p.old p.new q.new r s.pictures (Next s.pictures) (After s.pictures) (f s.pictures) h.later h.known
      (subst (λ t. Known t q.new (λ text rest. (left : List ℕ) × ReadsPictures r.ppm r.most r.head true text s.pictures left × Next s.pictures left rest)) joins s.taken)

  some : (Next : List Planes → List ℕ → List ℕ → Type 0) (After : Video → List ℕ → List ℕ → Type 0) → ((ps : List Planes) (left rest : List ℕ) → Next ps left rest → After (video_of r ps) left rest) → EncodesUpTo Next q a r → EncodesSome profile After choice (joined p q)
  some Next After f s = record {
    video = video_of r s.pictures;
    accepted = a;
    for = for;
    short = s.short;
    readable = short_in s.pictures s.readable;
    taken = then Next (λ ps. After (video_of r ps)) f s;
  }

  abbrev Ended : Fault → List ℕ → List ℕ → Type 0
  Ended f text rest = LacksHead most text rest f ⊎ IsRejected profile choice text rest f ⊎ Ends profile choice text rest f

  ends_text : (f : Fault) → EncodesUpTo (EndsOne a r f) q a r → FaultsPacked profile choice p.old q.new f
  ends_text f s = known_map p.old q.new _ (Ended f) (λ text rest is. inr (inr (record {
    video = video_of r s.pictures;
    accepted = a;
    left = is.0;
    begins = is.1;
    for = for;
    short = s.short;
    readable = short_in s.pictures s.readable;
    ends = is.2;
  }))) (then (EndsOne a r f) (λ ps left rest. EndsBehind profile choice (video_of r ps) a left rest f) (λ ps left rest. ends_behind ps left rest f) s)

  stops_by : (c : Cause) (f : Fault) → StopsEncodingBy c q a r f → StopsVideoBy profile c choice (joined p q) f
  stops_by Reading f s = (
    s.0 ∙ ap one_more (counts ∙ h.kept),
    inr (some (PictureWants r.ppm r.most r.head) (λ v. PictureWants v.ppm most v.head v.pictures) (λ ps left rest is. wants_up_to r.ppm r.most most r.head ps left rest h.later is) s.1),
  )
  stops_by Writing f s = s
  stops_by Memory f s = (
    s.0 ∙ (counts ∙ h.kept),
    has_head most p.old p.new r h.known,
    inr (some (PictureLacks r.ppm r.most r.head) (λ v. PictureLacks v.ppm most v.head v.pictures) (λ ps left rest is. lacks_up_to r.ppm r.most most r.head ps left rest h.later is) s.1),
  )
  stops_by Content f s = (s.0 ∙ (counts ∙ h.kept), ends_text f s.1)

  -- a picture after it stops
  pub stops : (f : Fault) → StopsEncoding q a r f → StopsVideo profile choice (joined p q) f
  stops f s = stops_by (cause_of f) f s

no_pictures : (a : Accepted) (r : VideoReading) (ps : List Planes) → frames_for a r.head ps ≡ [] → ps ≡ []
no_pictures a r [] e = refl
no_pictures a r (p ∷ ps) e = absurd (cc)

none_known : (profile : Profile) (old mid new : Option (List ℕ)) (choice : Choice) (a : Accepted) (r : VideoReading) (ps : List Planes) → ps ≡ [] → (r.ppm ≡ true → r.most ≡ (greatest_depth profile)) → IsFor profile choice r.ppm r.head a → AllShort a r.head ps → HeadKnown (greatest_depth profile) old mid r.ppm r.head → AllKnown mid new r ps → FaultsPacked profile choice old new fault.NoFrames
none_known profile None mid new choice a r ps e later for short h k = tt
none_known profile (Some text) None new choice a r ps e later for short h k = absurd h
none_known profile (Some text) (Some behind) None choice a r ps e later for short h k = k
none_known profile (Some text) (Some behind) (Some rest) choice a r ps e later for short h (left, reads, end) = inr (inr (record {
  video = video_of r ps;
  accepted = a;
  left = left;
  begins = record { kind = h.0; behind = behind; head = h.1; pictures = reads_up_to r.ppm r.most (greatest_depth profile) r.head true behind ps left later reads };
  for = for;
  short = short;
  readable = λ wide. subst (λ z. AreReadable (record_profile profile) (frames_for a r.head z)) (sym e) tt;
  ends = inr (inr (sym (next_up_to r.ppm r.most (greatest_depth profile) r.head (at_first ps) left later) ∙ end, inl (e, refl)));
}))

-- or there is none
pub none : (profile : Profile) (choice : Choice) (p q : Passage) (a : Accepted) (r : VideoReading) (frames : List (List ℕ)) → q.old ≡ p.new → q.before ≡ p.after → HeadRead (greatest_depth profile) p r → IsFor profile choice r.ppm r.head a → EncodesAll q a r frames → frames ≡ [] → StopsVideo profile choice (joined p q) fault.NoFrames
none profile choice p q a r frames joins counts h for all e =
    let empty = no_pictures a r all.pictures (sym all.are ∙ e) in
    (all.kept ∙ (counts ∙ h.kept), none_known profile p.old p.new q.new choice a r all.pictures empty h.later for all.short h.known (subst (λ o. AllKnown o q.new r all.pictures) joins all.known))

-- The lines of the pictures of a text are written one after the other.
use Rattle.std.proofs.Common.{◌≡◌, refl, ℕ, ◌+◌, ◌<◌, ◌^◌, true, Option, Some, None, Ok, List, [], ◌∷◌, ◌++◌, length, take, inl, inr, ap, sym, subst, ◌∙◌, arith, length-append}
use Rattle.std.specs.Io.KnownBytes.{Appends, Keeps}
use Rattle.std.proofs.KnownBytes.{Appends-nil, Appends-trans, Appends-kept}
use Rattle.ffv1_range.specs.Counts.{saturated}
use Rattle.ffv1_wire.specs.Failures.{one_more}
use Rattle.ffv1_wire.specs.Passage.{Passage, between}
use Rattle.ffv1_codec.specs.Picture.{Planes}
use Rattle.ffv1_reads.specs.Known.{Known}
use Rattle.ffv1_y4m.specs.Reads.{Wants}
use Rattle.ffv1_video.specs.declared.fault.Fault.{Fault}
use Rattle.ffv1_reads.specs.declared.fault.FileFault.TheVariants as file_fault
use Rattle.ffv1_video.specs.declared.fault.Fault.TheVariants as fault
use Rattle.ffv1_pack.specs.Internal.Encoding.{AllKnown, PicturesKnown}
use Rattle.ffv1_video.specs.Faults.{Cause, cause_of}
use Rattle.ffv1_video.specs.Faults.Cause.{Reading, Writing, Memory, Content}
use Rattle.ffv1_video.specs.Md5Text.{next_md5}
use Rattle.ffv1_pack.specs.TextMd5.{EndsText, TextDone, TextSome, TextStops, TextStopsBy, most_pictures}
use Rattle.ffv1_pack.specs.Internal.TextMd5.{EndsLines, LineStopsBy, LinesStop, LinesStopBy, WritesLines, WritesSome, lines_of, picture_md5}
use Rattle.ffv1_video.specs.Output.{Silent}
use Rattle.ffv1_video.specs.Video.{ReadsPictures, Video, at_first, picture_next, video_head}
use Rattle.ffv1_pack.specs.VideoReads.{PictureLacks, PictureWants}
use Rattle.ffv1_pack.specs.Internal.VideoReads.{HeadRead, HeadRefused, HeadRefusedBy, IsHeadOf, NextRead, VideoReading}
use Rattle.ffv1_video.proofs.Output.{silent, take_past}
use Rattle.ffv1_video.proofs.KnownTexts.{known_map}
use Rattle.ffv1_pack.proofs.KnownTaken.{known_taken}
use Rattle.ffv1_pack.proofs.MatroskaPacked.{ImagesOnly, TextsOnly, video_known}
use Rattle.ffv1_video.proofs.Md5sGrown.{text_grows}
use Rattle.ffv1_pack.proofs.PicturesRead.{ReadSo, joined, known_next, lacks_after, memory_kept, read_all, stops_after, wants_after}
use Rattle.ffv1_pack.proofs.VideoEncoded.{lacks_up_to, next_up_to, video_of, video_then, wants_up_to}
use Rattle.ffv1_pack.proofs.VideoEnds.{reads_video}

same_picture : (r s : VideoReading) (n : ℕ) (planes : Planes) → s.ppm ≡ r.ppm → s.head ≡ r.head → picture_md5 s n planes ≡ picture_md5 r n planes
same_picture r s n planes ppm head = ap (λ b. next_md5 b s.head.depth s.head.head n planes) ppm ∙ ap (λ h. next_md5 r.ppm h.depth h.head n planes) head

-- the lines of so many pictures were written
pub record LinedSo (r : VideoReading) (o : Passage) (pictures : List Planes) (count : ℕ) : Type 0 where
  pub is : count ≡ length pictures
  pub written : o.after ≡ o.before
  pub writes : Appends o.old o.new (lines_of r pictures)

pub lined_none : (r : VideoReading) (o : Option (List ℕ)) (n : ℕ) → LinedSo r (record { old = o; new = o; before = n; after = n }) [] 0
lined_none r o n = record { is = refl; written = refl; writes = Appends-nil o }

-- p and o lead to where the reader is s after these pictures; the calls q and z follow them
module _ (p o : Passage) (r s : VideoReading) (ps : List Planes) (count : ℕ) (e : ReadSo p r s ps) (l : LinedSo r o ps count) (few : count < 2 ^ 64)
    (q z : Passage) (joins : q.old ≡ p.new) (counts : q.before ≡ p.after) (follows : z.old ≡ o.new) (numbers : z.before ≡ o.after) where
  more_is : (planes : Planes) → lines_of r (ps ++ (planes ∷ [])) ≡ lines_of r ps ++ picture_md5 s count planes
  more_is planes =
      let number : count ≡ saturated (length ps) = omega (arith, l.is, few) in
      text_grows r.ppm r.head.depth r.head.head ps planes count number ∙ ap (λ t. lines_of r ps ++ t) (sym (same_picture r s count planes e.ppm e.head))

  kept_writes : Silent z → Appends o.old z.new (lines_of r ps)
  kept_writes still = Appends-kept o.old o.new z.new (lines_of r ps) l.writes (subst (λ t. Keeps t z.new) follows still.kept)

  more_writes : (bytes : List ℕ) → Appends z.old z.new bytes → Appends o.old z.new (lines_of r ps ++ bytes)
  more_writes bytes writes = Appends-trans o.old o.new z.new (lines_of r ps) bytes l.writes (subst (λ t. Appends t z.new bytes) follows writes)

  longer : (planes : Planes) → count + 1 ≡ length (ps ++ (planes ∷ []))
  longer planes =
      let long = length-append ps (planes ∷ []) in
      omega (arith, l.is, long)

  pub lined_more : (planes : Planes) → z.after ≡ z.before → Appends z.old z.new (picture_md5 s count planes) → LinedSo r (joined o z) (ps ++ (planes ∷ [])) (count + 1)
  lined_more planes written writes = record {
    is = longer planes;
    written = written ∙ (numbers ∙ l.written);
    writes = subst (Appends o.old z.new) (sym (more_is planes)) (more_writes (picture_md5 s count planes) writes);
  }

  some : (Next : List Planes → List ℕ → List ℕ → Type 0) → Silent z → Known p.old q.new (λ text rest. (left : List ℕ) × ReadsPictures r.ppm r.most r.head true text ps left × Next ps left rest) →
      WritesSome r (joined p q) (joined o z) Next
  some Next still taken = record {
    pictures = ps;
    taken = taken;
    written = still.same ∙ (numbers ∙ l.written);
    writes = kept_writes still;
  }

  abbrev Ends : Fault → List ℕ → List ℕ → Type 0
  Ends f text rest = (left : List ℕ) × ReadsPictures r.ppm r.most r.head true text ps left × EndsLines most_pictures r f ps left rest

  stops_by : (c : Cause) (f : Fault) → LineStopsBy s count q z c f → LinesStopBy r (joined p q) (joined o z) most_pictures c f
  stops_by Reading f n = (n.1.0 ∙ ap one_more (counts ∙ e.kept), some (PictureWants r.ppm r.most r.head) n.0 (wants_after p q r s ps e joins counts f n.1))
  stops_by Writing f (planes, t, read, after, (k, short, writes)) =
      let text = lines_of r ps in
      let more = picture_md5 s count planes in
      let long : length (text ++ more) ≡ length text + length more = length-append text more in
      let few : length text + k < length (text ++ more) = omega (arith, long, short) in
      record {
        pictures = ps;
        next = planes;
        reads = known_next p q r s ps e joins counts t planes read;
        kept = read.kept ∙ (counts ∙ e.kept);
        written = after ∙ ap one_more (numbers ∙ l.written);
        writes = record {
          count = length text + k;
          enough = omega arith;
          short = subst (λ b. length text + k < length b) (sym (more_is planes)) few;
          writes = subst (λ b. Appends o.old z.new (take (length text + k) b)) (sym (more_is planes)) (subst (Appends o.old z.new) (sym (take_past text more k)) (more_writes (take k more) writes));
        };
      }
  stops_by Memory f n = (memory_kept q s f n.1 ∙ (counts ∙ e.kept), some (PictureLacks r.ppm r.most r.head) n.0 (lacks_after p q r s ps e joins counts f n.1))
  stops_by Content f (still, kept, n) = (
    kept ∙ (counts ∙ e.kept),
    some (EndsLines most_pictures r f) still (known_map p.old q.new _ (Ends f) (λ text rest is. (is.0, is.1, inl is.2)) (stops_after p q r s ps e joins counts f n)),
  )

  pub lines_stop : (f : Fault) → LineStopsBy s count q z (cause_of f) f → LinesStop r (joined p q) (joined o z) f
  lines_stop f n = stops_by (cause_of f) f n

  pub lines_all : (t : VideoReading) → NextRead q s None t → Silent z → WritesLines r (joined p q) (joined o z) count
  lines_all t n still = record {
    pictures = ps;
    is = l.is;
    known = read_all p q r s ps e joins counts t n;
    kept = n.kept ∙ (counts ∙ e.kept);
    written = still.same ∙ (numbers ∙ l.written);
    writes = kept_writes still;
  }

  -- the last one that has a number was written
  pub lines_full : (t : VideoReading) (planes : Planes) → NextRead q s (Some planes) t → z.after ≡ z.before → Appends z.old z.new (picture_md5 s count planes) → count + 1 ≡ 2 ^ 64 →
      LinesStop r (joined p q) (joined o z) (fault.File file_fault.TooLarge)
  lines_full t planes read written writes full =
      let now = lined_more planes written writes in
      let many : length (ps ++ (planes ∷ [])) ≡ most_pictures = sym (longer planes) ∙ full in (
        read.kept ∙ (counts ∙ e.kept),
        record {
          pictures = ps ++ (planes ∷ []);
          taken = known_map p.old q.new (λ text rest. ReadsPictures r.ppm r.most r.head true text (ps ++ (planes ∷ [])) rest)
              (λ text rest. (left : List ℕ) × ReadsPictures r.ppm r.most r.head true text (ps ++ (planes ∷ [])) left × EndsLines most_pictures r (fault.File file_fault.TooLarge) (ps ++ (planes ∷ [])) left rest)
              (λ text rest reads. (rest, reads, inr (many, refl, refl))) (known_next p q r s ps e joins counts t planes read);
          written = now.written;
          writes = now.writes;
        },
      )

-- ---- a text

-- it has no head
module _ (most : ℕ) (p : Passage) (o : Option (List ℕ)) (n : ℕ) where
  no_head_by : (c : Cause) (f : Fault) → HeadRefusedBy most c p f → TextStopsBy most p (between o o n n) f c
  no_head_by Reading f h = (h.0, inl (silent o n, known_taken p.old p.new (Wants (video_head most)) (Wants (video_head most)) (λ bytes is. is) h.1))
  no_head_by Writing f h = absurd h
  no_head_by Memory f h = absurd h
  no_head_by Content f h = (h.0, inl (silent o n, h.1))

  pub no_head : (f : Fault) → HeadRefused most p f → TextStops most p (between o o n n) f
  no_head f h = no_head_by (cause_of f) f h

no_items : (ps : List Planes) → length ps ≡ 0 → ps ≡ []
no_items [] e = refl
no_items (p ∷ ps) e = absurd (omega (arith, e))

-- it has one, and q and o are of the lines
module _ (most : ℕ) (p : Passage) (r : VideoReading) (h : HeadRead most p r) (q o : Passage) (joins : q.old ≡ p.new) (counts : q.before ≡ p.after) where
  of_text : (Next : List Planes → List ℕ → List ℕ → Type 0) (After : Video → List ℕ → List ℕ → Type 0) → ((ps : List Planes) (left rest : List ℕ) → Next ps left rest → After (video_of r ps) left rest) →
      WritesSome r q o Next → TextSome most (joined p q) o After
  of_text Next After f s = record {
    video = video_of r s.pictures;
    taken = video_then most p.old p.new q.new r s.pictures (Next s.pictures) (After (video_of r s.pictures)) (f s.pictures) h.later h.known
        (subst (λ t. Known t q.new (λ text rest. (left : List ℕ) × ReadsPictures r.ppm r.most r.head true text s.pictures left × Next s.pictures left rest)) joins s.taken);
    written = s.written;
    writes = s.writes;
  }

  next_is : (ps : List Planes) (left : List ℕ) → picture_next r.ppm most r.head (at_first ps) left ≡ picture_next r.ppm r.most r.head (at_first ps) left
  next_is ps left = sym (next_up_to r.ppm r.most most r.head (at_first ps) left h.later)

  ends : (f : Fault) (ps : List Planes) (left rest : List ℕ) → EndsLines most_pictures r f ps left rest → EndsText most (video_of r ps) left rest f
  ends f ps left rest e = elim e [
    | inl faulty ↦ inl (faulty.0, next_is ps left ∙ faulty.1, faulty.2)
    | inr full ↦ inr (inr full)
  ]

  text_stops_by : (c : Cause) (f : Fault) → LinesStopBy r q o most_pictures c f → TextStopsBy most (joined p q) o f c
  text_stops_by Reading f s = (
    s.0 ∙ ap one_more (counts ∙ h.kept),
    inr (of_text (PictureWants r.ppm r.most r.head) (λ v. PictureWants v.ppm most v.head v.pictures) (λ ps left rest is. wants_up_to r.ppm r.most most r.head ps left rest h.later is) s.1),
  )
  text_stops_by Writing f s = record {
    video = video_of r s.pictures;
    next = s.next;
    reads = video_known most p.old p.new q.new r (s.pictures ++ (s.next ∷ [])) h.later h.known (subst (λ t. PicturesKnown t q.new r (s.pictures ++ (s.next ∷ []))) joins s.reads);
    kept = s.kept ∙ (counts ∙ h.kept);
    written = s.written;
    writes = s.writes;
  }
  text_stops_by Memory f s = (
    s.0 ∙ (counts ∙ h.kept),
    of_text (PictureLacks r.ppm r.most r.head) (λ v. PictureLacks v.ppm most v.head v.pictures) (λ ps left rest is. lacks_up_to r.ppm r.most most r.head ps left rest h.later is) s.1,
  )
  text_stops_by Content f s = (s.0 ∙ (counts ∙ h.kept), inr (of_text (EndsLines most_pictures r f) (λ v left rest. EndsText most v left rest f) (ends f) s.1))

  pub text_stops : (f : Fault) → LinesStop r q o f → TextStops most (joined p q) o f
  text_stops f s = text_stops_by (cause_of f) f s

  module _ (count : ℕ) (w : WritesLines r q o count) where
    all_known : AllKnown p.new q.new r w.pictures
    all_known = subst (λ t. AllKnown t q.new r w.pictures) joins w.known

    -- there was no picture
    pub no_pictures : count ≡ 0 → TextStops most (joined p q) o fault.NoFrames
    no_pictures none =
        let empty : w.pictures ≡ [] = no_items w.pictures (sym w.is ∙ none) in (
          w.kept ∙ (counts ∙ h.kept),
          inr (record {
            video = video_of r w.pictures;
            taken = video_then most p.old p.new q.new r w.pictures (λ left rest. picture_next r.ppm r.most r.head (at_first w.pictures) left ≡ Ok (None, rest)) (λ left rest. EndsText most (video_of r w.pictures) left rest fault.NoFrames)
                (λ left rest is. inr (inl (next_is w.pictures left ∙ is, empty, refl))) h.later h.known all_known;
            written = w.written;
            writes = w.writes;
          }),
        )

    pub text_done : TextsOnly → ImagesOnly → IsHeadOf r → 0 < count → TextDone most (joined p q) o
    text_done texts_only images_only is some =
        let many : 0 < length w.pictures = subst (λ n. 0 < n) w.is some in
        record {
          video = video_of r w.pictures;
          reads = reads_video texts_only images_only most p.old p.new q.new r w.pictures h.later h.known is all_known many;
          some = many;
          kept = w.kept ∙ (counts ∙ h.kept);
          written = w.written;
          writes = w.writes;
        }

-- A video that is packed into Matroska.
use Rattle.std.specs.Prelude.{◌≡◌, ◌⊎◌, ℕ, ◌<◌, ◌≤◌, Bool, true, false, List, [], ◌∷◌, ◌++◌, length, Option, Some, None, Ok, Err}
use Rattle.std.proofs.Common.{arith, refl, sym, ◌∙◌, ap, subst, inl, inr, suc}
use Rattle.std.specs.Io.KnownBytes.{Appends}
use Rattle.std.proofs.KnownBytes.{Appends-kept, Keeps-refl}
use Rattle.ffv1_wire.specs.Failures.{one_more}
use Rattle.ffv1_wire.specs.Passage.{Passage}
use Rattle.ffv1_wire.specs.Seeks.{Overwriting}
use Rattle.ffv1_record.specs.Accepted.{Accepted, IsFirstUpTo}
use Rattle.ffv1_record.specs.declared.fault.RecordFault.{RecordFault}
use Rattle.ffv1_codec.specs.Picture.{Planes}
use Rattle.ffv1_reads.specs.Head.{Head}
use Rattle.ffv1_reads.specs.Known.{Known}
use Rattle.ffv1_reads.specs.declared.fault.FileFault.{FileFault}
use Rattle.ffv1_reads.specs.declared.fault.FileFault.TheVariants as file_fault
use Rattle.ffv1_matroska.specs.Rates.{IsTimed}
use Rattle.ffv1_matroska.specs.Written.{begun_of, open_of}
use Rattle.ffv1_matroska.specs.WrittenPlaces.{last_place}
use Rattle.ffv1_matroska.specs.Writers.{Asks, Finishes, Makes, Writing as Writer, cues_in, rate_in, writing_of}
use Rattle.ffv1_matroska.specs.declared.track_entry.TrackEntry.{TrackEntry}
use Rattle.ffv1_y4m.specs.Header.{header_of}
use Rattle.ffv1_y4m.specs.Images.{IsImagesIn, ReadsFrom}
use Rattle.ffv1_y4m.specs.Ppm.{image_header}
use Rattle.ffv1_y4m.specs.Reads.{Wants}
use Rattle.ffv1_y4m.specs.Text.{IsText, ReadsAll}
use Rattle.ffv1_y4m.specs.declared.head.VideoHead.{VideoHead}
use Rattle.ffv1_words.specs.declared.order.Choice.{Choice}
use Rattle.ffv1_video.specs.declared.profile.Profile.{Profile}
use Rattle.ffv1_video.specs.Profiles.{greatest_depth, record_profile}
use Rattle.ffv1_video.specs.declared.fault.Fault.{Fault}
use Rattle.ffv1_video.specs.declared.fault.Fault.TheVariants as fault
use Rattle.ffv1_pack.specs.declared.matroska_packing.Put.{Put}
use Rattle.ffv1_pack.specs.Internal.Clusters.{AreClusters, EndsPutting, PutAll, PutsAll, PutsSome, StopsPutting, StopsPuttingBy}
use Rattle.ffv1_pack.specs.Internal.Encoding.{AllKnown, PicturesKnown}
use Rattle.ffv1_video.specs.Faults.{Cause, cause_of, of_avi, of_record}
use Rattle.ffv1_video.specs.Faults.Cause.{Reading, Writing, Memory, Content}
use Rattle.ffv1_pack.specs.Grids.{choice_for}
use Rattle.ffv1_pack.specs.PackMatroska.{AsksMatroska, EndsClusters, FaultsBefore, FinishFails, HasClusters, PacksMatroska, PacksSome, RefusesMatroska, RefusesMatroskaBy, begun_file, finished_opening_of, is_matroska_pack_fault, details_for, open_file, whole_file}
use Rattle.ffv1_pack.specs.Internal.PackMatroska.{LacksMatroska, LacksMatroskaBy, OpensMatroska}
use Rattle.ffv1_pack.specs.Packing.{AreReadable, IsFor, bytes_in, configuration_for, frames_for, head_for, most_frame, said_for}
use Rattle.ffv1_codec.specs.Frame.{frame_of}
use Rattle.ffv1_video.specs.Video.{Begins, ReadsPictures, ReadsVideo, Video, at_first, video_head}
use Rattle.ffv1_pack.specs.VideoReads.{LacksKnown, PictureLacks, PictureWants}
use Rattle.ffv1_pack.specs.Internal.VideoReads.{HeadKnown, HeadRead, HeadRefused, HeadRefusedBy, IsHeadOf, VideoReading}
use Rattle.ffv1_pack.proofs.KnownTaken.{known_taken}
use Rattle.ffv1_pack.proofs.MatroskaFinished.{EndLaws, cut_cues, finished, finished_some, with_cues}
use Rattle.ffv1_pack.proofs.PicturesRead.{joined}
use Rattle.ffv1_pack.proofs.VideoEncoded.{after_head, content_check, has_head, lacks_up_to, next_up_to, reads_up_to, video_of, video_then, wants_up_to}
use Rattle.ffv1_pack.proofs.VideoEnds.{reads_video, some_pictures}

-- that a text which is read to its end is a video
abbrev pub TextsOnly : Type 0
TextsOnly = (text : List ℕ) (most depth : ℕ) (h : VideoHead) (rest : List ℕ) (pictures : List (List (List ℕ))) → header_of most text ≡ Ok (record { head = h; depth = depth }, rest) → ReadsAll depth h rest pictures → IsText most text depth h pictures

abbrev pub ImagesOnly : Type 0
ImagesOnly = (text : List ℕ) (most depth : ℕ) (h : VideoHead) (rest : List ℕ) (image : List (List ℕ)) (images : List (List (List ℕ))) → image_header most text ≡ Ok (record { head = h; depth = depth }, rest) → ReadsFrom most (record { head = h; depth = depth }) rest image images →
    IsImagesIn most text depth h.width h.height (image ∷ images)

-- ---- what is opened, or why not

lacks_before : (profile : Profile) (old new : Option (List ℕ)) (choice : Choice) (f : Fault) → LacksKnown (greatest_depth profile) old new f → FaultsBefore profile choice old new f
lacks_before profile None new choice f k = tt
lacks_before profile (Some text) None choice f k = k
lacks_before profile (Some text) (Some rest) choice f k = inl k

no_head_by : (profile : Profile) (c : Cause) (choice : Choice) (p : Passage) (f : Fault) → HeadRefusedBy (greatest_depth profile) c p f → LacksMatroskaBy profile c choice p f
no_head_by profile Reading choice p f h = (h.0, known_taken p.old p.new (Wants (video_head (greatest_depth profile))) (Wants (video_head (greatest_depth profile))) (λ bytes is. is) h.1)
no_head_by profile Writing choice p f h = h
no_head_by profile Memory choice p f h = absurd h
no_head_by profile Content choice p f h = (h.0, lacks_before profile p.old p.new choice f h.1)

pub no_head : (profile : Profile) (choice : Choice) (p : Passage) (f : Fault) → HeadRefused (greatest_depth profile) p f → LacksMatroska profile choice p f
no_head profile choice p f h = no_head_by profile (cause_of f) choice p f h

rejected_before : (profile : Profile) (old new : Option (List ℕ)) (choice : Choice) (r : VideoReading) (g : RecordFault) → HeadKnown (greatest_depth profile) old new r.ppm r.head → IsFirstUpTo (record_profile profile) (greatest_depth profile) (configuration_for (choice_for profile choice r.head) r.ppm r.head) g →
    FaultsBefore profile choice old new (of_record g)
rejected_before profile None new choice r g k i = tt
rejected_before profile (Some text) None choice r g k i = k
rejected_before profile (Some text) (Some rest) choice r g k i = inr (inl (record {
  head = r.head;
  read = k.1;
  refusal = g;
  first = subst (λ b. IsFirstUpTo (record_profile profile) (greatest_depth profile) (configuration_for (choice_for profile choice r.head) b r.head) g) k.0 i;
  is = refl;
}))

pub no_memory : (profile : Profile) (choice : Choice) (p : Passage) (r : VideoReading) (f : Fault) → HeadRead (greatest_depth profile) p r → f ≡ fault.OutOfMemory → LacksMatroska profile choice p f
no_memory profile choice p r f h e = rw e (h.kept, has_head (greatest_depth profile) p.old p.new r h.known, after_head (greatest_depth profile) p.old p.new r h.known)

pub not_accepted : (profile : Profile) (choice : Choice) (p : Passage) (r : VideoReading) (f : Fault) → HeadRead (greatest_depth profile) p r → (f ≡ fault.OutOfMemory) ⊎ ((g : RecordFault) × IsFirstUpTo (record_profile profile) (greatest_depth profile) (configuration_for (choice_for profile choice r.head) r.ppm r.head) g × (f ≡ of_record g)) →
    LacksMatroska profile choice p f
not_accepted profile choice p r f h (inl e) = no_memory profile choice p r f h e
not_accepted profile choice p r f h (inr (g, i, e)) =
    subst (λ x. LacksMatroska profile choice p x) (sym e) (subst (λ c. LacksMatroskaBy profile c choice p (of_record g)) (sym (content_check (record_profile profile) (greatest_depth profile) (configuration_for (choice_for profile choice r.head) r.ppm r.head) g i)) (h.kept, rejected_before profile p.old p.new choice r g h.known i))

untimed_before : (profile : Profile) (old new : Option (List ℕ)) (choice : Choice) (r : VideoReading) (a : Accepted) → HeadKnown (greatest_depth profile) old new r.ppm r.head → IsFor profile (choice_for profile choice r.head) r.ppm r.head a →
    (IsTimed (rate_in (head_for choice r.ppm r.head a.configuration)) → ⊥) → FaultsBefore profile choice old new (fault.File file_fault.Rate)
untimed_before profile None new choice r a k for untimed = tt
untimed_before profile (Some text) None choice r a k for untimed = k
untimed_before profile (Some text) (Some rest) choice r a k for untimed = inr (inr (record {
  head = r.head;
  read = k.1;
  accepted = a;
  for = subst (λ b. IsFor profile (choice_for profile choice r.head) b r.head a) k.0 for;
  untimed = subst (λ b. IsTimed (rate_in (head_for choice b r.head a.configuration)) → ⊥) k.0 untimed;
  is = refl;
}))

pub untimed : (profile : Profile) (choice : Choice) (p : Passage) (r : VideoReading) (a : Accepted) → HeadRead (greatest_depth profile) p r → IsFor profile (choice_for profile choice r.head) r.ppm r.head a →
    (IsTimed (rate_in (head_for choice r.ppm r.head a.configuration)) → ⊥) → LacksMatroska profile choice p (fault.File file_fault.Rate)
untimed profile choice p r a h for refused = (h.kept, untimed_before profile p.old p.new choice r a h.known for refused)

-- a writer that is not made
pub not_made : (profile : Profile) (choice : Choice) (p : Passage) (r : VideoReading) (a : Accepted) (head : Head) (details : TrackEntry) (f : FileFault) → HeadRead (greatest_depth profile) p r → IsFor profile (choice_for profile choice r.head) r.ppm r.head a →
    head ≡ head_for choice r.ppm r.head a.configuration → Makes head details (Err f) → LacksMatroska profile choice p (of_avi f) × (is_matroska_pack_fault (of_avi f) ≡ true)
not_made profile choice p r a head details file_fault.Rate h for same makes =
    ((h.kept, untimed_before profile p.old p.new choice r a h.known for (subst (λ k. IsTimed (rate_in k) → ⊥) same makes)), refl)
not_made profile choice p r a head details file_fault.OutOfMemory h for same makes = ((h.kept, has_head (greatest_depth profile) p.old p.new r h.known, after_head (greatest_depth profile) p.old p.new r h.known), refl)
not_made profile choice p r a head details file_fault.TooLarge h for same makes = absurd makes
not_made profile choice p r a head details file_fault.Write h for same makes = absurd makes
not_made profile choice p r a head details file_fault.NotAvi h for same makes = absurd makes
not_made profile choice p r a head details file_fault.NoFfv1 h for same makes = absurd makes
not_made profile choice p r a head details file_fault.Truncated h for same makes = absurd makes
not_made profile choice p r a head details file_fault.ChunkTooLong h for same makes = absurd makes
not_made profile choice p r a head details file_fault.EmptyFrame h for same makes = absurd makes
not_made profile choice p r a head details file_fault.Read h for same makes = absurd makes
not_made profile choice p r a head details file_fault.NotMatroska h for same makes = absurd makes
not_made profile choice p r a head details file_fault.BadElement h for same makes = absurd makes
not_made profile choice p r a head details file_fault.NoTracks h for same makes = absurd makes
not_made profile choice p r a head details file_fault.Encoded h for same makes = absurd makes
not_made profile choice p r a head details file_fault.Laced h for same makes = absurd makes
not_made profile choice p r a head details file_fault.Checksum h for same makes = absurd makes
not_made profile choice p r a head details file_fault.Another h for same makes = absurd makes

-- a writer that is made
pub made : (profile : Profile) (choice : Choice) (p : Passage) (r : VideoReading) (a : Accepted) (head : Head) (details : TrackEntry) (w : Writer) → HeadRead (greatest_depth profile) p r → IsHeadOf r → IsFor profile (choice_for profile choice r.head) r.ppm r.head a →
    head ≡ head_for choice r.ppm r.head a.configuration → details ≡ details_for choice r.head → Makes head details (Ok w) → OpensMatroska profile choice p r a w
made profile choice p r a head details w read is for same how makes = record {
  read = read;
  head = is;
  for = for;
  timed = subst (λ k. IsTimed (rate_in k)) same makes.0;
  fresh = makes.1 ∙ ap (λ k. writing_of k details []) same ∙ ap (λ s. writing_of (head_for choice r.ppm r.head a.configuration) s []) how;
}

-- ---- nothing was opened

lacks_by : (profile : Profile) (c : Cause) (choice : Choice) (p : Passage) (o : Option (List ℕ)) (n : ℕ) (f : Fault) → LacksMatroskaBy profile c choice p f → RefusesMatroskaBy profile c choice p (record { old = o; new = o; before = n; after = n }) f
lacks_by profile Reading choice p o n f h = (refl, h.0, inl (Keeps-refl o, h.1))
lacks_by profile Writing choice p o n f h = absurd h
lacks_by profile Memory choice p o n f h = (refl, h.0, h.1, inl (Keeps-refl o, h.2))
lacks_by profile Content choice p o n f h = (refl, h.0, inl (Keeps-refl o, h.1))

pub lacks : (profile : Profile) (choice : Choice) (p : Passage) (o : Option (List ℕ)) (n : ℕ) (f : Fault) → LacksMatroska profile choice p f → RefusesMatroska profile choice p (record { old = o; new = o; before = n; after = n }) f
lacks profile choice p o n f h = lacks_by profile (cause_of f) choice p o n f h

-- ---- Clusters were written

-- and nothing after them
pub video_known : (most : ℕ) (old mid new : Option (List ℕ)) (r : VideoReading) (ps : List Planes) → (r.ppm ≡ true → r.most ≡ most) → HeadKnown most old mid r.ppm r.head → PicturesKnown mid new r ps → Known old new (λ text rest. Begins most text (video_of r ps) rest)
video_known most None mid new r ps later h k = tt
video_known most (Some text) None new r ps later h k = absurd h
video_known most (Some text) (Some behind) None r ps later h k = k
video_known most (Some text) (Some behind) (Some rest) r ps later h k = record { kind = h.0; behind = behind; head = h.1; pictures = reads_up_to r.ppm r.most most r.head true behind ps rest later k }

many_frames : (a : Accepted) (r : VideoReading) (ps : List Planes) → length (frames_for a r.head ps) ≡ length ps
many_frames a r [] = refl
many_frames a r (p ∷ ps) = ap suc (many_frames a r ps)

no_frame : (a : Accepted) (r : VideoReading) (ps : List Planes) → frames_for a r.head ps ≡ [] → ps ≡ []
no_frame a r [] e = refl
no_frame a r (p ∷ ps) e = absurd (cc)

none_left : (profile : Profile) (old mid new : Option (List ℕ)) (choice : Choice) (a : Accepted) (r : VideoReading) (ps : List Planes) → ps ≡ [] → (r.ppm ≡ true → r.most ≡ greatest_depth profile) → HeadKnown (greatest_depth profile) old mid r.ppm r.head → AllKnown mid new r ps →
    Known old new (λ text rest. (left : List ℕ) × Begins (greatest_depth profile) text (video_of r ps) left × EndsClusters profile choice (video_of r ps) a left rest fault.NoFrames)
none_left profile None mid new choice a r ps e later h k = tt
none_left profile (Some text) None new choice a r ps e later h k = absurd h
none_left profile (Some text) (Some behind) None choice a r ps e later h k = k
none_left profile (Some text) (Some behind) (Some rest) choice a r ps e later h (left, reads, end) = (
  left,
  record { kind = h.0; behind = behind; head = h.1; pictures = reads_up_to r.ppm r.most (greatest_depth profile) r.head true behind ps left later reads },
  inr (inr (sym (next_up_to r.ppm r.most (greatest_depth profile) r.head (at_first ps) left later) ∙ end, e, refl)),
)

module _ (profile : Profile) (choice : Choice) (p : Passage) (r : VideoReading) (a : Accepted) (w : Writer) (opens : OpensMatroska profile choice p r a w) where
  abbrev head : Head
  head = head_for choice r.ppm r.head a.configuration

  abbrev fresh : Writer
  fresh = writing_of head (details_for choice r.head) []

  clusters : (ps : List Planes) → AreClusters a r fresh ps → HasClusters profile choice (video_of r ps) a
  clusters ps are = record { head = opens.head; for = opens.for; timed = opens.timed; short = are.short; readable = subst (λ k. AreReadable k (frames_for a r.head ps)) opens.for.profiled are.readable; near = are.near }

  ends_clusters : (f : Fault) (ps : List Planes) (left rest : List ℕ) → EndsPutting a r fresh f ps left rest → EndsClusters profile choice (video_of r ps) a left rest f
  ends_clusters f ps left rest ends =
      let same = sym (next_up_to r.ppm r.most (greatest_depth profile) r.head (at_first ps) left opens.read.later) in
      elim ends [
        | inl at ↦ elim at [
          | inl faulty ↦ inl (faulty.0, same ∙ faulty.1, faulty.2)
          | inr long ↦ inr (inl (long.0, same ∙ long.1, inl (long.2, long.3)))
        ]
        | inr other ↦ elim other [
          | inl long ↦ inr (inl (long.0, same ∙ long.1, inr (inl (long.2, subst (λ k. most_frame k < length (frame_of a long.0 (said_for r.head))) opens.for.profiled long.3, long.4))))
          | inr far ↦ inr (inl (far.0, same ∙ far.1, inr (inr (far.2, subst (λ k. length (frame_of a far.0 (said_for r.head)) ≤ most_frame k) opens.for.profiled far.3, far.4, far.5))))
        ]
      ]

  module _ (q o : Passage) (joins : q.old ≡ p.new) (counts : q.before ≡ p.after) where
    some : (Next : List Planes → List ℕ → List ℕ → Type 0) (After : Video → Accepted → List ℕ → List ℕ → Type 0) →
        ((ps : List Planes) (left rest : List ℕ) → Next ps left rest → After (video_of r ps) a left rest) → PutsSome Next a r fresh q o → PacksSome profile After choice (joined p q) o
    some Next After f s = record {
      video = video_of r s.pictures;
      accepted = a;
      has = clusters s.pictures s.are;
      taken = video_then (greatest_depth profile) p.old p.new q.new r s.pictures (Next s.pictures) (After (video_of r s.pictures) a) (f s.pictures) opens.read.later opens.read.known
          (subst (λ t. Known t q.new (λ text rest. (left : List ℕ) × ReadsPictures r.ppm r.most r.head true text s.pictures left × Next s.pictures left rest)) joins s.taken);
      writes = s.writes;
    }

    stops_by : (c : Cause) (f : Fault) → StopsPuttingBy c a r fresh q o f → RefusesMatroskaBy profile c choice (joined p q) o f
    stops_by Reading f s = (
      s.0,
      s.1 ∙ ap one_more (counts ∙ opens.read.kept),
      inr (some (PictureWants r.ppm r.most r.head) (λ v b. PictureWants v.ppm (greatest_depth profile) v.head v.pictures) (λ ps left rest is. wants_up_to r.ppm r.most (greatest_depth profile) r.head ps left rest opens.read.later is) s.2),
    )
    stops_by Memory f s = (
      s.0,
      s.1 ∙ (counts ∙ opens.read.kept),
      has_head (greatest_depth profile) p.old p.new r opens.read.known,
      inr (some (PictureLacks r.ppm r.most r.head) (λ v b. PictureLacks v.ppm (greatest_depth profile) v.head v.pictures) (λ ps left rest is. lacks_up_to r.ppm r.most (greatest_depth profile) r.head ps left rest opens.read.later is) s.2),
    )
    stops_by Writing f (written, read, s) = (
      written,
      read ∙ (counts ∙ opens.read.kept),
      inl (record {
        video = video_of r s.pictures;
        accepted = a;
        has = clusters s.pictures s.are;
        next = s.next;
        reads = video_known (greatest_depth profile) p.old p.new q.new r (s.pictures ++ (s.next ∷ [])) opens.read.later opens.read.known (subst (λ t. PicturesKnown t q.new r (s.pictures ++ (s.next ∷ []))) joins s.reads);
        short = s.short;
        readable = subst (λ k. length (frame_of a s.next (said_for r.head)) ≤ most_frame k) opens.for.profiled s.readable;
        near = s.near;
        writes = s.writes;
      }),
    )
    stops_by Content f s = (
      s.0,
      s.1 ∙ (counts ∙ opens.read.kept),
      inr (some (EndsPutting a r fresh f) (λ v b left rest. EndsClusters profile choice v b left rest f) (ends_clusters f) s.2),
    )

    pub putting_stops : (f : Fault) → StopsPutting a r w q o f → RefusesMatroska profile choice (joined p q) o f
    putting_stops f s = stops_by (cause_of f) f (subst (λ x. StopsPutting a r x q o f) opens.fresh s)

    module _ (v : Writer) (packed : Put) (h : PutsAll a r w v q o packed) where
      put : PutAll a.profile fresh v h.frames o packed
      put = subst (λ x. PutAll a.profile x v h.frames o packed) opens.fresh h.put

      abbrev pictures : List Planes
      pictures = h.all.pictures

      begun_is : begun_of head (details_for choice r.head) h.frames ≡ begun_file choice (video_of r pictures) a
      begun_is = ap (λ fs. begun_of head (details_for choice r.head) fs) h.all.are

      kept : q.after ≡ p.before
      kept = h.all.kept ∙ (counts ∙ opens.read.kept)

      known : AllKnown p.new q.new r pictures
      known = subst (λ t. AllKnown t q.new r pictures) joins h.all.known

      -- there was no picture
      pub no_pictures : packed.frames ≡ 0 → RefusesMatroska profile choice (joined p q) o fault.NoFrames
      no_pictures none =
          let empty : h.frames ≡ [] = no_items h.frames (sym put.frames_are ∙ none) in
          let no : pictures ≡ [] = no_frame a r pictures (sym h.all.are ∙ empty) in (
            put.kept,
            kept,
            inr (record {
              video = video_of r pictures;
              accepted = a;
              has = clusters pictures (record { short = h.all.short; readable = subst (AreReadable a.profile) h.all.are put.readable; near = λ some. absurd (let e = ap (λ ps. length ps) no in omega (arith, e, some)) });
              taken = none_left profile p.old p.new q.new choice a r pictures no opens.read.later opens.read.known known;
              writes = subst (Appends o.old o.new) begun_is put.writes;
            }),
          )
        where
          no_items : (fs : List (List ℕ)) → length fs ≡ 0 → fs ≡ []
          no_items [] e = refl
          no_items (f ∷ fs) e = absurd (omega (arith, e))

      -- all Clusters were written, and the file is finished
      module _ (end_laws : EndLaws) (texts_only : TextsOnly) (images_only : ImagesOnly) (z : Passage) (follows : z.old ≡ o.new) (number : z.before ≡ o.after) (many : 0 < packed.frames) where
        some_in : 0 < length h.frames
        some_in = subst (λ n. 0 < n) put.frames_are many

        some_read : 0 < length pictures
        some_read = some_pictures a r pictures h.frames h.all.are some_in

        read : ReadsVideo (greatest_depth profile) p.old q.new (video_of r pictures)
        read = reads_video texts_only images_only (greatest_depth profile) p.old p.new q.new r pictures opens.read.later opens.read.known opens.head known some_read

        all_frames_are : 0 < length (frames_for a r.head pictures)
        all_frames_are = subst (λ fs. 0 < length fs) h.all.are some_in

        writer_is : v ≡ writing_of head (details_for choice r.head) (frames_for a r.head pictures)
        writer_is = put.is ∙ ap (λ fs. writing_of head (details_for choice r.head) fs) h.all.are

        has_all : HasClusters profile choice (video_of r pictures) a
        has_all = clusters pictures (record { short = h.all.short; readable = subst (AreReadable a.profile) h.all.are put.readable; near = λ some. subst (λ n. n ≤ last_place) (ap (λ (x : Writer). x.at) writer_is) (put.near some_in) })

        begun : Appends o.old z.old (begun_file choice (video_of r pictures) a)
        begun = subst (λ t. Appends o.old t (begun_file choice (video_of r pictures) a)) (sym follows) (subst (Appends o.old o.new) begun_is put.writes)

        pub finish_stops : (f : FileFault) → Finishes z v (Err f) → RefusesMatroska profile choice (joined p q) (joined o z) (of_avi f)
        finish_stops f finishes = fails f (subst (λ x. Finishes z x (Err f)) writer_is finishes)
          where
            fails_by : FinishFails profile choice (joined p q) (joined o z) → z.after ≡ one_more z.before → RefusesMatroska profile choice (joined p q) (joined o z) fault.Write
            fails_by fails after = (after ∙ ap one_more (number ∙ put.kept), kept, inr fails)

            fails : (f : FileFault) → Finishes z (writing_of head (details_for choice r.head) (frames_for a r.head pictures)) (Err f) → RefusesMatroska profile choice (joined p q) (joined o z) (of_avi f)
            fails file_fault.Write (after, inl cut) = fails_by (record {
              video = video_of r pictures;
              accepted = a;
              reads = read;
              some = some_read;
              has = has_all;
              writes = inl (cut_cues end_laws head (details_for choice r.head) (frames_for a r.head pictures) all_frames_are o.old z.old z.new begun cut);
            }) after
            fails file_fault.Write (after, inr (mid, cues, over)) = fails_by (record {
              video = video_of r pictures;
              accepted = a;
              reads = read;
              some = some_read;
              has = has_all;
              writes = inr (
                mid,
                with_cues end_laws head (details_for choice r.head) (frames_for a r.head pictures) all_frames_are o.old z.old mid begun cues,
                finished_some end_laws head (details_for choice r.head) (frames_for a r.head pictures) all_frames_are mid z.new over,
              );
            }) after
            fails file_fault.TooLarge e = absurd e
            fails file_fault.OutOfMemory e = absurd e
            fails file_fault.NotAvi e = absurd e
            fails file_fault.NoFfv1 e = absurd e
            fails file_fault.Truncated e = absurd e
            fails file_fault.ChunkTooLong e = absurd e
            fails file_fault.EmptyFrame e = absurd e
            fails file_fault.Read e = absurd e
            fails file_fault.NotMatroska e = absurd e
            fails file_fault.BadElement e = absurd e
            fails file_fault.NoTracks e = absurd e
            fails file_fault.Encoded e = absurd e
            fails file_fault.Laced e = absurd e
            fails file_fault.Checksum e = absurd e
            fails file_fault.Rate e = absurd e
            fails file_fault.Another e = absurd e

        whole_by : (b : Bool) → Finishes z (writing_of head (details_for choice r.head) (frames_for a r.head pictures)) (Ok b) → (z.after ≡ z.before) × Appends o.old z.new (whole_file b choice (video_of r pictures) a)
        whole_by true (after, (mid, cues, over)) = (
          after,
          finished end_laws head (details_for choice r.head) (frames_for a r.head pictures) all_frames_are o.old mid z.new
              (with_cues end_laws head (details_for choice r.head) (frames_for a r.head pictures) all_frames_are o.old z.old mid begun cues) over,
        )
        whole_by false (after, (mid, cues, keeps)) = (
          after,
          Appends-kept o.old mid z.new (open_of head (details_for choice r.head) (frames_for a r.head pictures))
              (with_cues end_laws head (details_for choice r.head) (frames_for a r.head pictures) all_frames_are o.old z.old mid begun cues) keeps,
        )

        -- the file of this video is written
        packs_these : (b : Bool) → Finishes z v (Ok b) →
            (h : PacksMatroska profile choice (joined p q) (joined o z) (record { frames = packed.frames; bytes = packed.bytes; finished = b })) × (h.video ≡ video_of r pictures) × (h.accepted ≡ a)
        packs_these b finishes =
            let all = whole_by b (subst (λ x. Finishes z x (Ok b)) writer_is finishes) in (
              record {
                video = video_of r pictures;
                accepted = a;
                deep = opens.read.deep;
                reads = read;
                some = some_read;
                has = has_all;
                writes = all.1;
                frames = put.frames_are ∙ ap (λ fs. length fs) h.all.are ∙ many_frames a r pictures;
                bytes = put.bytes_are ∙ ap bytes_in h.all.are;
                read = kept;
                written = all.0 ∙ (number ∙ put.kept);
              },
              refl,
              refl,
            )

        pub packs : (b : Bool) → Finishes z v (Ok b) →
            PacksMatroska profile choice (joined p q) (joined o z) (record { frames = packed.frames; bytes = packed.bytes; finished = b })
        packs b finishes = (packs_these b finishes).0

        asks : {S : Type 0} (contents : S → Option (List ℕ)) (overwrites : Overwriting S) (first now new : S) (b : Bool) → contents first ≡ o.old → contents now ≡ z.old →
            Asks contents overwrites now v b new → AsksMatroska contents overwrites first new choice (video_of r pictures) a b
        asks contents overwrites first now new b first_is now_is asked =
            let h = subst (λ x. Asks contents overwrites now x b new) writer_is asked in
            record {
              complete = h.cued;
              writes = subst (λ t. Appends t (contents h.cued) (open_file choice (video_of r pictures) a)) (sym first_is) (with_cues end_laws head (details_for choice r.head) (frames_for a r.head pictures) all_frames_are o.old z.old (contents h.cued) begun
                  (subst (λ t. Appends t (contents h.cued) (cues_in (writing_of head (details_for choice r.head) (frames_for a r.head pictures)))) now_is h.cues));
              does = subst (λ n. overwrites h.cued n (finished_opening_of choice (video_of r pictures) a) (Ok b) new) (end_laws.whole head (details_for choice r.head) (frames_for a r.head pictures)) h.does;
            }

        -- so the file was written, and the output was asked to be written over
        pub packs_asked : {S : Type 0} (contents : S → Option (List ℕ)) (overwrites : Overwriting S) (first now new : S) (b : Bool) → contents first ≡ o.old → contents now ≡ z.old → Finishes z v (Ok b) → Asks contents overwrites now v b new →
            (h : PacksMatroska profile choice (joined p q) (joined o z) (record { frames = packed.frames; bytes = packed.bytes; finished = b })) × AsksMatroska contents overwrites first new choice h.video h.accepted b
        packs_asked contents overwrites first now new b first_is now_is finishes is =
            let these = packs_these b finishes in (
              these.0,
              subst (λ w. AsksMatroska contents overwrites first new choice w these.0.accepted b) (sym these.1)
                  (subst (λ w. AsksMatroska contents overwrites first new choice (video_of r pictures) w b) (sym these.2) (asks contents overwrites first now new b first_is now_is is)),
            )

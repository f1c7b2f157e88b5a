-- Pictures that are encoded, and the Cluster of each is written at once.
use Rattle.std.specs.Prelude.{◌≡◌, ◌⊎◌, ℕ, ◌+◌, ◌<◌, ◌≤◌, true, List, [], ◌∷◌, ◌++◌, length, take, Option, Some, None, Ok, Err}
use Rattle.std.proofs.Common.{arith, refl, sym, ◌∙◌, ap, subst, inl, inr, length-append}
use Rattle.std.specs.Io.KnownBytes.{Appends, Keeps}
use Rattle.std.proofs.KnownBytes.{Appends-nil, Appends-trans, Appends-kept}
use Rattle.ffv1_wire.specs.Failures.{one_more}
use Rattle.ffv1_wire.specs.Passage.{Passage}
use Rattle.ffv1_record.specs.Accepted.{Accepted}
use Rattle.ffv1_codec.specs.Frame.{frame_of, HasLongSlice}
use Rattle.ffv1_codec.specs.Picture.{Planes}
use Rattle.ffv1_reads.specs.Head.{Head}
use Rattle.ffv1_record.specs.declared.config.Profile.{Profile as RecordProfile}
use Rattle.ffv1_reads.specs.Known.{Known}
use Rattle.ffv1_reads.specs.declared.fault.FileFault.{FileFault}
use Rattle.ffv1_reads.specs.declared.fault.FileFault.TheVariants as file_fault
use Rattle.ffv1_matroska.specs.Written.{begun_of, end_place}
use Rattle.ffv1_matroska.specs.WrittenPlaces.{cluster_bytes, last_place}
use Rattle.ffv1_matroska.specs.Writers.{Finishes, Puts, Writing as Writer, piece_of, writing_of}
use Rattle.ffv1_matroska.specs.declared.track_entry.TrackEntry.{TrackEntry}
use Rattle.ffv1_video.specs.declared.fault.Fault.{Fault}
use Rattle.ffv1_video.specs.declared.fault.Fault.TheVariants as fault
use Rattle.ffv1_pack.specs.declared.matroska_packing.Put.{Put}
use Rattle.ffv1_pack.specs.Internal.Clusters.{AreClusters, EndsFar, EndsPutting, PutAll, PutsAll, PutsSome, StopsPutting, StopsPuttingBy, begun_for}
use Rattle.ffv1_pack.specs.Internal.Encoding.{Encoded, EncodesOne, EndsAt, EndsKnown, EndsLong, StopsBy, StopsNext}
use Rattle.ffv1_video.specs.Faults.{Cause, cause_of, of_avi}
use Rattle.ffv1_video.specs.Faults.Cause.{Reading, Writing, Memory, Content}
use Rattle.ffv1_pack.specs.PackMatroska.{is_matroska_pack_fault}
use Rattle.ffv1_pack.specs.Packing.{AreReadable, bytes_in, frames_for, most_frame, said_for}
use Rattle.ffv1_video.specs.Output.{WritesUpTo}
use Rattle.ffv1_video.specs.Video.{ReadsPictures, at_first, picture_next}
use Rattle.ffv1_pack.specs.VideoReads.{PictureLacks, PictureWants}
use Rattle.ffv1_pack.specs.Internal.VideoReads.{VideoReading}
use Rattle.ffv1_video.proofs.Output.{take_past}
use Rattle.ffv1_pack.proofs.PicturesRead.{joined, memory_kept}
use Rattle.ffv1_pack.proofs.PicturesSoFar.{all_frames, encoded_all, encoded_more, ends_after, frame_next, known_after, known_next, lacks_after, short_next, wants_after}
use Rattle.ffv1_pack.proofs.ReadableFrames.{more_readable}

-- ---- what is known of the faults

pub own_finish : (p : Passage) (w : Writer) (f : FileFault) → Finishes p w (Err f) → is_matroska_pack_fault (of_avi f) ≡ true
own_finish p w file_fault.Write h = refl
own_finish p w file_fault.OutOfMemory h = absurd h
own_finish p w file_fault.NotAvi h = absurd h
own_finish p w file_fault.NoFfv1 h = absurd h
own_finish p w file_fault.Truncated h = absurd h
own_finish p w file_fault.ChunkTooLong h = absurd h
own_finish p w file_fault.EmptyFrame h = absurd h
own_finish p w file_fault.TooLarge h = absurd h
own_finish p w file_fault.Read h = absurd h
own_finish p w file_fault.NotMatroska h = absurd h
own_finish p w file_fault.BadElement h = absurd h
own_finish p w file_fault.NoTracks h = absurd h
own_finish p w file_fault.Encoded h = absurd h
own_finish p w file_fault.Laced h = absurd h
own_finish p w file_fault.Checksum h = absurd h
own_finish p w file_fault.Rate h = absurd h
own_finish p w file_fault.Another h = absurd h

-- ---- what a writer's calls make of the file

-- the laws of `ffv1_matroska` on what is written piece by piece
abbrev pub MorePieces : Type 0
MorePieces = (head : Head) (details : TrackEntry) (frames : List (List ℕ)) (frame : List ℕ) →
    begun_of head details (frames ++ (frame ∷ [])) ≡ begun_of head details frames ++ piece_of (writing_of head details frames) frame

pub longer : (frames : List (List ℕ)) (frame : List ℕ) → length (frames ++ (frame ∷ [])) ≡ length frames + 1
longer [] frame = refl
longer (f ∷ fs) frame = let rest = longer fs frame in omega (arith, rest)

pub bytes_longer : (frames : List (List ℕ)) (frame : List ℕ) → bytes_in (frames ++ (frame ∷ [])) ≡ bytes_in frames + length frame
bytes_longer [] frame = omega arith
bytes_longer (f ∷ fs) frame =
    let rest = bytes_longer fs frame in
    omega (arith, rest)

-- nothing was put
pub put_none : (k : RecordProfile) (w : Writer) (o : Option (List ℕ)) (n : ℕ) → w ≡ writing_of w.head w.details [] → PutAll k w w [] (record { old = o; new = o; before = n; after = n }) (record { frames = 0; bytes = 0 })
put_none k w o n fresh = record {
  is = fresh;
  readable = tt;
  near = λ some. absurd (omega (arith, some));
  writes = Appends-nil o;
  kept = refl;
  frames_are = refl;
  bytes_are = refl;
}

-- frames were put, and now one more is
module _ (laws : MorePieces) (k : RecordProfile) (w v u : Writer) (frames : List (List ℕ)) (frame : List ℕ) (p q : Passage) (packed : Put) (e : PutAll k w v frames p packed)
    (joins : q.old ≡ p.new) (counts : q.before ≡ p.after) where
  head_is : v.head ≡ w.head
  head_is = ap (λ (x : Writer). x.head) e.is

  details_is : v.details ≡ w.details
  details_is = ap (λ (x : Writer). x.details) e.is

  self : v ≡ writing_of v.head v.details frames
  self = e.is ∙ sym (ap (λ h. writing_of h w.details frames) head_is) ∙ sym (ap (λ s. writing_of v.head s frames) details_is)

  at_is : v.at ≡ end_place w.head w.details frames
  at_is = ap (λ (x : Writer). x.at) e.is

  piece_is : piece_of v frame ≡ piece_of (writing_of w.head w.details frames) frame
  piece_is = ap (λ x. piece_of x frame) e.is

  appended : (bs : List ℕ) → Appends q.old q.new bs → Appends p.old q.new (begun_of w.head w.details frames ++ bs)
  appended bs more = Appends-trans p.old p.new q.new (begun_of w.head w.details frames) bs e.writes (subst (λ o. Appends o q.new bs) joins more)

  more_is : begun_of w.head w.details (frames ++ (frame ∷ [])) ≡ begun_of w.head w.details frames ++ piece_of v frame
  more_is = laws w.head w.details frames frame ∙ sym (ap (λ b. begun_of w.head w.details frames ++ b) piece_is)

  pub put_more : length frame ≤ most_frame k → Puts q v frame u (Ok tt) → PutAll k w u (frames ++ (frame ∷ [])) (joined p q) (record { frames = packed.frames + 1; bytes = packed.bytes + length frame })
  put_more few (near, writes, grows) = record {
    is = grows.grown frames self ∙ ap (λ h. writing_of h v.details (frames ++ (frame ∷ []))) head_is ∙ ap (λ s. writing_of w.head s (frames ++ (frame ∷ []))) details_is;
    readable = more_readable k frames frame e.readable few;
    near = λ some. let ends = grows.ends in omega (arith, near, ends);
    writes = subst (Appends p.old q.new) (sym more_is) (appended (piece_of v frame) writes.1);
    kept = writes.0 ∙ (counts ∙ e.kept);
    frames_are = ap (λ n. n + 1) e.frames_are ∙ sym (longer frames frame);
    bytes_are = ap (λ n. n + length frame) e.bytes_are ∙ sym (bytes_longer frames frame);
  }

  -- of its piece a beginning
  pub put_cut : Puts q v frame u (Err file_fault.Write) → ((joined p q).after ≡ one_more p.before) × WritesUpTo p.old q.new (length (begun_of w.head w.details frames)) (begun_of w.head w.details (frames ++ (frame ∷ [])))
  put_cut (near, writes, same) = (
    writes.0 ∙ ap one_more (counts ∙ e.kept),
    record {
      count = length (begun_of w.head w.details frames) + writes.1.0;
      enough = omega arith;
      short =
          let few = writes.1.1 in
          let long : length (begun_of w.head w.details (frames ++ (frame ∷ []))) ≡ length (begun_of w.head w.details frames) + length (piece_of v frame) =
          ap (λ b. length b) more_is ∙ length-append (begun_of w.head w.details frames) (piece_of v frame) in
          omega (arith, few, long);
      writes = subst (Appends p.old q.new)
          (sym (ap (λ b. take (length (begun_of w.head w.details frames) + writes.1.0) b) more_is ∙ take_past (begun_of w.head w.details frames) (piece_of v frame) writes.1.0))
          (appended (take writes.1.0 (piece_of v frame)) writes.1.2);
    },
  )

  -- or nothing, since it would end too far
  pub put_kept : Puts q v frame u (Err file_fault.TooLarge) → ((joined p q).after ≡ p.before) × Appends p.old q.new (begun_of w.head w.details frames)
  put_kept (far, kept, keeps, same) = (kept ∙ (counts ∙ e.kept), Appends-kept p.old p.new q.new (begun_of w.head w.details frames) e.writes (subst (λ o. Keeps o q.new) joins keeps))

-- ---- pictures that are encoded and put, one after the other

ends_or : (old new : Option (List ℕ)) (a : Accepted) (r : VideoReading) (w : Writer) (ps : List Planes) (f : Fault) → EndsKnown old new a r ps f →
    Known old new (λ text rest. (left : List ℕ) × ReadsPictures r.ppm r.most r.head true text ps left × EndsPutting a r w f ps left rest)
ends_or None new a r w ps f k = tt
ends_or (Some text) None a r w ps f k = k
ends_or (Some text) (Some rest) a r w ps f (left, reads, ends) = (left, reads, inl ends)

or_far : (old new : Option (List ℕ)) (a : Accepted) (r : VideoReading) (w : Writer) (ps : List Planes) (p : Planes) → (HasLongSlice a p (said_for r.head) → ⊥) →
    length (frame_of a p (said_for r.head)) ≤ most_frame a.profile → last_place < end_place w.head w.details (frames_for a r.head ps) + cluster_bytes + length (frame_of a p (said_for r.head)) →
    Known old new (λ text rest. (left : List ℕ) × ReadsPictures r.ppm r.most r.head true text ps left × (picture_next r.ppm r.most r.head (at_first ps) left ≡ Ok (Some p, rest))) →
    Known old new (λ text rest. (left : List ℕ) × ReadsPictures r.ppm r.most r.head true text ps left × EndsPutting a r w (fault.File file_fault.TooLarge) ps left rest)
or_far None new a r w ps p short few far k = tt
or_far (Some text) None a r w ps p short few far k = k
or_far (Some text) (Some rest) a r w ps p short few far (left, reads, next) = (left, reads, inr (inr (p, next, short, few, far, refl)))

or_long : (old new : Option (List ℕ)) (a : Accepted) (r : VideoReading) (w : Writer) (ps : List Planes) (p : Planes) → (HasLongSlice a p (said_for r.head) → ⊥) →
    most_frame a.profile < length (frame_of a p (said_for r.head)) →
    Known old new (λ text rest. (left : List ℕ) × ReadsPictures r.ppm r.most r.head true text ps left × (picture_next r.ppm r.most r.head (at_first ps) left ≡ Ok (Some p, rest))) →
    Known old new (λ text rest. (left : List ℕ) × ReadsPictures r.ppm r.most r.head true text ps left × EndsPutting a r w (fault.File file_fault.ChunkTooLong) ps left rest)
or_long None new a r w ps p short long k = tt
or_long (Some text) None a r w ps p short long k = k
or_long (Some text) (Some rest) a r w ps p short long (left, reads, next) = (left, reads, inr (inl (p, next, short, long, refl)))

some_frame : (a : Accepted) (r : VideoReading) (ps : List Planes) → 0 < length ps → 0 < length (frames_for a r.head ps)
some_frame a r [] some = some
some_frame a r (p ∷ ps) some = omega arith

module _ (i o : Passage) (a : Accepted) (r s : VideoReading) (w v : Writer) (frames : List (List ℕ)) (packed : Put) (e : Encoded i a r s frames) (put : PutAll a.profile w v frames o packed) where
  place_is : v.at ≡ end_place w.head w.details (frames_for a r.head e.pictures)
  place_is = ap (λ (x : Writer). x.at) put.is ∙ ap (λ fs. end_place w.head w.details fs) e.are

  are : AreClusters a r w e.pictures
  are = record {
    short = e.short;
    readable = subst (AreReadable a.profile) e.are put.readable;
    near = λ some. subst (λ n. n ≤ last_place) place_is (put.near (subst (λ fs. 0 < length fs) (sym e.are) (some_frame a r e.pictures some)));
  }

  begun_is : begun_of w.head w.details frames ≡ begun_for a r w e.pictures
  begun_is = ap (λ fs. begun_of w.head w.details fs) e.are

  puts_some : (Next : List Planes → List ℕ → List ℕ → Type 0) (new : Option (List ℕ)) (n : ℕ) →
      Known i.old new (λ text rest. (left : List ℕ) × ReadsPictures r.ppm r.most r.head true text e.pictures left × Next e.pictures left rest) →
      PutsSome Next a r w (record { old = i.old; new = new; before = i.before; after = n }) o
  puts_some Next new n taken = record {
    pictures = e.pictures;
    are = are;
    taken = taken;
    writes = subst (Appends o.old o.new) begun_is put.writes;
  }

  -- a call on the input follows
  module _ (q : Passage) (joins : q.old ≡ i.new) (counts : q.before ≡ i.after) where
    encode_stops_by : (c : Cause) (f : Fault) → StopsBy c q a s f → StopsPuttingBy c a r w (joined i q) o f
    encode_stops_by Reading f n = (put.kept, n.0 ∙ ap one_more (counts ∙ e.kept), puts_some (PictureWants r.ppm r.most r.head) q.new q.after (wants_after i q a r s frames e joins counts f n))
    encode_stops_by Writing f n = absurd n
    encode_stops_by Memory f n = (put.kept, memory_kept q s f n ∙ (counts ∙ e.kept), puts_some (PictureLacks r.ppm r.most r.head) q.new q.after (lacks_after i q a r s frames e joins counts f n))
    encode_stops_by Content f n =
        let ends = ends_after i q a r s frames e joins counts f n in (
          put.kept,
          ends.0,
          puts_some (EndsPutting a r w f) q.new q.after (ends_or i.old q.new a r w e.pictures f ends.1),
        )

    pub encode_stops : (f : Fault) → StopsNext q a s f → StopsPutting a r w (joined i q) o f
    encode_stops f n = encode_stops_by (cause_of f) f n

    -- there is no picture more
    pub puts_all : (t : VideoReading) → EncodesOne q a s t None → PutsAll a r w v (joined i q) o packed
    puts_all t n = record { frames = frames; all = encoded_all i q a r s frames e joins counts t n; put = put }

    -- a picture was encoded
    module _ (t : VideoReading) (frame : List ℕ) (one : EncodesOne q a s t (Some frame)) where
      pub encoded_more_is : Encoded (joined i q) a r t (frames ++ (frame ∷ []))
      encoded_more_is = encoded_more i q a r s frames e joins counts t frame one

      short : HasLongSlice a one.0 (said_for r.head) → ⊥
      short = short_next i q a r s frames e joins counts t frame one

      frame_is : frame ≡ frame_of a one.0 (said_for r.head)
      frame_is = frame_next i q a r s frames e joins counts t frame one

      end_is : v.at + cluster_bytes + length frame ≡ end_place w.head w.details (frames_for a r.head e.pictures) + cluster_bytes + length (frame_of a one.0 (said_for r.head))
      end_is = ap (λ n. n + cluster_bytes + length frame) place_is ∙ ap (λ (b : List ℕ). end_place w.head w.details (frames_for a r.head e.pictures) + cluster_bytes + length b) frame_is

      more_frames_are : frames ++ (frame ∷ []) ≡ frames_for a r.head (e.pictures ++ (one.0 ∷ []))
      more_frames_are = ap (λ fs. fs ++ (frame ∷ [])) e.are ∙ ap (λ b. frames_for a r.head e.pictures ++ (b ∷ [])) frame_is ∙ sym (all_frames a r.head e.pictures one.0)

      -- its frame is too long
      pub put_long : most_frame a.profile < length frame → StopsPutting a r w (joined i q) o (fault.File file_fault.ChunkTooLong)
      put_long long = (
        put.kept,
        one.1.kept ∙ (counts ∙ e.kept),
        puts_some (EndsPutting a r w (fault.File file_fault.ChunkTooLong)) q.new q.after
            (or_long i.old q.new a r w e.pictures one.0 short (subst (λ b. most_frame a.profile < length b) frame_is long) (known_after i q a r s frames e joins counts t one.0 one.1)),
      )

      -- its Cluster is put
      module _ (laws : MorePieces) (u : Writer) (z : Passage) (follows : z.old ≡ o.new) (number : z.before ≡ o.after) (few : length frame ≤ most_frame a.profile) where
        readable : length (frame_of a one.0 (said_for r.head)) ≤ most_frame a.profile
        readable = subst (λ b. length b ≤ most_frame a.profile) frame_is few

        put_stops_by : (f : FileFault) → Puts z v frame u (Err f) → StopsPutting a r w (joined i q) (joined o z) (of_avi f)
        put_stops_by file_fault.TooLarge h =
            let kept = put_kept laws a.profile w v u frames frame o z packed put follows number h in (
              kept.0,
              one.1.kept ∙ (counts ∙ e.kept),
              record {
                pictures = e.pictures;
                are = are;
                taken = or_far i.old q.new a r w e.pictures one.0 short readable (subst (λ n. last_place < n) end_is h.0) (known_after i q a r s frames e joins counts t one.0 one.1);
                writes = subst (Appends o.old z.new) begun_is kept.1;
              },
            )
        put_stops_by file_fault.Write h =
            let cut = put_cut laws a.profile w v u frames frame o z packed put follows number h in (
              cut.0,
              one.1.kept ∙ (counts ∙ e.kept),
              record {
                pictures = e.pictures;
                are = are;
                next = one.0;
                reads = known_next i q a r s frames e joins counts t one.0 one.1;
                short = short;
                readable = readable;
                near = subst (λ n. n ≤ last_place) end_is h.0;
                writes = subst (λ b. WritesUpTo o.old z.new (length b) (begun_for a r w (e.pictures ++ (one.0 ∷ [])))) begun_is
                    (subst (λ fs. WritesUpTo o.old z.new (length (begun_of w.head w.details frames)) (begun_of w.head w.details fs)) more_frames_are cut.1);
              },
            )
        put_stops_by file_fault.OutOfMemory h = absurd h
        put_stops_by file_fault.NotAvi h = absurd h
        put_stops_by file_fault.NoFfv1 h = absurd h
        put_stops_by file_fault.Truncated h = absurd h
        put_stops_by file_fault.ChunkTooLong h = absurd h
        put_stops_by file_fault.EmptyFrame h = absurd h
        put_stops_by file_fault.Read h = absurd h
        put_stops_by file_fault.NotMatroska h = absurd h
        put_stops_by file_fault.BadElement h = absurd h
        put_stops_by file_fault.NoTracks h = absurd h
        put_stops_by file_fault.Encoded h = absurd h
        put_stops_by file_fault.Laced h = absurd h
        put_stops_by file_fault.Checksum h = absurd h
        put_stops_by file_fault.Rate h = absurd h
        put_stops_by file_fault.Another h = absurd h

        pub put_stops : (f : FileFault) → Puts z v frame u (Err f) → StopsPutting a r w (joined i q) (joined o z) (of_avi f)
        put_stops f h = put_stops_by f h

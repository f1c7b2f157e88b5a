-- The pictures of a file are compared with a list of MD5s one after the other.
use Rattle.std.proofs.Common.{◌≡◌, refl, ℕ, zero, suc, ◌+◌, ◌<◌, ◌≤◌, true, false, Option, Some, None, Err, List, [], ◌∷◌, ◌++◌, length, map, take, get_or, inl, inr, ap, sym, subst, ◌∙◌, arith, true≢false}
use Rattle.std.specs.Prelude.{slice_get}
use Rattle.std.specs.Io.KnownBytes.{Appends}
use Rattle.std.proofs.KnownBytes.{Appends-nil}
use Rattle.std.proofs.lemmas.Bool.{eqb-true}
use Rattle.std.proofs.Math.Seq.{take-suc}
use Rattle.ffv1_range.specs.Counts.{saturated}
use Rattle.ffv1_wire.specs.Passage.{Passage, between}
use Rattle.ffv1_record.specs.Accepted.{Accepted}
use Rattle.ffv1_frame.specs.declared.fault.CodecFault.TheVariants as codec_fault
use Rattle.ffv1_files.specs.Places.{Place, container_of}
use Rattle.ffv1_files.specs.declared.notes.Notes.{Notes}
use Rattle.ffv1_files.specs.Readers.{Standing}
use Rattle.ffv1_video.specs.declared.fault.Fault.{Fault}
use Rattle.ffv1_video.specs.declared.fault.Fault.TheVariants as fault
use Rattle.ffv1_video.specs.declared.profile.Profile.{Profile}
use Rattle.ffv1_video.specs.Profiles.{scope_in}
use Rattle.ffv1_video.proofs.Output.{silent}
use Rattle.ffv1_unpack.specs.Behind.{NotedIn}
use Rattle.ffv1_unpack.specs.Check.{IsCheckFault}
use Rattle.ffv1_unpack.specs.Compared.{Agrees, ComparedThen, ComparingStops, DiffersAt, FileDiffers, IsUnlike, frame_number, frame_numbers, is_md5, met, stream_numbers}
use Rattle.ffv1_unpack.specs.Internal.Compared.{AgreesThere, CompareAnswers, FramesStop, met_after}
use Rattle.ffv1_unpack.specs.Internal.Containers.{IsWithin}
use Rattle.ffv1_unpack.specs.Internal.Located.{StaysReached}
use Rattle.ffv1_unpack.specs.Internal.Opens.{OpensStream, stream_of}
use Rattle.ffv1_unpack.specs.Internal.Play.{ReadsEnd}
use Rattle.ffv1_unpack.specs.Internal.Plays.{PlaysAll}
use Rattle.ffv1_unpack.specs.Internal.Told.{IsToldFault}
use Rattle.ffv1_unpack.specs.Located.{Stands}
use Rattle.ffv1_unpack.specs.Opens.{LacksOpening}
use Rattle.ffv1_unpack.specs.Plays.{FileThen, HasThen, NextOver, NextStays, PlaysFile, ReadsFile}
use Rattle.ffv1_unpack.specs.Internal.Plays.{PlaysFrame}
use Rattle.ffv1_unpack.specs.Stream.{Again, Coded, CodedFrame, Frame, IsFrame, coded_frames, frame_payload}
use Rattle.ffv1_unpack.specs.declared.comparing.Met.{Met}
use Rattle.ffv1_unpack.specs.declared.comparing.Unlike.{Unlike}
use Rattle.ffv1_unpack.specs.declared.comparing.Unlike.TheVariants as unlike
use Rattle.ffv1_unpack.proofs.FilePlayed.{done, file_has, goes_file, lacks_opening, no_frames, whole_stops}
use Rattle.ffv1_unpack.proofs.FramesInTurn.{all_more, counted_more, reads_more}
use Rattle.ffv1_unpack.proofs.FramesShown.{coded_again, coded_more}
use Rattle.ffv1_unpack.proofs.FramesPlayed.{PlayedSo, SoFar, has_stays, none_yet, one_so, play_stops, played_over, wants_memory}
use Rattle.ffv1_unpack.proofs.OwnFaults.{told_checks, told_on}

-- ---- a list

has_place : (md5s : List ℕ) (n m : ℕ) → is_md5 (slice_get md5s n) m ≡ true → (n < length md5s) × (get_or md5s n 0 ≡ m)
has_place [] n m e = absurd (true≢false (sym e))
has_place (x ∷ xs) zero m e = (omega arith, eqb-true x m e)
has_place (x ∷ xs) (suc n) m e =
    let rest = has_place xs n m e in
    (let less = rest.0 in omega (arith, less), rest.1)

-- one more is no more than the list has
pub has_more : (md5s : List ℕ) (n m : ℕ) → is_md5 (slice_get md5s n) m ≡ true → n < length md5s
has_more md5s n m e = (has_place md5s n m e).0

-- what was met of it grows by the next one
met_more : (md5s : List ℕ) (n m : ℕ) → is_md5 (slice_get md5s n) m ≡ true → Appends (Some (take n md5s)) (Some (take (n + 1) md5s)) (m ∷ [])
met_more md5s n m e =
    let here = has_place md5s n m e in
    let next : n + 1 ≡ suc n = omega arith in
    rw next (take-suc md5s n 0 here.0 ∙ ap (λ z. take n md5s ++ (z ∷ [])) here.1)

abbrev one_number : Accepted → Frame → List ℕ
one_number a f = map (frame_number a) (coded_frames (f ∷ []))

numbers_more : (a : Accepted) (frames : List Frame) (f : Frame) → frame_numbers a (frames ++ (f ∷ [])) ≡ frame_numbers a frames ++ one_number a f
numbers_more a [] f = refl
numbers_more a (Coded g ∷ gs) f = ap (λ z. frame_number a g ∷ z) (numbers_more a gs f)
numbers_more a (Again ∷ gs) f = numbers_more a gs f

coded_long : (frames : List Frame) (f : CodedFrame) → length (coded_frames (frames ++ (Coded f ∷ []))) ≡ length (coded_frames frames) + 1
coded_long frames f = ap length (coded_more frames f) ∙ sym (counted_more (coded_frames frames) f) ∙ (omega arith)

-- ---- frames

-- so many frames were compared, up to this place, and agree
pub record ComparedSo (a : Accepted) (md5s : List ℕ) (from : Place) (input : Passage) (m : Met) (to : Place) : Type 0 where
  pub frames : List Frame
  pub read : m.frames ≡ saturated (length frames)
  pub is : m.md5s ≡ length (coded_frames frames)
  pub within : m.md5s ≤ length md5s
  pub so : SoFar (IsFrame a) frame_payload (frame_numbers a) from input (met md5s m.md5s) frames to

pub compared_none : (a : Accepted) (md5s : List ℕ) (from : Place) (i : Option (List ℕ)) (ib : ℕ) → ComparedSo a md5s from (between i i ib ib) (record { frames = 0; md5s = 0 }) from
compared_none a md5s from i ib = record {
  frames = [];
  read = omega arith;
  is = refl;
  within = omega arith;
  so = none_yet (IsFrame a) frame_payload (frame_numbers a) refl from i (Some []) ib 0;
}

-- memory for what keeps a picture was refused
pub compared_lacks : (a : Accepted) (md5s : List ℕ) (from : Place) (i : Option (List ℕ)) (ib : ℕ) (f : Fault) → f ≡ fault.OutOfMemory → FramesStop from a md5s (between i i ib ib) (unlike.Fault f)
compared_lacks a md5s from i ib f is =
    subst (λ z. FramesStop from a md5s (between i i ib ib) (unlike.Fault z)) (sym is)
    (0, wants_memory a (frame_numbers a) refl from i (Some []) ib 0 codec_fault.OutOfMemory refl)

module _ (a : Accepted) (md5s : List ℕ) (from to last : Place) (m : Met) (i0 i1 i2 : Option (List ℕ)) (ib im ia : ℕ) (so : ComparedSo a md5s from (between i0 i1 ib im) m to) where
  abbrev n : ℕ
  n = m.md5s

  abbrev played : PlayedSo a (frame_numbers a) from (between i0 i1 ib im) (met md5s n) (saturated (length so.frames)) to
  played = record { frames = so.frames; is = refl; so = so.so }

  -- there is no further one
  pub compared_over : (notes : Notes) → ReadsEnd to notes (between i1 i2 im ia) → PlaysAll (IsFrame a) frame_payload (HasThen from) (frame_numbers a) (between i0 i2 ib ia) (met md5s n) notes so.frames
  compared_over notes over =
      played_over a (frame_numbers a) from to last (saturated (length so.frames)) i0 i1 i2 (Some []) (Some (take n md5s)) (Some (take n md5s)) ib im ia 0 0 0 played notes None refl tt over (silent (Some (take n md5s)) 0)

  more_read : (f : Frame) → saturated (m.frames + 1) ≡ saturated (length (so.frames ++ (f ∷ [])))
  more_read f =
      let counted = counted_more so.frames f in
      let was = so.read in
      omega (arith, counted, was)

  -- one more agrees
  pub compared_more : (f : Frame) → PlaysFrame a to last (between i1 i2 im ia) f → AgreesThere a md5s n f → ComparedSo a md5s from (between i0 i2 ib ia) (met_after m f) last
  compared_more (Coded f) plays agrees =
      let place = has_place md5s n (frame_number a f) agrees in
      let less = place.0 in
      record {
        frames = so.frames ++ (Coded f ∷ []);
        read = more_read (Coded f);
        is = ap (λ k. k + 1) so.is ∙ sym (coded_long so.frames f);
        within = omega (arith, less);
        so = one_so (IsFrame a) frame_payload (frame_numbers a) from to last i0 i1 i2 (Some []) (Some (take n md5s)) (Some (take (n + 1) md5s)) ib im ia 0 0 0 so.frames so.so
            (one_number a) (numbers_more a so.frames) (Coded f) plays refl (met_more md5s n (frame_number a f) agrees);
      }
  compared_more Again plays agrees = record {
    frames = so.frames ++ (Again ∷ []);
    read = more_read Again;
    is = so.is ∙ ap length (sym (coded_again so.frames));
    within = so.within;
    so = one_so (IsFrame a) frame_payload (frame_numbers a) from to last i0 i1 i2 (Some []) (Some (take n md5s)) (Some (take n md5s)) ib im ia 0 0 0 so.frames so.so
        (one_number a) (numbers_more a so.frames) Again plays refl (Appends-nil (Some (take n md5s)));
  }

  -- one more differs
  differs : (f : CodedFrame) → PlaysFrame a to last (between i1 i2 im ia) (Coded f) → is_md5 (slice_get md5s n) (frame_number a f) ≡ false → DiffersAt (HasThen from) a md5s (between i0 i2 ib ia) m.frames
  differs f plays other = record {
    frames = so.frames;
    is = so.read;
    agree = sym so.so.writes ∙ ap (λ k. take k md5s) so.is;
    kept = plays.reads.kept ∙ so.so.kept;
    differs = inl (
      f,
      record {
        are = all_more (IsFrame a) so.frames (Coded f) so.so.are plays.is;
        has = has_stays from last i0 i2 (map frame_payload (so.frames ++ (Coded f ∷ []))) (reads_more frame_payload from to last i0 i1 i2 so.frames (Coded f) so.so.read plays.reads.next);
      },
      subst (λ k. is_md5 (slice_get md5s k) (frame_number a f) ≡ false) so.is other,
    );
  }

  -- or none is compared
  pub compared_stops : (notes : Notes) (u : Unlike) → CompareAnswers a md5s m to last (between i1 i2 im ia) notes (Err u) → FramesStop from a md5s (between i0 i2 ib ia) u
  compared_stops notes (unlike.Differs k) p = subst (DiffersAt (HasThen from) a md5s (between i0 i2 ib ia)) (sym p.0) (differs p.1 p.2 p.3)
  compared_stops notes (unlike.Fault f) p = (
    n,
    play_stops a (frame_numbers a) from to last (saturated (length so.frames)) i0 i1 i2 (Some []) (Some (take n md5s)) (Some (take n md5s)) ib im ia 0 0 0 played
        (one_number a) (numbers_more a so.frames) f p,
  )

-- ---- a whole file

pub not_opened : (profile : Profile) (md5s : List ℕ) (i0 i1 : Option (List ℕ)) (ib im : ℕ) (f : Fault) → LacksOpening profile (between i0 i1 ib im) f → ComparingStops profile md5s (between i0 i1 ib im) (unlike.Fault f)
not_opened profile md5s i0 i1 ib im f h = (0, lacks_opening profile stream_numbers i0 i1 i1 (Some []) (Some []) ib im im 0 0 f h)

module _ (profile : Profile) (md5s : List ℕ) (i0 i1 i2 : Option (List ℕ)) (ib im ia : ℕ) (r : Standing) (a : Accepted) (opens : OpensStream profile r a (between i0 i1 ib im)) where
  then_file : (frames : List Frame) (Next : Place → List ℕ → List ℕ → Type 0) → ComparedThen (HasThen r.place) a md5s (between i1 i2 im ia) frames Next →
      ComparedThen (FileThen profile r.head) a md5s (between i0 i2 ib ia) frames Next
  then_file frames Next h =
      goes_file (IsFrame a) frame_payload (frame_numbers a) (HasThen r.place) (FileThen profile r.head) i0 i1 i2 (Some []) (Some (take (length (coded_frames frames)) md5s)) ib im ia 0 0
      (file_has profile i0 i1 i2 r.head r.place opens.known) opens.kept frames Next h

  file_differs : (n : ℕ) → DiffersAt (HasThen r.place) a md5s (between i1 i2 im ia) n → FileDiffers profile md5s (between i0 i2 ib ia) n
  file_differs n h = record {
    stream = stream_of r a;
    is = opens.stream;
    at = record {
      frames = h.frames;
      is = h.is;
      agree = h.agree;
      kept = h.kept ∙ opens.kept;
      differs = elim h.differs [
        | inl one ↦ inl (one.0, then_file (h.frames ++ (Coded one.0 ∷ [])) NextStays one.1, one.2)
        | inr none ↦ inr (none.0, then_file h.frames (NextOver none.0) none.1, none.2, none.3)
      ];
    };
  }

  pub comparing_stops : (u : Unlike) → FramesStop r.place a md5s (between i1 i2 im ia) u → ComparingStops profile md5s (between i0 i2 ib ia) u
  comparing_stops (unlike.Differs n) h = file_differs n h
  comparing_stops (unlike.Fault f) h = (h.0, whole_stops profile stream_numbers i0 i1 i2 (Some []) (Some (take h.0 md5s)) ib im ia 0 0 r a opens f h.1)

  module _ (notes : Notes) (frames : List Frame) (m : Met) (read : m.frames ≡ saturated (length frames)) (is : m.md5s ≡ length (coded_frames frames))
      (all : PlaysAll (IsFrame a) frame_payload (HasThen r.place) (frame_numbers a) (between i1 i2 im ia) (met md5s m.md5s) notes frames) where
    pub comparing_none : m.frames ≡ 0 → ComparingStops profile md5s (between i0 i2 ib ia) (unlike.Fault fault.NoFrames)
    comparing_none none =
        let few : saturated (length frames) ≡ 0 = sym read ∙ none in
        (m.md5s, no_frames profile stream_numbers i0 i1 i2 (Some []) (Some (take m.md5s md5s)) ib im ia 0 0 r a opens frames (saturated (length frames)) refl notes all few)

    -- the list has more
    pub comparing_short : (m.frames ≡ 0 → ⊥) → m.md5s < length md5s → ComparingStops profile md5s (between i0 i2 ib ia) (unlike.Differs m.frames)
    comparing_short some less = file_differs m.frames (record {
      frames = frames;
      is = read;
      agree = sym all.plays.wrote.writes ∙ ap (λ k. take k md5s) is;
      kept = all.kept;
      differs = inr (
        notes,
        record { are = all.plays.goes.are; has = all.plays.goes.has },
        omega (arith, some),
        omega (arith, less, is),
      );
    })

    pub comparing_done : (m.frames ≡ 0 → ⊥) → m.md5s ≡ length md5s → ReadsFile profile notes i0 i2 (stream_of r a) frames → NotedIn profile (between i0 i2 ib ia) notes → Agrees profile md5s (between i0 i2 ib ia) notes
    comparing_done some whole reads noted =
        subst (λ z. PlaysFile profile stream_numbers (between i0 i2 ib ia) (met md5s z) notes) whole
        (done profile stream_numbers i0 i1 i2 (Some []) (Some (take m.md5s md5s)) ib im ia 0 0 r a opens frames (saturated (length frames)) refl notes all
        (λ none. some (let few : m.frames ≡ 0 = omega (arith, read, none) in few)) reads noted)

-- ---- which faults

pub unlike_checks : (profile : Profile) (r : Standing) (text left : Option (List ℕ)) (u : Unlike) → Stands (scope_in profile) text left r → IsWithin profile r.place → IsUnlike (IsToldFault r left) u → IsUnlike (IsCheckFault profile) u
unlike_checks profile r text left (unlike.Differs n) stands within told = tt
unlike_checks profile r text left (unlike.Fault f) stands within told = told_checks profile r text left f stands within told

pub unlike_on : (old new : Standing) (p : Passage) (u : Unlike) → container_of new.place ≡ container_of old.place → StaysReached old new p → IsUnlike (IsToldFault new p.new) u → IsUnlike (IsToldFault old p.old) u
unlike_on old new p (unlike.Differs n) same stays told = tt
unlike_on old new p (unlike.Fault f) same stays told = told_on old new p f same stays told

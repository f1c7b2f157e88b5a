-- A file whose Tracks stand anywhere is read as its head and its frames, and what is read is one.
use Rattle.std.proofs.Common.{◌≡◌, ◌⊎◌, ◌≤◌, ◌<◌, ◌+◌, ◌-◌, ◌||◌, ◌∙◌, ◌++◌, ◌∷◌, [], ℕ, suc, zero, List, false, Option, Some, None, Result, Ok, Err, inl, inr, length, map, refl, sym, ap, subst, arith, append_assoc, append-nil, length-append}
use Rattle.ffv1_reads.specs.Head.{Head}
use Rattle.ffv1_reads.specs.declared.fault.FileFault.{FileFault}
use Rattle.ffv1_reads.specs.declared.fault.FileFault.TheVariants as fault
use Rattle.ffv1_reads.specs.Reads.{Met, Short, Stop, given, read_on, ◌>>=◌}
use Rattle.ffv1_reads.proofs.Results.{ok_is, read_on_ok}
use Rattle.ffv1_ebml.specs.Contents.{content_told}
use Rattle.ffv1_ebml.specs.Vints.{number_of}
use Rattle.ffv1_matroska.specs.Begun.{room}
use Rattle.ffv1_matroska.specs.Elements.{AreParts, AreTopLevel, IsTopLevel, Part, Top, TopLevel, Sized, Unsized, part_frames, parts_frames, parts_text, pieces_text, top_text, tops_text}
use Rattle.ffv1_matroska.specs.Files.{frames_read}
use Rattle.ffv1_matroska.specs.Late.{again_read, file_again_read, late_read, opened_again, opened_with, reopened, segment_reopened, sought_up_to, track_read, track_sought}
use Rattle.ffv1_matroska.specs.MatroskaFiles.{AreBefore, FileBegins, IsTracks, MatroskaFile, SegmentEnds}
use Rattle.ffv1_matroska.specs.Opened.{Opened, begin_from, begin_up_to, ebml_read, file_read, open_read, tracks}
use Rattle.ffv1_matroska.specs.Opening.{most_elements, segment_begun, segment_entered}
use Rattle.ffv1_matroska.specs.Places.{amount, segment_at}
use Rattle.ffv1_matroska.specs.SegmentFiles.{FirstTracks, HaveNoTracks, SegmentFile}
use Rattle.ffv1_matroska.specs.Segments.{is_filler, is_section}
use Rattle.ffv1_matroska.specs.Tracks.{Track, first_track, known_in, others_in, track_among, track_in, track_up_to, ◌>>?◌}
use Rattle.ffv1_matroska.specs.declared.place.Place.{Place}
use Rattle.ffv1_matroska.specs.declared.track.TrackNumbers.{TrackNumbers}
use Rattle.ffv1_matroska.proofs.FileLaws.{HasEnded, ended_complete, file_complete, opened_frames}
use Rattle.ffv1_matroska.proofs.FrameTurns.{led}
use Rattle.ffv1_matroska.proofs.OpenedLaws.{begun_frames, begun_same, ebml_complete, headed, segment_complete, top_begun}
use Rattle.ffv1_matroska.proofs.ReadFiles.{file_sound}
use Rattle.ffv1_matroska.proofs.ReadHeads.{ebml_sound, entered_sound}
use Rattle.ffv1_matroska.proofs.ReadParts.{segment_sound, tail_of}
use Rattle.ffv1_matroska.proofs.SegmentLaws.{parts_complete}
use Rattle.ffv1_matroska.proofs.SoughtParts.{parts_find, parts_tell}
use Rattle.ffv1_matroska.proofs.StepBounds.{err_is_no_ok}
use Rattle.ffv1_matroska.proofs.TrackLaws.{HasStart, cluster_first, refused_at, segment_start}

abbrev F : Type 0
F = (Head × List (List ℕ)) × List ℕ

-- the frames of what was opened
abbrev opened_on : Opened → List ℕ → Result F Stop
opened_on o = frames_read o.track.numbers o.place >>= λ frames. given (o.track.head, frames)

-- ---- a file by the content of its Segment

-- the headers of EBML and of the Segment
heads_sound : (file mid content : List ℕ) (u : Unit {0}) (size : Option ℕ) → ebml_read file ≡ Ok (u, mid) → segment_entered mid ≡ Ok (size, content) → FileBegins file size content
unfolding segment_entered
heads_sound file mid content u size one two =
    let top = ebml_sound file (u, mid) one in
    let entered = entered_sound most_elements mid (size, content) two in
    record {
      ebml_ident = top.ident;
      ebml_size = top.size;
      header = top.header;
      voids = entered.voids;
      segment_ident = entered.ident;
      segment_size = entered.size;
      bytes = top.text_is ∙ ap (λ z. (top.ident ++ top.size) ++ (top.header ++ z)) entered.text_is;
      ebml_is = top.is;
      ebml_sized = top.says;
      short = top.short;
      of_matroska = top.good;
      voids_are = entered.are;
      few = entered.few;
      segment_is = entered.is;
      sized = entered.says;
    }

pub track_by_content : (file content : List ℕ) (size : Option ℕ) → FileBegins file size content → track_read file ≡ track_sought (segment_begun size) content
unfolding track_read
track_by_content file content size is =
    ap track_read is.bytes
    ∙ rw (ebml_complete is.ebml_ident is.ebml_size is.header (tops_text is.voids ++ ((is.segment_ident ++ is.segment_size) ++ content)) is.ebml_is is.ebml_sized is.short is.of_matroska, segment_complete is.voids is.segment_ident is.segment_size content size is.voids_are is.few is.segment_is is.sized) refl

pub reopened_by_content : (track : Track) (file content : List ℕ) (size : Option ℕ) → FileBegins file size content → reopened track file ≡ segment_reopened track size content
unfolding reopened
reopened_by_content track file content size is =
    ap (reopened track) is.bytes
    ∙ rw (ebml_complete is.ebml_ident is.ebml_size is.header (tops_text is.voids ++ ((is.segment_ident ++ is.segment_size) ++ content)) is.ebml_is is.ebml_sized is.short is.of_matroska, segment_complete is.voids is.segment_ident is.segment_size content size is.voids_are is.few is.segment_is is.sized) refl

-- ---- a Segment of this size, as it begins
record Starts (size : Option ℕ) : Type 0 where
  base : Place
  most : ℕ
  fits : room size < most
  ended : (long m : ℕ) (rest : List ℕ) → long + m ≡ room size → SegmentEnds size long rest → HasEnded base m rest
  ends : (long m : ℕ) (rest : List ℕ) → long + m ≡ room size → HasEnded base m rest → SegmentEnds size long rest
  sought : (content : List ℕ) → track_sought (segment_begun size) content ≡ sought_up_to most (segment_at base false (room size)) content
  reopens : (track : Track) (content : List ℕ) → read_on (segment_reopened track size content) opened_on ≡ read_on (begin_up_to most (Some track) (segment_at base false (room size)) content) begun_frames

starts : (size : Option ℕ) → Starts size
starts (Some n) =
    record {
      base = segment_begun (Some n);
      most = suc (amount (segment_begun (Some n)));
      fits = omega arith;
      ended = λ long m rest whole ends. inl (omega (arith, whole, ends));
      ends = sized;
      sought = λ content. refl;
      reopens = λ track content. opened_frames (Some n) (begin_from (Some track) (segment_begun (Some n)) content);
    }
  where
    sized : (long m : ℕ) (rest : List ℕ) → long + m ≡ n → HasEnded (segment_begun (Some n)) m rest → n ≡ long
    sized long m rest whole (inl none) = omega (arith, whole, none)
    sized long m rest whole (inr (some, over, e)) = absurd (cc e)
starts None =
    record {
      base = segment_begun None;
      most = suc (amount (segment_begun None));
      fits = omega arith;
      ended = ended;
      ends = unsized;
      sought = λ content. refl;
      reopens = λ track content. opened_frames None (begin_from (Some track) (segment_begun None) content);
    }
  where
    ended : (long m : ℕ) (rest : List ℕ) → long + m ≡ room None → SegmentEnds None long rest → HasEnded (segment_begun None) m rest
    ended long m rest whole (inl full) = inl (omega (arith, whole, full))
    ended long m rest whole (inr (less, over)) = inr (omega (arith, whole, less), over, refl)

    unsized : (long m : ℕ) (rest : List ℕ) → long + m ≡ room None → HasEnded (segment_begun None) m rest → SegmentEnds None long rest
    unsized long m rest whole (inl none) = inl (omega (arith, whole, none))
    unsized long m rest whole (inr (some, over, e)) = inr (omega (arith, whole, some), over)

-- ---- such a file is read twice

-- how many bytes the Segment has beyond its parts
left_of : (size : Option ℕ) (long : ℕ) (rest : List ℕ) → SegmentEnds size long rest → long + (room size - long) ≡ room size
left_of (Some n) long rest e = omega (arith, e)
left_of None long rest (inl full) = omega (arith, full)
left_of None long rest (inr (less, over)) = omega (arith, less)

module _ (file : List ℕ) (head : Head) (frames : List (List ℕ)) (is : SegmentFile file head frames) where
  abbrev long : ℕ
  long = length (parts_text is.parts)

  abbrev more : ℕ
  more = room is.size - long

  counted : long + more ≡ room is.size
  counted = left_of is.size long is.rest is.ends

  abbrev content : List ℕ
  content = parts_text is.parts ++ is.rest

  abbrev start : Starts is.size
  start = starts is.size

  fits : long + more < start.most
  fits = omega (arith, counted, start.fits)

  -- its track
  pub file_tells : (left : List ℕ) × (track_read file ≡ Ok (is.track, left))
  file_tells =
      let found = parts_find is.track.numbers start.base is.parts is.track more is.rest is.parts_are is.first start.most false fits in
      (found.0, track_by_content file content is.size is.begins ∙ start.sought content ∙ ap (λ k. sought_up_to start.most (segment_at start.base false k) content) (sym counted) ∙ found.1)

  -- its frames
  frames_from : frames_read is.track.numbers (segment_at start.base false (room is.size)) content ≡ Ok (parts_frames is.parts, is.rest)
  frames_from =
      let parts = parts_complete is.track.numbers start.base false is.parts more is.rest is.parts_are in
      let answer : List (List ℕ) → Result (List (List ℕ) × List ℕ) Stop = λ fs. Ok (fs, is.rest) in
      ap (λ k. frames_read is.track.numbers (segment_at start.base false k) content) (sym counted)
      ∙ parts.1
      ∙ ap (led (parts_frames is.parts)) (ended_complete is.track.numbers start.base parts.0 more is.rest (start.ended long more is.rest counted is.ends))
      ∙ ap answer (append-nil (parts_frames is.parts))

  pub file_reopens : read_on (reopened is.track file) opened_on ≡ Ok ((head, frames), is.rest)
  file_reopens =
      let both : Head → Result F Stop = λ h. Ok ((h, parts_frames is.parts), is.rest) in
      let all : List (List ℕ) → Result F Stop = λ fs. Ok ((head, fs), is.rest) in
      ap (λ z. read_on z opened_on) (reopened_by_content is.track file content is.size is.begins)
      ∙ start.reopens is.track content
      ∙ begun_same start.most is.track start.base (room is.size) content start.fits
      ∙ ap (headed is.track.head) frames_from
      ∙ ap both is.head_is ∙ ap all is.frames_are

  -- if its first Tracks are sought
  pub late_complete : read_on (late_read file) opened_on ≡ Ok ((head, frames), is.rest)
  late_complete = let tells = file_tells in ap (λ z. read_on (opened_with file z) opened_on) tells.1 ∙ file_reopens

-- ---- what is read twice is such a file
module _ (file : List ℕ) (track : Track) (left : List ℕ) (head : Head) (frames : List (List ℕ)) (rest : List ℕ) (tells : track_read file ≡ Ok (track, left)) (reads : read_on (reopened track file) opened_on ≡ Ok ((head, frames), rest)) where
  abbrev w : F
  w = ((head, frames), rest)

  built : (size : Option ℕ) (content : List ℕ) → FileBegins file size content → (is : SegmentFile file head frames) × (is.rest ≡ rest)
  built size content begins =
      let start : Starts size = starts size in
      let n = room size in
      let again : read_on (begin_up_to start.most (Some track) (segment_at start.base false n) content) begun_frames ≡ Ok w =
      sym (start.reopens track content) ∙ ap (λ z. read_on z opened_on) (sym (reopened_by_content track file content size begins)) ∙ reads in
      let from : headed track.head (frames_read track.numbers (segment_at start.base false n) content) ≡ Ok w = sym (begun_same start.most track start.base n content start.fits) ∙ again in
      let first = read_on_ok (frames_read track.numbers (segment_at start.base false n) content) (λ fs. given (track.head, fs)) w from in
      let same = ok_is ((track.head, first.0.0), first.0.1) w first.2 in
      let answer : F → Result (List (List ℕ) × List ℕ) Stop = λ v. Ok (v.0.1, v.1) in
      let read : frames_read track.numbers (segment_at start.base false n) content ≡ Ok (frames, rest) = first.1 ∙ ap answer same in
      let tail = tail_of track.numbers start.base n content (frames, rest) (segment_sound (suc n) track.numbers start.base false n content (frames, rest) (omega arith) read) in
      let P : List ℕ → Type 0 = λ z. FileBegins file size z in
      let sought : sought_up_to start.most (segment_at start.base false n) content ≡ Ok (track, left) = sym (start.sought content) ∙ sym (track_by_content file content size begins) ∙ tells in
      let said : sought_up_to start.most (segment_at start.base false (length (parts_text tail.parts) + tail.left)) (parts_text tail.parts ++ rest) ≡ Ok (track, left) =
      ap (λ k. sought_up_to start.most (segment_at start.base false k) (parts_text tail.parts ++ rest)) tail.fits ∙ ap (sought_up_to start.most (segment_at start.base false n)) (sym tail.text_is) ∙ sought in (
        record {
          size = size;
          track = track;
          parts = tail.parts;
          rest = rest;
          begins = subst P tail.text_is begins;
          ends = start.ends (length (parts_text tail.parts)) tail.left rest tail.fits tail.ended;
          first = parts_tell track.numbers start.base tail.parts track tail.left rest tail.ended tail.are start.most false left (omega (arith, tail.fits, start.fits)) said;
          head_is = ap (λ (v : F). v.0.0) same;
          parts_are = tail.are;
          frames_are = sym tail.all;
        },
        refl,
      )

  pub late_sound : (is : SegmentFile file head frames) × (is.rest ≡ rest)
  unfolding reopened
  late_sound =
      let first = read_on_ok (reopened track file) opened_on w reads in
      let one = read_on_ok (ebml_read file) (λ _. segment_entered >>= segment_reopened track) first.0 first.1 in
      let two = read_on_ok (segment_entered one.0.1) (segment_reopened track) first.0 one.2 in
      built two.0.0 two.0.1 (heads_sound file one.0.1 two.0.1 one.0.0 two.0.0 one.1 two.1)

-- ---- a file whose first Tracks stand before its first Cluster

tops_text_parts : (ts : List TopLevel) (ps : List Part) → parts_text (map Top ts ++ ps) ≡ tops_text ts ++ parts_text ps
tops_text_parts [] ps = refl
tops_text_parts (t ∷ ts) ps = ap (λ z. top_text t ++ z) (tops_text_parts ts ps) ∙ sym (append_assoc (top_text t) (tops_text ts) (parts_text ps))

tops_frames : (ts : List TopLevel) (ps : List Part) → parts_frames (map Top ts ++ ps) ≡ parts_frames ps
tops_frames [] ps = refl
tops_frames (t ∷ ts) ps = tops_frames ts ps

tops_are : (numbers : TrackNumbers) (ts : List TopLevel) (ps : List Part) → AreTopLevel ts → AreParts numbers ps → AreParts numbers (map Top ts ++ ps)
tops_are numbers [] ps are more = more
tops_are numbers (t ∷ ts) ps are more = (are.0, tops_are numbers ts ps are.1 more)

tops_split : (numbers : TrackNumbers) (ts : List TopLevel) (ps : List Part) → AreParts numbers (map Top ts ++ ps) → AreTopLevel ts × AreParts numbers ps
tops_split numbers [] ps are = (tt, are)
tops_split numbers (t ∷ ts) ps are = let more = tops_split numbers ts ps are.1 in ((are.0, more.0), more.1)

tops_first : (ts : List TopLevel) (ps : List Part) (track : Track) → AreBefore ts → FirstTracks ps track → FirstTracks (map Top ts ++ ps) track
tops_first [] ps track before first = first
tops_first (t ∷ ts) ps track before first = inr (before.0, tops_first ts ps track before.1 first)

-- Tracks that say a track are an element of a Segment
tracks_told : (content : List ℕ) (track : Track) → track_in content ≡ Ok track → content_told content ≡ Ok tt
unfolding track_in first_track
tracks_told content track says = on_told (content_told content) refl says
  where
    on_told : (z : Result (Unit {0}) FileFault) → content_told content ≡ z → ((z >>? λ _. track_up_to (length content) content) >>? λ one. Ok (track_among (known_in content) (others_in content) one)) ≡ Ok track → content_told content ≡ Ok tt
    on_told (Ok u) is h = is
    on_told (Err f) is h = absurd (cc)

tracks_top : (t : TopLevel) (track : Track) → IsTracks t track → IsTopLevel t
unfolding is_section
tracks_top t track is = record { named = is.named; few = is.few; sized = is.sized; known = ap (λ k. is_section k || is_filler k) is.is; told = λ _. tracks_told t.content track is.says }

pub before_segment : (file : List ℕ) (head : Head) (frames : List (List ℕ)) (is : MatroskaFile file head frames) → (all : SegmentFile file head frames) × (all.rest ≡ is.rest)
before_segment file head frames is =
    let back : List Part = Top is.tracks ∷ is.parts in
    let parts = map Top is.before ++ back in
    let text : parts_text parts ≡ tops_text is.before ++ (top_text is.tracks ++ parts_text is.parts) = tops_text_parts is.before back in
    let whole : parts_text parts ++ is.rest ≡ tops_text is.before ++ (top_text is.tracks ++ (parts_text is.parts ++ is.rest)) = ap (λ z. z ++ is.rest) text ∙ regrouped (tops_text is.before) (top_text is.tracks) (parts_text is.parts) is.rest in
    let P : List ℕ → Type 0 = λ z. FileBegins file is.size z in
    let Q : List ℕ → Type 0 = λ z. SegmentEnds is.size (length z) is.rest in (
      record {
        size = is.size;
        track = is.track;
        parts = parts;
        rest = is.rest;
        begins = subst P (sym whole) is.begins;
        ends = subst Q (sym text) is.ends;
        first = tops_first is.before back is.track is.first (inl is.tracks_is);
        head_is = is.head_is;
        parts_are = tops_are is.track.numbers is.before back is.before_are (tracks_top is.tracks is.track is.tracks_is, is.parts_are);
        frames_are = tops_frames is.before back ∙ is.frames_are;
      },
      refl,
    )
  where
    regrouped : (a b c d : List ℕ) → (a ++ (b ++ c)) ++ d ≡ a ++ (b ++ (c ++ d))
    regrouped a b c d = simp append_assoc

-- a Cluster comes before any Tracks
IsLate : List Part → Type 0
IsLate [] = ⊥
IsLate (Top t ∷ ps) = (number_of t.ident ≡ tracks → ⊥) × IsLate ps
IsLate (Sized ident size pieces ∷ ps) = Unit {0}
IsLate (Unsized ident size pieces ∷ ps) = Unit {0}

-- or Tracks do
record Placed (ps : List Part) (track : Track) : Type 0 where
  before : List TopLevel
  tracks : TopLevel
  more : List Part
  parts_are : ps ≡ map Top before ++ (Top tracks ∷ more)
  first : AreBefore before
  is : IsTracks tracks track

placed : (ps : List Part) (track : Track) → FirstTracks ps track → IsLate ps ⊎ Placed ps track
unfolding IsLate
placed [] track first = absurd first
placed (Top t ∷ ps) track (inl is) = inr (record { before = []; tracks = t; more = ps; parts_are = refl; first = tt; is = is })
placed (Top t ∷ ps) track (inr (other, more)) = elim (placed ps track more) [
  | inl late ↦ inl (other, late)
  | inr h ↦ inr (record { before = t ∷ h.before; tracks = h.tracks; more = h.more; parts_are = ap (λ z. Top t ∷ z) h.parts_are; first = (other, h.first); is = h.is })
]
placed (Sized ident size pieces ∷ ps) track first = inl tt
placed (Unsized ident size pieces ∷ ps) track first = inl tt

placed_before : (file : List ℕ) (head : Head) (frames : List (List ℕ)) (is : SegmentFile file head frames) → Placed is.parts is.track → (all : MatroskaFile file head frames) × (all.rest ≡ is.rest)
placed_before file head frames is h =
    let numbers = is.track.numbers in
    let back : List Part = Top h.tracks ∷ h.more in
    let text : parts_text is.parts ≡ tops_text h.before ++ (top_text h.tracks ++ parts_text h.more) = ap parts_text h.parts_are ∙ tops_text_parts h.before back in
    let whole : parts_text is.parts ++ is.rest ≡ tops_text h.before ++ (top_text h.tracks ++ (parts_text h.more ++ is.rest)) = ap (λ z. z ++ is.rest) text ∙ regrouped (tops_text h.before) (top_text h.tracks) (parts_text h.more) is.rest in
    let P : List ℕ → Type 0 = λ z. FileBegins file is.size z in
    let Q : List ℕ → Type 0 = λ z. SegmentEnds is.size (length z) is.rest in
    let R : List Part → Type 0 = λ z. AreParts numbers z in
    let are = tops_split numbers h.before back (subst R h.parts_are is.parts_are) in (
      record {
        size = is.size;
        before = h.before;
        tracks = h.tracks;
        track = is.track;
        parts = h.more;
        rest = is.rest;
        begins = subst P whole is.begins;
        ends = subst Q text is.ends;
        before_are = are.0;
        first = h.first;
        tracks_is = h.is;
        head_is = is.head_is;
        parts_are = are.1.1;
        frames_are = sym (ap parts_frames h.parts_are ∙ tops_frames h.before back) ∙ is.frames_are;
      },
      refl,
    )
  where
    regrouped : (a b c d : List ℕ) → (a ++ (b ++ c)) ++ d ≡ a ++ (b ++ (c ++ d))
    regrouped a b c d = simp append_assoc

-- a file whose first Cluster comes before any Tracks is refused where it is read once
late_first : (numbers : TrackNumbers) (most : ℕ) (base : Place) (ps : List Part) (m : ℕ) (rest : List ℕ) → AreParts numbers ps → IsLate ps → length (parts_text ps) + m < most →
    (left : List ℕ) × (begin_up_to most None (segment_at base false (length (parts_text ps) + m)) (parts_text ps ++ rest) ≡ Err (Met fault.NoTracks left))
unfolding IsLate
late_first numbers most base [] m rest are late fits = absurd late
late_first numbers zero base ps m rest are late fits = absurd (omega (arith, fits))
late_first numbers (suc most) base (Top t ∷ ps) m rest are late fits =
    let here = length (parts_text ps) + m in
    let long : length (top_text t ++ parts_text ps) + m ≡ length (top_text t) + here = omega (arith, length-append (top_text t) (parts_text ps)) in
    let some : 1 ≤ length (top_text t) = omega (arith, are.0.named.0, length-append (t.ident ++ t.size) t.content, length-append t.ident t.size) in
    let next = late_first numbers most base ps m rest are.1 late.1 (omega (arith, fits, long, some)) in (
      next.0,
      ap (λ k. begin_up_to (suc most) None (segment_at base false k) ((top_text t ++ parts_text ps) ++ rest)) long
          ∙ ap (begin_up_to (suc most) None (segment_at base false (length (top_text t) + here))) (append_assoc (top_text t) (parts_text ps) rest)
          ∙ top_begun most base t here (parts_text ps ++ rest) are.0 late.0
          ∙ next.1,
    )
late_first numbers (suc most) base (Sized ident size pieces ∷ ps) m rest are late fits =
    let head = ident ++ size in
    let body = pieces_text pieces in
    let back = parts_text ps in
    let long : length ((head ++ body) ++ back) + m ≡ length head + (length body + (length back + m)) = omega (arith, length-append (head ++ body) back, length-append head body) in (
      body ++ (back ++ rest),
      ap (λ k. begin_up_to (suc most) None (segment_at base false k) (((head ++ body) ++ back) ++ rest)) long
          ∙ ap (begin_up_to (suc most) None (segment_at base false (length head + (length body + (length back + m))))) (regrouped head body back rest)
          ∙ cluster_first most base ident size (body ++ (back ++ rest)) (Some (length body)) (length back + m) are.0.0 are.0.1,
    )
  where
    regrouped : (a b c d : List ℕ) → ((a ++ b) ++ c) ++ d ≡ a ++ (b ++ (c ++ d))
    regrouped a b c d = simp append_assoc
late_first numbers (suc most) base (Unsized ident size pieces ∷ ps) m rest are late fits =
    let head = ident ++ size in
    let body = pieces_text pieces in
    let back = parts_text ps in
    let long : length ((head ++ body) ++ back) + m ≡ length head + (0 + (length body + (length back + m))) = omega (arith, length-append (head ++ body) back, length-append head body) in (
      body ++ (back ++ rest),
      ap (λ k. begin_up_to (suc most) None (segment_at base false k) (((head ++ body) ++ back) ++ rest)) long
          ∙ ap (begin_up_to (suc most) None (segment_at base false (length head + (0 + (length body + (length back + m)))))) (regrouped head body back rest)
          ∙ cluster_first most base ident size (body ++ (back ++ rest)) None (length body + (length back + m)) are.0.0 are.0.1,
    )
  where
    regrouped : (a b c d : List ℕ) → ((a ++ b) ++ c) ++ d ≡ a ++ (b ++ (c ++ d))
    regrouped a b c d = simp append_assoc

late_opened : (file : List ℕ) (head : Head) (frames : List (List ℕ)) (is : SegmentFile file head frames) → IsLate is.parts → (left : List ℕ) × (open_read file ≡ Err (Met fault.NoTracks left))
late_opened file head frames is late =
    let start : HasStart is.size = segment_start is.size in
    let long = length (parts_text is.parts) in
    let counted = left_of is.size long is.rest is.ends in
    let m = room is.size - long in
    let first = late_first is.track.numbers start.most start.base is.parts m is.rest is.parts_are late (omega (arith, counted, start.fits)) in
    (first.0, refused_at file (parts_text is.parts ++ is.rest) is.size (Met fault.NoTracks first.0) is.begins (ap (λ k. begin_up_to start.most None (segment_at start.base false k) (parts_text is.parts ++ is.rest)) (sym counted) ∙ first.1))

-- ---- a file wherever its Tracks stand

pub again_complete : (file : List ℕ) (head : Head) (frames : List (List ℕ)) (is : SegmentFile file head frames) → file_again_read file ≡ Ok ((head, frames), is.rest)
unfolding file_again_read again_read file_read
again_complete file head frames is = elim (placed is.parts is.track is.first) [
  | inl late ↦
      (let first = late_opened file head frames is late in
      ap (λ z. read_on (opened_again file z) opened_on) first.1 ∙ late_complete file head frames is)
  | inr h ↦
      (let one = placed_before file head frames is h in
      let rest : List ℕ → Result F Stop = λ z. Ok ((head, frames), z) in
      same_again file ((head, frames), is.rest) (open_read file) (file_complete file head frames one.0 ∙ ap rest one.1))
]
  where
    same_again : (file : List ℕ) (w : F) (z : Result (Opened × List ℕ) Stop) → read_on z opened_on ≡ Ok w → read_on (opened_again file z) opened_on ≡ Ok w
    same_again file w (Ok p) h = h
    same_again file w (Err why) h = absurd (err_is_no_ok why w h)

pub again_sound : (file : List ℕ) (head : Head) (frames : List (List ℕ)) (rest : List ℕ) → file_again_read file ≡ Ok ((head, frames), rest) → (is : SegmentFile file head frames) × (is.rest ≡ rest)
unfolding file_again_read again_read file_read
again_sound file head frames rest h = on_open (open_read file) refl h
  where
    w : F
    w = ((head, frames), rest)

    on_track : (z : Result (Track × List ℕ) Stop) → track_read file ≡ z → read_on (opened_with file z) opened_on ≡ Ok ((head, frames), rest) → (is : SegmentFile file head frames) × (is.rest ≡ rest)
    on_track (Ok p) is h = late_sound file p.0 p.1 head frames rest is h
    on_track (Err why) is h = absurd (err_is_no_ok why ((head, frames), rest) h)

    on_open : (z : Result (Opened × List ℕ) Stop) → open_read file ≡ z → read_on (opened_again file z) opened_on ≡ Ok ((head, frames), rest) → (is : SegmentFile file head frames) × (is.rest ≡ rest)
    on_open (Ok p) is h =
        let one = file_sound file head frames rest (ap (λ z. read_on z opened_on) is ∙ h) in
        let all = before_segment file head frames one.0 in
        (all.0, all.1 ∙ one.1)
    on_open (Err (Short want)) is h = absurd (err_is_no_ok (Short want) ((head, frames), rest) h)
    on_open (Err (Met fault.NoTracks left)) is h = on_track (track_read file) refl h
    on_open (Err (Met f left)) is h = absurd (err_is_no_ok (Met f left) ((head, frames), rest) h)

pub again_only : (file : List ℕ) (head other : Head) (frames others : List (List ℕ)) → SegmentFile file head frames → SegmentFile file other others → (head ≡ other) × (frames ≡ others)
again_only file head other frames others is also =
    let same = ok_is ((head, frames), is.rest) ((other, others), also.rest) (sym (again_complete file head frames is) ∙ again_complete file other others also) in
    (ap (λ (z : F). z.0.0) same, ap (λ (z : F). z.0.1) same)

-- ---- where the first Tracks stand

frames_append : (ps qs : List Part) → parts_frames (ps ++ qs) ≡ parts_frames ps ++ parts_frames qs
frames_append [] qs = refl
frames_append (p ∷ ps) qs = ap (λ z. part_frames p ++ z) (frames_append ps qs) ∙ sym (append_assoc (part_frames p) (parts_frames ps) (parts_frames qs))

-- the first Tracks behind parts that are none
first_there : (ps : List Part) (t : TopLevel) (qs : List Part) (track : Track) → HaveNoTracks ps → number_of t.ident ≡ tracks → FirstTracks (ps ++ (Top t ∷ qs)) track → IsTracks t track
first_there [] t qs track none same (inl is) = is
first_there [] t qs track none same (inr (other, more)) = absurd (other same)
first_there (Top p ∷ ps) t qs track none same (inl is) = absurd (none.0 is.is)
first_there (Top p ∷ ps) t qs track none same (inr (other, more)) = first_there ps t qs track none.1 same more
first_there (Sized ident size pieces ∷ ps) t qs track none same first = first_there ps t qs track none same first
first_there (Unsized ident size pieces ∷ ps) t qs track none same first = first_there ps t qs track none same first

none_append : (ps qs : List Part) → HaveNoTracks ps → HaveNoTracks qs → HaveNoTracks (ps ++ qs)
none_append [] qs none more = more
none_append (Top t ∷ ps) qs none more = (none.0, none_append ps qs none.1 more)
none_append (Sized ident size pieces ∷ ps) qs none more = none_append ps qs none more
none_append (Unsized ident size pieces ∷ ps) qs none more = none_append ps qs none more

one_track : (t : TopLevel) (a b : Track) → IsTracks t a → IsTracks t b → a ≡ b
one_track t a b one two = let same : ◌≡◌ {A = Result Track FileFault} (Ok a) (Ok b) = sym one.says ∙ two.says in cc

pub moved_same : (file other : List ℕ) (head also : Head) (frames others : List (List ℕ)) (is : SegmentFile file head frames) (moved : SegmentFile other also others) (before between after : List Part) (t : TopLevel) →
    is.parts ≡ before ++ (Top t ∷ (between ++ after)) → moved.parts ≡ before ++ (between ++ (Top t ∷ after)) → number_of t.ident ≡ tracks → HaveNoTracks before → HaveNoTracks between → (head ≡ also) × (frames ≡ others)
moved_same file other head also frames others is moved before between after t here there same none more =
    let P : List Part → Type 0 = λ z. FirstTracks z is.track in
    let Q : List Part → Type 0 = λ z. FirstTracks z moved.track in
    let regrouped : before ++ (between ++ (Top t ∷ after)) ≡ (before ++ between) ++ (Top t ∷ after) = sym (append_assoc before between (Top t ∷ after)) in
    let one = first_there before t (between ++ after) is.track none same (subst P here is.first) in
    let two = first_there (before ++ between) t after moved.track (none_append before between none more) same (subst Q (there ∙ regrouped) moved.first) in
    let track = one_track t is.track moved.track one two in
    let left : parts_frames is.parts ≡ parts_frames before ++ (parts_frames between ++ parts_frames after) =
    ap parts_frames here ∙ frames_append before (Top t ∷ (between ++ after)) ∙ ap (λ z. parts_frames before ++ z) (frames_append between after) in
    let right : parts_frames moved.parts ≡ parts_frames before ++ (parts_frames between ++ parts_frames after) =
    ap parts_frames there ∙ frames_append before (between ++ (Top t ∷ after)) ∙ ap (λ z. parts_frames before ++ z) (frames_append between (Top t ∷ after)) in
    (sym is.head_is ∙ ap (λ (z : Track). z.head) track ∙ moved.head_is, sym is.frames_are ∙ left ∙ sym right ∙ moved.frames_are)

-- ---- a file that is read once

pub once_again : (text : List ℕ) (z : Result (Opened × List ℕ) Stop) → open_read text ≡ z → again_read text ≡ opened_again text z
unfolding again_read
once_again text z is = ap (opened_again text) is

pub other_fault : (text rest : List ℕ) (f : FileFault) → (f ≡ fault.NoTracks → ⊥) → opened_again text (Err (Met f rest)) ≡ Err (Met f rest)
other_fault text rest fault.NoTracks other = absurd (other refl)
other_fault text rest f other = refl

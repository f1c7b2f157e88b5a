-- What is read is a file by its elements.
use Rattle.std.proofs.Common.{◌≡◌, ◌≤◌, ◌<◌, ◌+◌, ◌==◌, ◌||◌, ◌∙◌, ◌++◌, ◌∷◌, [], ℕ, suc, zero, List, Bool, true, false, nat_lt, Option, Some, None, Result, Ok, Err, inl, inr, length, refl, sym, ap, subst, arith, append_assoc, length-append}
use Rattle.std.proofs.lemmas.Bool.{eqb-false, eqb-true, ltb-false}
use Rattle.ffv1_reads.specs.Head.{Head, limit}
use Rattle.ffv1_reads.specs.declared.fault.FileFault.{FileFault}
use Rattle.ffv1_reads.specs.declared.fault.FileFault.TheVariants as fault
use Rattle.ffv1_reads.specs.Reads.{Kept, Met, Reading, Stop, given, passed, read_on, wanted, ◌>>=◌}
use Rattle.ffv1_reads.proofs.Results.{ok_is, read_on_ok}
use Rattle.ffv1_reads.proofs.WantedBytes.{passed_sound, wanted_sound}
use Rattle.ffv1_ebml.specs.Contents.{content_told}
use Rattle.ffv1_ebml.specs.Elements.{content_passed}
use Rattle.ffv1_ebml.specs.Spelled.{SaysSize}
use Rattle.ffv1_ebml.specs.declared.element.Element.{Element}
use Rattle.ffv1_ebml.specs.declared.sum.Sum.{Sum}
use Rattle.ffv1_ebml.specs.declared.sum.Sum.TheVariants.{Absent}
use Rattle.ffv1_matroska.specs.Elements.{AreTopLevel, IsTopLevel, TopLevel, parts_text, top_text, tops_text}
use Rattle.ffv1_matroska.specs.Files.{frames_read}
use Rattle.ffv1_matroska.specs.MatroskaFiles.{AreBefore, FileBegins, IsTracks, MatroskaFile, SegmentEnds, endless}
use Rattle.ffv1_matroska.specs.Opened.{Opened, begin_read, begin_up_to, begun_at, ebml_read, element_or_begun, element_passed, file_read, open_read, segment_opened, told, tracks, tracks_read}
use Rattle.ffv1_matroska.specs.Opening.{content_kept, most_elements, segment_begun, segment_entered}
use Rattle.ffv1_matroska.specs.Places.{segment_at}
use Rattle.ffv1_matroska.specs.Segments.{cluster, header_read, is_filler, is_section}
use Rattle.ffv1_matroska.specs.Tracks.{Track, track_in}
use Rattle.ffv1_matroska.specs.declared.place.Place.{Place}
use Rattle.ffv1_matroska.proofs.FileLaws.{HasEnded, opened_frames}
use Rattle.ffv1_matroska.proofs.HeaderLaws.{HasHeader}
use Rattle.ffv1_matroska.proofs.OpenedLaws.{begun_frames, begun_same}
use Rattle.ffv1_matroska.proofs.ReadHeads.{ebml_sound, entered_sound}
use Rattle.ffv1_matroska.proofs.ReadParts.{HasTail, segment_sound, tail_of}
use Rattle.ffv1_matroska.proofs.ReadSegments.{content_passed_sound, headed_sound}
use Rattle.ffv1_matroska.proofs.StepBounds.{err_is_no_ok}

abbrev F : Type 0
F = (Head × List (List ℕ)) × List ℕ

-- what comes before the frames in a Segment, and the frames
pub record HasBefore (base : Place) (n : ℕ) (text : List ℕ) (w : F) : Type 0 where
  pub before : List TopLevel
  pub tracks : TopLevel
  pub track : Track
  pub are : AreTopLevel before
  pub first : AreBefore before
  pub is : IsTracks tracks track
  pub more : List ℕ
  pub text_is : text ≡ tops_text before ++ (top_text tracks ++ more)
  pub left : ℕ
  pub fits : length (tops_text before) + (length (top_text tracks) + left) ≡ n
  pub head_is : track.head ≡ w.0.0
  pub read : frames_read track.numbers (segment_at base false left) more ≡ Ok (w.0.1, w.1)

abbrev BeforeAgain : Place → ℕ → ℕ → Type 0
BeforeAgain base n most = (m : ℕ) (more : List ℕ) (w : F) → m < n → read_on (begin_up_to most None (segment_at base false m) more) begun_frames ≡ Ok w → HasBefore base m more w

-- the first Tracks
tracks_sound : (base : Place) (n : ℕ) (text : List ℕ) (w : F) (e : Element) (s : Sum) (more : List ℕ) (h : HasHeader n Absent text (e, s) more) (size : Option ℕ) (most : ℕ) → e.size ≡ size → e.ident ≡ tracks → n < suc most →
    read_on (read_on (read_on (tracks_read size more) (λ track. given (Some track))) (λ now. begin_up_to most now (segment_at base false e.left))) begun_frames ≡ Ok w → HasBefore base n text w
unfolding tracks_read content_kept
tracks_sound base n text w e s more h None most z is fits read = absurd (err_is_no_ok (Met fault.BadElement more) w read)
tracks_sound base n text w e s more h (Some k) most z is fits read = on_limit (nat_lt limit k) refl read
  where
    head : List ℕ
    head = h.ident ++ h.size

    rest_read : Option Track → Reading (Head × List (List ℕ))
    rest_read now = begin_up_to most now (segment_at base false e.left) >>= begun_frames

    on_told : (bytes rest : List ℕ) → length bytes ≡ k → k ≤ limit → more ≡ bytes ++ rest → (r : Result Track FileFault) → track_in bytes ≡ r → read_on (read_on (read_on (told r rest) (λ track. given (Some track))) (λ now. begin_up_to most now (segment_at base false e.left))) begun_frames ≡ Ok w → HasBefore base n text w
    on_told bytes rest long short whole (Err f) t r = absurd (err_is_no_ok (Met f rest) w r)
    on_told bytes rest long short whole (Ok track) t r =
        let fit : length head + (k + e.left) ≡ n = rw z at h.left_is in
        let says : SaysSize h.size (Some k) = rw z at h.is.sized in
        let some : 1 ≤ length head = omega (arith, h.is.named.0, length-append h.ident h.size) in
        let there : TopLevel = record { ident = h.ident; size = h.size; content = bytes } in
        let same = begun_same most track base e.left rest (omega (arith, fit, some, fits)) in
        let first = read_on_ok (frames_read track.numbers (segment_at base false e.left) rest) (λ frames. given (track.head, frames)) w (sym same ∙ r) in
        let end = ok_is ((track.head, first.0.0), first.0.1) w first.2 in
        let answer : F → Result (List (List ℕ) × List ℕ) Stop = λ v. Ok (v.0.1, v.1) in
        record {
          before = [];
          tracks = there;
          track = track;
          are = tt;
          first = tt;
          is = record { named = h.is.named; few = h.is.few; is = h.number ∙ is; sized = rw long says; short = rw long short; says = t };
          more = rest;
          text_is = h.text_is ∙ ap (λ z. head ++ z) whole ∙ sym (append_assoc head bytes rest);
          left = e.left;
          fits = omega (arith, fit, long, length-append head bytes);
          head_is = ap (λ (v : F). v.0.0) end;
          read = first.1 ∙ ap answer end;
        }

    on_limit : (b : Bool) → nat_lt limit k ≡ b → read_on (read_on (read_on (tracks_read (Some k) more) (λ track. given (Some track))) (λ now. begin_up_to most now (segment_at base false e.left))) begun_frames ≡ Ok w → HasBefore base n text w
    on_limit true t r = absurd (err_is_no_ok (Met fault.ChunkTooLong more) w (rw t at r))
    on_limit false t r = on_kept (wanted Kept k more) refl (rw t at r)
      where
        on_kept : (z : Result (List ℕ × List ℕ) Stop) → wanted Kept k more ≡ z → read_on (read_on (read_on (read_on z (λ content. told (track_in content))) (λ track. given (Some track))) (λ now. begin_up_to most now (segment_at base false e.left))) begun_frames ≡ Ok w → HasBefore base n text w
        on_kept (Err why) same r = absurd (err_is_no_ok why w r)
        on_kept (Ok (bytes, rest)) same r =
            let parts = wanted_sound Kept k more (bytes, rest) same in
            on_told bytes rest parts.1 (ltb-false _ _ t) parts.0 (track_in bytes) refl r

-- an element without frames before the first Tracks
add_before : (base : Place) (n : ℕ) (text : List ℕ) (w : F) (e : Element) (s : Sum) (more : List ℕ) (h : HasHeader n Absent text (e, s) more) (k most : ℕ) → e.size ≡ Some k → (e.ident ≡ tracks → ⊥) → BeforeAgain base n most →
    (bytes rest : List ℕ) → more ≡ bytes ++ rest → length bytes ≡ k → (is_section e.ident || is_filler e.ident) ≡ true → (is_section e.ident ≡ true → content_told bytes ≡ Ok tt) → read_on (begin_up_to most None (segment_at base false e.left) rest) begun_frames ≡ Ok w → HasBefore base n text w
add_before base n text w e s more h k most z other again bytes rest whole long known told read =
    let head = h.ident ++ h.size in
    let t : TopLevel = record { ident = h.ident; size = h.size; content = bytes } in
    let fit : length head + (k + e.left) ≡ n = rw z at h.left_is in
    let says : SaysSize h.size (Some k) = rw z at h.is.sized in
    let sized : SaysSize h.size (Some (length bytes)) = rw long says in
    let some : 1 ≤ length head = omega (arith, h.is.named.0, length-append h.ident h.size) in
    let is : IsTopLevel t = record { named = h.is.named; few = h.is.few; sized = sized; known = rw h.number known; told = λ sec. told (ap is_section (sym h.number) ∙ sec) } in
    let next = again e.left rest w (omega (arith, fit, some)) read in
    let back = top_text next.tracks ++ next.more in
    record {
      before = t ∷ next.before;
      tracks = next.tracks;
      track = next.track;
      are = (is, next.are);
      first = ((λ same. other (sym h.number ∙ same)), next.first);
      is = next.is;
      more = next.more;
      text_is = h.text_is ∙ ap (λ z. head ++ z) (whole ∙ ap (λ z. bytes ++ z) next.text_is) ∙ regrouped head bytes (tops_text next.before) back;
      left = next.left;
      fits = omega (arith, fit, long, next.fits, length-append head bytes, length-append (head ++ bytes) (tops_text next.before));
      head_is = next.head_is;
      read = next.read;
    }
  where
    regrouped : (a b c d : List ℕ) → a ++ (b ++ (c ++ d)) ≡ ((a ++ b) ++ c) ++ d
    regrouped a b c d = simp append_assoc

other_before : (base : Place) (n : ℕ) (text : List ℕ) (w : F) (e : Element) (s : Sum) (more : List ℕ) (h : HasHeader n Absent text (e, s) more) (size : Option ℕ) (most : ℕ) → e.size ≡ size → (e.ident ≡ tracks → ⊥) → BeforeAgain base n most →
    read_on (read_on (read_on (element_passed e.ident size more) (λ _. given None)) (λ now. begin_up_to most now (segment_at base false e.left))) begun_frames ≡ Ok w → HasBefore base n text w
unfolding element_passed
other_before base n text w e s more h None most z other again read = absurd (err_is_no_ok (Met fault.BadElement more) w read)
other_before base n text w e s more h (Some k) most z other again read = on_tests (is_section e.ident) (is_filler e.ident) refl refl read
  where
    after : Result (Unit {0} × List ℕ) Stop → Result F Stop
    after r = read_on (read_on (read_on r (λ _. given None)) (λ now. begin_up_to most now (segment_at base false e.left))) begun_frames

    on_content : is_section e.ident ≡ true → (r : Result (Unit {0} × List ℕ) Stop) → content_passed k more ≡ r → after r ≡ Ok w → HasBefore base n text w
    on_content p (Err why) same h' = absurd (err_is_no_ok why w h')
    on_content p (Ok (u, rest)) same h' =
        let c = content_passed_sound k more (u, rest) same in
        add_before base n text w e s more h k most z other again c.bytes rest c.text_is c.long (rw p refl) (λ _. c.told) h'

    on_filler : is_section e.ident ≡ false → is_filler e.ident ≡ true → (r : Result (Unit {0} × List ℕ) Stop) → passed k more ≡ r → after r ≡ Ok w → HasBefore base n text w
    on_filler p q (Err why) same h' = absurd (err_is_no_ok why w h')
    on_filler p q (Ok (u, rest)) same h' =
        let gone = passed_sound k more (u, rest) same in
        add_before base n text w e s more h k most z other again gone.0 rest gone.1 gone.2 (rw (p, q) refl) (λ sec. absurd (cc (sym p ∙ sec))) h'

    on_tests : (a b : Bool) → is_section e.ident ≡ a → is_filler e.ident ≡ b → after (element_passed e.ident (Some k) more) ≡ Ok w → HasBefore base n text w
    on_tests true b p q r = on_content p (content_passed k more) refl (rw p at r)
    on_tests false true p q r = on_filler p q (passed k more) refl (rw (p, q) at r)
    on_tests false false p q r = absurd (err_is_no_ok (Met fault.BadElement more) w (rw (p, q) at r))

pub before_sound : (most : ℕ) (base : Place) (n : ℕ) (text : List ℕ) (w : F) → n < most → read_on (begin_up_to most None (segment_at base false n) text) begun_frames ≡ Ok w → HasBefore base n text w
unfolding begin_up_to begun_at
before_sound zero base n text w fits read = absurd (omega (arith, fits))
before_sound (suc most) base n text w fits read = on_header (λ m more v less r. before_sound most base m more v (omega (arith, less, fits)) r) (header_read (segment_at base false n) text) refl read
  where
    place : Place
    place = segment_at base false n

    on_ident : BeforeAgain base n most → (e : Element) (rest : List ℕ) → (s : Sum) → HasHeader n Absent text (e, s) rest → (a b : Bool) → (e.ident == cluster) ≡ a → (e.ident == tracks) ≡ b → read_on (element_or_begun (begin_up_to most) None place (Some e) rest) begun_frames ≡ Ok w → HasBefore base n text w
    on_ident again e rest s h true b p q r = absurd (err_is_no_ok (Met fault.NoTracks rest) w (rw p at r))
    on_ident again e rest s h false true p q r = tracks_sound base n text w e s rest h e.size most refl (eqb-true _ _ q) fits (rw (p, q) at r)
    on_ident again e rest s h false false p q r = other_before base n text w e s rest h e.size most refl (eqb-false _ _ q) again (rw (p, q) at r)

    on_header : BeforeAgain base n most → (z : Result (Option Element × List ℕ) Stop) → header_read place text ≡ z → read_on (read_on z (element_or_begun (begin_up_to most) None place)) begun_frames ≡ Ok w → HasBefore base n text w
    on_header again (Err why) is r = absurd (err_is_no_ok why w r)
    on_header again (Ok (None, rest)) is r = absurd (err_is_no_ok (Met fault.NoTracks rest) w r)
    on_header again (Ok (Some e, rest)) is r =
        let head = headed_sound base false n text (Some e) rest is in
        on_ident again e rest head.0 head.1 (e.ident == cluster) (e.ident == tracks) refl refl r

-- a file up to the content of its Segment
record HasBegun (file : List ℕ) (w : F) : Type 0 where
  size : Option ℕ
  content : List ℕ
  begins : FileBegins file size content
  read : read_on (begin_read (segment_begun size) content) begun_frames ≡ Ok w

begins_sound : (file : List ℕ) (w : F) → file_read file ≡ Ok w → HasBegun file w
unfolding file_read open_read segment_entered
begins_sound file w h =
    let first = read_on_ok (open_read file) (λ (o : Opened). frames_read o.track.numbers o.place >>= λ frames. given (o.track.head, frames)) w h in
    let second = read_on_ok (ebml_read file) (λ _. segment_entered >>= segment_opened) first.0 first.1 in
    let top = ebml_sound file second.0 second.1 in
    let third = read_on_ok (segment_entered second.0.1) segment_opened first.0 second.2 in
    let entered = entered_sound most_elements second.0.1 third.0 third.1 in
    let content = third.0.1 in
    let known = third.0.0 in
    record {
      size = known;
      content = content;
      begins = record {
        ebml_ident = top.ident;
        ebml_size = top.size;
        header = top.header;
        voids = entered.voids;
        segment_ident = entered.ident;
        segment_size = entered.size;
        bytes = top.text_is ∙ ap (λ z. (top.ident ++ top.size) ++ (top.header ++ z)) entered.text_is;
        ebml_is = top.is;
        ebml_sized = top.says;
        short = top.short;
        of_matroska = top.good;
        voids_are = entered.are;
        few = entered.few;
        segment_is = entered.is;
        sized = entered.says;
      };
      read = sym (opened_frames known (begin_read (segment_begun known) content)) ∙ ap (λ z. read_on z (λ (o : Opened). (frames_read o.track.numbers o.place >>= λ frames. given (o.track.head, frames)))) third.2 ∙ first.2;
    }

-- the whole of a file
record HasAll (base : Place) (n : ℕ) (content : List ℕ) (w : F) : Type 0 where
  before : HasBefore base n content w
  tail : HasTail before.track.numbers base before.left before.more (w.0.1, w.1)

all_sound : (base : Place) (n most : ℕ) (content : List ℕ) (w : F) → n < most → read_on (begin_up_to most None (segment_at base false n) content) begun_frames ≡ Ok w → HasAll base n content w
all_sound base n most content w fits read =
    let b = before_sound most base n content w fits read in
    let s = segment_sound (suc b.left) b.track.numbers base false b.left b.more (w.0.1, w.1) (omega arith) b.read in
    record { before = b; tail = tail_of b.track.numbers base b.left b.more (w.0.1, w.1) s }

pub file_sound : (file : List ℕ) (head : Head) (frames : List (List ℕ)) (rest : List ℕ) → file_read file ≡ Ok ((head, frames), rest) → (is : MatroskaFile file head frames) × (is.rest ≡ rest)
file_sound file head frames rest h = on_size begun.size begun.content begun.begins begun.read
  where
    w : F
    w = ((head, frames), rest)

    begun : HasBegun file w
    begun = begins_sound file w h

    built : (size : Option ℕ) (content : List ℕ) (base : Place) (n : ℕ) → FileBegins file size content → (a : HasAll base n content w) →
        SegmentEnds size (length (tops_text a.before.before ++ (top_text a.before.tracks ++ parts_text a.tail.parts))) rest → (is : MatroskaFile file head frames) × (is.rest ≡ rest)
    built size content base n begins a ends =
        let b = a.before in
        let whole : content ≡ tops_text b.before ++ (top_text b.tracks ++ (parts_text a.tail.parts ++ rest)) = b.text_is ∙ ap (λ z. tops_text b.before ++ (top_text b.tracks ++ z)) a.tail.text_is in
        let P : List ℕ → Type 0 = λ z. FileBegins file size z in (
          record {
            size = size;
            before = b.before;
            tracks = b.tracks;
            track = b.track;
            parts = a.tail.parts;
            rest = rest;
            begins = subst P whole begins;
            ends = ends;
            before_are = b.are;
            first = b.first;
            tracks_is = b.is;
            head_is = b.head_is;
            parts_are = a.tail.are;
            frames_are = sym a.tail.all;
          },
          refl,
        )

    long : (base : Place) (n : ℕ) (content : List ℕ) (a : HasAll base n content w) → length (tops_text a.before.before ++ (top_text a.before.tracks ++ parts_text a.tail.parts)) + a.tail.left ≡ n
    long base n content a = omega (arith, a.before.fits, a.tail.fits, length-append (tops_text a.before.before) (top_text a.before.tracks ++ parts_text a.tail.parts), length-append (top_text a.before.tracks) (parts_text a.tail.parts))

    sized : (n m k : ℕ) → k + m ≡ n → HasEnded (segment_begun (Some n)) m rest → n ≡ k
    sized n m k whole (inl none) = omega (arith, whole, none)
    sized n m k whole (inr (some, over, e)) = absurd (cc e)

    unsized : (n m k : ℕ) → k + m ≡ n → n ≡ endless → HasEnded (segment_begun None) m rest → SegmentEnds None k rest
    unsized n m k whole full (inl none) = inl (omega (arith, whole, none, full))
    unsized n m k whole full (inr (some, over, e)) = inr (omega (arith, whole, some, full), over)

    on_size : (size : Option ℕ) (content : List ℕ) → FileBegins file size content → read_on (begin_read (segment_begun size) content) begun_frames ≡ Ok w → (is : MatroskaFile file head frames) × (is.rest ≡ rest)
    on_size (Some n) content begins read =
        let a = all_sound (segment_begun (Some n)) n _ content w (omega arith) read in
        built (Some n) content (segment_begun (Some n)) n begins a (sized n a.tail.left _ (long (segment_begun (Some n)) n content a) a.tail.ended)
    on_size None content begins read =
        let a = all_sound (segment_begun None) endless _ content w (omega arith) read in
        built None content (segment_begun None) endless begins a (unsized endless a.tail.left _ (long (segment_begun None) endless content a) refl a.tail.ended)

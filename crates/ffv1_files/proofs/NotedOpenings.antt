-- What is noted of a file where it was opened, by what a reader knows of it.
use Rattle.std.proofs.Common.{◌≡◌, ◌≤◌, ◌+◌, ◌-◌, ◌^◌, min, ℕ, Bool, true, false, Option, Some, None, Ok, List, [], length, refl, sym, ap, ◌∙◌, subst, arith, inl, inr}
use Rattle.std.proofs.lemmas.List.{length-append}
use Rattle.ffv1_reads.specs.Ends.{ReadOrNone}
use Rattle.ffv1_reads.specs.Head.{Head}
use Rattle.ffv1_reads.specs.Known.{Known}
use Rattle.ffv1_reads.specs.Offsets.{ReadsWhole, all_bytes, offset_after}
use Rattle.ffv1_reads.specs.Reads.{Reading, given, read_on, ◌>>=◌}
use Rattle.ffv1_reads.proofs.OffsetLaws.{reads_none}
use Rattle.ffv1_reads.proofs.Results.{ok_is, read_on_ok}
use Rattle.ffv1_avi.specs.Files as avi
use Rattle.ffv1_avi.specs.Places.{extent_of}
use Rattle.ffv1_avi.specs.declared.place.Extent.{Extent}
use Rattle.ffv1_avi.specs.declared.place.Extent.TheVariants.{FirstMovi, EveryRiff}
use Rattle.ffv1_avi.specs.declared.place.Place.{Place as AviPlace}
use Rattle.ffv1_avi.proofs.OpenLaws.{opened_extent}
use Rattle.ffv1_matroska.specs.Cues.{cued_taken}
use Rattle.ffv1_matroska.specs.Offsets.{BeforeFrames, InSegment, Start, element_taken, spot_taken}
use Rattle.ffv1_matroska.specs.Opening.{segment_begun}
use Rattle.ffv1_matroska.specs.Late.{again_read}
use Rattle.ffv1_matroska.specs.Opened.{Opened}
use Rattle.ffv1_matroska.specs.Places.{amount}
use Rattle.ffv1_matroska.specs.Segments.{header_read}
use Rattle.ffv1_matroska.specs.Tracks.{Track}
use Rattle.ffv1_matroska.specs.declared.place.Place.{Place as MatroskaPlace}
use Rattle.ffv1_matroska.specs.declared.track.TrackNumbers.{TrackNumbers}
use Rattle.ffv1_matroska.proofs.ReadSegments.{headed_sound}
use Rattle.ffv1_files.specs.Behind.{EndsThere, ends_there}
use Rattle.ffv1_files.specs.Files.{avi_opened, frames_read, is_matroska, matroska_begun, matroska_opened, open_read}
use Rattle.ffv1_files.specs.Noted.{NotesReached, SegmentRead, StreamsReached, TimesBegin, bytes_before, frames_reached, notes_reached}
use Rattle.ffv1_files.specs.Offsets.{EndsEarly, EndsKnown, Layout, MatroskaReached, PlaceReached, Reached, ReadsKnown, ReadsThrough}
use Rattle.ffv1_files.specs.Places.{InAvi, InMatroska, Place, least_bytes, least_in}
use Rattle.ffv1_files.specs.Readers.{Standing, opened_at}
use Rattle.ffv1_files.specs.declared.container.Scope.{Scope}
use Rattle.ffv1_files.specs.declared.container.Scope.TheVariants as scope
use Rattle.ffv1_files.proofs.Answering.{none_known}
use Rattle.ffv1_files.proofs.NotedTimes.{opens_timed}

-- an offset is what comes before what is left
pub whole_counts : {S : Type 0} {element : S → Reading S} {from to : S} {count : ℕ} (file left : List ℕ) → ReadsWhole element from (Some file) (Some left) to count → length file ≡ count + length left
whole_counts file left h = ap length h.consumed ∙ omega (arith, length-append (all_bytes h.elements) left, h.counted)

abbrev pub Counted : List ℕ → List ℕ → ℕ → Type 0
Counted file left offset = (n : ℕ) × (length file ≡ n + length left) × (offset ≡ offset_after 0 n)

pub counted_before : (file left : List ℕ) (offset : ℕ) → Counted file left offset → offset ≡ bytes_before file left
counted_before file left offset (n, long, is) = all (length file) (length left) (2 ^ 64 - 1) long is
  where
    all : (f l most : ℕ) → f ≡ n + l → offset ≡ min (0 + n) most → offset ≡ min (0 + (f - l)) most
    all f l most long is = grind (arith, long, is)

pub through_counts : {S T : Type 0} {layout : Layout S T} {place : T} {offset : ℕ} (file left : List ℕ) → ReadsThrough layout (Some file) (Some left) place offset → Counted file left offset
through_counts {layout = layout} {place = place} {offset = offset} file left h = on_between h.between h.opened h.framed
  where
    on_between : (between : Option (List ℕ)) → ReadsWhole layout.opening layout.start (Some file) between (layout.begun h.first) h.before → ReadsWhole layout.frames h.first between (Some left) place h.after → Counted file left offset
    on_between None opened framed = absurd opened.consumed
    on_between (Some mid) opened framed =
        let one = whole_counts file mid opened in
        let two = whole_counts mid left framed in
        (h.before + h.after, omega (arith, one, two), h.offset_is)

-- of a Segment, which may have ended before any Cluster
pub header_over : (place : MatroskaPlace) (text rest : List ℕ) → header_read place text ≡ Ok (None, rest) → text ≡ rest
unfolding header_read
header_over place text rest h = (headed_sound place false place.segment text None rest h).0

early_counts : (file left : List ℕ) (track : Track) (offset : ℕ) → EndsEarly (Some file) (Some left) track offset → Counted file left offset
early_counts file left track offset (count, ends, is) = on_between ends.between ends.before ends.none
  where
    on_between : (between : Option (List ℕ)) → ReadsWhole spot_taken Start (Some file) between (InSegment (Some track) ends.here) count → ReadOrNone (header_read ends.here) between (Some left) None → Counted file left offset
    on_between None before none = absurd before.consumed
    on_between (Some mid) before none =
        let over = header_over ends.here mid left (none_known (header_read ends.here) (record { old = Some mid; new = Some left; before = 0; after = 0 }) None none) in
        (count, whole_counts file mid before ∙ ap (λ (z : List ℕ). count + length z) over, is)

-- of a file that was begun again
known_counts : (file left : List ℕ) (track : Track) (place : MatroskaPlace) (offset : ℕ) → ReadsKnown (Some file) (Some left) track place offset → Counted file left offset
known_counts file left track place offset h = on_between h.between h.begun h.entered h.opened h.framed
  where
    on_between : (between begun : Option (List ℕ)) → ReadsWhole spot_taken Start (Some file) between (InSegment None (segment_begun h.size)) h.before → ReadsWhole spot_taken (InSegment (Some h.known) (segment_begun h.size)) between begun (BeforeFrames track h.first) h.count →
        ReadsWhole (element_taken track.numbers) h.first begun (Some left) place h.after → Counted file left offset
    on_between None begun entered opened framed = absurd entered.consumed
    on_between (Some mid) None entered opened framed = absurd opened.consumed
    on_between (Some mid) (Some near) entered opened framed =
        let one = whole_counts file mid entered in
        let two = whole_counts mid near opened in
        let three = whole_counts near left framed in
        (h.before + (h.count + h.after), omega (arith, one, two, three), h.offset_is)

ends_counts : (file left : List ℕ) (track : Track) (offset : ℕ) → EndsKnown (Some file) (Some left) track offset → Counted file left offset
ends_counts file left track offset h = on_between h.between h.goes.1.between h.entered h.goes.1.before h.goes.1.none
  where
    on_between : (between near : Option (List ℕ)) → ReadsWhole spot_taken Start (Some file) between (InSegment None (segment_begun h.size)) h.before → ReadsWhole spot_taken (InSegment (Some h.goes.0) (segment_begun h.size)) between near (InSegment (Some track) h.goes.1.here) h.after →
        ReadOrNone (header_read h.goes.1.here) near (Some left) None → Counted file left offset
    on_between None near entered before none = absurd entered.consumed
    on_between (Some mid) None entered before none = absurd before.consumed
    on_between (Some mid) (Some near) entered before none =
        let over = header_over h.goes.1.here near left (none_known (header_read h.goes.1.here) (record { old = Some near; new = Some left; before = 0; after = 0 }) None none) in
        let one = whole_counts file mid entered in
        let two = whole_counts mid near before in
        let same = ap (λ (z : List ℕ). length z) over in
        (h.before + h.after, omega (arith, one, two, same), h.offset_is)

matroska_counts : (file left : List ℕ) (numbers : TrackNumbers) (place : MatroskaPlace) (offset : ℕ) → MatroskaReached (Some file) (Some left) numbers place offset → Counted file left offset
matroska_counts file left numbers place offset (inl h) = through_counts file left h.1
matroska_counts file left numbers place offset (inr (inl h)) = early_counts file left (record { numbers = numbers; head = h.1 }) offset h.2
matroska_counts file left numbers place offset (inr (inr (inl (head, h)))) = known_counts file left (record { numbers = numbers; head = head }) place offset h
matroska_counts file left numbers place offset (inr (inr (inr (is, head, h)))) = ends_counts file left (record { numbers = numbers; head = head }) offset h

-- where a file was opened
module _ (file left : List ℕ) (end offset : ℕ) (cued : Bool) (after : Option ℕ) (open_ended : Bool) (uncued : cued ≡ false) (untold : after ≡ None) (shut : open_ended ≡ false) where
  avi_extent : (extent : Extent) (head : Head) (place : AviPlace) → avi_opened extent file ≡ Ok ((head, InAvi place), left) → extent_of place ≡ extent
  avi_extent extent head place h =
      let first = read_on_ok (avi.open_read extent file) (λ p. given (p.0, InAvi p.1)) ((head, InAvi place), left) h in
      let same : InAvi first.0.0.1 ≡ InAvi place = ap (λ (z : (Head × Place) × List ℕ). z.0.1) (ok_is ((first.0.0.0, InAvi first.0.0.1), first.0.1) ((head, InAvi place), left) first.2) in
      let there : first.0.0.1 ≡ place = ap (in_place place) same in
      ap (λ (z : AviPlace). extent_of z) (sym there) ∙ opened_extent extent file first.0.0 first.0.1 first.1
    where
      in_place : AviPlace → Place → AviPlace
      in_place other (InAvi p) = p
      in_place other (InMatroska segment track p) = other

  segment_opened : (head : Head) (segment : Option ℕ) (track : TrackNumbers) (place : MatroskaPlace) → matroska_opened file ≡ Ok ((head, InMatroska segment track place), left) → MatroskaReached (Some file) (Some left) track place offset → end ≡ offset_after offset (amount place) →
      notes_reached scope.Whole (InMatroska segment track place) end cued after open_ended file left
  segment_opened head segment track place h reached there =
      let first = read_on_ok (again_read file) matroska_begun ((head, InMatroska segment track place), left) h in
      let o : Opened = first.0.0 in
      let all = ok_is ((o.track.head, InMatroska o.segment o.track.numbers o.place), first.0.1) ((head, InMatroska segment track place), left) first.2 in
      let same : InMatroska o.segment o.track.numbers o.place ≡ InMatroska segment track place = ap (λ (z : (Head × Place) × List ℕ). z.0.1) all in
      let rest : first.0.1 ≡ left = ap (λ (z : (Head × Place) × List ℕ). z.1) all in
      let P : Place → Type 0 = λ z. notes_reached scope.Whole z end cued after open_ended file left in
      let Q : Place → Type 0 = λ z. ends_there z offset end in
      let here : end ≡ offset_after offset (amount o.place) = subst Q (sym same) there in
      let counts : Counted file left offset = matroska_counts file left track place offset reached in
      let before : offset ≡ bytes_before file left = counted_before file left offset counts in
      let none = subst (λ c. ReadsWhole (cued_taken o.track.numbers) (o.place, false) (Some left) (Some left) (o.place, c) 0) (sym uncued) (reads_none (cued_taken o.track.numbers) (o.place, false) (Some left)) in
      let read : SegmentRead file left o o.place cued = record { begun = left; count = 0; opens = first.1 ∙ ap (λ z. Ok (o, z)) rest; elements = none } in
      subst P same (
        o,
        refl,
        refl,
        record {
          read = read;
          fits = omega (arith, counts.1);
          end_is = here ∙ ap (λ n. offset_after n (amount o.place)) before;
        },
      )

  opened_at_once : (s : Scope) (head : Head) (place : Place) → open_read s file ≡ Ok ((head, place), left) → PlaceReached s (Some file) (Some left) head place offset → ends_there place offset end → notes_reached s place end cued after open_ended file left
  unfolding open_read
  opened_at_once scope.FirstMovi head (InAvi place) h reached there = (avi_extent FirstMovi head place h, untold, shut)
  opened_at_once scope.FirstMovi head (InMatroska segment track place) h reached there = absurd reached
  opened_at_once scope.Whole head (InAvi place) h reached there = on_first (is_matroska file) refl
    where
      on_first : (b : Bool) → is_matroska file ≡ b → extent_of place ≡ EveryRiff
      on_first false is = avi_extent EveryRiff head place (rw is at h)
      on_first true is = absurd (no_avi (rw is at h))
        where
          no_avi : matroska_opened file ≡ Ok ((head, InAvi place), left) → ⊥
          no_avi k =
              let first = read_on_ok (again_read file) matroska_begun ((head, InAvi place), left) k in
              let o : Opened = first.0.0 in
              let same : InMatroska o.segment o.track.numbers o.place ≡ InAvi place = ap (λ (z : (Head × Place) × List ℕ). z.0.1) (ok_is ((o.track.head, InMatroska o.segment o.track.numbers o.place), first.0.1) ((head, InAvi place), left) first.2) in
              cc
  opened_at_once scope.Whole head (InMatroska segment track place) h reached there = on_first (is_matroska file) refl
    where
      on_first : (b : Bool) → is_matroska file ≡ b → notes_reached scope.Whole (InMatroska segment track place) end cued after open_ended file left
      on_first true is = segment_opened head segment track place (rw is at h) reached there
      on_first false is = absurd (no_segment (rw is at h))
        where
          no_segment : avi_opened EveryRiff file ≡ Ok ((head, InMatroska segment track place), left) → ⊥
          no_segment k =
              let first = read_on_ok (avi.open_read EveryRiff file) (λ p. given (p.0, InAvi p.1)) ((head, InMatroska segment track place), left) k in
              let same : InAvi first.0.0.1 ≡ InMatroska segment track place = ap (λ (z : (Head × Place) × List ℕ). z.0.1) (ok_is ((first.0.0.0, InAvi first.0.0.1), first.0.1) ((head, InMatroska segment track place), left) first.2) in
              cc

-- no frame comes before
opened_frames : (s : Scope) (file left : List ℕ) (head : Head) (place : Place) (repeated : ℕ) → open_read s file ≡ Ok ((head, place), left) → least_in s ≤ least_bytes place → repeated ≡ 0 → frames_reached s head place repeated file left
unfolding frames_read
opened_frames scope.FirstMovi file left head place repeated is least none = (least, none)
opened_frames scope.Whole file left head (InMatroska segment track place) repeated is least none = tt
opened_frames scope.Whole file left head (InAvi place) repeated is least none = (
  [],
  λ more rest reads.
      ap (λ z. read_on z (λ p. frames_read p.1 >>= λ frames. given (p.0, frames))) is
      ∙ ap (λ z. read_on z (λ frames. given (head, frames))) reads,
  omega (arith, none),
)

pub opens_noted : (s : Scope) (text left : Option (List ℕ)) (r : Standing) → Known text left (λ file rest. open_read s file ≡ Ok (opened_at r, rest)) → Reached s text left r → EndsThere r → r.cued ≡ false → r.after ≡ None → r.open_ended ≡ false → least_in s ≤ least_bytes r.place → r.repeated ≡ 0 → StreamsReached s text left r → TimesBegin text left r → NotesReached s text left r
opens_noted s None left r h reached there uncued untold shut least none streams times = record { known = tt; frames = tt; streams = tt; times = tt }
opens_noted s (Some file) None r h reached there uncued untold shut least none streams times = absurd h
opens_noted s (Some file) (Some left) r h reached there uncued untold shut least none streams times = record {
  streams = streams;
  times = opens_timed s file left r.head r.place r.times h times;
  known = opened_at_once file left r.end r.offset r.cued r.after r.open_ended uncued untold shut s r.head r.place h reached.whole there;
  frames = opened_frames s file left r.head r.place r.repeated h least none;
}

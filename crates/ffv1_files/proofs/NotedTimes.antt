-- When frames of a Segment come, by the bytes of its file.
use Rattle.std.proofs.Common.{◌≡◌, ◌⊎◌, ◌+◌, ◌∙◌, ℕ, Bool, true, false, Option, Some, None, Ok, List, inl, refl, sym, ap, subst}
use Rattle.ffv1_wire.specs.Reads.{GivesByte}
use Rattle.ffv1_reads.specs.Ends.{ReadOrNone}
use Rattle.ffv1_reads.specs.First.{bytes_with}
use Rattle.ffv1_reads.specs.Head.{Head}
use Rattle.ffv1_reads.specs.Known.{Known}
use Rattle.ffv1_reads.specs.Offsets.{ReadsWhole}
use Rattle.ffv1_reads.specs.Reads.{given}
use Rattle.ffv1_reads.proofs.OffsetLaws.{reads_none, reads_then}
use Rattle.ffv1_reads.proofs.Results.{ok_is, read_on_ok}
use Rattle.ffv1_avi.specs.Files as avi
use Rattle.ffv1_avi.specs.declared.place.Extent.TheVariants.{EveryRiff}
use Rattle.ffv1_avi.specs.declared.place.Place.{Place as AviPlace}
use Rattle.ffv1_matroska.specs.Late.{again_read}
use Rattle.ffv1_matroska.specs.Offsets.{element_taken}
use Rattle.ffv1_matroska.specs.Opened.{Opened}
use Rattle.ffv1_matroska.specs.Readers as matroska_reader
use Rattle.ffv1_matroska.specs.Scales.{tick_in}
use Rattle.ffv1_matroska.specs.Segments.{header_read, segment_read, step_read}
use Rattle.ffv1_matroska.specs.Times.{timed_behind, timed_taken, times_begun}
use Rattle.ffv1_matroska.specs.Tracks.{Track}
use Rattle.ffv1_matroska.specs.declared.place.Place.{Place as MatroskaPlace}
use Rattle.ffv1_matroska.specs.declared.times.Times.{Times}
use Rattle.ffv1_matroska.specs.declared.track.TrackNumbers.{TrackNumbers}
use Rattle.ffv1_matroska.proofs.LastSteps.{IsLast, last_nothing, step_last}
use Rattle.ffv1_files.specs.Files.{avi_opened, is_matroska, matroska_begun, matroska_opened, open_read}
use Rattle.ffv1_files.specs.Noted.{TimesEnd, TimesRead, begins_timed, times_reached}
use Rattle.ffv1_files.specs.Places.{InAvi, InMatroska, Place}
use Rattle.ffv1_files.specs.declared.container.Scope.{Scope}
use Rattle.ffv1_files.specs.declared.container.Scope.TheVariants as scope
use Rattle.ffv1_files.proofs.Answering.{known_map, none_known}
use Rattle.ffv1_files.proofs.FirstByte.{known_first}
use Rattle.ffv1_files.proofs.NotedOnce.{reads_once}

-- a Segment of which the first byte was looked at
pub segment_begins : (first : Option ℕ) (old mid new : Option (List ℕ)) (times : Times) → GivesByte old mid first → Known (bytes_with first mid) new (λ text rest. times ≡ times_begun (tick_in text)) → Known old new (λ file rest. times ≡ times_begun (tick_in file))
segment_begins first old mid new times gives h = known_map old new _ (λ file rest. times ≡ times_begun (tick_in file)) (λ text rest is. is.1) (known_first first old mid new (λ text rest. times ≡ times_begun (tick_in text)) gives h)

-- of an AVI nothing is said
pub lists_begin : (old new : Option (List ℕ)) (P : List ℕ → List ℕ → Type 0) (place : AviPlace) (times : Times) → Known old new P → Known old new (λ file rest. begins_timed (InAvi place) times file)
lists_begin old new P place times h = known_map old new P (λ file rest. begins_timed (InAvi place) times file) (λ file rest is. tt) h

-- where it was opened
segment_opens : (file left : List ℕ) (head : Head) (segment : Option ℕ) (track : TrackNumbers) (place : MatroskaPlace) (times : Times) → matroska_opened file ≡ Ok ((head, InMatroska segment track place), left) → times ≡ times_begun (tick_in file) → TimesRead file left track place times
segment_opens file left head segment track place times h is =
    let first = read_on_ok (again_read file) matroska_begun ((head, InMatroska segment track place), left) h in
    let o : Opened = first.0.0 in
    let all = ok_is ((o.track.head, InMatroska o.segment o.track.numbers o.place), first.0.1) ((head, InMatroska segment track place), left) first.2 in
    let same : InMatroska o.segment o.track.numbers o.place ≡ InMatroska segment track place = ap (λ (z : (Head × Place) × List ℕ). z.0.1) all in
    let rest : first.0.1 ≡ left = ap (λ (z : (Head × Place) × List ℕ). z.1) all in
    let P : Place → Type 0 = λ z. times_reached scope.Whole z times file left in
    let none : ReadsWhole (timed_taken o.track.numbers) (o.place, times_begun (tick_in file)) (Some left) (Some left) (o.place, times) 0 = subst (λ t. ReadsWhole (timed_taken o.track.numbers) (o.place, t) (Some left) (Some left) (o.place, times) 0) is (reads_none (timed_taken o.track.numbers) (o.place, times) (Some left)) in
    subst P same (record { opened = o; begun = left; count = 0; opens = first.1 ∙ ap (λ z. Ok (o, z)) rest; numbers = refl; elements = none })

pub opens_timed : (s : Scope) (file left : List ℕ) (head : Head) (place : Place) (times : Times) → open_read s file ≡ Ok ((head, place), left) → begins_timed place times file → times_reached s place times file left
unfolding open_read
opens_timed scope.FirstMovi file left head place times h is = tt
opens_timed scope.Whole file left head (InAvi place) times h is = tt
opens_timed scope.Whole file left head (InMatroska segment track place) times h is = on_first (is_matroska file) refl
  where
    on_first : (b : Bool) → is_matroska file ≡ b → TimesRead file left track place times
    on_first true first = segment_opens file left head segment track place times (rw first at h) is
    on_first false first = absurd (no_segment (rw first at h))
      where
        no_segment : avi_opened EveryRiff file ≡ Ok ((head, InMatroska segment track place), left) → ⊥
        no_segment k =
            let first = read_on_ok (avi.open_read EveryRiff file) (λ p. given (p.0, InAvi p.1)) ((head, InMatroska segment track place), left) k in
            let same : InAvi first.0.0.1 ≡ InMatroska segment track place = ap (λ (z : (Head × Place) × List ℕ). z.0.1) (ok_is ((first.0.0.0, InAvi first.0.0.1), first.0.1) ((head, InMatroska segment track place), left) first.2) in
            cc

-- after a frame
abbrev place_of : matroska_reader.Standing → Place
place_of r = InMatroska r.segment r.track.numbers r.place

read_on_times : (file a b : List ℕ) (track numbers : TrackNumbers) (place to : MatroskaPlace) (times then : Times) (count : ℕ) → numbers ≡ track → TimesRead file a track place times → ReadsWhole (timed_taken track) (place, times) (Some a) (Some b) (to, then) count → TimesRead file b numbers to then
read_on_times file a b track numbers place to times then count same h whole =
    subst (λ (t : TrackNumbers). TimesRead file b t to then) (sym same) (record { opened = h.opened; begun = h.begun; count = h.count + count; opens = h.opens; numbers = h.numbers; elements = reads_then h.elements whole })

pub times_go : (s : Scope) (text old new : Option (List ℕ)) (from to : matroska_reader.Standing) (count : ℕ) → to.track ≡ from.track → ReadsWhole (timed_taken from.track.numbers) (from.place, from.times) old new (to.place, to.times) count → Known text old (times_reached s (place_of from) from.times) → Known text new (times_reached s (place_of to) to.times)
times_go s None old new from to count track whole h = tt
times_go s (Some file) None new from to count track whole h = absurd h
times_go s (Some file) (Some a) None from to count track whole h = absurd whole.consumed
times_go scope.FirstMovi (Some file) (Some a) (Some b) from to count track whole h = tt
times_go scope.Whole (Some file) (Some a) (Some b) from to count track whole h = read_on_times file a b from.track.numbers to.track.numbers from.place to.place from.times to.times count (ap (λ (t : Track). t.numbers) track) h whole

-- of an AVI
pub times_lists : (s : Scope) (text old new : Option (List ℕ)) (Q : List ℕ → List ℕ → Type 0) (from to : AviPlace) (times : Times) → Known old new Q → Known text old (times_reached s (InAvi from) times) → Known text new (times_reached s (InAvi to) times)
times_lists s None old new Q from to times goes h = tt
times_lists s (Some file) None new Q from to times goes h = absurd h
times_lists s (Some file) (Some a) None Q from to times goes h = absurd goes
times_lists scope.FirstMovi (Some file) (Some a) (Some b) Q from to times goes h = tt
times_lists scope.Whole (Some file) (Some a) (Some b) Q from to times goes h = tt

-- at the end
pub times_end : (file a b : List ℕ) (track : TrackNumbers) (place to : MatroskaPlace) (times then : Times) (between : Option (List ℕ)) (count : ℕ) → TimesRead file a track place times → ReadsWhole (timed_taken track) (place, times) (Some a) between (to, then) count → ReadOrNone (step_read track to) between (Some b) None → TimesEnd file then
times_end file a b track place to times then None count h whole none = absurd whole.consumed
times_end file a b track place to times then (Some mid) count h whole none =
    let over = none_known (step_read track to) (record { old = Some mid; new = Some b; before = 0; after = 0 }) None none in
    let nothing = last_nothing to mid b (step_last track to mid b over) in
    record { track = track; to = to; behind = mid; read = read_on_times file a mid track track place to times then count refl h whole; over = over ∙ ap (λ z. Ok (None, z)) (sym nothing) }

-- ---- they are told by the bytes of the file

abbrev Last : MatroskaPlace × Times → List ℕ → Type 0
Last s text = IsLast s.0 text text

abbrev Nowhere : MatroskaPlace × Times → Type 0
Nowhere s = ⊥

last_stops : (track : TrackNumbers) (s next : MatroskaPlace × Times) (text more : List ℕ) → Last s text → timed_taken track s text ≡ Ok (next, more) → ((next ≡ s) × (more ≡ text)) ⊎ Nowhere next
unfolding timed_taken timed_behind element_taken step_read segment_read header_read
last_stops track s next text more h read =
    let there : timed_taken track s text ≡ Ok (s, text) = rw (h.group, h.cluster, h.header) refl in
    let both = ok_is (s, text) (next, more) (sym there ∙ read) in
    inl (sym (ap (λ (z : (MatroskaPlace × Times) × List ℕ). z.0) both), sym (ap (λ (z : (MatroskaPlace × Times) × List ℕ). z.1) both))

pub times_once : (file : List ℕ) (times others : Times) → TimesEnd file times → TimesEnd file others → times ≡ others
times_once file times others h k =
    let opens = ok_is (h.read.opened, h.read.begun) (k.read.opened, k.read.begun) (sym h.read.opens ∙ k.read.opens) in
    let opened : h.read.opened ≡ k.read.opened = ap (λ (z : Opened × List ℕ). z.0) opens in
    let begun : h.read.begun ≡ k.read.begun = ap (λ (z : Opened × List ℕ). z.1) opens in
    let track : k.track ≡ h.track = sym k.read.numbers ∙ ap (λ (o : Opened). o.track.numbers) (sym opened) ∙ h.read.numbers in
    let there = step_last h.track h.to h.behind h.behind h.over in
    let here = step_last k.track k.to k.behind k.behind k.over in
    let moved : ReadsWhole (timed_taken h.track) (h.read.opened.place, times_begun (tick_in file)) (Some h.read.begun) (Some k.behind) (k.to, others) k.read.count =
    subst (λ (t : TrackNumbers). ReadsWhole (timed_taken t) (h.read.opened.place, times_begun (tick_in file)) (Some h.read.begun) (Some k.behind) (k.to, others) k.read.count) track
    (rw (opened, begun) k.read.elements) in
    let end = reads_once (timed_taken h.track) Last Nowhere (last_stops h.track) (λ s next text more dead is. absurd dead) (λ s text dead is. absurd dead) h.read.begun h.behind k.behind h.read.elements there moved here in
    ap (λ (z : MatroskaPlace × Times). z.1) end.0

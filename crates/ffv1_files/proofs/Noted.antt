-- What is noted of a file, by what a reader knows of it.
use Rattle.std.proofs.Common.{◌≡◌, ◌≤◌, ◌+◌, ◌-◌, ◌^◌, ◌++◌, ◌==◌, suc, min, ℕ, Bool, true, false, Option, Some, None, Result, Ok, Err, IfOk, List, [], ◌∷◌, length, refl, sym, ap, ◌∙◌, subst, arith, inl, inr, append_assoc, append-nil}
use Rattle.std.proofs.lemmas.Bool.{ne_eqb}
use Rattle.std.proofs.lemmas.List.{length-append}
use Rattle.ffv1_wire.specs.Passage.{Passage}
use Rattle.ffv1_reads.specs.Ends.{ReadOrNone}
use Rattle.ffv1_reads.specs.Head.{Head}
use Rattle.ffv1_reads.specs.Known.{Known}
use Rattle.ffv1_reads.specs.Offsets.{ReadsWhole, offset_after}
use Rattle.ffv1_reads.specs.Reads.{given, read_on}
use Rattle.ffv1_reads.specs.declared.fault.FileFault.{FileFault}
use Rattle.ffv1_reads.proofs.OffsetLaws.{reads_then}
use Rattle.ffv1_reads.proofs.Results.{ok_is}
use Rattle.ffv1_avi.specs.Behind.{BehindEnd, EndsOpen, IsOver, OpenEnd, OverAt, StandAfter}
use Rattle.ffv1_avi.specs.Behind as avi_behind
use Rattle.ffv1_avi.specs.Files as avi
use Rattle.ffv1_avi.specs.Extents.{AnswersFrom}
use Rattle.ffv1_avi.specs.Files.{others_read, riff_begun}
use Rattle.ffv1_avi.specs.Names as names
use Rattle.ffv1_avi.specs.Offsets.{ReadsUpTo}
use Rattle.ffv1_avi.specs.Opens.{open_found}
use Rattle.ffv1_avi.specs.Places.{extent_of, is_open}
use Rattle.ffv1_avi.specs.Readers as avi_reader
use Rattle.ffv1_avi.specs.Readers.{with_repeated}
use Rattle.ffv1_avi.specs.declared.place.Extent.{Extent}
use Rattle.ffv1_avi.specs.declared.place.Extent.TheVariants.{FirstMovi, EveryRiff}
use Rattle.ffv1_avi.specs.declared.place.Open.{Open}
use Rattle.ffv1_avi.specs.declared.place.Open.TheVariants.{Sized, OpenRiff, OpenMovi}
use Rattle.ffv1_avi.specs.declared.place.Place.{Place as AviPlace}
use Rattle.ffv1_avi.proofs.FrameTurns.{frames_step}
use Rattle.ffv1_matroska.specs.Cues.{CuedNext, cued_taken}
use Rattle.ffv1_matroska.specs.Opened.{Opened}
use Rattle.ffv1_matroska.specs.Places.{amount}
use Rattle.ffv1_matroska.specs.Readers as matroska_reader
use Rattle.ffv1_matroska.specs.Readers.{segment_behind}
use Rattle.ffv1_matroska.specs.Segments.{step_read}
use Rattle.ffv1_matroska.specs.Tracks.{Track}
use Rattle.ffv1_matroska.specs.declared.place.Place.{Place as MatroskaPlace}
use Rattle.ffv1_matroska.specs.declared.track.TrackNumbers.{TrackNumbers}
use Rattle.ffv1_matroska.proofs.LastSteps.{IsLast, again_sized, last_nothing, read_to_end, step_last}
use Rattle.ffv1_files.specs.Answers.{FileAnswers}
use Rattle.ffv1_files.specs.Behind.{any_value, notes_of, notes_told}
use Rattle.ffv1_files.specs.Files.{file_read, frames_read}
use Rattle.ffv1_files.specs.Noted.{FramesBefore, IsNotedOf, NotedOf, NotesEnd, NotesNext, NotesReached, RiffsEnd, SegmentRead, SegmentReached, bytes_before, frames_reached, notes_reached, repeated_in, repeats, stands_after, streams_reached}
use Rattle.ffv1_files.specs.Offsets.{AviReached, Reached}
use Rattle.ffv1_files.specs.Places.{InAvi, InMatroska, least_bytes}
use Rattle.ffv1_files.specs.Readers.{Standing}
use Rattle.ffv1_files.specs.declared.container.Scope.{Scope}
use Rattle.ffv1_files.specs.declared.container.Scope.TheVariants as scope
use Rattle.ffv1_files.specs.declared.notes.Notes.{Notes}
use Rattle.ffv1_files.proofs.Answering.{known_map, none_known}
use Rattle.ffv1_files.proofs.Locations.{counts_on, in_avi, in_matroska, through_on}
use Rattle.ffv1_files.proofs.Nexts.{by_reads}
use Rattle.ffv1_files.proofs.NotedOpenings.{counted_before, through_counts, whole_counts}
use Rattle.ffv1_files.proofs.NotedTimes.{times_end, times_go, times_lists}
use Rattle.ffv1_matroska.specs.Times.{TimedAfter, timed_taken, times_begun}

-- what is known from one position to the next, and from there on
known_then : (text old new : Option (List ℕ)) (P Q R : List ℕ → List ℕ → Type 0) → ((file a b : List ℕ) → P file a → Q a b → R file b) → Known text old P → Known old new Q → Known text new R
known_then None old new P Q R f h k = tt
known_then (Some file) None new P Q R f h k = absurd h
known_then (Some file) (Some a) None P Q R f h k = absurd k
known_then (Some file) (Some a) (Some b) P Q R f h k = f file a b h k

abbrev Goes : Option (List ℕ) → Option (List ℕ) → Type 0
Goes old new = Known old new (λ a b. Unit {0})

-- notes that are read at the end are those of the file
pub noted_answer : (s : Scope) (text : Option (List ℕ)) (r : Standing) (p : Passage) (result : Result Notes FileFault) → FileAnswers any_value (λ (n : Notes). n) (notes_of r) p result → NotesEnd s text p.old r → IfOk result (NotedOf s text p.new)
noted_answer s text r p (Ok notes) h e = known_then text p.old p.new (λ file behind. (n : Notes) (rest : List ℕ) → notes_of r behind ≡ Ok (n, rest) → IsNotedOf s file rest n) (λ a b. notes_of r a ≡ Ok (notes, b)) (λ file rest. IsNotedOf s file rest notes) (λ file a b all is. all notes b is) e.known h.1
noted_answer s text r p (Err f) h e = tt

-- ---- how many frames have no bytes

-- one more
repeats_empty : (before : List (List ℕ)) → repeats (before ++ ([] ∷ [])) ≡ suc (repeats before)
repeats_empty [] = refl
repeats_empty ([] ∷ frames) = ap suc (repeats_empty frames)
repeats_empty ((b ∷ bs) ∷ frames) = repeats_empty frames

repeats_some : (before : List (List ℕ)) (c : ℕ) (cs : List ℕ) → repeats (before ++ ((c ∷ cs) ∷ [])) ≡ repeats before
repeats_some [] c cs = refl
repeats_some ([] ∷ frames) c cs = ap suc (repeats_some frames c cs)
repeats_some ((b ∷ bs) ∷ frames) c cs = repeats_some frames c cs

capped_more : (n m most : ℕ) → m ≡ suc n → min (min n most + 1) most ≡ min m most
capped_more n m most h = omega (arith, h)

-- a frame that has bytes is not counted
some_bytes : (b : ℕ) (bs : List ℕ) (n : ℕ) → with_repeated (b ∷ bs) n ≡ n
some_bytes b bs n = let some : (length (b ∷ bs) == 0) ≡ false = ne_eqb _ _ (λ z. omega (arith, z)) in rw some refl

with_one : (before : List (List ℕ)) (bytes : List ℕ) → with_repeated bytes (repeated_in before) ≡ repeated_in (before ++ (bytes ∷ []))
with_one before [] = capped_more (repeats before) (repeats (before ++ ([] ∷ []))) (2 ^ 64 - 1) (repeats_empty before)
with_one before (b ∷ bs) = some_bytes b bs (repeated_in before) ∙ ap (λ n. min n (2 ^ 64 - 1)) (sym (repeats_some before b bs))

not_repeated : (bytes : List ℕ) (n : ℕ) → 1 ≤ length bytes → with_repeated bytes n ≡ n
not_repeated [] n some = absurd (omega (arith, some))
not_repeated (b ∷ bs) n some = some_bytes b bs n

-- the frames from a place on are the next one and those after it
goes_on : (place to : AviPlace) (bytes a b : List ℕ) (more : List (List ℕ)) (rest : List ℕ) → avi.frame_read place a ≡ Ok (Some (bytes, to), b) → avi.frames_read to b ≡ Ok (more, rest) → avi.frames_read place a ≡ Ok (bytes ∷ more, rest)
goes_on place to bytes a b more rest is reads =
    frames_step place a ∙ ap (λ z. read_on z (avi.more_frames avi.frames_read)) is ∙ ap (λ z. read_on z (λ frames. given (bytes ∷ frames))) reads

goes_no_more : (place : AviPlace) (a b : List ℕ) → avi.frame_read place a ≡ Ok (None, b) → avi.frames_read place a ≡ Ok ([], b)
goes_no_more place a b is = frames_step place a ∙ ap (λ z. read_on z (avi.more_frames avi.frames_read)) is

turned : (file a b : List ℕ) (head next : Head) (place to : AviPlace) (bytes : List ℕ) (before : List (List ℕ)) → next ≡ head → FramesBefore file a head place before → avi.frame_read place a ≡ Ok (Some (bytes, to), b) → FramesBefore file b next to (before ++ (bytes ∷ []))
turned file a b head next place to bytes before same leads is = λ more rest reads.
    leads (bytes ∷ more) rest (goes_on place to bytes a b more rest is reads)
    ∙ ap (λ (z : Head). Ok ((z, before ++ (bytes ∷ more)), rest)) (sym same)
    ∙ ap (λ (z : List (List ℕ)). Ok ((next, z), rest)) (sym (append_assoc before (bytes ∷ []) more))

avi_frames : (s : Scope) (text old new : Option (List ℕ)) (from to : avi_reader.Standing) (bytes : List ℕ) → Known old new (λ a b. avi.frame_read from.place a ≡ Ok (Some (bytes, to.place), b)) → to.head ≡ from.head → names.least_bytes from.place.names ≤ names.least_bytes to.place.names → names.least_bytes from.place.names ≤ length bytes →
    to.repeated ≡ with_repeated bytes from.repeated → Known text old (frames_reached s from.head (InAvi from.place) from.repeated) → Known text new (frames_reached s to.head (InAvi to.place) to.repeated)
avi_frames s text old new from to bytes reads head least sized counted h = known_then text old new (frames_reached s from.head (InAvi from.place) from.repeated) (λ a b. avi.frame_read from.place a ≡ Ok (Some (bytes, to.place), b)) (frames_reached s to.head (InAvi to.place) to.repeated) (on s) h reads
  where
    on : (s : Scope) (file a b : List ℕ) → frames_reached s from.head (InAvi from.place) from.repeated file a → avi.frame_read from.place a ≡ Ok (Some (bytes, to.place), b) → frames_reached s to.head (InAvi to.place) to.repeated file b
    on scope.FirstMovi file a b (some, none) is = (omega (arith, some, least), counted ∙ not_repeated bytes from.repeated (omega (arith, some, sized)) ∙ none)
    on scope.Whole file a b (before, leads, are) is = (before ++ (bytes ∷ []), turned file a b from.head to.head from.place to.place bytes before head leads is, counted ∙ ap (with_repeated bytes) are ∙ with_one before bytes)

-- all frames of an AVI, and how many of them have no bytes
pub record AllFrames (file rest : List ℕ) (head : Head) (repeated : ℕ) : Type 0 where
  pub frames : List (List ℕ)
  pub gives : file_read scope.Whole file ≡ Ok ((head, frames), rest)
  pub counted : repeated ≡ repeated_in frames

all_frames : (file a b : List ℕ) (head : Head) (place : AviPlace) (repeated : ℕ) → avi.frame_read place a ≡ Ok (None, b) → frames_reached scope.Whole head (InAvi place) repeated file a → AllFrames file b head repeated
all_frames file a b head place repeated is (before, leads, are) = record {
  frames = before;
  gives = leads [] b (goes_no_more place a b is) ∙ ap (λ (z : List (List ℕ)). Ok ((head, z), b)) (append-nil before);
  counted = are;
}

-- after a frame of an AVI
avi_goes : (s : Scope) (text old new : Option (List ℕ)) (from to : avi_reader.Standing) → Goes old new → extent_of to.place ≡ extent_of from.place → to.after ≡ from.after → to.open_ended ≡ from.open_ended → NotesReached s text old (in_avi from) → Known text new (notes_reached s (InAvi to.place) 0 false to.after to.open_ended)
avi_goes s text old new from to goes same kept shut h = known_then text old new (notes_reached s (InAvi from.place) 0 false from.after from.open_ended) (λ a b. Unit {0}) (notes_reached s (InAvi to.place) 0 false to.after to.open_ended) (on s) h.known goes
  where
    on : (s : Scope) (file a b : List ℕ) → notes_reached s (InAvi from.place) 0 false from.after from.open_ended file a → Unit {0} → notes_reached s (InAvi to.place) 0 false to.after to.open_ended file b
    on scope.FirstMovi file a b (e, none, never) u = (same ∙ e, kept ∙ none, shut ∙ never)
    on scope.Whole file a b e u = same ∙ e

-- what an AVI tells
abbrev avi_notes : Bool → ℕ → ℕ → Option ℕ → Notes
avi_notes open_ended others repeated after = record { is_open = open_ended; others = others; times = None; repeated = repeated; after = after }

avi_told : (place : AviPlace) (after : Option ℕ) (repeated others : ℕ) (open_ended : Bool) (behind rest : List ℕ) (notes : Notes) → notes_told None (InAvi place) 0 false after repeated others open_ended behind ≡ Ok (notes, rest) → (notes ≡ avi_notes open_ended others repeated after) × (rest ≡ behind)
unfolding notes_told
avi_told place after repeated others open_ended behind rest notes h =
    let told : Notes = avi_notes open_ended others repeated after in
    let both = ok_is (told, behind) (notes, rest) h in
    (sym (ap (λ (z : Notes × List ℕ). z.0) both), sym (ap (λ (z : Notes × List ℕ). z.1) both))

told_after : (file behind rest : List ℕ) (end : ℕ) (after : Option ℕ) → end ≡ bytes_before file behind → StandAfter (Some behind) (Some rest) end after → after ≡ stands_after file behind
told_after file behind rest end None is (same, over) = nothing behind (same ∙ over)
  where
    nothing : (bs : List ℕ) → bs ≡ [] → None ≡ stands_after file bs
    nothing [] none = refl
    nothing (b ∷ bs) none = absurd (cc)
told_after file behind rest end (Some n) is (same, (bytes, some, taken)) = others behind taken (same ∙ is)
  where
    others : (bs : List ℕ) → bs ≡ bytes ++ rest → n ≡ bytes_before file bs → Some n ≡ stands_after file bs
    others [] none at = let long : 0 ≡ length bytes + length rest = ap length none ∙ length-append bytes rest in absurd (omega (arith, long, some))
    others (b ∷ bs) is at = ap Some at

-- where the frames end
over_known : (o : Open) (place : AviPlace) (behind b : List ℕ) → OverAt o place (Some behind) (Some b) → IsOver o place behind b
over_known Sized place behind b over = none_known (riff_begun place) (record { old = Some behind; new = Some b; before = 0; after = 0 }) None over
over_known OpenRiff place behind b over = none_known (open_found place) (record { old = Some behind; new = Some b; before = 0; after = 0 }) None over
over_known OpenMovi place behind b over = none_known (open_found place) (record { old = Some behind; new = Some b; before = 0; after = 0 }) None over

riffs_end : (file a b : List ℕ) (from : avi_reader.Standing) (after : Option ℕ) (repeated others : ℕ) (open_ended : Bool) (notes : Notes) → (begun : List ℕ) × (others_read EveryRiff file ≡ Ok (others, begun)) → AviReached EveryRiff (Some file) (Some a) from.head from.place from.offset → EndsOpen from.place (Some a) (Some b) from.offset after open_ended → AllFrames file b from.head repeated → notes ≡ avi_notes open_ended others repeated after → RiffsEnd file b notes
riffs_end file a b from after repeated others open_ended notes streams h (ends, shut) all are = on_between ends.between ends.chunks ends.over ends.told
  where
    on_between : (between : Option (List ℕ)) → ReadsUpTo from.place (Some a) between ends.to from.offset ends.end → OverAt ends.to.open_in ends.to between (Some b) → StandAfter between (Some b) ends.end after → RiffsEnd file b notes
    on_between None chunks over told = absurd chunks.1.consumed
    on_between (Some behind) (n, whole, counts) over told =
        let chunks : AviReached EveryRiff (Some file) (Some behind) from.head ends.to ends.end = through_on n h whole (counts_on h.before h.after n h.offset_is counts) in
        let where_from : after ≡ stands_after file behind = told_after file behind b ends.end after (counted_before file behind ends.end (through_counts file behind chunks)) told in
        record {
          head = from.head;
          to = ends.to;
          offset = ends.end;
          behind = behind;
          chunks = chunks;
          movi = ends.movi;
          riff = ends.riff;
          every = ends.every;
          over = over_known ends.to.open_in ends.to behind b over;
          frames = all.frames;
          gives = all.gives;
          others = others;
          begun = streams.0;
          counts = streams.1;
          notes_are = are ∙ ap (λ (o : Bool). avi_notes o others repeated after) shut ∙ ap (avi_notes (is_open ends.to.open_in) others repeated) where_from ∙ ap (λ (n : ℕ). avi_notes (is_open ends.to.open_in) others n (stands_after file behind)) all.counted;
        }

-- at the end of an AVI
avi_over : (s : Scope) (text old new : Option (List ℕ)) (before failed : ℕ) (from to : avi_reader.Standing) → Known old new (λ a b. avi.frame_read from.place a ≡ Ok (None, b)) → to.repeated ≡ from.repeated → to.others ≡ from.others → BehindEnd (extent_of from.place) from.place from.offset from.after (record { old = old; new = new; before = before; after = failed }) to.after → OpenEnd (extent_of from.place) from.place from.offset from.open_ended (record { old = old; new = new; before = before; after = failed }) to.after to.open_ended → Reached s text old (in_avi from) →
    NotesReached s text old (in_avi from) → NotesEnd s text new (in_avi to)
avi_over s None old new before failed from to goes counted streams ends opens reached h = record { known = tt }
avi_over s (Some file) None new before failed from to goes counted streams ends opens reached h = absurd h.known
avi_over s (Some file) (Some a) None before failed from to goes counted streams ends opens reached h = absurd goes
avi_over scope.FirstMovi (Some file) (Some a) (Some b) before failed from to goes counted streams ends opens reached h =
    let P : Extent → Type 0 = λ z. BehindEnd z from.place from.offset from.after (record { old = Some a; new = Some b; before = before; after = failed }) to.after in
    let none : to.after ≡ None = (subst P h.known.0 ends) h.known.1 in
    let Q : Extent → Type 0 = λ z. OpenEnd z from.place from.offset from.open_ended (record { old = Some a; new = Some b; before = before; after = failed }) to.after to.open_ended in
    let shut : to.open_ended ≡ false = (subst Q h.known.0 opens) h.known.2 in
    record {
      known = λ notes rest read.
          (avi_told to.place to.after to.repeated to.others to.open_ended b rest notes read).0 ∙ ap (λ (o : Bool). avi_notes o to.others to.repeated to.after) shut ∙ ap (avi_notes false to.others to.repeated) none
          ∙ ap (λ (n : ℕ). avi_notes false to.others n None) (counted ∙ h.frames.1) ∙ ap (λ (n : ℕ). avi_notes false n 0 None) (streams ∙ h.streams);
    }
avi_over scope.Whole (Some file) (Some a) (Some b) before failed from to goes counted streams ends opens reached h =
    let P : Extent → Type 0 = λ z. OpenEnd z from.place from.offset from.open_ended (record { old = Some a; new = Some b; before = before; after = failed }) to.after to.open_ended in
    let there : EndsOpen from.place (Some a) (Some b) from.offset to.after to.open_ended = subst P h.known opens in
    let all : AllFrames file b from.head from.repeated = all_frames file a b from.head from.place from.repeated goes h.frames in
    record {
      known = λ notes rest read.
          (let told = avi_told to.place to.after to.repeated to.others to.open_ended b rest notes read in
          inl (rw told.1 (riffs_end file a b from to.after from.repeated from.others to.open_ended notes h.streams reached.whole there all
          (told.0 ∙ ap (λ (n : ℕ). avi_notes to.open_ended to.others n to.after) counted ∙ ap (λ (n : ℕ). avi_notes to.open_ended n from.repeated to.after) streams))));
    }

-- how many further streams there are stays
streams_kept : (s : Scope) (text old new : Option (List ℕ)) (Q : List ℕ → List ℕ → Type 0) (from to : AviPlace) (before after : ℕ) → after ≡ before → Known old new Q → Known text old (λ file rest. streams_reached s (InAvi from) before file) → Known text new (λ file rest. streams_reached s (InAvi to) after file)
streams_kept s text old new Q from to before after same goes h = known_then text old new (λ file rest. streams_reached s (InAvi from) before file) Q (λ file rest. streams_reached s (InAvi to) after file) (λ file a b is go. on s file is) h goes
  where
    on : (s : Scope) (file : List ℕ) → streams_reached s (InAvi from) before file → streams_reached s (InAvi to) after file
    on scope.FirstMovi file is = same ∙ is
    on scope.Whole file (begun, is) = (begun, is ∙ ap (λ (n : ℕ). Ok (n, begun)) (sym same))

-- what a call for a frame of an AVI has read, and how large frames are
pub record AviCalled (from to : avi_reader.Standing) (bytes : List ℕ) (p : Passage) (r : Result Bool FileFault) : Type 0 where
  pub answer : AnswersFrom from.place (λ (more : Bool). avi_reader.next_of more bytes to.place) (avi.frame_read from.place) p r
  pub stands : avi_reader.StandsAfter from r to
  pub least : names.least_bytes from.place.names ≤ names.least_bytes to.place.names
  pub sized : IfOk r (λ more. more ≡ true → (names.least_bytes from.place.names ≤ length bytes) × (length bytes ≤ names.most_bytes from.place.names))
  pub counted : to.repeated ≡ avi_reader.repeated_after r bytes from.repeated
  pub streams : to.others ≡ from.others

pub avi_noted : (s : Scope) (text : Option (List ℕ)) (from to : avi_reader.Standing) (bytes : List ℕ) (p : Passage) (r : Result Bool FileFault) → AviCalled from to bytes p r → IfOk r (λ more. more ≡ true → extent_of to.place ≡ extent_of from.place) →
    avi_behind.BehindAfter from.place from.offset from.after p r to.after → avi_behind.OpenAfter from.place from.offset from.open_ended p r to.after to.open_ended → Reached s text p.old (in_avi from) → NotesReached s text p.old (in_avi from) → NotesNext s text p r (in_avi to)
avi_noted s text from to bytes p (Ok true) called same behind opens reached h =
    let reads = by_reads (avi.frame_read from.place) (λ (more : Bool). avi_reader.next_of more bytes to.place) p (extent_of from.place) true called.answer in
    record {
      known = avi_goes s text p.old p.new from to (known_map p.old p.new (λ a b. avi.frame_read from.place a ≡ Ok (Some (bytes, to.place), b)) (λ a b. Unit {0}) (λ a b is. tt) reads.1) (same refl) behind opens h;
      frames = avi_frames s text p.old p.new from to bytes reads.1 called.stands.2 called.least (called.sized refl).0 called.counted h.frames;
      streams = streams_kept s text p.old p.new (λ a b. avi.frame_read from.place a ≡ Ok (Some (bytes, to.place), b)) from.place to.place from.others to.others called.streams reads.1 h.streams;
      times = times_lists s text p.old p.new (λ a b. avi.frame_read from.place a ≡ Ok (Some (bytes, to.place), b)) from.place to.place (times_begun 0) reads.1 h.times;
    }
avi_noted s text from to bytes p (Ok false) called same behind opens reached h =
    let reads = by_reads (avi.frame_read from.place) (λ (more : Bool). avi_reader.next_of more bytes to.place) p (extent_of from.place) false called.answer in
    avi_over s text p.old p.new p.before p.after from to reads.1 called.counted called.streams behind opens reached h
avi_noted s text from to bytes p (Err f) called same behind opens reached h = tt

-- after a frame of a Segment
segment_goes : (s : Scope) (text old new : Option (List ℕ)) (from to : matroska_reader.Standing) (count : ℕ) → to.track ≡ from.track → to.segment ≡ from.segment → to.end ≡ from.end → ReadsWhole (cued_taken from.track.numbers) (from.place, from.cued) old new (to.place, to.cued) count →
    (n : ℕ) × ReadsWhole (timed_taken from.track.numbers) (from.place, from.times) old new (to.place, to.times) n → NotesReached s text old (in_matroska from) → NotesReached s text new (in_matroska to)
segment_goes s None old new from to count track segment same whole timed h = record { known = tt; frames = tt; streams = tt; times = tt }
segment_goes s (Some file) None new from to count track segment same whole timed h = absurd h.known
segment_goes s (Some file) (Some a) None from to count track segment same whole timed h = absurd whole.consumed
segment_goes scope.FirstMovi (Some file) (Some a) (Some b) from to count track segment same whole timed h = absurd h.known
segment_goes scope.Whole (Some file) (Some a) (Some b) from to count track segment same whole timed h =
    let opened : Opened = h.known.0 in
    let numbers : opened.track.numbers ≡ from.track.numbers = h.known.2 in
    let there : SegmentReached file a opened from.place from.cued from.end = h.known.3 in
    let more : ReadsWhole (cued_taken opened.track.numbers) (from.place, from.cued) (Some a) (Some b) (to.place, to.cued) count =
    subst (λ (t : TrackNumbers). ReadsWhole (cued_taken t) (from.place, from.cued) (Some a) (Some b) (to.place, to.cued) count) (sym numbers) whole in
    let read : SegmentRead file b opened to.place to.cued = record { begun = there.read.begun; count = there.read.count + count; opens = there.read.opens; elements = reads_then there.read.elements more } in
    record {
      known = (
        opened,
        h.known.1 ∙ sym segment,
        numbers ∙ ap (λ (t : Track). t.numbers) (sym track),
        record { read = read; fits = there.fits; end_is = same ∙ there.end_is },
      );
      frames = tt;
      streams = tt;
      times = times_go scope.Whole (Some file) (Some a) (Some b) from to timed.0 track timed.1 h.times;
    }

-- notes are read of a Segment by its size, and if that is known by where it ends
notes_same : (times : Option ℕ) (s : Option ℕ) (track numbers : TrackNumbers) (here there : MatroskaPlace) (end other : ℕ) (cued : Bool) (text : List ℕ) → track.others ≡ numbers.others → ((size : ℕ) → s ≡ Some size → end ≡ other) → notes_told times (InMatroska s track here) end cued None 0 0 false text ≡ notes_told times (InMatroska s numbers there) other cued None 0 0 false text
unfolding notes_told segment_behind
notes_same times None track numbers here there end other cued text others same = rw others refl
notes_same times (Some size) track numbers here there end other cued text others same = rw (others, same size refl) refl

-- which is after as many bytes as it has
ends_behind : (file begun left amount most : ℕ) → begun ≡ amount + left → begun ≤ file → min (min (0 + (file - begun)) most + amount) most ≡ min (0 + (file - left)) most
ends_behind file begun left amount most long fits = grind (arith, long, fits)

module _ (file mid b : List ℕ) (opened : Opened) (place : MatroskaPlace) (cued : Bool) (read : SegmentRead file mid opened place cued) (fits : length read.begun ≤ length file) (last : IsLast place mid b) where
  sized_end : (end size : ℕ) → end ≡ offset_after (bytes_before file read.begun) (amount opened.place) → opened.segment ≡ Some size → end ≡ bytes_before file mid
  sized_end end size is has =
      let sized = again_sized.only file read.begun opened read.opens size has in
      let all = read_to_end opened.track.numbers (opened.place, false) (place, cued) read.begun mid b read.count sized read.elements last in
      let long : length read.begun ≡ amount opened.place + length mid = whole_counts read.begun mid read.elements ∙ ap (λ n. n + length mid) all in
      is ∙ ends_behind (length file) (length read.begun) (length mid) (amount opened.place) (2 ^ 64 - 1) long fits

-- at the end of a Segment
segment_over : (s : Scope) (text old new : Option (List ℕ)) (from to : matroska_reader.Standing) (place : MatroskaPlace) (between : Option (List ℕ)) (count : ℕ) → to.track ≡ from.track → to.segment ≡ from.segment → to.end ≡ from.end →
    ReadsWhole (cued_taken from.track.numbers) (from.place, from.cued) old between (place, to.cued) count → ReadOrNone (step_read from.track.numbers place) between new None →
    (last : MatroskaPlace) (near : Option (List ℕ)) (n : ℕ) → ReadsWhole (timed_taken from.track.numbers) (from.place, from.times) old near (last, to.times) n → ReadOrNone (step_read from.track.numbers last) near new None → NotesReached s text old (in_matroska from) → NotesEnd s text new (in_matroska to)
segment_over s None old new from to place between count track segment same whole none last near n timed ended h = record { known = tt }
segment_over s (Some file) None new from to place between count track segment same whole none last near n timed ended h = absurd h.known
segment_over s (Some file) (Some a) new from to place None count track segment same whole none last near n timed ended h = absurd whole.consumed
segment_over scope.FirstMovi (Some file) (Some a) new from to place (Some mid) count track segment same whole none last near n timed ended h = absurd h.known
segment_over scope.Whole (Some file) (Some a) new from to place (Some mid) count track segment same whole none last near n timed ended h = record { known = on_new new (none_known (step_read from.track.numbers place) (record { old = Some mid; new = new; before = 0; after = 0 }) None none) ended }
  where
    opened : Opened
    opened = h.known.0

    numbers : opened.track.numbers ≡ from.track.numbers
    numbers = h.known.2

    there : SegmentReached file a opened from.place from.cued from.end
    there = h.known.3

    read : SegmentRead file mid opened place to.cued
    read = record {
      begun = there.read.begun;
      count = there.read.count + count;
      opens = there.read.opens;
      elements = reads_then there.read.elements (subst (λ (t : TrackNumbers). ReadsWhole (cued_taken t) (from.place, from.cued) (Some a) (Some mid) (place, to.cued) count) (sym numbers) whole);
    }

    on_new : (new : Option (List ℕ)) → Known (Some mid) new (λ text rest. step_read from.track.numbers place text ≡ Ok (None, rest)) → ReadOrNone (step_read from.track.numbers last) near new None → Known (Some file) new (λ file behind. (notes : Notes) (rest : List ℕ) → notes_of (in_matroska to) behind ≡ Ok (notes, rest) → IsNotedOf scope.Whole file rest notes)
    on_new None over ended = absurd over
    on_new (Some b) over ended =
        let at = step_last from.track.numbers place mid b over in
        let nothing = last_nothing place mid b at in
        let at_end = sized_end file mid b opened place to.cued read there.fits at to.end in
        λ notes rest looked. inr (record {
          opened = opened;
          to = place;
          cued = to.cued;
          behind = mid;
          read = read;
          over = ap (λ (t : TrackNumbers). step_read t place mid) numbers ∙ over ∙ ap (λ z. Ok (None, z)) (sym nothing);
          times = to.times;
          timed = times_end file a b from.track.numbers from.place last from.times to.times near n h.times timed ended;
          noted = sym (notes_same to.times.off opened.segment to.track.numbers opened.track.numbers to.place place to.end (bytes_before file mid) to.cued mid (ap (λ (t : TrackNumbers). t.others) (ap (λ (t : Track). t.numbers) track ∙ sym numbers)) (λ size has. at_end size (same ∙ there.end_is) has))
              ∙ ap (λ (z : Option ℕ). notes_told to.times.off (InMatroska z to.track.numbers to.place) to.end to.cued None 0 0 false mid) (h.known.1 ∙ sym segment)
              ∙ ap (notes_of (in_matroska to)) nothing ∙ looked;
        })

pub segment_noted : (s : Scope) (text : Option (List ℕ)) (from to : matroska_reader.Standing) (p : Passage) (r : Result Bool FileFault) → matroska_reader.StandsAfter from r to → to.end ≡ from.end → CuedNext from.track.numbers (from.place, from.cued) p r (to.place, to.cued) →
    TimedAfter from p r to → NotesReached s text p.old (in_matroska from) → NotesNext s text p r (in_matroska to)
segment_noted s text from to p (Ok true) stands same (count, whole) timed h = segment_goes s text p.old p.new from to count stands.2 stands.3 same whole timed h
segment_noted s text from to p (Ok false) stands same (place, (between, count, whole, none)) (last, (near, n, timed, ended)) h = segment_over s text p.old p.new from to place between count stands.2 stands.3 same whole none last near n timed ended h
segment_noted s text from to p (Err f) stands same cued timed h = tt

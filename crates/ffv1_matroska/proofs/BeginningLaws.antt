-- Beginnings of files.
use Rattle.std.proofs.Common.{◌≡◌, ◌⊎◌, ◌≤◌, ◌<◌, ◌+◌, ◌-◌, ◌∙◌, ◌++◌, [], ℕ, suc, List, false, Option, Some, None, Result, Ok, Err, inl, inr, length, drop, sym, ap, subst, arith, append_assoc, append-nil, length-append, length-drop, refl, true}
use Rattle.std.proofs.lemmas.Bool.{cases_lt}
use Rattle.std.proofs.lemmas.List.{append_cancel_right}
use Rattle.ffv1_reads.specs.Head.{Head}
use Rattle.ffv1_reads.specs.declared.fault.FileFault.TheVariants as fault
use Rattle.ffv1_reads.specs.Reads.{EndsEarly, Met, Stop, given, read_on, Short}
use Rattle.ffv1_matroska.specs.Begun.{room}
use Rattle.ffv1_matroska.specs.Elements.{parts_frames, parts_text, top_text, tops_text}
use Rattle.ffv1_matroska.specs.Files.{frames_read}
use Rattle.ffv1_matroska.specs.Given.{GivesThen, StopsEarly}
use Rattle.ffv1_matroska.specs.MatroskaFiles.{FileBegins, MatroskaFile, SegmentEnds}
use Rattle.ffv1_matroska.specs.Opened.{Opened, begin_up_to, file_read, open_read}
use Rattle.ffv1_matroska.specs.Places.{amount, segment_at}
use Rattle.ffv1_matroska.specs.Tracks.{Track}
use Rattle.ffv1_matroska.specs.declared.place.Place.{Place}
use Rattle.ffv1_matroska.proofs.CutBefore.{CutBefore, before_cut, heads_cut, heads_text}
use Rattle.ffv1_matroska.proofs.CutFrames.{Cut, frames_cut}
use Rattle.ffv1_matroska.proofs.FileLaws.{ended_complete, HasEnded}
use Rattle.ffv1_matroska.proofs.FrameTurns.{led}
use Rattle.ffv1_matroska.proofs.OpenedLaws.{begins_complete}
use Rattle.ffv1_matroska.proofs.SegmentLaws.{parts_complete}
use Rattle.ffv1_matroska.proofs.GivenLaws.{gives_refused, read_there, stops_there}
use Rattle.ffv1_matroska.proofs.LongLaws.{ReachesSegment, segment_reached}
use Rattle.ffv1_matroska.proofs.Fronts.{split_front}
use Rattle.ffv1_matroska.proofs.TrackLaws.{HasStart, segment_start}

-- what is read of a beginning
abbrev pub FileCut : Option ℕ → Head → List (List ℕ) → List ℕ → Type 0
FileCut size head frames a =
    StopsEarly a head frames
    ⊎ ((size ≡ None)
    × ((open_read a ≡ Err (Met fault.NoTracks []))
    ⊎ ((some others : List (List ℕ)) × (frames ≡ some ++ others) × (file_read a ≡ Ok ((head, some), [])))))

-- a file that is not opened
early_open : (a : List ℕ) (head : Head) (frames : List (List ℕ)) → EndsEarly open_read a → StopsEarly a head frames
early_open a head frames h = (h.0, [], frames, refl, inl (h.1, refl))

-- what comes after the headers of EBML and of the Segment, in a file of other content
begins_with : (file content other : List ℕ) (size : Option ℕ) (is : FileBegins file size content) → FileBegins (heads_text file content size is ++ other) size other
begins_with file content other size is =
    record {
      ebml_ident = is.ebml_ident;
      ebml_size = is.ebml_size;
      header = is.header;
      voids = is.voids;
      segment_ident = is.segment_ident;
      segment_size = is.segment_size;
      bytes = regrouped (is.ebml_ident ++ is.ebml_size) is.header (tops_text is.voids) (is.segment_ident ++ is.segment_size) other;
      ebml_is = is.ebml_is;
      ebml_sized = is.ebml_sized;
      short = is.short;
      of_matroska = is.of_matroska;
      voids_are = is.voids_are;
      few = is.few;
      segment_is = is.segment_is;
      sized = is.sized;
    }
  where
    regrouped : (a b c d e : List ℕ) → (a ++ (b ++ (c ++ d))) ++ e ≡ a ++ (b ++ (c ++ (d ++ e)))
    regrouped a b c d e = simp append_assoc

opens_by : Option ℕ → Result ((Track × Place) × List ℕ) Stop → Result (Opened × List ℕ) Stop
opens_by size z = read_on z (λ p. given (record { track = p.0; segment = size; place = p.1 }))

pub file_cut : (file : List ℕ) (head : Head) (frames : List (List ℕ)) (is : MatroskaFile file head frames) (a b : List ℕ) → file ≡ (a ++ b) ++ is.rest → 0 < length b → FileCut is.size head frames a
unfolding opens_by
file_cut file head frames is a b parts some = elim (cases_lt (length a) (length heads)) [ inl few ↦ in_heads few | inr enough ↦ after_heads enough ]
  where
    front : List ℕ
    front = tops_text is.before ++ top_text is.tracks

    back : List ℕ
    back = parts_text is.parts

    content : List ℕ
    content = tops_text is.before ++ (top_text is.tracks ++ (back ++ is.rest))

    heads : List ℕ
    heads = heads_text file content is.size is.begins

    track : Track
    track = is.track

    start : HasStart is.size
    start = segment_start is.size

    regrouped : (p q o r s t u v : List ℕ) → p ++ (q ++ (o ++ (r ++ (s ++ (t ++ (u ++ v)))))) ≡ ((p ++ (q ++ (o ++ r))) ++ ((s ++ t) ++ u)) ++ v
    regrouped p q o r s t u v = simp append_assoc

    whole : heads ++ (front ++ back) ≡ a ++ b
    whole = append_cancel_right (heads ++ (front ++ back)) (a ++ b) is.rest
        (sym (regrouped (is.begins.ebml_ident ++ is.begins.ebml_size) is.begins.header (tops_text is.begins.voids) (is.begins.segment_ident ++ is.begins.segment_size) (tops_text is.before) (top_text is.tracks) back is.rest) ∙ sym is.begins.bytes ∙ parts)

    in_heads : length a < length heads → FileCut is.size head frames a
    in_heads few =
        let split = split_front heads (front ++ back) a b whole (omega (arith, few)) in
        let more : 0 < length (drop (length a) heads) = omega (arith, few, length-drop (length a) heads) in
        inl (early_open a head frames (heads_cut file content is.size is.begins a (drop (length a) heads) split.0 more))

    after_heads : length heads ≤ length a → FileCut is.size head frames a
    after_heads enough = on_rest (drop (length heads) a) split.0 (sym split.1)
      where
        split : (a ≡ heads ++ drop (length heads) a) × (front ++ back ≡ drop (length heads) a ++ b)
        split = split_front a b heads (front ++ back) (sym whole) enough

        on_rest : (d : List ℕ) → a ≡ heads ++ d → d ++ b ≡ front ++ back → FileCut is.size head frames a
        on_rest d at rest = elim (cases_lt (length d) (length front)) [ inl few ↦ in_front few | inr more ↦ in_back more ]
          where
            long : ℕ
            long = length (tops_text is.before ++ (top_text is.tracks ++ back))

            within : (size : Option ℕ) → SegmentEnds size long is.rest → long ≤ room size
            within (Some n) e = omega (arith, e)
            within None (inl full) = omega (arith, full)
            within None (inr (less, over)) = omega (arith, less)

            m : ℕ
            m = room is.size - long

            counted : long + m ≡ room is.size
            counted = omega (arith, within is.size is.ends)

            apart : long ≡ length front + length back
            apart = ap length (sym (append_assoc (tops_text is.before) (top_text is.tracks) back)) ∙ length-append front back

            base : Place
            base = start.base

            there : Result ((Track × Place) × List ℕ) Stop
            there = begin_up_to start.most None (segment_at base false (room is.size)) d

            begins : FileBegins a is.size d
            begins = let P : List ℕ → Type 0 = λ z. FileBegins z is.size d in subst P (sym at) (begins_with file content d is.size is.begins)

            opened : open_read a ≡ opens_by is.size there
            opened = begins_complete a d is.size begins ∙ start.opened d

            on_before : CutBefore start.most base (room is.size) d → FileCut is.size head frames a
            on_before (inl stop) = inl (early_open a head frames (stop.0, opened ∙ ap (opens_by is.size) stop.1))
            on_before (inr (e, none)) = inr (start.open_only e, inl (opened ∙ ap (opens_by is.size) none))

            in_front : length d < length front → FileCut is.size head frames a
            in_front few =
                let split = split_front front back d b (sym rest) (omega (arith, few)) in
                let more : 0 < length (drop (length d) front) = omega (arith, few, length-drop (length d) front) in
                let size : length front + (length back + m) ≡ room is.size = omega (arith, counted, apart) in
                let P : ℕ → Type 0 = λ n. CutBefore start.most base n d in
                on_before (subst P size (before_cut start.most base is.before is.tracks track (length back + m) d (drop (length d) front) is.before_are is.first is.tracks_is split.0 more (omega (arith, size, start.fits))))

            in_back : length front ≤ length d → FileCut is.size head frames a
            in_back more = on_frames (frames_cut (suc (amount place)) track.numbers place (back ++ is.rest) (parts_frames is.parts, is.rest) e b (omega arith) all (ap (λ z. z ++ is.rest) split.1 ∙ append_assoc e b is.rest) some)
              where
                e : List ℕ
                e = drop (length front) d

                split : (d ≡ front ++ e) × (back ≡ e ++ b)
                split = split_front d b front back rest more

                size : room is.size ≡ length (tops_text is.before ++ (top_text is.tracks ++ [])) + (length back + m)
                size = omega (arith, counted, apart, length-append (tops_text is.before) (top_text is.tracks), ap (λ z. length (tops_text is.before ++ z)) (append-nil (top_text is.tracks)))

                front_begins : FileBegins a is.size (tops_text is.before ++ (top_text is.tracks ++ e))
                front_begins = let P : List ℕ → Type 0 = λ z. FileBegins a is.size z in subst P (split.0 ∙ append_assoc (tops_text is.before) (top_text is.tracks) e) begins

                reached : ReachesSegment a track [] (length back + m) e is.size
                reached = segment_reached a track (length back + m) e (record {
                  size = is.size;
                  before = is.before;
                  tracks = is.tracks;
                  parts = [];
                  begins = front_begins;
                  counted = size;
                  before_are = is.before_are;
                  first = is.first;
                  tracks_is = is.tracks_is;
                  parts_are = tt;
                })

                place : Place
                place = segment_at reached.base reached.loose (length back + m)

                answer : List (List ℕ) → Result (List (List ℕ) × List ℕ) Stop
                answer fs = Ok (fs, is.rest)

                has_ended : HasEnded reached.base m is.rest
                has_ended = let P : Place → Type 0 = λ p. HasEnded p m is.rest in subst P (sym reached.base_is) (start.ended long m is.rest counted is.ends)

                all : frames_read track.numbers place (back ++ is.rest) ≡ Ok (parts_frames is.parts, is.rest)
                all =
                    let parts = parts_complete track.numbers reached.base reached.loose is.parts m is.rest is.parts_are in
                    parts.1 ∙ ap (led (parts_frames is.parts)) (ended_complete track.numbers reached.base parts.0 m is.rest has_ended)
                    ∙ ap answer (append-nil (parts_frames is.parts))

                on_frames : Cut track.numbers place e (parts_frames is.parts) → FileCut is.size head frames a
                on_frames (found, others, same, inl (w, ran)) =
                    let P : Head → Type 0 = λ h. GivesThen a h found (Short w) in
                    inl (w, found, others, sym is.frames_are ∙ same, subst P is.head_is (stops_there a track [] found place e (Short w) reached.at ran))
                on_frames (found, others, same, inr (open_end, ran)) =
                    let with_head : Head → Result ((Head × List (List ℕ)) × List ℕ) Stop = λ h. Ok ((h, found), []) in
                    let endless : start.base.endless ≡ true = ap (λ (p : Place). p.endless) (sym reached.base_is) ∙ open_end in
                    inr (start.open_only endless, inr (found, others, sym is.frames_are ∙ same, read_there a track [] found place e [] reached.at ran ∙ ap with_head is.head_is))

pub file_cut_known : (file : List ℕ) (head : Head) (frames : List (List ℕ)) (is : MatroskaFile file head frames) (size : ℕ) (a b : List ℕ) → is.size ≡ Some size → file ≡ (a ++ b) ++ is.rest → 0 < length b → StopsEarly a head frames
file_cut_known file head frames is size a b known parts some = on_cut (file_cut file head frames is a b parts some)
  where
    on_cut : FileCut is.size head frames a → StopsEarly a head frames
    on_cut (inl stop) = stop
    on_cut (inr (none, more)) = absurd (cc (sym known ∙ none))

pub file_cut_any : (file : List ℕ) (head : Head) (frames : List (List ℕ)) (is : MatroskaFile file head frames) (a b : List ℕ) → file ≡ (a ++ b) ++ is.rest → 0 < length b →
    StopsEarly a head frames ⊎ ((open_read a ≡ Err (Met fault.NoTracks [])) ⊎ ((some others : List (List ℕ)) × (frames ≡ some ++ others) × (file_read a ≡ Ok ((head, some), []))))
file_cut_any file head frames is a b parts some = on_cut (file_cut file head frames is a b parts some)
  where
    on_cut : FileCut is.size head frames a → StopsEarly a head frames ⊎ ((open_read a ≡ Err (Met fault.NoTracks [])) ⊎ ((some others : List (List ℕ)) × (frames ≡ some ++ others) × (file_read a ≡ Ok ((head, some), []))))
    on_cut (inl stop) = inl stop
    on_cut (inr (none, more)) = inr more

pub stops_early : (a : List ℕ) (head : Head) (frames : List (List ℕ)) → StopsEarly a head frames → EndsEarly file_read a
stops_early a head frames (w, some, others, parts, gives) = (w, gives_refused a head some (Short w) gives)

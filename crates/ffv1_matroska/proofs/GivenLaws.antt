-- Frames that are given, one by one, and then reading stops.
use Rattle.std.proofs.Common.{◌≡◌, ◌⊎◌, ◌<◌, ◌==◌, ◌∙◌, ◌++◌, ◌∷◌, [], ℕ, suc, zero, List, Bool, true, false, nat_lt, Option, Some, None, Result, Ok, Err, inl, inr, length, refl, sym, ap, arith, append-nil, subst}
use Rattle.ffv1_reads.specs.Head.{Head}
use Rattle.ffv1_reads.specs.declared.fault.FileFault.TheVariants as fault
use Rattle.ffv1_reads.specs.Reads.{Looked, Met, Short, Stop, given, passed, read_on, ◌>>=◌}
use Rattle.ffv1_ebml.specs.Elements.{content_passed}
use Rattle.ffv1_ebml.specs.declared.element.Element.{Element}
use Rattle.ffv1_matroska.specs.Blocks.{passed_on}
use Rattle.ffv1_matroska.specs.Files.{frame_read, frames_read, more_frames}
use Rattle.ffv1_matroska.specs.Given.{FramesThen, GivesThen}
use Rattle.ffv1_matroska.specs.Opened.{Opened, begin_up_to, begun_at, element_or_begun, element_passed, file_read, in_cluster, open_read}
use Rattle.ffv1_matroska.specs.Places.{ended, segment_at, step_to}
use Rattle.ffv1_matroska.specs.Segments.{cluster, header_read, is_filler, is_section, other_read, segment_child, segment_read, segment_rest, step_read}
use Rattle.ffv1_matroska.specs.Tracks.{Track}
use Rattle.ffv1_matroska.specs.declared.place.Place.{Place}
use Rattle.ffv1_matroska.proofs.FrameTurns.{Run, added, added_twice, collapsed, frames_next, frames_run, run, run_by, run_next, run_on, run_turn, step_kept}
use Rattle.ffv1_matroska.proofs.StepBounds.{LeavesNext, header_leaves}
use Rattle.ffv1_matroska.specs.declared.track.TrackNumbers.{TrackNumbers}

same_stop : (a b : Stop) → ◌≡◌ {A = Result (List ℕ) Stop} (Err a) (Err b) → a ≡ b
same_stop a b e = cc

no_stop : (rest : List ℕ) (why : Stop) → ◌≡◌ {A = Result (List ℕ) Stop} (Ok rest) (Err why) → ⊥
no_stop rest why e = absurd (cc)

some_none : (f : List ℕ) (fs : List (List ℕ)) → f ∷ fs ≡ [] → ⊥
some_none f fs e = absurd (cc)

none_some : (f : List ℕ) (fs : List (List ℕ)) → [] ≡ f ∷ fs → ⊥
none_some f fs e = absurd (cc)

first_same : (f g : List ℕ) (fs gs : List (List ℕ)) → f ∷ fs ≡ g ∷ gs → (f ≡ g) × (fs ≡ gs)
first_same f g fs gs e = (cc, cc)

pub frames_then : (track : TrackNumbers) (frames : List (List ℕ)) (place : Place) (text : List ℕ) (why : Stop) → run track place text ≡ (frames, Err why) → FramesThen track place text frames why
frames_then track [] place text why h = on_frame (frame_read track place text) refl (sym (run_next track place text) ∙ h)
  where
    on_frame : (z : Result (Option (List ℕ × Place) × List ℕ) Stop) → frame_read track place text ≡ z → run_by (run track) z ≡ ([], Err why) → frame_read track place text ≡ Err why
    on_frame (Err w) is e =
        let answer : Stop → Result (Option (List ℕ × Place) × List ℕ) Stop = λ s. Err s in
        is ∙ ap answer (same_stop w why (ap (λ (r : Run). r.1) e))
    on_frame (Ok (None, rest)) is e = absurd (no_stop rest why (ap (λ (r : Run). r.1) e))
    on_frame (Ok (Some p, rest)) is e = absurd (some_none p.0 (run track p.1 rest).0 (ap (λ (r : Run). r.0) e))
frames_then track (f ∷ fs) place text why h = on_frame (frame_read track place text) refl (sym (run_next track place text) ∙ h) (λ p t r. frames_then track fs p t why r)
  where
    on_frame : (z : Result (Option (List ℕ × Place) × List ℕ) Stop) → frame_read track place text ≡ z → run_by (run track) z ≡ (f ∷ fs, Err why) → ((p : Place) (t : List ℕ) → run track p t ≡ (fs, Err why) → FramesThen track p t fs why) → FramesThen track place text (f ∷ fs) why
    on_frame (Err w) is e again = absurd (none_some f fs (ap (λ (r : Run). r.0) e))
    on_frame (Ok (None, rest)) is e again = absurd (none_some f fs (ap (λ (r : Run). r.0) e))
    on_frame (Ok (Some p, rest)) is e again =
        let same = first_same p.0 f (run track p.1 rest).0 fs (ap (λ (r : Run). r.0) e) in
        let end : (run track p.1 rest).1 ≡ Err why = ap (λ (r : Run). r.1) e in
        let left : List (List ℕ) → Run = λ gs. (gs, (run track p.1 rest).1) in
        let right : Result (List ℕ) Stop → Run = λ r. (fs, r) in
        let answer : List ℕ → Result (Option (List ℕ × Place) × List ℕ) Stop = λ g. Ok (Some (g, p.1), rest) in
        (p.1, rest, is ∙ ap answer same.0, again p.1 rest (ap left same.1 ∙ ap right end))

-- what is given so is not read to the end
pub then_refused : (track : TrackNumbers) (frames : List (List ℕ)) (place : Place) (text : List ℕ) (why : Stop) → FramesThen track place text frames why → frames_read track place text ≡ Err why
then_refused track [] place text why h = frames_next track place text ∙ ap (λ z. read_on z (more_frames (frames_read track))) h
then_refused track (f ∷ fs) place text why (next, more, read, on) =
    frames_next track place text ∙ ap (λ z. read_on z (more_frames (frames_read track))) read ∙ ap (λ z. read_on z (λ frames. given (f ∷ frames))) (then_refused track fs next more why on)

pub gives_refused : (file : List ℕ) (head : Head) (frames : List (List ℕ)) (why : Stop) → GivesThen file head frames why → file_read file ≡ Err why
unfolding file_read
gives_refused file head frames why (inl (closed, none)) = ap (λ z. read_on z (λ (o : Opened). (frames_read o.track.numbers o.place >>= λ frames. given (o.track.head, frames)))) closed
gives_refused file head frames why (inr (o, rest, opened, is, on)) =
    ap (λ z. read_on z (λ (o : Opened). (frames_read o.track.numbers o.place >>= λ frames. given (o.track.head, frames)))) opened
    ∙ ap (λ z. read_on z (λ frames. given (o.track.head, frames))) (then_refused o.track.numbers frames o.place rest why on)

-- a file is opened if the same frames are to come; or it is not, and there are none
abbrev pub BegunRun : Track → Result ((Track × Place) × List ℕ) Stop → Run → Type 0
BegunRun track z r =
    ((p : Place) × (more : List ℕ) × (z ≡ Ok ((track, p), more)) × (run track.numbers p more ≡ r))
    ⊎ ((why : Stop) × (z ≡ Err why) × (r ≡ ([], Err why)))

pub begun_as : (track : Track) (z y : Result ((Track × Place) × List ℕ) Stop) (r q : Run) → z ≡ y → r ≡ q → BegunRun track y q → BegunRun track z r
begun_as track z y r q e d (inl (p, more, opened, same)) = inl (p, more, e ∙ opened, same ∙ sym d)
begun_as track z y r q e d (inr (why, closed, none)) = inr (why, e ∙ closed, d ∙ none)

run_done : (track : TrackNumbers) (rest : List ℕ) → run track ended rest ≡ ([], Ok rest)
unfolding step_read segment_read header_read
run_done track rest = run_turn track ended rest

pub begun_run : (most : ℕ) (track : Track) (base : Place) (n : ℕ) (text : List ℕ) → n < most → BegunRun track (begin_up_to most (Some track) (segment_at base false n) text) (run track.numbers (segment_at base false n) text)
unfolding begin_up_to begun_at element_passed step_read segment_read segment_child other_read passed_on
begun_run zero track base n text fits = absurd (omega (arith, fits))
begun_run (suc most) track base n text fits =
    begun_as track begin begin (run track.numbers place text) (after_header (header_read place text)) refl (run_turn track.numbers place text)
    (on_header (λ m rest less. begun_run most track base m rest less) (header_read place text) refl)
  where
    place : Place
    place = segment_at base false n

    Z : Type 0
    Z = Result ((Track × Place) × List ℕ) Stop

    begin : Z
    begin = begin_up_to (suc most) (Some track) place text

    after_header : Result (Option Element × List ℕ) Stop → Run
    after_header z = run_on track.numbers (read_on (read_on z (segment_rest track.numbers place)) step_kept)

    after_child : (e : Element) → List ℕ → Option ℕ → Run
    after_child e rest size = run_on track.numbers (read_on (segment_child track.numbers e.ident (segment_at base false e.left) size rest) step_kept)

    on_now : (e : Element) → Result (Unit {0} × List ℕ) Stop → Z
    on_now e z = read_on (read_on z (λ _. given (Some track))) (λ now. begin_up_to most now (segment_at base false e.left))

    Again : Type 0
    Again = (m : ℕ) (rest : List ℕ) → m < most → BegunRun track (begin_up_to most (Some track) (segment_at base false m) rest) (run track.numbers (segment_at base false m) rest)

    on_content : Again → (e : Element) → e.left < most → (z : Result (Unit {0} × List ℕ) Stop) → BegunRun track (on_now e z) (run_on track.numbers (read_on (read_on z (λ _. given (Some (step_to (segment_at base false e.left))))) step_kept))
    on_content again e less (Err why) = inr (why, refl, refl)
    on_content again e less (Ok p) = again e.left p.1 less

    on_length : Again → (e : Element) → e.left < most → (k : ℕ) (rest : List ℕ) (b : Bool) → nat_lt (length rest) k ≡ b → BegunRun track (on_now e (passed k rest)) (run_on track.numbers (read_on (passed_on k (segment_at base false e.left) rest) step_kept))
    on_length again e less k rest true t = rw t (inr (Short Looked, refl, refl))
    on_length again e less k rest false t = rw t (again e.left _ less)

    on_kind : Again → (e : Element) → e.left < most → (k : ℕ) (rest : List ℕ) (a b : Bool) → is_section e.ident ≡ a → is_filler e.ident ≡ b →
        BegunRun track (on_now e (element_passed e.ident (Some k) rest)) (run_on track.numbers (read_on (other_read e.ident k (segment_at base false e.left) rest) step_kept))
    on_kind again e less k rest true b s t = rw s (on_content again e less (content_passed k rest))
    on_kind again e less k rest false true s t = rw (s, t) (on_length again e less k rest (nat_lt (length rest) k) refl)
    on_kind again e less k rest false false s t = rw (s, t) (inr (Met fault.BadElement rest, refl, refl))

    on_size : Again → (e : Element) → e.left < most → (rest : List ℕ) → (e.ident == cluster) ≡ false → (size : Option ℕ) → BegunRun track (on_now e (element_passed e.ident size rest)) (after_child e rest size)
    on_size again e less rest apart None = rw apart (inr (Met fault.BadElement rest, refl, refl))
    on_size again e less rest apart (Some k) = rw apart (on_kind again e less k rest (is_section e.ident) (is_filler e.ident) refl refl)

    on_cluster : (e : Element) (rest : List ℕ) → (e.ident == cluster) ≡ true → (size : Option ℕ) → run track.numbers (in_cluster (segment_at base false e.left) size) rest ≡ after_child e rest size
    on_cluster e rest there None = rw there refl
    on_cluster e rest there (Some k) = rw there refl

    on_ident : Again → (e : Element) → e.left < most → (rest : List ℕ) (b : Bool) → (e.ident == cluster) ≡ b → BegunRun track (element_or_begun (begin_up_to most) (Some track) place (Some e) rest) (after_child e rest e.size)
    on_ident again e less rest true t = inl (in_cluster (segment_at base false e.left) e.size, rest, rw t refl, on_cluster e rest t e.size)
    on_ident again e less rest false t = begun_as track (element_or_begun (begin_up_to most) (Some track) place (Some e) rest) (on_now e (element_passed e.ident e.size rest)) (after_child e rest e.size) (after_child e rest e.size) (rw t refl) refl (on_size again e less rest t e.size)

    on_header : Again → (z : Result (Option Element × List ℕ) Stop) → header_read place text ≡ z → BegunRun track (read_on z (element_or_begun (begin_up_to most) (Some track) place)) (after_header z)
    on_header again (Err why) is = inr (why, refl, refl)
    on_header again (Ok (None, rest)) is = inl (ended, rest, refl, run_done track.numbers rest)
    on_header again (Ok (Some e, rest)) is =
        let less : LeavesNext n (Some e) = (header_leaves place).only text rest (Some e) is in
        on_ident again e (omega (arith, less, fits)) rest (e.ident == cluster) refl

-- a file is read up to a position in its Segment, after these frames
pub record Reaches (file : List ℕ) (track : Track) (frames : List (List ℕ)) (place : Place) (rest : List ℕ) : Type 0 where
  pub size : Option ℕ
  pub begun : Result ((Track × Place) × List ℕ) Stop
  pub opened : open_read file ≡ read_on begun (λ p. given (record { track = p.0; segment = size; place = p.1 }))
  pub is : BegunRun track begun (added frames (run track.numbers place rest))

pub reaches_on : (file : List ℕ) (track : Track) (here frames : List (List ℕ)) (place next : Place) (text rest : List ℕ) → Reaches file track here place text → run track.numbers place text ≡ added frames (run track.numbers next rest) → Reaches file track (here ++ frames) next rest
reaches_on file track here frames place next text rest r same =
    let all : added (here ++ frames) (run track.numbers next rest) ≡ added here (run track.numbers place text) = sym (added_twice here frames (run track.numbers next rest)) ∙ ap (added here) (sym same) in
    record { size = r.size; begun = r.begun; opened = r.opened; is = begun_as track r.begun r.begun (added (here ++ frames) (run track.numbers next rest)) (added here (run track.numbers place text)) refl all r.is }

-- frames are given from there, and then reading stops
pub stops_there : (file : List ℕ) (track : Track) (frames more : List (List ℕ)) (place : Place) (rest : List ℕ) (why : Stop) → Reaches file track frames place rest → run track.numbers place rest ≡ (more, Err why) → GivesThen file track.head (frames ++ more) why
stops_there file track frames more place rest why r h = on_begun (begun_as track r.begun r.begun (frames ++ more, Err why) (added frames (run track.numbers place rest)) refl (sym (ap (added frames) h)) r.is)
  where
    opens : Result ((Track × Place) × List ℕ) Stop → Result (Opened × List ℕ) Stop
    opens z = read_on z (λ p. given (record { track = p.0; segment = r.size; place = p.1 }))

    on_begun : BegunRun track r.begun (frames ++ more, Err why) → GivesThen file track.head (frames ++ more) why
    on_begun (inl (p, left, begun, same)) =
        let o : Opened = record { track = track; segment = r.size; place = p } in
        inr (o, left, r.opened ∙ ap opens begun, refl, frames_then track.numbers (frames ++ more) p left why same)
    on_begun (inr (w, begun, same)) =
        let stop : why ≡ w = same_stop why w (ap (λ (q : Run). q.1) same) in
        let answer : Stop → Result (Opened × List ℕ) Stop = λ z. Err z in
        inl (r.opened ∙ ap opens begun ∙ ap answer (sym stop), ap (λ (q : Run). q.0) same)

-- or none are
pub refused_there : (file : List ℕ) (track : Track) (frames : List (List ℕ)) (place : Place) (rest : List ℕ) (why : Stop) → Reaches file track frames place rest → run track.numbers place rest ≡ ([], Err why) → GivesThen file track.head frames why
refused_there file track frames place rest why r h =
    let P : List (List ℕ) → Type 0 = λ fs. GivesThen file track.head fs why in
    subst P (append-nil frames) (stops_there file track frames [] place rest why r h)

-- or all are read
pub read_there : (file : List ℕ) (track : Track) (frames more : List (List ℕ)) (place : Place) (rest left : List ℕ) → Reaches file track frames place rest → run track.numbers place rest ≡ (more, Ok left) → file_read file ≡ Ok ((track.head, frames ++ more), left)
unfolding file_read
read_there file track frames more place rest left r h = on_begun (begun_as track r.begun r.begun (frames ++ more, Ok left) (added frames (run track.numbers place rest)) refl (sym (ap (added frames) h)) r.is)
  where
    reading : Result (Opened × List ℕ) Stop → Result ((Head × List (List ℕ)) × List ℕ) Stop
    reading z = read_on z (λ (o : Opened). (frames_read o.track.numbers o.place >>= λ frames. given (o.track.head, frames)))

    opens : Result ((Track × Place) × List ℕ) Stop → Result (Opened × List ℕ) Stop
    opens z = read_on z (λ p. given (record { track = p.0; segment = r.size; place = p.1 }))

    on_begun : BegunRun track r.begun (frames ++ more, Ok left) → file_read file ≡ Ok ((track.head, frames ++ more), left)
    on_begun (inl (p, after, begun, same)) =
        ap reading (r.opened ∙ ap opens begun)
        ∙ ap (λ z. read_on z (λ frames. given (track.head, frames))) (frames_run track.numbers p after ∙ ap collapsed same)
    on_begun (inr (w, begun, same)) = absurd (no_stop left w (ap (λ (q : Run). q.1) same))

-- The frames of a Segment, turn by turn: a step, with the frame that it has come to.
use Rattle.std.proofs.Common.{◌≡◌, ◌++◌, ◌<◌, ◌≤◌, ◌∙◌, ℕ, suc, zero, List, [], ◌∷◌, Option, Some, None, Result, Ok, Err, refl, ap, sym, Bool, true, false, arith, append_assoc}
use Rattle.ffv1_reads.specs.Reads.{Reading, Stop, given, read_on, ◌>>=◌}
use Rattle.ffv1_ebml.specs.Sums.{kept_summed}
use Rattle.ffv1_ebml.specs.declared.sum.Sum.{Sum}
use Rattle.ffv1_matroska.specs.Files.{found_or_on, found_read, frame_found, frame_found_up_to, frame_or_on, frame_read, frames_read, frames_up_to, more_frames}
use Rattle.ffv1_matroska.specs.Places.{amount, closed, is_sound, summed_at}
use Rattle.ffv1_matroska.specs.Segments.{step_read}
use Rattle.ffv1_matroska.specs.declared.place.Place.{Place}
use Rattle.ffv1_matroska.specs.declared.place.Step.{Step}
use Rattle.ffv1_matroska.proofs.StepBounds.{Gives, Lessens, gives_any, gives_given, gives_if, gives_refused, gives_then, step_less}
use Rattle.ffv1_matroska.specs.declared.track.TrackNumbers.{TrackNumbers}

-- the frames of some bytes and those after them
abbrev pub led : List (List ℕ) → Result (List (List ℕ) × List ℕ) Stop → Result (List (List ℕ) × List ℕ) Stop
led frames z = read_on z (λ more. given (frames ++ more))

pub led_none : (z : Result (List (List ℕ) × List ℕ) Stop) → led [] z ≡ z
led_none (Ok p) = refl
led_none (Err why) = refl

-- a turn: the frames that it has come to, one or none, and the place after them
abbrev pub Turn : Type 0
Turn = Option (List (List ℕ) × Place)

abbrev pub kept_by : Option ℕ → Place → Reading Turn
kept_by None place = given (Some ([], place))
kept_by (Some size) place = kept_summed size place.sum >>= λ q. closed (Some (q.0 ∷ [], summed_at place q.1)) (summed_at place q.1)

abbrev pub step_kept : Option Step → Reading Turn
step_kept None = given None
step_kept (Some s) = kept_by s.frame s.place

abbrev pub turn_read : TrackNumbers → Place → Reading Turn
turn_read track place = step_read track place >>= step_kept

abbrev pub turns_on : TrackNumbers → Turn → Reading (List (List ℕ))
turns_on track None = given []
turns_on track (Some p) = frames_read track p.1 >>= λ more. given (p.0 ++ more)

-- more steps than are needed find nothing else
found_enough : (m n : ℕ) (track : TrackNumbers) (place : Place) (text : List ℕ) → amount place < m → amount place < n → frame_found_up_to m track place text ≡ frame_found_up_to n track place text
unfolding frame_found_up_to
found_enough zero n track place text h k = absurd (omega (arith, h))
found_enough (suc m) zero track place text h k = absurd (omega (arith, k))
found_enough (suc m) (suc n) track place text h k = on_step (λ p more. found_enough m n track p more) (step_read track place text) refl
  where
    Same : Type 0
    Same = (p : Place) (more : List ℕ) → amount p < m → amount p < n → frame_found_up_to m track p more ≡ frame_found_up_to n track p more

    on_frame : Same → (f : Option ℕ) (p : Place) (more : List ℕ) → amount p < amount place → frame_or_on (frame_found_up_to m track) p f more ≡ frame_or_on (frame_found_up_to n track) p f more
    on_frame same None p more less = same p more (omega (arith, less, h)) (omega (arith, less, k))
    on_frame same (Some size) p more less = refl

    on_step : Same → (z : Result (Option Step × List ℕ) Stop) → step_read track place text ≡ z → read_on z (found_or_on (frame_found_up_to m track)) ≡ read_on z (found_or_on (frame_found_up_to n track))
    on_step same (Err e) is = refl
    on_step same (Ok (None, rest)) is = refl
    on_step same (Ok (Some s, rest)) is = on_frame same s.frame s.place rest ((step_less track place).only text rest (Some s) is)

found_step : (track : TrackNumbers) (place : Place) (text : List ℕ) → frame_found track place text ≡ read_on (step_read track place text) (found_or_on (frame_found track))
unfolding frame_found_up_to
found_step track place text = on_step (step_read track place text) refl
  where
    on_frame : (f : Option ℕ) (p : Place) (more : List ℕ) → amount p < amount place → frame_or_on (frame_found_up_to (amount place) track) p f more ≡ frame_or_on (frame_found track) p f more
    on_frame None p more less = found_enough (amount place) (suc (amount p)) track p more less (omega arith)
    on_frame (Some size) p more less = refl

    on_step : (z : Result (Option Step × List ℕ) Stop) → step_read track place text ≡ z → read_on z (found_or_on (frame_found_up_to (amount place) track)) ≡ read_on z (found_or_on (frame_found track))
    on_step (Err e) is = refl
    on_step (Ok (None, rest)) is = refl
    on_step (Ok (Some s, rest)) is = on_frame s.frame s.place rest ((step_less track place).only text rest (Some s) is)

-- a frame leaves less
abbrev FoundLess : ℕ → Option (ℕ × Place) → Type 0
FoundLess n None = Unit {0}
FoundLess n (Some p) = amount p.1 < n

abbrev NextLess : ℕ → Option (List ℕ × Place) → Type 0
NextLess n None = Unit {0}
NextLess n (Some p) = amount p.1 < n

found_less : (m : ℕ) (track : TrackNumbers) (n : ℕ) (place : Place) → amount place ≤ n → Gives (FoundLess n) (frame_found_up_to m track place)
unfolding frame_found_up_to
found_less zero track n place h = gives_given (FoundLess n) None tt
found_less (suc m) track n place h = gives_then (Lessens (amount place)) (FoundLess n) (step_read track place) (found_or_on (frame_found_up_to m track)) (step_less track place) (on_step (λ p. found_less m track n p))
  where
    on_frame : ((p : Place) → amount p ≤ n → Gives (FoundLess n) (frame_found_up_to m track p)) → (f : Option ℕ) (p : Place) → amount p < n → Gives (FoundLess n) (frame_or_on (frame_found_up_to m track) p f)
    on_frame again None p less = again p (omega (arith, less))
    on_frame again (Some size) p less = gives_given (FoundLess n) (Some (size, p)) less

    on_step : ((p : Place) → amount p ≤ n → Gives (FoundLess n) (frame_found_up_to m track p)) → (o : Option Step) → Lessens (amount place) o → Gives (FoundLess n) (found_or_on (frame_found_up_to m track) o)
    on_step again None less = gives_given (FoundLess n) None tt
    on_step again (Some s) less = on_frame again s.frame s.place (omega (arith, less, h))

frame_less : (track : TrackNumbers) (place : Place) → Gives (NextLess (amount place)) (frame_read track place)
frame_less track place = gives_then (FoundLess (amount place)) (NextLess (amount place)) (frame_found track place) found_read (found_less (suc (amount place)) track (amount place) place (omega arith)) on_found
  where
    on_found : (o : Option (ℕ × Place)) → FoundLess (amount place) o → Gives (NextLess (amount place)) (found_read o)
    on_found None less = gives_given (NextLess (amount place)) None tt
    on_found (Some p) less = gives_any (NextLess (amount place)) (kept_summed p.0 p.1.sum) (λ q. closed (Some (q.0, summed_at p.1 q.1)) (summed_at p.1 q.1)) (λ q.
        gives_if (NextLess (amount place)) (is_sound (summed_at p.1 q.1)) _ _ (gives_given (NextLess (amount place)) (Some (q.0, summed_at p.1 q.1)) less) (gives_refused (NextLess (amount place)) _))

frames_enough : (m n : ℕ) (track : TrackNumbers) (place : Place) (text : List ℕ) → amount place < m → amount place < n → frames_up_to m track place text ≡ frames_up_to n track place text
unfolding frames_up_to
frames_enough zero n track place text h k = absurd (omega (arith, h))
frames_enough (suc m) zero track place text h k = absurd (omega (arith, k))
frames_enough (suc m) (suc n) track place text h k = on_frame (λ p more. frames_enough m n track p more) (frame_read track place text) refl
  where
    Same : Type 0
    Same = (p : Place) (more : List ℕ) → amount p < m → amount p < n → frames_up_to m track p more ≡ frames_up_to n track p more

    on_frame : Same → (z : Result (Option (List ℕ × Place) × List ℕ) Stop) → frame_read track place text ≡ z → read_on z (more_frames (frames_up_to m track)) ≡ read_on z (more_frames (frames_up_to n track))
    on_frame same (Err e) is = refl
    on_frame same (Ok (None, rest)) is = refl
    on_frame same (Ok (Some p, rest)) is =
        let less = (frame_less track place).only text rest (Some p) is in
        ap (λ z. read_on z (λ frames. given (p.0 ∷ frames))) (same p.1 rest (omega (arith, less, h)) (omega (arith, less, k)))

-- the frames are the next one and those after it
pub frames_next : (track : TrackNumbers) (place : Place) (text : List ℕ) → frames_read track place text ≡ read_on (frame_read track place text) (more_frames (frames_read track))
unfolding frames_up_to
frames_next track place text = on_frame (frame_read track place text) refl
  where
    on_frame : (z : Result (Option (List ℕ × Place) × List ℕ) Stop) → frame_read track place text ≡ z → read_on z (more_frames (frames_up_to (amount place) track)) ≡ read_on z (more_frames (frames_read track))
    on_frame (Err e) is = refl
    on_frame (Ok (None, rest)) is = refl
    on_frame (Ok (Some p, rest)) is =
        let less = (frame_less track place).only text rest (Some p) is in
        ap (λ z. read_on z (λ frames. given (p.0 ∷ frames))) (frames_enough (amount place) (suc (amount p.1)) track p.1 rest less (omega arith))

-- the frames are those of the next turn and those after it
pub frames_turn : (track : TrackNumbers) (place : Place) (text : List ℕ) → frames_read track place text ≡ read_on (turn_read track place text) (turns_on track)
frames_turn track place text =
    frames_next track place text ∙ ap (λ z. read_on (read_on z found_read) (more_frames (frames_read track))) (found_step track place text) ∙ on_step (step_read track place text)
  where
    on_sound : (b : Bool) (bytes : List ℕ) (p : Place) (more : List ℕ) → is_sound p ≡ b →
        read_on (closed (Some (bytes, p)) p more) (more_frames (frames_read track)) ≡ read_on (closed (Some (bytes ∷ [], p)) p more) (turns_on track)
    on_sound true bytes p more s = rw s (on_more (frames_read track p more))
      where
        on_more : (z : Result (List (List ℕ) × List ℕ) Stop) → read_on z (λ frames. given (bytes ∷ frames)) ≡ read_on z (λ frames. given ((bytes ∷ []) ++ frames))
        on_more (Ok q) = refl
        on_more (Err why) = refl
    on_sound false bytes p more s = rw s refl

    on_kept : (p : Place) (z : Result ((List ℕ × Sum) × List ℕ) Stop) →
        read_on (read_on z (λ q. closed (Some (q.0, summed_at p q.1)) (summed_at p q.1))) (more_frames (frames_read track))
        ≡ read_on (read_on z (λ q. closed (Some (q.0 ∷ [], summed_at p q.1)) (summed_at p q.1))) (turns_on track)
    on_kept p (Err why) = refl
    on_kept p (Ok (q, more)) = on_sound (is_sound (summed_at p q.1)) q.0 (summed_at p q.1) more refl

    on_frame : (f : Option ℕ) (p : Place) (more : List ℕ) → read_on (read_on (frame_or_on (frame_found track) p f more) found_read) (more_frames (frames_read track)) ≡ read_on (kept_by f p more) (turns_on track)
    on_frame None p more = sym (frames_next track p more) ∙ sym (led_none (frames_read track p more))
    on_frame (Some size) p more = on_kept p (kept_summed size p.sum more)

    on_step : (z : Result (Option Step × List ℕ) Stop) → read_on (read_on (read_on z (found_or_on (frame_found track))) found_read) (more_frames (frames_read track)) ≡ read_on (read_on z step_kept) (turns_on track)
    on_step (Err why) = refl
    on_step (Ok (None, rest)) = refl
    on_step (Ok (Some s, rest)) = on_frame s.frame s.place rest

-- the next frame is that of the next turn, or the next one after it
abbrev pub next_on : TrackNumbers → Turn → Reading (Option (List ℕ × Place))
next_on track None = given None
next_on track (Some ([], place)) = frame_read track place
next_on track (Some (f ∷ fs, place)) = given (Some (f, place))

pub frame_turn : (track : TrackNumbers) (place : Place) (text : List ℕ) → frame_read track place text ≡ read_on (turn_read track place text) (next_on track)
frame_turn track place text = ap (λ z. read_on z found_read) (found_step track place text) ∙ on_step (step_read track place text)
  where
    on_sound : (b : Bool) (bytes : List ℕ) (p : Place) (more : List ℕ) → is_sound p ≡ b →
        closed (Some (bytes, p)) p more ≡ read_on (closed (Some (bytes ∷ [], p)) p more) (next_on track)
    on_sound true bytes p more s = rw s refl
    on_sound false bytes p more s = rw s refl

    on_kept : (p : Place) (z : Result ((List ℕ × Sum) × List ℕ) Stop) →
        read_on z (λ q. closed (Some (q.0, summed_at p q.1)) (summed_at p q.1)) ≡ read_on (read_on z (λ q. closed (Some (q.0 ∷ [], summed_at p q.1)) (summed_at p q.1))) (next_on track)
    on_kept p (Err why) = refl
    on_kept p (Ok (q, more)) = on_sound (is_sound (summed_at p q.1)) q.0 (summed_at p q.1) more refl

    on_frame : (f : Option ℕ) (p : Place) (more : List ℕ) → read_on (frame_or_on (frame_found track) p f more) found_read ≡ read_on (kept_by f p more) (next_on track)
    on_frame None p more = refl
    on_frame (Some size) p more = on_kept p (kept_summed size p.sum more)

    on_step : (z : Result (Option Step × List ℕ) Stop) → read_on (read_on z (found_or_on (frame_found track))) found_read ≡ read_on (read_on z step_kept) (next_on track)
    on_step (Err why) = refl
    on_step (Ok (None, rest)) = refl
    on_step (Ok (Some s, rest)) = on_frame s.frame s.place rest

-- frames that are given one by one, and then what is left at their end, or why there are no more
abbrev pub Run : Type 0
Run = List (List ℕ) × Result (List ℕ) Stop

abbrev pub added : List (List ℕ) → Run → Run
added frames r = (frames ++ r.0, r.1)

pub added_none : (r : Run) → added [] r ≡ r
added_none r = refl

pub added_twice : (xs ys : List (List ℕ)) (r : Run) → added xs (added ys r) ≡ added (xs ++ ys) r
added_twice xs ys r = let with_end : List (List ℕ) → Run = λ fs. (fs, r.1) in ap with_end (sym (append_assoc xs ys r.0))

abbrev pub run_by : (Place → List ℕ → Run) → Result (Option (List ℕ × Place) × List ℕ) Stop → Run
run_by on (Err why) = ([], Err why)
run_by on (Ok (None, rest)) = ([], Ok rest)
run_by on (Ok (Some p, rest)) = added (p.0 ∷ []) (on p.1 rest)

run_up_to : ℕ → TrackNumbers → Place → List ℕ → Run
run_up_to zero track place text = ([], Ok text)
run_up_to (suc most) track place text = run_by (run_up_to most track) (frame_read track place text)

pub run : TrackNumbers → Place → List ℕ → Run
run track place text = run_up_to (suc (amount place)) track place text

run_enough : (m n : ℕ) (track : TrackNumbers) (place : Place) (text : List ℕ) → amount place < m → amount place < n → run_up_to m track place text ≡ run_up_to n track place text
unfolding run_up_to
run_enough zero n track place text h k = absurd (omega (arith, h))
run_enough (suc m) zero track place text h k = absurd (omega (arith, k))
run_enough (suc m) (suc n) track place text h k = on_frame (λ p more. run_enough m n track p more) (frame_read track place text) refl
  where
    Same : Type 0
    Same = (p : Place) (more : List ℕ) → amount p < m → amount p < n → run_up_to m track p more ≡ run_up_to n track p more

    on_frame : Same → (z : Result (Option (List ℕ × Place) × List ℕ) Stop) → frame_read track place text ≡ z → run_by (run_up_to m track) z ≡ run_by (run_up_to n track) z
    on_frame same (Err e) is = refl
    on_frame same (Ok (None, rest)) is = refl
    on_frame same (Ok (Some p, rest)) is =
        let less = (frame_less track place).only text rest (Some p) is in
        ap (added (p.0 ∷ [])) (same p.1 rest (omega (arith, less, h)) (omega (arith, less, k)))

-- the next one, and those after it
pub run_next : (track : TrackNumbers) (place : Place) (text : List ℕ) → run track place text ≡ run_by (run track) (frame_read track place text)
unfolding run run_up_to
run_next track place text = on_frame (frame_read track place text) refl
  where
    on_frame : (z : Result (Option (List ℕ × Place) × List ℕ) Stop) → frame_read track place text ≡ z → run_by (run_up_to (amount place) track) z ≡ run_by (run track) z
    on_frame (Err e) is = refl
    on_frame (Ok (None, rest)) is = refl
    on_frame (Ok (Some p, rest)) is =
        let less = (frame_less track place).only text rest (Some p) is in
        ap (added (p.0 ∷ [])) (run_enough (amount place) (suc (amount p.1)) track p.1 rest less (omega arith))

abbrev pub run_on : TrackNumbers → Result (Turn × List ℕ) Stop → Run
run_on track (Err why) = ([], Err why)
run_on track (Ok (None, rest)) = ([], Ok rest)
run_on track (Ok (Some p, rest)) = added p.0 (run track p.1 rest)

-- those of the next turn, and those after it
pub run_turn : (track : TrackNumbers) (place : Place) (text : List ℕ) → run track place text ≡ run_on track (turn_read track place text)
run_turn track place text = run_next track place text ∙ ap (λ z. run_by (run track) (read_on z found_read)) (found_step track place text) ∙ on_step (step_read track place text)
  where
    on_sound : (b : Bool) (bytes : List ℕ) (p : Place) (more : List ℕ) → is_sound p ≡ b →
        run_by (run track) (closed (Some (bytes, p)) p more) ≡ run_on track (closed (Some (bytes ∷ [], p)) p more)
    on_sound true bytes p more s = rw s refl
    on_sound false bytes p more s = rw s refl

    on_kept : (p : Place) (z : Result ((List ℕ × Sum) × List ℕ) Stop) →
        run_by (run track) (read_on z (λ q. closed (Some (q.0, summed_at p q.1)) (summed_at p q.1))) ≡ run_on track (read_on z (λ q. closed (Some (q.0 ∷ [], summed_at p q.1)) (summed_at p q.1)))
    on_kept p (Err why) = refl
    on_kept p (Ok (q, more)) = on_sound (is_sound (summed_at p q.1)) q.0 (summed_at p q.1) more refl

    on_frame : (f : Option ℕ) (p : Place) (more : List ℕ) → run_by (run track) (read_on (frame_or_on (frame_found track) p f more) found_read) ≡ run_on track (kept_by f p more)
    on_frame None p more = sym (run_next track p more)
    on_frame (Some size) p more = on_kept p (kept_summed size p.sum more)

    on_step : (z : Result (Option Step × List ℕ) Stop) → run_by (run track) (read_on (read_on z (found_or_on (frame_found track))) found_read) ≡ run_on track (read_on z step_kept)
    on_step (Err why) = refl
    on_step (Ok (None, rest)) = refl
    on_step (Ok (Some s, rest)) = on_frame s.frame s.place rest

-- a turn of which the frames are known
pub turn_added : (track : TrackNumbers) (place after : Place) (text rest : List ℕ) (frames : List (List ℕ)) → turn_read track place text ≡ Ok (Some (frames, after), rest) → run track place text ≡ added frames (run track after rest)
turn_added track place after text rest frames is = run_turn track place text ∙ ap (run_on track) is

-- what is read of them all
abbrev pub collapsed : Run → Result (List (List ℕ) × List ℕ) Stop
collapsed (frames, Ok rest) = Ok (frames, rest)
collapsed (frames, Err why) = Err why

collapsed_added : (frames : List (List ℕ)) (r : Run) → collapsed (added frames r) ≡ led frames (collapsed r)
collapsed_added frames (more, Ok rest) = refl
collapsed_added frames (more, Err why) = refl

frames_up_to_run : (most : ℕ) (track : TrackNumbers) (place : Place) (text : List ℕ) → frames_up_to most track place text ≡ collapsed (run_up_to most track place text)
unfolding frames_up_to run_up_to
frames_up_to_run zero track place text = refl
frames_up_to_run (suc most) track place text = on_frame (λ p more. frames_up_to_run most track p more) (frame_read track place text)
  where
    on_frame : ((p : Place) (more : List ℕ) → frames_up_to most track p more ≡ collapsed (run_up_to most track p more)) → (z : Result (Option (List ℕ × Place) × List ℕ) Stop) → read_on z (more_frames (frames_up_to most track)) ≡ collapsed (run_by (run_up_to most track) z)
    on_frame same (Err why) = refl
    on_frame same (Ok (None, rest)) = refl
    on_frame same (Ok (Some p, rest)) = ap (led (p.0 ∷ [])) (same p.1 rest) ∙ sym (collapsed_added (p.0 ∷ []) (run_up_to most track p.1 rest))

pub frames_run : (track : TrackNumbers) (place : Place) (text : List ℕ) → frames_read track place text ≡ collapsed (run track place text)
unfolding run
frames_run track place text = frames_up_to_run (suc (amount place)) track place text

pub as_frames : (track : TrackNumbers) (place next : Place) (text rest : List ℕ) (frames : List (List ℕ)) → run track place text ≡ added frames (run track next rest) → frames_read track place text ≡ led frames (frames_read track next rest)
as_frames track place next text rest frames same =
    frames_run track place text ∙ ap collapsed same ∙ collapsed_added frames (run track next rest) ∙ ap (led frames) (sym (frames_run track next rest))

-- A file by its elements is read as its head and its frames.
use Rattle.std.proofs.Common.{◌≡◌, ◌⊎◌, ◌≤◌, ◌<◌, ◌+◌, ◌-◌, ◌∙◌, ◌++◌, [], ℕ, suc, zero, List, Bool, true, false, Option, Some, None, Result, Ok, Err, inl, inr, length, refl, sym, ap, arith, append-nil, length-append}
use Rattle.ffv1_reads.specs.Head.{Head}
use Rattle.ffv1_reads.specs.Reads.{Stop, given, read_on, ◌>>=◌}
use Rattle.ffv1_reads.proofs.Results.{ok_is}
use Rattle.ffv1_matroska.specs.Elements.{AreParts, AreTopLevel, Part, TopLevel, parts_frames, parts_text, top_text, tops_text}
use Rattle.ffv1_matroska.specs.Files.{frames_read}
use Rattle.ffv1_matroska.specs.MatroskaFiles.{AreBefore, FileBegins, IsTracks, MatroskaFile, SegmentEnds, endless}
use Rattle.ffv1_matroska.specs.Opened.{Opened, begin_read, begin_up_to, file_read}
use Rattle.ffv1_matroska.specs.Opening.{segment_begun}
use Rattle.ffv1_matroska.specs.Places.{segment_at}
use Rattle.ffv1_matroska.specs.Tracks.{Track}
use Rattle.ffv1_matroska.specs.declared.place.Place.{Place}
use Rattle.ffv1_matroska.proofs.FrameTurns.{led}
use Rattle.ffv1_matroska.proofs.OpenedLaws.{begins_complete, begun_frames, begun_same, headed, tops_begun, tracks_begun}
use Rattle.ffv1_matroska.proofs.SegmentLaws.{input_done, parts_complete, segment_done}
use Rattle.ffv1_matroska.specs.declared.track.TrackNumbers.{TrackNumbers}

-- after the parts of a Segment that has so many bytes more it has ended, or the input has
abbrev pub HasEnded : Place → ℕ → List ℕ → Type 0
HasEnded base m rest = (m ≡ 0) ⊎ ((0 < m) × (rest ≡ []) × (base.endless ≡ true))

pub ended_complete : (track : TrackNumbers) (base : Place) (loose : Bool) (m : ℕ) (rest : List ℕ) → HasEnded base m rest → frames_read track (segment_at base loose m) rest ≡ Ok ([], rest)
ended_complete track base loose m rest (inl none) = ap (λ k. frames_read track (segment_at base loose k) rest) none ∙ segment_done track base loose rest
ended_complete track base loose m rest (inr (some, over, endless)) = rw over (input_done track base loose m endless some)

-- after the first Tracks and parts of a Segment, what is left of it is read
pub content_reach : (base : Place) (before : List TopLevel) (tracks : TopLevel) (track : Track) (parts : List Part) (n m most : ℕ) (rest : List ℕ) → AreTopLevel before → AreBefore before → IsTracks tracks track → AreParts track.numbers parts →
    n ≡ length (tops_text before ++ (top_text tracks ++ parts_text parts)) + m → n < most →
    (l : Bool) × (read_on (begin_up_to most None (segment_at base false n) (tops_text before ++ (top_text tracks ++ (parts_text parts ++ rest)))) begun_frames
    ≡ headed track.head (led (parts_frames parts) (frames_read track.numbers (segment_at base l m) rest)))
content_reach base before tracks track parts n m most rest before_are first says are long fits =
    let here = length (parts_text parts) + m in
    let there = length (top_text tracks) + here in
    let whole : n ≡ length (tops_text before) + there = long ∙ (omega (arith, length-append (tops_text before) (top_text tracks ++ parts_text parts), length-append (top_text tracks) (parts_text parts))) in
    let one = tops_begun most base before there (top_text tracks ++ (parts_text parts ++ rest)) before_are first (omega (arith, whole, fits)) in
    on_most one.0 one.1 (ap (λ k. begin_up_to most None (segment_at base false k) (tops_text before ++ (top_text tracks ++ (parts_text parts ++ rest)))) whole ∙ one.2)
  where
    start : Result ((Track × Place) × List ℕ) Stop
    start = begin_up_to most None (segment_at base false n) (tops_text before ++ (top_text tracks ++ (parts_text parts ++ rest)))

    left : ℕ
    left = length (parts_text parts) + m

    on_most : (less : ℕ) → length (top_text tracks) + left < less → start ≡ begin_up_to less None (segment_at base false (length (top_text tracks) + left)) (top_text tracks ++ (parts_text parts ++ rest)) →
        (l : Bool) × (read_on start begun_frames ≡ headed track.head (led (parts_frames parts) (frames_read track.numbers (segment_at base l m) rest)))
    on_most zero fits is = absurd (omega (arith, fits))
    on_most (suc less) fits is =
        let all = parts_complete track.numbers base false parts m rest are in
        let some : 1 ≤ length (top_text tracks) = omega (arith, says.named.0, length-append (tracks.ident ++ tracks.size) tracks.content, length-append tracks.ident tracks.size) in (
          all.0,
          ap (λ z. read_on z begun_frames) (is ∙ tracks_begun less base tracks track left (parts_text parts ++ rest) says)
              ∙ begun_same less track base left (parts_text parts ++ rest) (omega (arith, fits, some))
              ∙ ap (headed track.head) all.1,
        )

content_complete : (base : Place) (before : List TopLevel) (tracks : TopLevel) (track : Track) (parts : List Part) (n m most : ℕ) (rest : List ℕ) → AreTopLevel before → AreBefore before → IsTracks tracks track → AreParts track.numbers parts →
    n ≡ length (tops_text before ++ (top_text tracks ++ parts_text parts)) + m → n < most → HasEnded base m rest →
    read_on (begin_up_to most None (segment_at base false n) (tops_text before ++ (top_text tracks ++ (parts_text parts ++ rest)))) begun_frames ≡ Ok ((track.head, parts_frames parts), rest)
content_complete base before tracks track parts n m most rest before_are first says are long fits ends =
    let reach = content_reach base before tracks track parts n m most rest before_are first says are long fits in
    let answer : List (List ℕ) → Result ((Head × List (List ℕ)) × List ℕ) Stop = λ fs. Ok ((track.head, fs), rest) in
    reach.1
    ∙ ap (λ z. headed track.head (led (parts_frames parts) z)) (ended_complete track.numbers base reach.0 m rest ends)
    ∙ ap answer (append-nil (parts_frames parts))

-- the frames of a file that was opened are those from where it was opened
pub opened_frames : (size : Option ℕ) (z : Result ((Track × Place) × List ℕ) Stop) →
    read_on (read_on z (λ p. given (record { track = p.0; segment = size; place = p.1 }))) (λ (o : Opened). (frames_read o.track.numbers o.place >>= λ frames. given (o.track.head, frames))) ≡ read_on z begun_frames
opened_frames size (Ok p) = refl
opened_frames size (Err why) = refl

-- a file is read by the content of its Segment
pub file_by_content : (file content : List ℕ) (size : Option ℕ) → FileBegins file size content → file_read file ≡ read_on (begin_read (segment_begun size) content) begun_frames
unfolding file_read
file_by_content file content size is =
    ap (λ z. read_on z (λ (o : Opened). (frames_read o.track.numbers o.place >>= λ frames. given (o.track.head, frames)))) (begins_complete file content size is)
    ∙ opened_frames size (begin_read (segment_begun size) content)

pub file_complete : (file : List ℕ) (head : Head) (frames : List (List ℕ)) (is : MatroskaFile file head frames) → file_read file ≡ Ok ((head, frames), is.rest)
file_complete file head frames is = file_by_content file _ is.size is.begins ∙ on_size is.size is.ends ∙ ap both is.head_is ∙ ap all is.frames_are
  where
    long : ℕ
    long = length (tops_text is.before ++ (top_text is.tracks ++ parts_text is.parts))

    content : List ℕ
    content = tops_text is.before ++ (top_text is.tracks ++ (parts_text is.parts ++ is.rest))

    both : Head → Result ((Head × List (List ℕ)) × List ℕ) Stop
    both h = Ok ((h, parts_frames is.parts), is.rest)

    all : List (List ℕ) → Result ((Head × List (List ℕ)) × List ℕ) Stop
    all fs = Ok ((head, fs), is.rest)

    from : (base : Place) (n m most : ℕ) → n ≡ long + m → n < most → HasEnded base m is.rest → read_on (begin_up_to most None (segment_at base false n) content) begun_frames ≡ both is.track.head
    from base n m most whole fits ends = content_complete base is.before is.tracks is.track is.parts n m most is.rest is.before_are is.first is.tracks_is is.parts_are whole fits ends

    on_size : (size : Option ℕ) → SegmentEnds size long is.rest → read_on (begin_read (segment_begun size) content) begun_frames ≡ both is.track.head
    on_size (Some n) ends = from (segment_begun (Some n)) n 0 _ (omega (arith, ends)) (omega arith) (inl refl)
    on_size None (inl full) = from (segment_begun None) endless 0 _ (omega (arith, full)) (omega arith) (inl refl)
    on_size None (inr (less, over)) = from (segment_begun None) endless (endless - long) _ (omega (arith, less)) (omega arith) (inr (omega (arith, less), over, refl))

pub file_only : (file : List ℕ) (head other : Head) (frames others : List (List ℕ)) → MatroskaFile file head frames → MatroskaFile file other others → (head ≡ other) × (frames ≡ others)
file_only file head other frames others is also =
    let same = ok_is ((head, frames), is.rest) ((other, others), also.rest) (sym (file_complete file head frames is) ∙ file_complete file other others also) in
    (ap (λ (z : (Head × List (List ℕ)) × List ℕ). z.0.0) same, ap (λ (z : (Head × List (List ℕ)) × List ℕ). z.0.1) same)

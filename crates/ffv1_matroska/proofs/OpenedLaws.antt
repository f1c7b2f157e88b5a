-- What comes before the frames is read: the header of EBML, that of the Segment, and elements up to
-- the first Tracks.
use Rattle.std.proofs.Common.{◌≡◌, ◌≤◌, ◌<◌, ◌+◌, ◌-◌, ◌==◌, ◌||◌, ◌∙◌, ◌++◌, ◌∷◌, [], ℕ, suc, zero, List, Bool, true, false, nat_lt, nat_le, Option, Some, None, Result, Ok, Err, length, refl, sym, ap, arith, append_assoc, length-append}
use Rattle.std.proofs.lemmas.Bool.{eq-eqb, le-leb, le-ltb, ne_eqb}
use Rattle.ffv1_reads.specs.Head.{Head, limit}
use Rattle.ffv1_reads.specs.Reads.{Kept, Reading, Stop, given, passed, read_on, ◌>>=◌}
use Rattle.ffv1_reads.proofs.WantedBytes.{passed_complete, taken_complete, wanted_complete}
use Rattle.ffv1_ebml.specs.Elements.{content_passed}
use Rattle.ffv1_ebml.specs.Spelled.{SaysSize}
use Rattle.ffv1_ebml.specs.Sums.{summed}
use Rattle.ffv1_ebml.specs.Vints.{data_of, number_of, size_of}
use Rattle.ffv1_ebml.specs.declared.element.Data.{Data}
use Rattle.ffv1_ebml.specs.declared.element.Element.{Element}
use Rattle.ffv1_ebml.specs.declared.sum.Sum.{Sum}
use Rattle.ffv1_ebml.specs.declared.sum.Sum.TheVariants.{Absent}
use Rattle.ffv1_ebml.proofs.ContentTold.{content_good}
use Rattle.ffv1_ebml.proofs.VintLaws.{vint_complete}
use Rattle.ffv1_matroska.specs.Blocks.{passed_on}
use Rattle.ffv1_matroska.specs.Elements.{AreTopLevel, IsTopLevel, TopLevel, top_text, tops_text}
use Rattle.ffv1_matroska.specs.Files.{frames_read}
use Rattle.ffv1_matroska.specs.MatroskaFiles.{AreBefore, AreVoids, FileBegins, IsTracks, IsVoid, SaysFour}
use Rattle.ffv1_matroska.specs.Opened.{begin_up_to, begun_at, ebml, ebml_read, element_or_begun, element_passed, in_cluster, open_read, segment_opened, tracks_read, tracks}
use Rattle.ffv1_matroska.specs.Opening.{content_kept, header_in, ident_read, most_elements, root_or_on, root_read, segment, segment_after, segment_entered, segment_up_to, top_size, void, void_read}
use Rattle.ffv1_matroska.specs.Places.{ended, segment_at, step_to}
use Rattle.ffv1_matroska.specs.Segments.{cluster, header_read, is_filler, is_section, other_read, segment_child, segment_read, segment_rest, step_read}
use Rattle.ffv1_matroska.specs.Sizes.{size_with}
use Rattle.ffv1_matroska.specs.Tracks.{Track}
use Rattle.ffv1_matroska.specs.declared.place.Place.{Place}
use Rattle.ffv1_matroska.proofs.FrameTurns.{Turn, frames_turn, led_none, step_kept, turns_on}
use Rattle.ffv1_matroska.proofs.PartLaws.{header_is_read, top_only}
use Rattle.ffv1_matroska.proofs.SegmentLaws.{segment_done}
use Rattle.ffv1_matroska.proofs.StepBounds.{LeavesNext, header_leaves}
use Rattle.ffv1_matroska.specs.declared.track.TrackNumbers.{TrackNumbers}

-- the frames of what was opened, with its head
abbrev pub begun_frames : Track × Place → Reading (Head × List (List ℕ))
begun_frames p = frames_read p.0.numbers p.1 >>= λ frames. given (p.0.head, frames)

abbrev pub headed : Head → Result (List (List ℕ) × List ℕ) Stop → Result ((Head × List (List ℕ)) × List ℕ) Stop
headed head z = read_on z (λ frames. given (head, frames))

-- an element that holds no frames is passed in the same way before the frames
passed_same : (track : TrackNumbers) (base : Place) (m n ident : ℕ) (text : List ℕ) (k : Unit {0} → Reading (Head × List (List ℕ))) (j : Turn → Reading (Head × List (List ℕ))) → ((rest : List ℕ) → k tt rest ≡ j (Some ([], segment_at base false m)) rest) →
    read_on (element_passed ident (Some n) text) k ≡ read_on (read_on (other_read ident n (segment_at base false m) text) step_kept) j
unfolding element_passed other_read passed_on
passed_same track base m n ident text k j same = on_tests (is_section ident) (is_filler ident) refl refl
  where
    on_content : (z : Result (Unit {0} × List ℕ) Stop) → read_on z k ≡ read_on (read_on (read_on z (λ _. given (Some (step_to (segment_at base false m))))) step_kept) j
    on_content (Ok p) = same p.1
    on_content (Err why) = refl

    on_length : (b : Bool) → nat_lt (length text) n ≡ b → read_on (passed n text) k ≡ read_on (read_on (passed_on n (segment_at base false m) text) step_kept) j
    on_length true t = rw t refl
    on_length false t = rw t (same _)

    on_tests : (a b : Bool) → is_section ident ≡ a → is_filler ident ≡ b → read_on (element_passed ident (Some n) text) k ≡ read_on (read_on (other_read ident n (segment_at base false m) text) step_kept) j
    on_tests true b s t = rw s (on_content (content_passed n text))
    on_tests false true s t = rw (s, t) (on_length (nat_lt (length text) n) refl)
    on_tests false false s t = rw (s, t) refl

-- after Tracks the frames are the same from there on, whatever comes before the first Cluster
pub begun_same : (most : ℕ) (track : Track) (base : Place) (n : ℕ) (text : List ℕ) → n < most →
    read_on (begin_up_to most (Some track) (segment_at base false n) text) begun_frames ≡ headed track.head (frames_read track.numbers (segment_at base false n) text)
unfolding begin_up_to begun_at element_passed step_read segment_read segment_child
begun_same zero track base n text fits = absurd (omega (arith, fits))
begun_same (suc most) track base n text fits =
    on_header (λ m rest. begun_same most track base m rest) (header_read place text) refl
    ∙ sym (ap (headed track.head) (frames_turn track.numbers place text))
  where
    place : Place
    place = segment_at base false n

    Again : Type 0
    Again = (m : ℕ) (rest : List ℕ) → m < most → read_on (begin_up_to most (Some track) (segment_at base false m) rest) begun_frames ≡ headed track.head (frames_read track.numbers (segment_at base false m) rest)

    after : Turn → Reading (Head × List (List ℕ))
    after t = turns_on track.numbers t >>= λ frames. given (track.head, frames)

    regrouped : (k : Option Track → Reading (Track × Place)) (z : Result (Unit {0} × List ℕ) Stop) → read_on (read_on (read_on z (λ _. given (Some track))) k) begun_frames ≡ read_on z (λ _. k (Some track) >>= begun_frames)
    regrouped k (Ok p) = refl
    regrouped k (Err why) = refl

    headed_on : (w : Result (Turn × List ℕ) Stop) → read_on w after ≡ headed track.head (read_on w (turns_on track.numbers))
    headed_on (Ok p) = refl
    headed_on (Err why) = refl

    on_passed : Again → (e : Element) (rest : List ℕ) → e.left < most → (e.ident == cluster) ≡ false → (size : Option ℕ) →
        read_on (read_on (read_on (element_passed e.ident size rest) (λ _. given (Some track))) (λ now. begin_up_to most now (segment_at base false e.left))) begun_frames
        ≡ headed track.head (read_on (read_on (segment_child track.numbers e.ident (segment_at base false e.left) size rest) step_kept) (turns_on track.numbers))
    on_passed again e rest less apart None = rw apart refl
    on_passed again e rest less apart (Some size) =
        rw apart (regrouped (λ now. begin_up_to most now (segment_at base false e.left)) (element_passed e.ident (Some size) rest)
        ∙ passed_same track.numbers base e.left size e.ident rest (λ _. begin_up_to most (Some track) (segment_at base false e.left) >>= begun_frames) after (λ more. again e.left more less ∙ ap (headed track.head) (sym (led_none _)))
        ∙ headed_on _)

    on_cluster : (e : Element) (rest : List ℕ) → (e.ident == cluster) ≡ true → (size : Option ℕ) →
        headed track.head (frames_read track.numbers (in_cluster (segment_at base false e.left) size) rest)
        ≡ headed track.head (read_on (read_on (segment_child track.numbers e.ident (segment_at base false e.left) size rest) step_kept) (turns_on track.numbers))
    on_cluster e rest there None = rw there (ap (headed track.head) (sym (led_none _)))
    on_cluster e rest there (Some size) = rw there (ap (headed track.head) (sym (led_none _)))

    on_ident : Again → (e : Element) (rest : List ℕ) → e.left < most → (b : Bool) → (e.ident == cluster) ≡ b →
        read_on (element_or_begun (begin_up_to most) (Some track) place (Some e) rest) begun_frames
        ≡ headed track.head (read_on (read_on (segment_child track.numbers e.ident (segment_at base false e.left) e.size rest) step_kept) (turns_on track.numbers))
    on_ident again e rest less true t = rw t (on_cluster e rest t e.size)
    on_ident again e rest less false t = rw t (on_passed again e rest less t e.size)

    on_header : Again → (z : Result (Option Element × List ℕ) Stop) → header_read place text ≡ z →
        read_on (read_on z (element_or_begun (begin_up_to most) (Some track) place)) begun_frames
        ≡ headed track.head (read_on (read_on (read_on z (segment_rest track.numbers place)) step_kept) (turns_on track.numbers))
    on_header again (Err why) is = refl
    on_header again (Ok (None, rest)) is = ap (headed track.head) (segment_done track.numbers ended false rest)
    on_header again (Ok (Some e, rest)) is =
        let less : LeavesNext n (Some e) = (header_leaves place).only text rest (Some e) is in
        on_ident again e rest (omega (arith, less, fits)) (e.ident == cluster) refl

-- an element without frames before the first Tracks
abbrev pub Same : ℕ → ℕ → Option Track → Option Track → Place → Place → List ℕ → List ℕ → Type 0
Same most less found now place after text rest = begin_up_to most found place text ≡ begin_up_to less now after rest

pub top_passed : (t : TopLevel) (rest : List ℕ) → IsTopLevel t → element_passed (number_of t.ident) (Some (length t.content)) (t.content ++ rest) ≡ Ok (tt, rest)
unfolding element_passed
top_passed t rest is = on_test (is_section (number_of t.ident)) refl is.known
  where
    n : ℕ
    n = number_of t.ident

    on_test : (b : Bool) → is_section n ≡ b → (b || is_filler n) ≡ true → element_passed n (Some (length t.content)) (t.content ++ rest) ≡ Ok (tt, rest)
    on_test true s k = rw s (content_good t.content rest (is.told s))
    on_test false s k = rw (s, k) (passed_complete (length t.content) t.content rest refl)

pub top_begun : (most : ℕ) (base : Place) (t : TopLevel) (m : ℕ) (rest : List ℕ) → IsTopLevel t → (number_of t.ident ≡ tracks → ⊥) →
    Same (suc most) most None None (segment_at base false (length (top_text t) + m)) (segment_at base false m) (top_text t ++ rest) rest
unfolding begin_up_to
top_begun most base t m rest is other =
    let head = t.ident ++ t.size in
    let n = number_of t.ident in
    let body = t.content in
    let place : ℕ → Place = λ k. segment_at base false k in
    let only = top_only n is.known in
    let differ : (n == tracks) ≡ false = ne_eqb _ _ other in
    let long : length (top_text t) + m ≡ length head + (length body + m) = omega (arith, length-append head body) in
    ap (λ k. begin_up_to (suc most) None (place k) (top_text t ++ rest)) long
    ∙ ap (begin_up_to (suc most) None (place (length head + (length body + m)))) (append_assoc head body rest)
    ∙ ap (λ z. read_on z (element_or_begun (begin_up_to most) None (place (length head + (length body + m))))) (header_is_read base false t.ident t.size (Some (length body)) m (body ++ rest) is.named is.few is.sized)
    ∙ rw (only.0, differ, top_passed t rest is) refl

pub tops_begun : (most : ℕ) (base : Place) (ts : List TopLevel) (m : ℕ) (rest : List ℕ) → AreTopLevel ts → AreBefore ts → length (tops_text ts) + m < most →
    (less : ℕ) × (m < less) × Same most less None None (segment_at base false (length (tops_text ts) + m)) (segment_at base false m) (tops_text ts ++ rest) rest
tops_begun most base [] m rest are first fits =
    let none : 0 + m ≡ m = omega arith in
    (most, omega (arith, fits), ap (λ k. begin_up_to most None (segment_at base false k) rest) none)
tops_begun zero base (t ∷ ts) m rest are first fits = absurd (omega (arith, fits))
tops_begun (suc most) base (t ∷ ts) m rest are first fits =
    let long : length (top_text t ++ tops_text ts) + m ≡ length (top_text t) + (length (tops_text ts) + m) = omega (arith, length-append (top_text t) (tops_text ts)) in
    let some : 1 ≤ length (top_text t) = omega (arith, are.0.named.0, length-append (t.ident ++ t.size) t.content, length-append t.ident t.size) in
    let next = tops_begun most base ts m rest are.1 first.1 (omega (arith, fits, long, some)) in (
      next.0,
      next.1,
      ap (λ k. begin_up_to (suc most) None (segment_at base false k) ((top_text t ++ tops_text ts) ++ rest)) long
          ∙ ap (begin_up_to (suc most) None (segment_at base false (length (top_text t) + (length (tops_text ts) + m)))) (append_assoc (top_text t) (tops_text ts) rest)
          ∙ top_begun most base t (length (tops_text ts) + m) (tops_text ts ++ rest) are.0 first.0
          ∙ next.2,
    )

-- the first Tracks
pub tracks_begun : (most : ℕ) (base : Place) (t : TopLevel) (track : Track) (m : ℕ) (rest : List ℕ) → IsTracks t track →
    Same (suc most) most None (Some track) (segment_at base false (length (top_text t) + m)) (segment_at base false m) (top_text t ++ rest) rest
unfolding begin_up_to tracks_read content_kept
tracks_begun most base t track m rest is =
    let head = t.ident ++ t.size in
    let n = number_of t.ident in
    let body = t.content in
    let place : ℕ → Place = λ k. segment_at base false k in
    let apart : (n == cluster) ≡ false = ap (λ k. k == cluster) is.is in
    let there : (n == tracks) ≡ true = eq-eqb _ _ is.is in
    let long : length (top_text t) + m ≡ length head + (length body + m) = omega (arith, length-append head body) in
    ap (λ k. begin_up_to (suc most) None (place k) (top_text t ++ rest)) long
    ∙ ap (begin_up_to (suc most) None (place (length head + (length body + m)))) (append_assoc head body rest)
    ∙ ap (λ z. read_on z (element_or_begun (begin_up_to most) None (place (length head + (length body + m))))) (header_is_read base false t.ident t.size (Some (length body)) m (body ++ rest) is.named is.few is.sized)
    ∙ rw (apart, there, le-ltb _ _ is.short, wanted_complete Kept (length body) body rest refl, is.says) refl

-- the header of EBML, and that of the Segment
pub size_same : (v : List ℕ) → length v ≤ 8 → size_with (length v) (data_of v) ≡ size_of v
unfolding size_with size_of
size_same v few =
    let test : nat_le (length v) 8 ≡ true = le-leb _ _ few in
    rw test refl

pub size_complete : (size rest : List ℕ) (known : Option ℕ) → SaysSize size known → top_size (size ++ rest) ≡ Ok (known, rest)
unfolding top_size
size_complete size rest known says =
    let count : 8 - (8 - length size) ≡ length size = omega (arith, says.1) in
    let answer : Option ℕ → Result (Option ℕ × List ℕ) Stop = λ o. Ok (o, rest) in
    ap (λ z. read_on {X = Data × Sum} (read_on z (λ bytes. given (record { value = data_of bytes; left = 8 - length bytes }, summed Absent bytes))) (λ p. given (size_with (8 - p.0.left) p.0.value))) (vint_complete 8 8 size rest says.0 says.1 says.1)
    ∙ ap (λ n. answer (size_with n (data_of size))) count
    ∙ ap answer (size_same size says.1 ∙ says.2)

pub ident_complete : (ident : ℕ) (bytes rest : List ℕ) → SaysFour bytes ident → ident_read ident (bytes ++ rest) ≡ Ok (tt, rest)
unfolding ident_read
ident_complete ident bytes rest is = rw (taken_complete 4 bytes rest is.0, eq-eqb _ _ is.1) refl

pub ebml_complete : (ident size header rest : List ℕ) → SaysFour ident ebml → SaysSize size (Some (length header)) → length header ≤ limit → header_in header ≡ Ok tt → ebml_read ((ident ++ size) ++ (header ++ rest)) ≡ Ok (tt, rest)
unfolding ebml_read content_kept
ebml_complete ident size header rest is says short good =
    rw (append_assoc ident size (header ++ rest), ident_complete ebml ident (size ++ (header ++ rest)) is, size_complete size (header ++ rest) (Some (length header)) says, le-ltb _ _ short, wanted_complete Kept (length header) header rest refl, good) refl

-- the header of the Segment does not begin as a Void does
no_void : (first : ℕ) (others : List ℕ) → SaysFour (first ∷ others) segment → first ≡ void → ⊥
no_void first (a ∷ b ∷ c ∷ []) (four, is) same = omega (arith, is, same)
no_void first [] (four, is) same = absurd (omega (arith, four))
no_void first (a ∷ []) (four, is) same = absurd (omega (arith, four))
no_void first (a ∷ b ∷ []) (four, is) same = absurd (omega (arith, four))
no_void first (a ∷ b ∷ c ∷ d ∷ more) (four, is) same = absurd (omega (arith, four))

root_complete : (ident size rest : List ℕ) (known : Option ℕ) → SaysFour ident segment → SaysSize size known → root_read ((ident ++ size) ++ rest) ≡ Ok (Some known, rest)
unfolding root_read segment_after
root_complete [] size rest known is says = absurd (omega (arith, is.0))
root_complete (first ∷ others) size rest known is says =
    let three : length others ≡ 3 = omega (arith, is.0) in
    ap (λ z. root_read (first ∷ z)) (append_assoc others size rest)
    ∙ rw (taken_complete 1 (first ∷ []) (others ++ (size ++ rest)) refl, ne_eqb first void (no_void first others is), taken_complete 3 others (size ++ rest) three, eq-eqb _ _ is.1, size_complete size rest known says) refl

-- a Void is passed
void_complete : (t : TopLevel) (rest : List ℕ) → IsVoid t → root_read (top_text t ++ rest) ≡ Ok (None, rest)
unfolding root_read void_read
void_complete t rest is =
    ap (λ z. root_read (((z ++ t.size) ++ t.content) ++ rest)) is.named
    ∙ ap (λ z. root_read (void ∷ z)) (append_assoc t.size t.content rest)
    ∙ rw (taken_complete 1 (void ∷ []) (t.size ++ (t.content ++ rest)) refl, size_complete t.size (t.content ++ rest) (Some (length t.content)) is.sized, passed_complete (length t.content) t.content rest refl) refl

segment_found : (most : ℕ) (voids : List TopLevel) (ident size rest : List ℕ) (known : Option ℕ) → AreVoids voids → length voids < most → SaysFour ident segment → SaysSize size known → segment_up_to most (tops_text voids ++ ((ident ++ size) ++ rest)) ≡ Ok (known, rest)
unfolding segment_up_to
segment_found zero voids ident size rest known are few is says = absurd (omega (arith, few))
segment_found (suc most) [] ident size rest known are few is says = ap (λ z. read_on z (root_or_on (segment_up_to most))) (root_complete ident size rest known is says)
segment_found (suc most) (t ∷ ts) ident size rest known are few is says =
    let back = (ident ++ size) ++ rest in
    ap (λ z. read_on (root_read z) (root_or_on (segment_up_to most))) (append_assoc (top_text t) (tops_text ts) back)
    ∙ ap (λ z. read_on z (root_or_on (segment_up_to most))) (void_complete t (tops_text ts ++ back) are.0)
    ∙ segment_found most ts ident size rest known are.1 (omega (arith, few)) is says

pub segment_complete : (voids : List TopLevel) (ident size rest : List ℕ) (known : Option ℕ) → AreVoids voids → length voids < most_elements → SaysFour ident segment → SaysSize size known → segment_entered (tops_text voids ++ ((ident ++ size) ++ rest)) ≡ Ok (known, rest)
unfolding segment_entered
segment_complete voids ident size rest known are few is says = segment_found most_elements voids ident size rest known are few is says

-- a file up to the content of its Segment
pub begins_complete : (file content : List ℕ) (known : Option ℕ) → FileBegins file known content → open_read file ≡ segment_opened known content
unfolding open_read
begins_complete file content known is =
    ap open_read is.bytes
    ∙ rw (ebml_complete is.ebml_ident is.ebml_size is.header (tops_text is.voids ++ ((is.segment_ident ++ is.segment_size) ++ content)) is.ebml_is is.ebml_sized is.short is.of_matroska, segment_complete is.voids is.segment_ident is.segment_size content known is.voids_are is.few is.segment_is is.sized) refl

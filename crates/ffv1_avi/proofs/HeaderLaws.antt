-- The list hdrl: the first stream that counts gives the head.
use Rattle.std.proofs.Common.{◌≡◌, ℕ, ◌+◌, ◌-◌, ◌%◌, ◌≤◌, ◌<◌, nat_lt, Bool, true, false, Option, Some, None, Ok, List, [], ◌∷◌, ◌++◌, length, take, drop, codes, ap, ◌∙◌, sym, subst, arith, refl, append_assoc, length-append, length-drop}
use Rattle.std.proofs.lemmas.Bool.{ltb-true}
use Rattle.std.specs.Cmp.Lexicographic.{same_text}
use Rattle.ffv1_avi.specs.declared.place.Extent.{Extent}
use Rattle.ffv1_avi.specs.declared.place.Extent.TheVariants.{FirstMovi, EveryRiff}
use Rattle.ffv1_avi.specs.Chunks.{AreChunks, AreOthers, Chunk, IsOther, IsStream, SaysOther, chunks_text, is_list, those}
use Rattle.ffv1_avi.specs.Files.{Headers, extended_read, extended_visited, header_named, header_read, no_headers, stream_came, stream_known, stream_visited, visit_header}
use Rattle.ffv1_avi.specs.Opens.{list_skipped}
use Rattle.ffv1_reads.specs.Head.{Head}
use Rattle.ffv1_reads.specs.Reads.{Reading, given, passed, read_on, taken, ◌>>=◌}
use Rattle.ffv1_avi.specs.Padding.{padded}
use Rattle.ffv1_avi.specs.Streams.{stream_read}
use Rattle.ffv1_avi.specs.Walk.{is_name}
use Rattle.ffv1_avi.proofs.InnerLists.{IsList, list_read_complete, list_read_sound, list_skip_complete, list_skip_sound, own_taken}
use Rattle.ffv1_avi.proofs.ListWalks.{Complete, IsPassed, Run, Sound, Taking}
use Rattle.ffv1_avi.proofs.OtherStreams.{OtherTakes, other_given, other_keeps, other_taken}
use Rattle.ffv1_reads.proofs.Results.{cut_back, cut_front}
use Rattle.ffv1_avi.proofs.Fields.{skipped_passed}
use Rattle.ffv1_reads.proofs.WantedBytes.{passed_complete, passed_sound, taken_sound}
use Rattle.ffv1_reads.proofs.Results.{read_on_ok}
use Rattle.ffv1_avi.proofs.PassedBytes.{skip_complete}
use Rattle.ffv1_avi.proofs.StreamLaws.{SaysThat, stream_complete, stream_other, stream_sound}
use Rattle.ffv1_avi.proofs.TotalLaws.{TakesTotal, extended_complete, extended_sound}
use Rattle.ffv1_reads.proofs.Results.{ok_is, some_is}

-- a stream's list of these bytes has this head, or none
pub record StreamBytes (extent : Extent) (bytes : List ℕ) (o : Option Head) : Type 0 where
  pub fields : List Chunk
  pub bytes_are : bytes ≡ codes "strl" ++ chunks_text fields
  pub each : AreChunks fields
  pub says : SaysThat extent fields o

abbrev pub StreamTakes : Extent → Headers → Option Head → Bool → List ℕ → Headers → Type 0
StreamTakes extent s (Some head) b bytes t = OtherTakes extent s bytes t
StreamTakes extent s None false bytes t = t ≡ s
StreamTakes extent s None true bytes t = (o : Option Head) × (t ≡ stream_known s o) × StreamBytes extent bytes o

-- what is known with a number of frames
abbrev pub with_frames : Headers → Option ℕ → Headers
with_frames s n = record { passed = s.passed; head = s.head; frames = n; streams = s.streams; others = s.others }

abbrev pub ExtendedTakes : Extent → Headers → List ℕ → Headers → Type 0
ExtendedTakes FirstMovi s bytes t = t ≡ s
ExtendedTakes EveryRiff s bytes t =
    (chunks : List Chunk) × (bytes ≡ codes "odml" ++ chunks_text chunks) × AreChunks chunks × (n : Option ℕ) × Run TakesTotal s.frames chunks n × (t ≡ with_frames s n)

abbrev pub HeaderTakes : Extent → Bool → Bool → Bool → Headers → List ℕ → Headers → Type 0
HeaderTakes extent false b d s bytes t = t ≡ s
HeaderTakes extent true true d s bytes t = StreamTakes extent (stream_came extent s) s.head (nat_lt s.passed 100) bytes t
HeaderTakes extent true false true s bytes t = ExtendedTakes extent s bytes t
HeaderTakes extent true false false s bytes t = t ≡ s

abbrev pub TakesHeader : Extent → Taking Headers
TakesHeader extent s name bytes t = HeaderTakes extent (is_name name (codes "LIST")) (is_name (take 4 bytes) (codes "strl")) (is_name (take 4 bytes) (codes "odml")) s bytes t

-- a stream ends with its padding
abbrev pub stream_end : Headers → ℕ → Option Head → Reading (Headers × Option ⊥)
stream_end s size found = passed (size % 2) >>= λ _. given (stream_known s found, None)

abbrev Z : Type 0
Z = (Headers × Option ⊥) × List ℕ

pub header_sound : (extent : Extent) → Sound (visit_header extent) (TakesHeader extent)
unfolding visit_header
header_sound extent s e text t rest listed h = on_list (is_name e.name (codes "LIST")) refl h
  where
    T : Taking Headers
    T = TakesHeader extent

    on_rest : (u : Headers) (own more : List ℕ) → is_name e.name (codes "LIST") ≡ true → text ≡ own ++ more → length own ≡ 4 → ((bytes : List ℕ) → T s e.name (own ++ bytes) u) → list_skipped {Y = ⊥} u e.size more ≡ Ok ((t, None), rest) → IsPassed T s e t text rest
    on_rest u own more list whole four takes k =
        let first = read_on_ok (passed (padded e.size - 4) more) (λ _. given (u, None)) ((t, None), rest) k in
        let c = list_skip_sound e.size own more first.0 (listed list) four first.1 in
        let here : IsPassed T s e u text first.0.1 = record { bytes = own ++ c.0; padding = c.1.padding; text_is = whole ∙ c.1.text_is; long = c.1.long; padded_by = c.1.odd; takes = takes c.0 } in
        let P : Z → Type 0 = λ z. IsPassed T s e z.0.0 text z.1 in
        subst P (ok_is ((u, None), first.0.1) ((t, None), rest) first.2) here

    came : Headers
    came = stream_came extent s

    on_few : (own more : List ℕ) → s.head ≡ None → nat_lt s.passed 100 ≡ true → is_name e.name (codes "LIST") ≡ true → is_name own (codes "strl") ≡ true → text ≡ own ++ more → length own ≡ 4 →
        (stream_read extent (e.size - 4) >>= stream_end came e.size) more ≡ Ok ((t, None), rest) → IsPassed T s e t text rest
    on_few own more is few list strl whole four k =
        let room : 4 ≤ e.size = listed list in
        let first = read_on_ok (stream_read extent (e.size - 4) more) (stream_end came e.size) ((t, None), rest) k in
        let stream = stream_sound extent (e.size - 4) more first.0 first.1 in
        let next = stream_known came first.0.0 in
        let second = read_on_ok (passed (e.size % 2) first.0.1) (λ _. given (next, None)) ((t, None), rest) first.2 in
        let gone = passed_sound (e.size % 2) first.0.1 second.0 second.1 in
        let fields = stream.0 in
        let bytes = own ++ chunks_text fields in
        let all : text ≡ (bytes ++ gone.0) ++ second.0.1 = whole ∙ ap (λ z. own ++ z) (stream.1 ∙ ap (λ z. chunks_text fields ++ z) gone.1) ∙ regrouped own (chunks_text fields) gone.0 second.0.1 in
        let long : length bytes ≡ e.size = length-append own (chunks_text fields) ∙ (omega (arith, four, room, stream.3)) in
        let named : own ≡ codes "strl" = same_text own (codes "strl") (sym strl) in
        let has : StreamBytes extent bytes first.0.0 = record { fields = fields; bytes_are = ap (λ z. z ++ chunks_text fields) named; each = stream.2; says = stream.4 } in
        let takes : T s e.name bytes next = rw (list, cut_front 4 own (chunks_text fields) four, strl, is, few) (first.0.0, refl, has) in
        let here : IsPassed T s e next text second.0.1 = record { bytes = bytes; padding = gone.0; text_is = all; long = long; padded_by = gone.2; takes = takes } in
        let P : Z → Type 0 = λ z. IsPassed T s e z.0.0 text z.1 in
        subst P (ok_is ((next, None), second.0.1) ((t, None), rest) second.2) here
      where
        regrouped : (a b c d : List ℕ) → a ++ (b ++ (c ++ d)) ≡ ((a ++ b) ++ c) ++ d
        regrouped a b c d = simp append_assoc

    on_stream : (o : Option Head) (b : Bool) (own more : List ℕ) → s.head ≡ o → nat_lt s.passed 100 ≡ b → is_name e.name (codes "LIST") ≡ true → is_name own (codes "strl") ≡ true → text ≡ own ++ more → length own ≡ 4 → stream_visited extent came e.size o more ≡ Ok ((t, None), rest) → IsPassed T s e t text rest
    on_stream (Some head) b own more is few list strl whole four k =
        let other = other_taken extent came e.size own more t rest (listed list) four k in
        let there : StreamTakes extent came s.head (nat_lt s.passed 100) (own ++ other.0) t = subst (λ o. StreamTakes extent came o (nat_lt s.passed 100) (own ++ other.0) t) (sym is) other.2 in
        record { bytes = own ++ other.0; padding = other.1.padding; text_is = whole ∙ other.1.text_is; long = other.1.long; padded_by = other.1.odd; takes = rw (list, cut_front 4 own other.0 four, strl) there }
    on_stream None false own more is few list strl whole four k =
        on_rest came own more list whole four (λ bytes. rw (list, cut_front 4 own bytes four, strl, is, few) refl) (rw few at k)
    on_stream None true own more is few list strl whole four k = on_few own more is few list strl whole four (rw few at k)

    on_extended : (x : Extent) (own more : List ℕ) → extent ≡ x → is_name e.name (codes "LIST") ≡ true → is_name own (codes "strl") ≡ false → is_name own (codes "odml") ≡ true → text ≡ own ++ more → length own ≡ 4 → extended_visited x s e.size more ≡ Ok ((t, None), rest) → IsPassed T s e t text rest
    on_extended FirstMovi own more is list strl odml whole four k =
        on_rest s own more list whole four (λ bytes. rw (list, cut_front 4 own bytes four, strl, odml, is) refl) k
    on_extended EveryRiff own more is list strl odml whole four k =
        let room : 4 ≤ e.size = listed list in
        let first = read_on_ok (extended_read s.frames e.size more) (λ frames. given (with_frames s frames, None)) ((t, None), rest) k in
        let inner = extended_sound s.frames e.size more first.0 first.1 in
        let chunks = inner.chunks in
        let next = with_frames s first.0.0 in
        let bytes = own ++ chunks_text chunks in
        let all : text ≡ (bytes ++ inner.padding) ++ first.0.1 = whole ∙ ap (λ z. own ++ z) inner.text_is ∙ regrouped own (chunks_text chunks) inner.padding first.0.1 in
        let long : length bytes ≡ e.size = length-append own (chunks_text chunks) ∙ (omega (arith, four, room, inner.long)) in
        let named : own ≡ codes "odml" = same_text own (codes "odml") (sym odml) in
        let takes : T s e.name bytes next = rw (list, cut_front 4 own (chunks_text chunks) four, strl, odml, is) (chunks, ap (λ z. z ++ chunks_text chunks) named, inner.each, first.0.0, inner.run, refl) in
        let here : IsPassed T s e next text first.0.1 = record { bytes = bytes; padding = inner.padding; text_is = all; long = long; padded_by = inner.odd; takes = takes } in
        let P : Z → Type 0 = λ z. IsPassed T s e z.0.0 text z.1 in
        subst P (ok_is ((next, None), first.0.1) ((t, None), rest) first.2) here
      where
        regrouped : (a b c d : List ℕ) → a ++ ((b ++ c) ++ d) ≡ ((a ++ b) ++ c) ++ d
        regrouped a b c d = simp append_assoc

    on_own : (own more : List ℕ) (b d : Bool) → is_name own (codes "strl") ≡ b → is_name own (codes "odml") ≡ d → is_name e.name (codes "LIST") ≡ true → text ≡ own ++ more → length own ≡ 4 → header_named extent s e.size own more ≡ Ok ((t, None), rest) → IsPassed T s e t text rest
    on_own own more true d strl odml list whole four k = on_stream s.head (nat_lt s.passed 100) own more refl refl list strl whole four (rw strl at k)
    on_own own more false true strl odml list whole four k = on_extended extent own more refl list strl odml whole four (rw (strl, odml) at k)
    on_own own more false false strl odml list whole four k = on_rest s own more list whole four (λ bytes. rw (list, cut_front 4 own bytes four, strl, odml) refl) (rw (strl, odml) at k)

    on_list : (a : Bool) → is_name e.name (codes "LIST") ≡ a → visit_header extent s e text ≡ Ok ((t, None), rest) → IsPassed T s e t text rest
    on_list false p h = skipped_passed {Y = ⊥} T s e text t rest (λ bytes. rw p refl) (rw p at h)
    on_list true p h =
        let first = read_on_ok (taken 4 text) (header_named extent s e.size) ((t, None), rest) (rw p at h) in
        let own = taken_sound 4 text first.0 first.1 in
        on_own first.0.0 first.0.1 (is_name first.0.0 (codes "strl")) (is_name first.0.0 (codes "odml")) refl refl p own.0 own.1 first.2

pub header_complete : (extent : Extent) → Complete (visit_header extent) (TakesHeader extent)
unfolding visit_header
header_complete extent s e bytes padding t rest listed long odd takes = on_list (is_name e.name (codes "LIST")) (is_name (take 4 bytes) (codes "strl")) (is_name (take 4 bytes) (codes "odml")) refl refl refl takes
  where
    text : List ℕ
    text = (bytes ++ padding) ++ rest

    inner : List ℕ
    inner = (drop 4 bytes ++ padding) ++ rest

    came : Headers
    came = stream_came extent s

    skip : (u : Headers) → 4 ≤ e.size → list_skipped {Y = ⊥} u e.size inner ≡ Ok ((u, None), rest)
    skip u room = ap (λ z. read_on z (λ _. given (u, None))) (list_skip_complete e.size bytes padding rest room long odd)

    stream_is : (x : Extent) (fields : List Chunk) (o : Option Head) → AreChunks fields → SaysThat x fields o → stream_read x (length (chunks_text fields)) (chunks_text fields ++ (padding ++ rest)) ≡ Ok (o, padding ++ rest)
    stream_is x fields (Some head) each says = stream_complete x fields head (padding ++ rest) each says
    stream_is x fields None each says =
        let P : Extent → Type 0 = λ z. stream_read z (length (chunks_text fields)) (chunks_text fields ++ (padding ++ rest)) ≡ Ok (None, padding ++ rest) in
        let Q : Extent → Type 0 = λ z. SaysOther z fields in
        subst P (sym says.0) (stream_other fields (padding ++ rest) each (subst Q says.0 says.1))

    on_few : 4 ≤ e.size → (o : Option Head) → t ≡ stream_known came o → StreamBytes extent bytes o → (stream_read extent (e.size - 4) >>= stream_end came e.size) inner ≡ Ok ((t, None), rest)
    on_few room o is has =
        let fields = has.fields in
        let behind : drop 4 bytes ≡ chunks_text fields = ap (drop 4) has.bytes_are ∙ cut_back 4 (codes "strl") (chunks_text fields) refl in
        let count : e.size - 4 ≡ length (chunks_text fields) = omega (arith, long, length-drop 4 bytes, ap length behind) in
        let whole : inner ≡ chunks_text fields ++ (padding ++ rest) = append_assoc (drop 4 bytes) padding rest ∙ ap (λ z. z ++ (padding ++ rest)) behind in
        let read : stream_read extent (e.size - 4) inner ≡ Ok (o, padding ++ rest) = ap (stream_read extent (e.size - 4)) whole ∙ ap (λ n. stream_read extent n (chunks_text fields ++ (padding ++ rest))) count ∙ stream_is extent fields o has.each has.says in
        rw is
        (ap (λ z. read_on z (stream_end came e.size)) read
        ∙ ap (λ z. read_on z (λ _. given (stream_known came o, None))) (passed_complete (e.size % 2) padding rest odd))

    on_stream : (o : Option Head) (b : Bool) → nat_lt s.passed 100 ≡ b → 4 ≤ e.size → StreamTakes extent came o b bytes t → stream_visited extent came e.size o inner ≡ Ok ((t, None), rest)
    on_stream (Some head) b few room takes = other_given extent came e.size bytes padding t rest room long odd takes
    on_stream None false few room takes = rw (few, takes) (skip came room)
    on_stream None true few room takes = rw few (on_few room takes.0 takes.1 takes.2)

    on_extended : (x : Extent) → 4 ≤ e.size → ExtendedTakes x s bytes t → extended_visited x s e.size inner ≡ Ok ((t, None), rest)
    on_extended FirstMovi room takes = rw takes (skip s room)
    on_extended EveryRiff room takes =
        let chunks = takes.0 in
        let behind : drop 4 bytes ≡ chunks_text chunks = ap (drop 4) takes.1 ∙ cut_back 4 (codes "odml") (chunks_text chunks) refl in
        let count : length (chunks_text chunks) ≡ e.size - 4 = omega (arith, long, length-drop 4 bytes, ap length behind) in
        let whole : inner ≡ (chunks_text chunks ++ padding) ++ rest = ap (λ z. (z ++ padding) ++ rest) behind in
        let read : extended_read s.frames e.size inner ≡ Ok (takes.3, rest) = ap (extended_read s.frames e.size) whole ∙ extended_complete s.frames takes.3 chunks e.size padding rest count odd takes.2 takes.4 in
        rw takes.5 (ap (λ z. read_on z (λ frames. given (with_frames s frames, None))) read)

    on_list : (a b d : Bool) → is_name e.name (codes "LIST") ≡ a → is_name (take 4 bytes) (codes "strl") ≡ b → is_name (take 4 bytes) (codes "odml") ≡ d → TakesHeader extent s e.name bytes t → visit_header extent s e text ≡ Ok ((t, None), rest)
    on_list false b d p q r takes = rw (p, rw p at takes) (ap (λ z. read_on z (λ _. given (s, None))) (skip_complete e.size bytes padding rest long odd))
    on_list true true d p q r takes =
        let own = own_taken e.size bytes padding rest (listed p) long in
        rw p (ap (λ z. read_on z (header_named extent s e.size)) own ∙ rw q (on_stream s.head (nat_lt s.passed 100) refl (listed p) (rw (p, q) at takes)))
    on_list true false true p q r takes =
        let own = own_taken e.size bytes padding rest (listed p) long in
        rw p (ap (λ z. read_on z (header_named extent s e.size)) own ∙ rw (q, r) (on_extended extent (listed p) (rw (p, q, r) at takes)))
    on_list true false false p q r takes =
        let own = own_taken e.size bytes padding rest (listed p) long in
        rw (p, rw (p, q, r) at takes) (ap (λ z. read_on z (header_named extent s e.size)) own ∙ rw (q, r) (skip s (listed p)))

-- the list hdrl after its own name
pub header_read_sound : (extent : Extent) (s : Headers) (size : ℕ) (text : List ℕ) (p : Headers × List ℕ) → header_read extent s size text ≡ Ok p → IsList (TakesHeader extent) s size text p.0 p.1
unfolding header_read
header_read_sound extent s size text p h = list_read_sound (visit_header extent) (TakesHeader extent) (header_sound extent) s size text p h

pub header_read_complete : (extent : Extent) (s t : Headers) (chunks : List Chunk) (size : ℕ) (padding rest : List ℕ) → length (chunks_text chunks) ≡ size - 4 → length padding ≡ size % 2 → AreChunks chunks → Run (TakesHeader extent) s chunks t →
    header_read extent s size ((chunks_text chunks ++ padding) ++ rest) ≡ Ok (t, rest)
unfolding header_read
header_read_complete extent s t chunks size padding rest long odd each run = list_read_complete (visit_header extent) (TakesHeader extent) (header_complete extent) s t chunks size padding rest long odd each run

no_head : (head : Head) → ◌≡◌ {A = Option Head} (Some head) None → ⊥
no_head head e = absurd (cc)

-- a head that was found stays, with its number
pub run_kept : (extent : Extent) (cs : List Chunk) (s t : Headers) (head : Head) → s.head ≡ Some head → Run (TakesHeader extent) s cs t → (t.head ≡ Some head) × (t.passed ≡ s.passed)
run_kept extent [] s t head some run = (ap (λ (z : Headers). z.head) run ∙ some, ap (λ (z : Headers). z.passed) run)
run_kept extent (c ∷ cs) s t head some run =
    let here = stays (is_name c.name (codes "LIST")) (is_name (take 4 c.bytes) (codes "strl")) (is_name (take 4 c.bytes) (codes "odml")) run.0 run.1 in
    let later = run_kept extent cs run.0 t head (here.0 ∙ some) run.2 in
    (later.0, later.1 ∙ here.1)
  where
    same : (m : Headers) → m ≡ s → (m.head ≡ s.head) × (m.passed ≡ s.passed)
    same m is = (ap (λ (z : Headers). z.head) is, ap (λ (z : Headers). z.passed) is)

    came : (m : Headers) → m ≡ stream_came extent s → (m.head ≡ s.head) × (m.passed ≡ s.passed)
    came m is = (ap (λ (z : Headers). z.head) is, ap (λ (z : Headers). z.passed) is)

    on_stream : (o : Option Head) (b : Bool) (m : Headers) → s.head ≡ o → StreamTakes extent (stream_came extent s) o b c.bytes m → (m.head ≡ s.head) × (m.passed ≡ s.passed)
    on_stream (Some x) b m is takes = let kept = other_keeps extent (stream_came extent s) m c.bytes takes in (kept.0, kept.1)
    on_stream None b m is takes = absurd (no_head head (sym some ∙ is))

    on_extended : (x : Extent) (m : Headers) → ExtendedTakes x s c.bytes m → (m.head ≡ s.head) × (m.passed ≡ s.passed)
    on_extended FirstMovi m takes = same m takes
    on_extended EveryRiff m takes = (ap (λ (z : Headers). z.head) takes.5, ap (λ (z : Headers). z.passed) takes.5)

    stays : (a b d : Bool) (m : Headers) → HeaderTakes extent a b d s c.bytes m → (m.head ≡ s.head) × (m.passed ≡ s.passed)
    stays false b d m takes = same m takes
    stays true true d m takes = on_stream s.head (nat_lt s.passed 100) m refl takes
    stays true false true m takes = on_extended extent m takes
    stays true false false m takes = same m takes

-- after 100 streams none counts
run_many : (extent : Extent) (cs : List Chunk) (s t : Headers) → s.head ≡ None → nat_lt s.passed 100 ≡ false → Run (TakesHeader extent) s cs t → t.head ≡ None
run_many extent [] s t none many run = ap (λ (z : Headers). z.head) run ∙ none
run_many extent (c ∷ cs) s t none many run =
    let here = stays (is_name c.name (codes "LIST")) (is_name (take 4 c.bytes) (codes "strl")) (is_name (take 4 c.bytes) (codes "odml")) run.0 run.1 in
    run_many extent cs run.0 t (here.0 ∙ none) (ap (λ n. nat_lt n 100) here.1 ∙ many) run.2
  where
    same : (m : Headers) → m ≡ s → (m.head ≡ s.head) × (m.passed ≡ s.passed)
    same m is = (ap (λ (z : Headers). z.head) is, ap (λ (z : Headers). z.passed) is)

    came : (m : Headers) → m ≡ stream_came extent s → (m.head ≡ s.head) × (m.passed ≡ s.passed)
    came m is = (ap (λ (z : Headers). z.head) is, ap (λ (z : Headers). z.passed) is)

    on_stream : (o : Option Head) (b : Bool) (m : Headers) → s.head ≡ o → nat_lt s.passed 100 ≡ b → StreamTakes extent (stream_came extent s) o b c.bytes m → (m.head ≡ s.head) × (m.passed ≡ s.passed)
    on_stream (Some x) b m is few takes = let kept = other_keeps extent (stream_came extent s) m c.bytes takes in (kept.0, kept.1)
    on_stream None false m is few takes = came m takes
    on_stream None true m is few takes = let gone : true ≡ false = sym few ∙ many in absurd (cc)

    on_extended : (x : Extent) (m : Headers) → ExtendedTakes x s c.bytes m → (m.head ≡ s.head) × (m.passed ≡ s.passed)
    on_extended FirstMovi m takes = same m takes
    on_extended EveryRiff m takes = (ap (λ (z : Headers). z.head) takes.5, ap (λ (z : Headers). z.passed) takes.5)

    stays : (a b d : Bool) (m : Headers) → HeaderTakes extent a b d s c.bytes m → (m.head ≡ s.head) × (m.passed ≡ s.passed)
    stays false b d m takes = same m takes
    stays true true d m takes = on_stream s.head (nat_lt s.passed 100) m refl refl takes
    stays true false true m takes = on_extended extent m takes
    stays true false false m takes = same m takes

-- of some streams those before the one with the head that was found are no FFV1 video
pub record IsFound (extent : Extent) (n : ℕ) (streams : List Chunk) (head : Head) (m : ℕ) : Type 0 where
  pub before : List Chunk
  pub stream : Chunk
  pub after : List Chunk
  pub parted : streams ≡ before ++ stream ∷ after
  pub others : AreOthers extent before
  pub is : IsStream extent stream head
  pub number : m ≡ n + length before
  pub few : m < 100

pub run_streams : (extent : Extent) (cs : List Chunk) (s t : Headers) (head : Head) → s.head ≡ None → t.head ≡ Some head → Run (TakesHeader extent) s cs t → IsFound extent s.passed (those (is_list (codes "strl")) cs) head t.passed
run_streams extent [] s t head none some run = absurd (no_head head (sym some ∙ ap (λ (z : Headers). z.head) run ∙ none))
run_streams extent (c ∷ cs) s t head none some run =
    on_list (is_name c.name (codes "LIST")) (is_name (take 4 c.bytes) (codes "strl")) (is_name (take 4 c.bytes) (codes "odml")) refl refl refl run.0 run.1 run.2 (λ m no r. run_streams extent cs m t head no some r)
  where
    Goal : Type 0
    Goal = IsFound extent s.passed (those (is_list (codes "strl")) (c ∷ cs)) head t.passed

    Again : Type 0
    Again = (m : Headers) → m.head ≡ None → Run (TakesHeader extent) m cs t → IsFound extent m.passed (those (is_list (codes "strl")) cs) head t.passed

    -- a chunk that is no stream
    passing : (m : Headers) → (m.head ≡ s.head) × (m.passed ≡ s.passed) → is_list (codes "strl") c ≡ false → Run (TakesHeader extent) m cs t → Again → Goal
    passing m same is r again =
        let P : ℕ → Type 0 = λ z. IsFound extent z (those (is_list (codes "strl")) cs) head t.passed in
        rw is (subst P same.1 (again m (same.0 ∙ none) r))

    same : (m : Headers) → m ≡ s → (m.head ≡ s.head) × (m.passed ≡ s.passed)
    same m is = (ap (λ (z : Headers). z.head) is, ap (λ (z : Headers). z.passed) is)

    on_found : (o : Option Head) (m : Headers) → nat_lt s.passed 100 ≡ true → m ≡ stream_known (stream_came extent s) o → StreamBytes extent c.bytes o → is_list (codes "strl") c ≡ true → Run (TakesHeader extent) m cs t → Again → Goal
    on_found (Some x) m few is has list r again =
        let kept = run_kept extent cs m t x (ap (λ (z : Headers). z.head) is) r in
        let one : x ≡ head = some_is x head (sym kept.0 ∙ some) in
        let number : t.passed ≡ s.passed = kept.1 ∙ ap (λ (z : Headers). z.passed) is in
        let P : Head → Type 0 = λ z. IsStream extent c z in
        let stream : IsStream extent c x = record { fields = has.fields; bytes = has.bytes_are; each = has.each; says = has.says } in
        let low : s.passed < 100 = ltb-true _ _ few in
        rw list (record { before = []; stream = c; after = those (is_list (codes "strl")) cs; parted = refl; others = tt; is = subst P one stream; number = omega (arith, number); few = omega (arith, number, low) })
    on_found None m few is has list r again =
        let passed : m.passed ≡ s.passed + 1 = ap (λ (z : Headers). z.passed) is in
        let more = again m (ap (λ (z : Headers). z.head) is) r in
        let other : IsOther extent c = record { extent_is = has.says.0; fields = has.fields; bytes = has.bytes_are; each = has.each; says = has.says.1 } in
        rw list (record { before = c ∷ more.before; stream = more.stream; after = more.after; parted = ap (λ z. c ∷ z) more.parted; others = (other, more.others); is = more.is; number = omega (arith, more.number, passed); few = more.few })

    on_stream : (o : Option Head) (b : Bool) (m : Headers) → s.head ≡ o → nat_lt s.passed 100 ≡ b → StreamTakes extent (stream_came extent s) o b c.bytes m → is_list (codes "strl") c ≡ true → Run (TakesHeader extent) m cs t → Again → Goal
    on_stream (Some x) b m is few takes list r again = absurd (no_head x (sym is ∙ none))
    on_stream None true m is few takes list r again = on_found takes.0 m few takes.1 takes.2 list r again
    on_stream None false m is few takes list r again =
        let P : Headers → Type 0 = λ z. Run (TakesHeader extent) z cs t in
        absurd (no_head head (sym some ∙ run_many extent cs (stream_came extent s) t none few (subst P takes r)))

    on_extended : (x : Extent) (m : Headers) → ExtendedTakes x s c.bytes m → (m.head ≡ s.head) × (m.passed ≡ s.passed)
    on_extended FirstMovi m takes = same m takes
    on_extended EveryRiff m takes = (ap (λ (z : Headers). z.head) takes.5, ap (λ (z : Headers). z.passed) takes.5)

    on_list : (a b d : Bool) → is_name c.name (codes "LIST") ≡ a → is_name (take 4 c.bytes) (codes "strl") ≡ b → is_name (take 4 c.bytes) (codes "odml") ≡ d → (m : Headers) → TakesHeader extent s c.name c.bytes m → Run (TakesHeader extent) m cs t → Again → Goal
    on_list false b d p q r m takes run again = passing m (same m (rw p at takes)) (rw p refl) run again
    on_list true true d p q r m takes run again = on_stream s.head (nat_lt s.passed 100) m refl refl (rw (p, q) at takes) (rw (p, q) refl) run again
    on_list true false true p q r m takes run again = passing m (on_extended extent m (rw (p, q, r) at takes)) (rw (p, q) refl) run again
    on_list true false false p q r m takes run again = passing m (same m (rw (p, q, r) at takes)) (rw (p, q) refl) run again

-- if the first movi alone is read, chunks without a stream make nothing known
pub run_none : (cs : List Chunk) (s : Headers) → those (is_list (codes "strl")) cs ≡ [] → Run (TakesHeader FirstMovi) s cs s
run_none [] s none = refl
run_none (c ∷ cs) s none = on_list (is_name c.name (codes "LIST")) (is_name (take 4 c.bytes) (codes "strl")) (is_name (take 4 c.bytes) (codes "odml")) refl refl refl (λ h. run_none cs s h)
  where
    on_list : (a b d : Bool) → is_name c.name (codes "LIST") ≡ a → is_name (take 4 c.bytes) (codes "strl") ≡ b → is_name (take 4 c.bytes) (codes "odml") ≡ d → (those (is_list (codes "strl")) cs ≡ [] → Run (TakesHeader FirstMovi) s cs s) → Run (TakesHeader FirstMovi) s (c ∷ cs) s
    on_list false b d p q r go = (s, rw p refl, go (rw p at none))
    on_list true false true p q r go = (s, rw (p, q, r) refl, go (rw (p, q) at none))
    on_list true false false p q r go = (s, rw (p, q, r) refl, go (rw (p, q) at none))
    on_list true true d p q r go = let gone : c ∷ those (is_list (codes "strl")) cs ≡ [] = rw (p, q) at none in absurd (cc)

-- if the first movi alone is read, streams are not counted
first_came : (s : Headers) → s ≡ stream_came FirstMovi s
first_came s = refl

-- after the first stream all are passed
pub run_keep : (cs : List Chunk) (s : Headers) (head : Head) → s.head ≡ Some head → Run (TakesHeader FirstMovi) s cs s
run_keep [] s head some = refl
run_keep (c ∷ cs) s head some = (s, takes (is_name c.name (codes "LIST")) (is_name (take 4 c.bytes) (codes "strl")) (is_name (take 4 c.bytes) (codes "odml")), run_keep cs s head some)
  where
    kept : (o : Option Head) (b : Bool) → o ≡ Some head → StreamTakes FirstMovi (stream_came FirstMovi s) o b c.bytes s
    kept None b is = absurd (no_head head (sym is))
    kept (Some x) b is = first_came s

    takes : (a b d : Bool) → HeaderTakes FirstMovi a b d s c.bytes s
    takes false b d = refl
    takes true false true = refl
    takes true false false = refl
    takes true true d = kept s.head (nat_lt s.passed 100) some

abbrev pub headed : Head → Headers
headed head = stream_known no_headers (Some head)

pub run_some : (cs : List Chunk) (stream : Chunk) (others : List Chunk) (head : Head) → those (is_list (codes "strl")) cs ≡ stream ∷ others → IsStream FirstMovi stream head → Run (TakesHeader FirstMovi) no_headers cs (headed head)
run_some [] stream others head first has = absurd (cc)
run_some (c ∷ cs) stream others head first has = on_list (is_name c.name (codes "LIST")) (is_name (take 4 c.bytes) (codes "strl")) (is_name (take 4 c.bytes) (codes "odml")) refl refl refl (λ h. run_some cs stream others head h has)
  where
    Again : Type 0
    Again = those (is_list (codes "strl")) cs ≡ stream ∷ others → Run (TakesHeader FirstMovi) no_headers cs (headed head)

    on_list : (a b d : Bool) → is_name c.name (codes "LIST") ≡ a → is_name (take 4 c.bytes) (codes "strl") ≡ b → is_name (take 4 c.bytes) (codes "odml") ≡ d → Again → Run (TakesHeader FirstMovi) no_headers (c ∷ cs) (headed head)
    on_list false b d p q r go = (no_headers, rw p refl, go (rw p at first))
    on_list true false true p q r go = (no_headers, rw (p, q, r) refl, go (rw (p, q) at first))
    on_list true false false p q r go = (no_headers, rw (p, q, r) refl, go (rw (p, q) at first))
    on_list true true d p q r go =
        let gone : c ∷ those (is_list (codes "strl")) cs ≡ stream ∷ others = rw (p, q) at first in
        let same : stream ≡ c = cc in
        let P : Chunk → Type 0 = λ z. IsStream FirstMovi z head in
        let here = subst P same has in
        let bytes : StreamBytes FirstMovi c.bytes (Some head) = record { fields = here.fields; bytes_are = here.bytes; each = here.each; says = here.says } in
        (headed head, rw (p, q) (Some head, refl, bytes), run_keep cs (headed head) head refl)

-- the first stream has the head that was found
pub first_found : (streams : List Chunk) (head : Head) (m : ℕ) → IsFound FirstMovi 0 streams head m → (stream : Chunk) × (others : List Chunk) × (streams ≡ stream ∷ others) × IsStream FirstMovi stream head
first_found streams head m found = on_before found.before found.parted found.others
  where
    on_before : (before : List Chunk) → streams ≡ before ++ found.stream ∷ found.after → AreOthers FirstMovi before → (stream : Chunk) × (others : List Chunk) × (streams ≡ stream ∷ others) × IsStream FirstMovi stream head
    on_before [] parted others = (found.stream, found.after, parted, found.is)
    on_before (s ∷ ss) parted others = let gone : ◌≡◌ {A = Extent} FirstMovi EveryRiff = others.0.extent_is in absurd (cc)

-- The chunks of RIFF up to movi.
use Rattle.std.proofs.Common.{◌≡◌, ℕ, ◌-◌, ◌≤◌, ◌==◌, if◌then◌else◌, Bool, true, false, Option, Some, None, Result, Ok, List, ◌++◌, length, take, drop, codes, ap, ◌∙◌, sym, subst, arith, refl, append_assoc, length-append, length-drop}
use Rattle.std.specs.Cmp.Lexicographic.{same_text}
use Rattle.ffv1_avi.specs.declared.chunk.Entry.{Entry}
use Rattle.ffv1_reads.specs.Reads.{Stop}
use Rattle.ffv1_avi.specs.Chunks.{AreChunks, Chunk, chunks_text}
use Rattle.ffv1_avi.specs.Files.{Headers, header_read, list_named, list_visited, movi_reached, open_movi_reached, owed, sizeless_visited, visit_top}
use Rattle.ffv1_avi.specs.Opens.{list_skipped}
use Rattle.ffv1_reads.specs.Head.{Head}
use Rattle.ffv1_avi.specs.declared.place.Extent.{Extent}
use Rattle.ffv1_avi.specs.declared.place.Place.{Place}
use Rattle.ffv1_avi.specs.Places.{first_open, first_place}
use Rattle.ffv1_avi.specs.Names.{riff_rule}
use Rattle.std.proofs.lemmas.Bool.{eq-eqb, ne_eqb}
use Rattle.ffv1_reads.specs.declared.fault.FileFault.TheVariants as fault
use Rattle.ffv1_reads.specs.Reads.{Reading, given, passed, read_on, refused, taken, ◌>>=◌}
use Rattle.ffv1_avi.specs.Padding.{padded}
use Rattle.ffv1_avi.specs.Walk.{is_name}
use Rattle.ffv1_avi.proofs.ListWalks.{Complete, Halting, IsPassed, Run, Sound, Taking}
use Rattle.ffv1_reads.proofs.Results.{cut_back, cut_front}
use Rattle.ffv1_avi.proofs.Fields.{skipped_passed}
use Rattle.ffv1_avi.proofs.HeaderLaws.{TakesHeader, header_read_complete, header_read_sound}
use Rattle.ffv1_avi.proofs.InnerLists.{list_skip_complete, list_skip_sound, own_taken}
use Rattle.ffv1_reads.proofs.Results.{read_on_ok}
use Rattle.ffv1_avi.proofs.PassedBytes.{skip_complete}
use Rattle.ffv1_reads.proofs.WantedBytes.{taken_sound}
use Rattle.ffv1_reads.proofs.Results.{ok_is, some_is}
use Rattle.ffv1_avi.specs.declared.place.Names.TheVariants.{Closed}

abbrev pub TopTakes : Extent → Bool → Bool → Bool → Headers → List ℕ → Headers → Type 0
TopTakes extent false h m s bytes t = t ≡ s
TopTakes extent true true m s bytes t = (chunks : List Chunk) × (bytes ≡ codes "hdrl" ++ chunks_text chunks) × AreChunks chunks × Run (TakesHeader extent) s chunks t
TopTakes extent true false true s bytes t = ⊥
TopTakes extent true false false s bytes t = t ≡ s

abbrev pub TakesTop : Extent → Taking Headers
TakesTop extent s name bytes t = TopTakes extent (is_name name (codes "LIST")) (is_name (take 4 bytes) (codes "hdrl")) (is_name (take 4 bytes) (codes "movi")) s bytes t

abbrev Z : Type 0
Z = (Headers × Option (Head × Place)) × List ℕ

no_some : {X : Type 0} (x : X) → ◌≡◌ {A = Option X} (Some x) None → ⊥
no_some x e = absurd (cc)

-- a size with room for a name is none
pub some_size : (n : ℕ) → 4 ≤ n → (n == 0) ≡ false
some_size n room = ne_eqb n 0 (λ e. omega (arith, e, room))

abbrev going : Headers → Reading (Headers × Option (Head × Place))
going found = given (found, None)

pub top_sound : (extent : Extent) → Sound (visit_top extent) (TakesTop extent)
unfolding visit_top
top_sound extent s e text t rest listed h = on_list (is_name e.name (codes "LIST")) refl h
  where
    on_rest : (own more : List ℕ) → is_name e.name (codes "LIST") ≡ true → text ≡ own ++ more → length own ≡ 4 → is_name own (codes "hdrl") ≡ false → is_name own (codes "movi") ≡ false → list_skipped {Y = Head × Place} s e.size more ≡ Ok ((t, None), rest) → IsPassed (TakesTop extent) s e t text rest
    on_rest own more list whole four hdrl movi k =
        let first = read_on_ok (passed (padded e.size - 4) more) (λ _. given (s, None)) ((t, None), rest) k in
        let c = list_skip_sound e.size own more first.0 (listed list) four first.1 in
        let here : IsPassed (TakesTop extent) s e s text first.0.1 = record { bytes = own ++ c.0; padding = c.1.padding; text_is = whole ∙ c.1.text_is; long = c.1.long; padded_by = c.1.odd; takes = rw (list, cut_front 4 own c.0 four, hdrl, movi) refl } in
        let P : Z → Type 0 = λ z. IsPassed (TakesTop extent) s e z.0.0 text z.1 in
        subst P (ok_is ((s, None), first.0.1) ((t, None), rest) first.2) here

    on_header : (own more : List ℕ) → is_name e.name (codes "LIST") ≡ true → text ≡ own ++ more → length own ≡ 4 → is_name own (codes "hdrl") ≡ true → (header_read extent s e.size >>= going) more ≡ Ok ((t, None), rest) → IsPassed (TakesTop extent) s e t text rest
    on_header own more list whole four hdrl k =
        let room : 4 ≤ e.size = listed list in
        let first = read_on_ok (header_read extent s e.size more) going ((t, None), rest) k in
        let header = header_read_sound extent s e.size more first.0 first.1 in
        let chunks = header.chunks in
        let bytes = own ++ chunks_text chunks in
        let all : text ≡ (bytes ++ header.padding) ++ first.0.1 = whole ∙ ap (λ z. own ++ z) header.text_is ∙ regrouped own (chunks_text chunks) header.padding first.0.1 in
        let long : length bytes ≡ e.size = length-append own (chunks_text chunks) ∙ (omega (arith, four, room, header.long)) in
        let named : own ≡ codes "hdrl" = same_text own (codes "hdrl") (sym hdrl) in
        let takes : TakesTop extent s e.name bytes first.0.0 = rw (list, cut_front 4 own (chunks_text chunks) four, hdrl) (chunks, ap (λ z. z ++ chunks_text chunks) named, header.each, header.run) in
        let here : IsPassed (TakesTop extent) s e first.0.0 text first.0.1 = record { bytes = bytes; padding = header.padding; text_is = all; long = long; padded_by = header.odd; takes = takes } in
        let P : Z → Type 0 = λ z. IsPassed (TakesTop extent) s e z.0.0 text z.1 in
        subst P (ok_is ((first.0.0, None), first.0.1) ((t, None), rest) first.2) here
      where
        regrouped : (a b c d : List ℕ) → a ++ ((b ++ c) ++ d) ≡ ((a ++ b) ++ c) ++ d
        regrouped a b c d = simp append_assoc

    on_movi : (o : Option Head) (more : List ℕ) → movi_reached extent s e.left e.size o more ≡ Ok ((t, None), rest) → ⊥
    on_movi None more k = absurd (cc)
    on_movi (Some head) more k =
        let q : Head × Place = (head, first_place extent e.left (e.size - 4) (Closed s.passed s.streams) (owed s.frames)) in
        no_some q (ap (λ (z : Z). z.0.1) (ok_is ((s, Some q), more) ((t, None), rest) k))

    on_own : (own more : List ℕ) (a b : Bool) → is_name own (codes "hdrl") ≡ a → is_name own (codes "movi") ≡ b → is_name e.name (codes "LIST") ≡ true → text ≡ own ++ more → length own ≡ 4 → list_visited extent s e.left e.size own more ≡ Ok ((t, None), rest) → IsPassed (TakesTop extent) s e t text rest
    on_own own more true b p q list whole four k = on_header own more list whole four p (rw (some_size e.size (listed list), p) at k)
    on_own own more false true p q list whole four k = absurd (on_movi s.head more (rw (some_size e.size (listed list), p, q) at k))
    on_own own more false false p q list whole four k = on_rest own more list whole four p q (rw (some_size e.size (listed list), p, q) at k)

    on_list : (a : Bool) → is_name e.name (codes "LIST") ≡ a → visit_top extent s e text ≡ Ok ((t, None), rest) → IsPassed (TakesTop extent) s e t text rest
    on_list false p h = skipped_passed {Y = Head × Place} (TakesTop extent) s e text t rest (λ bytes. rw p refl) (rw p at h)
    on_list true p h =
        let first = read_on_ok (taken 4 text) (list_visited extent s e.left e.size) ((t, None), rest) (rw p at h) in
        let own = taken_sound 4 text first.0 first.1 in
        on_own first.0.0 first.0.1 (is_name first.0.0 (codes "hdrl")) (is_name first.0.0 (codes "movi")) refl refl p own.0 own.1 first.2

pub top_complete : (extent : Extent) → Complete (visit_top extent) (TakesTop extent)
unfolding visit_top
top_complete extent s e bytes padding t rest listed long odd takes = on_list (is_name e.name (codes "LIST")) (is_name (take 4 bytes) (codes "hdrl")) (is_name (take 4 bytes) (codes "movi")) refl refl refl takes
  where
    text : List ℕ
    text = (bytes ++ padding) ++ rest

    behind : List ℕ
    behind = (drop 4 bytes ++ padding) ++ rest

    on_list : (a b c : Bool) → is_name e.name (codes "LIST") ≡ a → is_name (take 4 bytes) (codes "hdrl") ≡ b → is_name (take 4 bytes) (codes "movi") ≡ c → TakesTop extent s e.name bytes t → visit_top extent s e text ≡ Ok ((t, None), rest)
    on_list false b c p q r takes = rw (p, rw p at takes) (ap (λ z. read_on z (λ _. given (s, None))) (skip_complete e.size bytes padding rest long odd))
    on_list true true c p q r takes =
        let room : 4 ≤ e.size = listed p in
        let header = rw (p, q) at takes in
        let chunks = header.0 in
        let own = own_taken e.size bytes padding rest room long in
        let is : drop 4 bytes ≡ chunks_text chunks = ap (drop 4) header.1 ∙ cut_back 4 (codes "hdrl") (chunks_text chunks) refl in
        let count : length (chunks_text chunks) ≡ e.size - 4 = omega (arith, long, length-drop 4 bytes, ap length is) in
        let read : header_read extent s e.size behind ≡ Ok (t, rest) = ap (λ z. header_read extent s e.size ((z ++ padding) ++ rest)) is ∙ header_read_complete extent s t chunks e.size padding rest count odd header.2 header.3 in
        rw p (ap (λ z. read_on z (list_visited extent s e.left e.size)) own ∙ rw (some_size e.size room, q) (ap (λ z. read_on z going) read))
    on_list true false true p q r takes = absurd (rw (p, q, r) at takes)
    on_list true false false p q r takes =
        let room : 4 ≤ e.size = listed p in
        let own = own_taken e.size bytes padding rest room long in
        rw (p, rw (p, q, r) at takes) (ap (λ z. read_on z (list_visited extent s e.left e.size)) own ∙ rw (some_size e.size room, q, r) (ap (λ z. read_on z (λ _. given (s, None))) (list_skip_complete e.size bytes padding rest room long odd)))

-- where the first movi stands, in a list of RIFF whose size is given so
abbrev pub movi_place : Extent → ℕ → ℕ → Headers → Place
movi_place extent left size s =
    if size == 0 then first_open (Closed s.passed s.streams) (owed s.frames)
    else first_place extent left (size - 4) (Closed s.passed s.streams) (owed s.frames)

-- if the walk of RIFF stops there is movi
pub record IsMovi (extent : Extent) (s : Headers) (e : Entry) (text : List ℕ) (y : Head × Place) (rest : List ℕ) : Type 0 where
  pub list : is_name e.name (codes "LIST") ≡ true
  pub text_is : text ≡ codes "movi" ++ rest
  pub head : s.head ≡ Some y.0
  pub place : y.1 ≡ movi_place extent e.left e.size s

pub top_stop : (extent : Extent) (s : Headers) (e : Entry) (text : List ℕ) (t : Headers) (y : Head × Place) (rest : List ℕ) → visit_top extent s e text ≡ Ok ((t, Some y), rest) → IsMovi extent s e text y rest
unfolding visit_top
top_stop extent s e text t y rest h = on_list (is_name e.name (codes "LIST")) refl h
  where
    reached : Place → Option Head → Reading (Headers × Option (Head × Place))
    reached q None = refused fault.NoFfv1
    reached q (Some head) = given (s, Some (head, q))

    movi_is : (o : Option Head) (more : List ℕ) → reached (first_place extent e.left (e.size - 4) (Closed s.passed s.streams) (owed s.frames)) o more ≡ movi_reached extent s e.left e.size o more
    movi_is None more = refl
    movi_is (Some head) more = refl

    open_is : (o : Option Head) (more : List ℕ) → reached (first_open (Closed s.passed s.streams) (owed s.frames)) o more ≡ open_movi_reached s o more
    open_is None more = refl
    open_is (Some head) more = refl

    never : (u : Headers) (more : List ℕ) → ◌≡◌ {A = Result Z Stop} (Ok ((u, None), more)) (Ok ((t, Some y), rest)) → ⊥
    never u more k = no_some y (sym (ap (λ (z : Z). z.0.1) (ok_is ((u, None), more) ((t, Some y), rest) k)))

    on_movi : (q : Place) (o : Option Head) (own more : List ℕ) → q ≡ movi_place extent e.left e.size s → s.head ≡ o → is_name e.name (codes "LIST") ≡ true → text ≡ own ++ more → is_name own (codes "movi") ≡ true → reached q o more ≡ Ok ((t, Some y), rest) → IsMovi extent s e text y rest
    on_movi q None own more stands is list whole movi k = absurd (cc)
    on_movi q (Some head) own more stands is list whole movi k =
        let found = ok_is ((s, Some (head, q)), more) ((t, Some y), rest) k in
        let made : Head × Place = (head, q) in
        let pair : made ≡ y = some_is made y (ap (λ (z : Z). z.0.1) found) in
        let behind : more ≡ rest = ap (λ (z : Z). z.1) found in
        let named : own ≡ codes "movi" = same_text own (codes "movi") (sym movi) in
        record { list = list; text_is = whole ∙ ap (λ z. z ++ more) named ∙ ap (λ z. codes "movi" ++ z) behind; head = is ∙ ap (λ (z : Head × Place). Some z.0) pair; place = sym (ap (λ (z : Head × Place). z.1) pair) ∙ stands }

    on_named : (own more : List ℕ) (a b : Bool) → (e.size == 0) ≡ false → is_name own (codes "hdrl") ≡ a → is_name own (codes "movi") ≡ b → is_name e.name (codes "LIST") ≡ true → text ≡ own ++ more → list_named extent s e.left e.size own more ≡ Ok ((t, Some y), rest) → IsMovi extent s e text y rest
    on_named own more true b z p q list whole k =
        let first = read_on_ok (header_read extent s e.size more) going ((t, Some y), rest) (rw p at k) in
        absurd (never first.0.0 first.0.1 first.2)
    on_named own more false true z p q list whole k = on_movi (first_place extent e.left (e.size - 4) (Closed s.passed s.streams) (owed s.frames)) s.head own more (rw z refl) refl list whole q (let there = rw (p, q) at k in movi_is s.head more ∙ there)
    on_named own more false false z p q list whole k =
        let first = read_on_ok (passed (padded e.size - 4) more) (λ _. given (s, None)) ((t, Some y), rest) (rw (p, q) at k) in
        absurd (never s first.0.1 first.2)

    on_sizeless : (own more : List ℕ) (b : Bool) → (e.size == 0) ≡ true → is_name own (codes "movi") ≡ b → is_name e.name (codes "LIST") ≡ true → text ≡ own ++ more → sizeless_visited s own more ≡ Ok ((t, Some y), rest) → IsMovi extent s e text y rest
    on_sizeless own more false z q list whole k = absurd (cc (rw q at k))
    on_sizeless own more true z q list whole k = on_movi (first_open (Closed s.passed s.streams) (owed s.frames)) s.head own more (rw z refl) refl list whole q (let there = rw q at k in open_is s.head more ∙ there)

    on_own : (own more : List ℕ) (z : Bool) → (e.size == 0) ≡ z → is_name e.name (codes "LIST") ≡ true → text ≡ own ++ more → list_visited extent s e.left e.size own more ≡ Ok ((t, Some y), rest) → IsMovi extent s e text y rest
    on_own own more true z list whole k = on_sizeless own more (is_name own (codes "movi")) z refl list whole (rw z at k)
    on_own own more false z list whole k = on_named own more (is_name own (codes "hdrl")) (is_name own (codes "movi")) z refl refl list whole (rw z at k)

    on_list : (a : Bool) → is_name e.name (codes "LIST") ≡ a → visit_top extent s e text ≡ Ok ((t, Some y), rest) → IsMovi extent s e text y rest
    on_list false p h =
        let first = read_on_ok (passed (padded e.size) text) (λ _. given (s, None)) ((t, Some y), rest) (rw p at h) in
        absurd (never s first.0.1 first.2)
    on_list true p h =
        let first = read_on_ok (taken 4 text) (list_visited extent s e.left e.size) ((t, Some y), rest) (rw p at h) in
        let own = taken_sound 4 text first.0 first.1 in
        on_own first.0.0 first.0.1 (e.size == 0) refl p own.0 first.2

-- a list without size is not passed
pub top_stays : (extent : Extent) (s : Headers) (e : Entry) (text : List ℕ) (t : Headers) (rest : List ℕ) → e.size ≡ 0 → is_name e.name (codes "LIST") ≡ true → visit_top extent s e text ≡ Ok ((t, None), rest) → ⊥
unfolding visit_top
top_stays extent s e text t rest none list h =
    let first = read_on_ok (taken 4 text) (list_visited extent s e.left e.size) ((t, None), rest) (rw list at h) in
    on_name first.0.0 first.0.1 (is_name first.0.0 (codes "movi")) refl (rw (eq-eqb e.size 0 none) at first.2)
  where
    on_head : (o : Option Head) (more : List ℕ) → open_movi_reached s o more ≡ Ok ((t, None), rest) → ⊥
    on_head None more k = absurd (cc)
    on_head (Some head) more k =
        let q : Head × Place = (head, first_open (Closed s.passed s.streams) (owed s.frames)) in
        no_some q (ap (λ (z : Z). z.0.1) (ok_is ((s, Some q), more) ((t, None), rest) k))

    on_name : (own more : List ℕ) (b : Bool) → is_name own (codes "movi") ≡ b → sizeless_visited s own more ≡ Ok ((t, None), rest) → ⊥
    on_name own more false p k = absurd (cc (rw p at k))
    on_name own more true p k = on_head s.head more (rw p at k)

pub top_halts : (extent : Extent) → Halting (riff_rule extent) (visit_top extent)
top_halts extent may s e text t rest none list h = top_stays extent s e text t rest none list h

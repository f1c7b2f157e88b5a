-- The RIFFs of a file after its first movi.
use Rattle.std.proofs.Common.{◌≡◌, ℕ, ◌+◌, ◌-◌, ◌≤◌, ◌&&◌, Bool, true, false, Option, Some, None, Ok, List, [], ◌∷◌, ◌++◌, length, take, codes, map, ap, ◌∙◌, sym, subst, arith, refl, append_assoc}
use Rattle.std.specs.Cmp.Lexicographic.{same_text}
use Rattle.byteorder.specs.Endian.{little_number}
use Rattle.ffv1_avi.specs.declared.chunk.Entry.{Entry}
use Rattle.ffv1_avi.specs.declared.place.Names.{Names}
use Rattle.ffv1_avi.specs.Names.{is_frame, least_bytes, most_bytes, opens}
use Rattle.ffv1_avi.specs.Chunks.{AreChunks, AreFrames, AreWithin, Chunk, chunk_text, chunks_text, those}
use Rattle.ffv1_avi.specs.Files.{movi_sought}
use Rattle.ffv1_avi.specs.Opens.{riff_list, visit_riff}
use Rattle.ffv1_reads.specs.Reads.{given, passed, read_on, taken}
use Rattle.ffv1_avi.specs.Padding.{padded}
use Rattle.ffv1_avi.specs.Riffs.{AreSections, Section, movis, sections_text}
use Rattle.ffv1_avi.specs.Walk.{is_name, walk, plain}
use Rattle.ffv1_avi.proofs.Fields.{skipped_passed}
use Rattle.ffv1_avi.proofs.FrameLaws.{those_both}
use Rattle.ffv1_avi.proofs.InnerLists.{list_skip_complete, list_skip_sound, own_taken}
use Rattle.ffv1_avi.proofs.ListWalks.{Complete, Ended, IsPassed, Run, Sound, Taking, headed_entry, walk_sound}
use Rattle.ffv1_reads.proofs.Results.{cut_front}
use Rattle.ffv1_reads.proofs.Results.{read_on_ok}
use Rattle.ffv1_avi.proofs.PassedBytes.{skip_complete}
use Rattle.ffv1_reads.proofs.WantedBytes.{taken_sound}
use Rattle.ffv1_reads.proofs.Results.{ok_is, some_is}
use Rattle.ffv1_avi.specs.Chunks.{barred_in}
use Rattle.ffv1_avi.specs.Chunks.{frame_in}
use Rattle.ffv1_avi.proofs.TakenChunks.{taken_both}
use Rattle.ffv1_avi.proofs.OpenedLists.{list_no_frame}

no_some : {X : Type 0} (x : X) → ◌≡◌ {A = Option X} (Some x) None → ⊥
no_some x e = absurd (cc)

-- a chunk that is no movi and no frame is passed
abbrev pub TakesRiff : Names → Taking (Unit {0})
TakesRiff names s name bytes t = ((is_name name (codes "LIST") && is_name (take 4 bytes) (codes "movi")) ≡ false) × (is_frame names name ≡ false)

abbrev Z : Type 0
Z = (Unit {0} × Option (ℕ × ℕ)) × List ℕ

pub riff_sound : (names : Names) → Sound (visit_riff names) (TakesRiff names)
unfolding visit_riff
riff_sound names s e text t rest listed h = on_list (is_name e.name (codes "LIST")) refl h
  where
    on_own : (own more : List ℕ) (b : Bool) → is_name own (codes "movi") ≡ b → is_name e.name (codes "LIST") ≡ true → text ≡ own ++ more → length own ≡ 4 → riff_list e.left e.size own more ≡ Ok ((t, None), rest) → IsPassed (TakesRiff names) s e t text rest
    on_own own more true p list whole four k =
        let x : ℕ × ℕ = (e.size - 4, e.left) in
        absurd (no_some x (ap (λ (z : Z). z.0.1) (ok_is ((tt, Some x), more) ((t, None), rest) (rw p at k))))
    on_own own more false p list whole four k =
        let first = read_on_ok (passed (padded e.size - 4) more) (λ _. given (tt, None)) ((t, None), rest) (rw p at k) in
        let c = list_skip_sound e.size own more first.0 (listed list) four first.1 in
        let here : IsPassed (TakesRiff names) s e tt text first.0.1 = record { bytes = own ++ c.0; padding = c.1.padding; text_is = whole ∙ c.1.text_is; long = c.1.long; padded_by = c.1.odd; takes = (rw (list, cut_front 4 own c.0 four, p) refl, list_no_frame names e.name list) } in
        let P : Z → Type 0 = λ z. IsPassed (TakesRiff names) s e z.0.0 text z.1 in
        subst P (ok_is ((tt, None), first.0.1) ((t, None), rest) first.2) here

    on_list : (a : Bool) → is_name e.name (codes "LIST") ≡ a → visit_riff names s e text ≡ Ok ((t, None), rest) → IsPassed (TakesRiff names) s e t text rest
    on_list false p h = on_frame (is_frame names e.name) refl p h
      where
        on_frame : (b : Bool) → is_frame names e.name ≡ b → is_name e.name (codes "LIST") ≡ false → visit_riff names s e text ≡ Ok ((t, None), rest) → IsPassed (TakesRiff names) s e t text rest
        on_frame true q p h = absurd (cc (rw (p, q) at h))
        on_frame false q p h = skipped_passed {Y = ℕ × ℕ} (TakesRiff names) s e text t rest (λ bytes. (rw p refl, q)) (rw (p, q) at h)
    on_list true p h =
        let first = read_on_ok (taken 4 text) (riff_list e.left e.size) ((t, None), rest) (rw p at h) in
        let own = taken_sound 4 text first.0 first.1 in
        on_own first.0.0 first.0.1 (is_name first.0.0 (codes "movi")) refl p own.0 own.1 first.2

pub riff_complete : (names : Names) → Complete (visit_riff names) (TakesRiff names)
unfolding visit_riff
riff_complete names s e bytes padding t rest listed long odd takes = on_list (is_name e.name (codes "LIST")) (is_name (take 4 bytes) (codes "movi")) refl refl takes
  where
    on_list : (a b : Bool) → is_name e.name (codes "LIST") ≡ a → is_name (take 4 bytes) (codes "movi") ≡ b → TakesRiff names s e.name bytes t → visit_riff names s e ((bytes ++ padding) ++ rest) ≡ Ok ((t, None), rest)
    on_list false b p q takes = rw (p, takes.1) (ap (λ z. read_on z (λ _. given (s, None))) (skip_complete e.size bytes padding rest long odd))
    on_list true true p q takes = absurd (cc (rw (p, q) at takes.0))
    on_list true false p q takes =
        let own = own_taken e.size bytes padding rest (listed p) long in
        rw p (ap (λ z. read_on z (riff_list e.left e.size)) own ∙ rw q (ap (λ z. read_on z (λ _. given (tt, None))) (list_skip_complete e.size bytes padding rest (listed p) long odd)))

-- if the walk stops there is a movi
pub record StopsAtMovi (e : Entry) (text : List ℕ) (y : ℕ × ℕ) (rest : List ℕ) : Type 0 where
  pub list : is_name e.name (codes "LIST") ≡ true
  pub text_is : text ≡ codes "movi" ++ rest
  pub size : y.0 ≡ e.size - 4
  pub left : y.1 ≡ e.left

pub riff_stop : (names : Names) (s : Unit {0}) (e : Entry) (text : List ℕ) (t : Unit {0}) (y : ℕ × ℕ) (rest : List ℕ) → visit_riff names s e text ≡ Ok ((t, Some y), rest) → StopsAtMovi e text y rest
unfolding visit_riff
riff_stop names s e text t y rest h = on_list (is_name e.name (codes "LIST")) refl h
  where
    on_own : (own more : List ℕ) (b : Bool) → is_name own (codes "movi") ≡ b → is_name e.name (codes "LIST") ≡ true → text ≡ own ++ more → riff_list e.left e.size own more ≡ Ok ((t, Some y), rest) → StopsAtMovi e text y rest
    on_own own more true p list whole k =
        let x : ℕ × ℕ = (e.size - 4, e.left) in
        let found = ok_is ((tt, Some x), more) ((t, Some y), rest) (rw p at k) in
        let same : x ≡ y = some_is x y (ap (λ (z : Z). z.0.1) found) in
        let named : own ≡ codes "movi" = same_text own (codes "movi") (sym p) in
        record { list = list; text_is = whole ∙ ap (λ z. z ++ more) named ∙ ap (λ z. codes "movi" ++ z) (ap (λ (z : Z). z.1) found); size = ap (λ (z : ℕ × ℕ). z.0) (sym same); left = ap (λ (z : ℕ × ℕ). z.1) (sym same) }
    on_own own more false p list whole k =
        let first = read_on_ok (passed (padded e.size - 4) more) (λ _. given (tt, None)) ((t, Some y), rest) (rw p at k) in
        absurd (no_some y (sym (ap (λ (z : Z). z.0.1) (ok_is ((tt, None), first.0.1) ((t, Some y), rest) first.2))))

    on_list : (a : Bool) → is_name e.name (codes "LIST") ≡ a → visit_riff names s e text ≡ Ok ((t, Some y), rest) → StopsAtMovi e text y rest
    on_list false p h = on_frame (is_frame names e.name) refl p h
      where
        on_frame : (b : Bool) → is_frame names e.name ≡ b → is_name e.name (codes "LIST") ≡ false → visit_riff names s e text ≡ Ok ((t, Some y), rest) → StopsAtMovi e text y rest
        on_frame true q p h = absurd (cc (rw (p, q) at h))
        on_frame false q p h =
            let first = read_on_ok (passed (padded e.size) text) (λ _. given (s, None)) ((t, Some y), rest) (rw (p, q) at h) in
            absurd (no_some y (sym (ap (λ (z : Z). z.0.1) (ok_is ((s, None), first.0.1) ((t, Some y), rest) first.2))))
    on_list true p h =
        let first = read_on_ok (taken 4 text) (riff_list e.left e.size) ((t, Some y), rest) (rw p at h) in
        let own = taken_sound 4 text first.0 first.1 in
        on_own first.0.0 first.0.1 (is_name first.0.0 (codes "movi")) refl p own.0 first.2

-- chunks that are no movi, as sections
abbrev pub others_of : List Chunk → List Section
others_of cs = map (λ (c : Chunk). Section.Other c) cs

pub others_text : (cs : List Chunk) → sections_text (others_of cs) ≡ chunks_text cs
others_text [] = refl
others_text (c ∷ cs) = ap (λ z. chunk_text c ++ z) (others_text cs)

pub others_movis : (cs : List Chunk) → movis (others_of cs) ≡ []
others_movis [] = refl
others_movis (c ∷ cs) = others_movis cs

pub others_are : (names : Names) (cs : List Chunk) → AreChunks cs → Run (TakesRiff names) tt cs tt → AreSections names (others_of cs)
others_are names [] each run = tt
others_are names (c ∷ cs) each run = ((each.0, run.1.0, run.1.1), others_are names cs each.1 run.2)

pub sections_both : (names : Names) (xs ys : List Section) → AreSections names xs → AreSections names ys → AreSections names (xs ++ ys)
sections_both names [] ys h k = k
sections_both names (x ∷ xs) ys h k = (h.0, sections_both names xs ys h.1 k)

-- what was found in RIFF: chunks that are no movi, and then a movi, or the end
pub record FoundMovi (names : Names) (left : ℕ) (text : List ℕ) (y : ℕ × ℕ) (rest : List ℕ) : Type 0 where
  pub chunks : List Chunk
  pub size : List ℕ
  pub text_is : text ≡ chunks_text chunks ++ ((codes "LIST" ++ size ++ codes "movi") ++ rest)
  pub sized : length size ≡ 4
  pub named : little_number 4 size ≡ 4 + y.0
  pub long : length (chunks_text chunks) + (8 + padded (little_number 4 size)) + y.1 ≡ left
  pub sections : AreSections names (others_of chunks)

pub record FoundEnd (names : Names) (left : ℕ) (text rest : List ℕ) : Type 0 where
  pub chunks : List Chunk
  pub text_is : text ≡ chunks_text chunks ++ rest
  pub long : length (chunks_text chunks) ≡ left
  pub sections : AreSections names (others_of chunks)

abbrev pub Sought : Names → ℕ → List ℕ → Option (ℕ × ℕ) × List ℕ → Type 0
Sought names left text (None, rest) = FoundEnd names left text rest
Sought names left text (Some y, rest) = FoundMovi names left text y rest

pub sought_sound : (names : Names) (left : ℕ) (text : List ℕ) (w : Option (ℕ × ℕ) × List ℕ) → movi_sought names left text ≡ Ok w → Sought names left text w
unfolding movi_sought
sought_sound names left text w h =
    let first = read_on_ok (walk (visit_riff names) left tt text) (λ p. given p.1) w h in
    let walked = walk_sound (visit_riff names) (TakesRiff names) (riff_sound names) left tt text first.0 first.1 in
    let P : Option (ℕ × ℕ) × List ℕ → Type 0 = λ z. Sought names left text z in
    subst P (ok_is (first.0.0.1, first.0.1) w first.2) (on_end first.0.0.1 first.0.1 walked.chunks walked.behind walked.after walked.text_is walked.each walked.long walked.run walked.end)
  where
    on_end : (o : Option (ℕ × ℕ)) (rest : List ℕ) (chunks : List Chunk) (behind : List ℕ) (after : ℕ) → text ≡ chunks_text chunks ++ behind → AreChunks chunks → length (chunks_text chunks) + after ≡ left → Run (TakesRiff names) tt chunks tt → Ended plain (visit_riff names) after tt behind tt o rest → Sought names left text (o, rest)
    on_end None rest chunks behind after whole each long run end =
        record { chunks = chunks; text_is = whole ∙ ap (λ z. chunks_text chunks ++ z) end.2; long = omega (arith, long, end.0); sections = others_are names chunks each run }
    on_end (Some y) rest chunks behind after whole each long run end =
        let e = end.0 in
        let entry = headed_entry refl end.2 in
        let movi = riff_stop names tt e end.1 tt y rest end.3 in
        let named : e.name ≡ codes "LIST" = same_text e.name (codes "LIST") (sym movi.list) in
        let here : text ≡ chunks_text chunks ++ ((codes "LIST" ++ entry.size ++ codes "movi") ++ rest) =
        whole ∙ ap (λ z. chunks_text chunks ++ z) (entry.text_is ∙ ap (λ z. (z ++ entry.size) ++ end.1) named ∙ ap (λ z. (codes "LIST" ++ entry.size) ++ z) movi.text_is ∙ sym (append_assoc (codes "LIST" ++ entry.size) (codes "movi") rest)) in
        let room : 4 ≤ e.size = entry.listed movi.list in
        let size : little_number 4 entry.size ≡ 4 + y.0 = entry.counted ∙ (omega (arith, movi.size, room)) in
        let all : length (chunks_text chunks) + (8 + padded (little_number 4 entry.size)) + y.1 ≡ left = rw entry.counted (omega (arith, long, entry.fits, movi.left)) in
        record { chunks = chunks; size = entry.size; text_is = here; sized = entry.sized; named = size; long = all; sections = others_are names chunks each run }

sized_both : (least most : ℕ) (fs gs : List (List ℕ)) → AreWithin least most fs → AreWithin least most gs → AreWithin least most (fs ++ gs)
sized_both least most [] gs h k = k
sized_both least most (f ∷ fs) gs h k = (h.0, h.1, sized_both least most fs gs h.2 k)

pub map_both : (xs ys : List Chunk) → map (λ (c : Chunk). c.bytes) (xs ++ ys) ≡ map (λ (c : Chunk). c.bytes) xs ++ map (λ (c : Chunk). c.bytes) ys
map_both [] ys = refl
map_both (x ∷ xs) ys = ap (λ z. x.bytes ∷ z) (map_both xs ys)

-- the frames of chunks in a row
pub framed_both : (names : Names) (xs ys : List Chunk) (fs gs : List (List ℕ)) → AreFrames names xs fs → AreFrames names ys gs → AreFrames names (xs ++ ys) (fs ++ gs)
framed_both names xs ys fs gs h k =
    let lists : those (barred_in names) (xs ++ ys) ≡ [] = those_both (barred_in names) xs ys ∙ ap (λ z. z ++ those (barred_in names) ys) h.none_barred ∙ k.none_barred in
    let all : map (λ (c : Chunk). c.bytes) (those (frame_in names) (xs ++ ys)) ≡ fs ++ gs =
    ap (map (λ (c : Chunk). c.bytes)) (those_both (frame_in names) xs ys) ∙ map_both (those (frame_in names) xs) (those (frame_in names) ys) ∙ ap (λ z. z ++ map (λ (c : Chunk). c.bytes) (those (frame_in names) ys)) h.those_of ∙ ap (λ z. fs ++ z) k.those_of in
    record { each = taken_both (opens names) xs ys h.each k.each; none_barred = lists; those_of = all; sized = sized_both (least_bytes names) (most_bytes names) fs gs h.sized k.sized }

-- The frames after a movi: those of the other movis of its RIFF, and of further RIFFs.
use Rattle.std.proofs.Common.{◌≡◌, ℕ, ◌+◌, ◌-◌, ◌≤◌, ◌<◌, true, false, Option, Some, None, Result, Ok, Err, List, [], ◌∷◌, ◌++◌, length, codes, map, ap, ◌∙◌, sym, subst, arith, refl, append_assoc, append-nil, length-append}
use Rattle.byteorder.specs.Endian.{little_number}
use Rattle.ffv1_avi.specs.Names.{least_bytes, most_bytes, opens}
use Rattle.ffv1_avi.specs.declared.chunk.Entry.{Entry}
use Rattle.ffv1_avi.specs.declared.place.Place.{Place}
use Rattle.ffv1_avi.specs.Chunks.{AreFrames, AreWithin, Chunk, IsChunk, chunk_text, chunks_text, is_list, those, Fit}
use Rattle.ffv1_avi.specs.Behind.{begins_another, looked_past}
use Rattle.ffv1_avi.specs.Edges.{bytes_framed}
use Rattle.ffv1_avi.specs.Files.{frames_read, movi_or_riff, movi_sought, riff_begun}
use Rattle.ffv1_avi.specs.Opens.{riff_list, visit_riff}
use Rattle.ffv1_avi.specs.Places.{movi_at, riff_at}
use Rattle.ffv1_reads.specs.Reads.{Reading, Stop, given, read_on, taken, ◌>>=◌}
use Rattle.ffv1_avi.specs.Padding.{padded}
use Rattle.ffv1_avi.specs.Riffs.{AreRiffs, AreSections, IsRiff, IsSection, Riff, Section, movi_chunks, movis, riff_movis, riff_text, riffs_text, section_text, sections_text}
use Rattle.ffv1_avi.specs.declared.place.Open.TheVariants.{Sized}
use Rattle.ffv1_avi.specs.Walk.{entry_read, is_known, resumed, visited, walk, walk_up_to}
use Rattle.ffv1_avi.proofs.BegunRiffs.{over_there, riff_there}
use Rattle.ffv1_avi.proofs.FrameLaws.{frames_after, frames_none, frames_on, those_both}
use Rattle.ffv1_avi.proofs.MoviFrames.{movi_frames}
use Rattle.ffv1_avi.proofs.ListWalks.{entry_complete, walk_complete}
use Rattle.ffv1_avi.proofs.Moves.{moved_every, movi_empty}
use Rattle.ffv1_reads.proofs.WantedBytes.{taken_complete}
use Rattle.ffv1_avi.proofs.RiffLaws.{TakesRiff, map_both, riff_complete}
use Rattle.ffv1_avi.proofs.ChunkByChunk.{walk_step}
use Rattle.ffv1_avi.specs.declared.place.Names.{Names}
use Rattle.ffv1_avi.specs.Chunks.{barred_in}
use Rattle.ffv1_avi.specs.Chunks.{frame_in}
use Rattle.ffv1_avi.proofs.TakenChunks.{taken_apart, taken_even}

-- after a movi, in an RIFF that has so many bytes left
abbrev pub in_riff : ℕ → Names → ℕ → ℕ → Place
in_riff input names riff owed = record { input = input; riff = riff; movi = 0; names = names; owed = owed; open_in = Sized }

-- the frames among chunks
abbrev pub frames_in : Names → List Chunk → List (List ℕ)
frames_in names chunks = bytes_framed names chunks

-- those are all frames
abbrev pub Framed : Names → List Chunk → Type 0
Framed names chunks = AreFrames names chunks (frames_in names chunks)

-- frames before those that are read
abbrev pub preceded : List (List ℕ) → Result (List (List ℕ) × List ℕ) Stop → Result (List (List ℕ) × List ℕ) Stop
preceded before z = read_on z (λ frames. given (before ++ frames))

pub preceded_none : (z : Result (List (List ℕ) × List ℕ) Stop) → z ≡ preceded [] z
preceded_none (Ok p) = refl
preceded_none (Err why) = refl

pub preceded_both : (fs gs : List (List ℕ)) (z : Result (List (List ℕ) × List ℕ) Stop) → preceded fs (preceded gs z) ≡ preceded (fs ++ gs) z
preceded_both fs gs (Ok p) = ap (λ x. Ok (x, p.1)) (sym (append_assoc fs gs p.0))
preceded_both fs gs (Err why) = refl

-- parts of chunks that are frames
sized_apart : (least most : ℕ) (fs gs : List (List ℕ)) → AreWithin least most (fs ++ gs) → AreWithin least most fs × AreWithin least most gs
sized_apart least most [] gs h = (tt, h)
sized_apart least most (f ∷ fs) gs h = let more = sized_apart least most fs gs h.2 in ((h.0, h.1, more.0), more.1)

none_apart : (xs ys : List Chunk) → xs ++ ys ≡ [] → (xs ≡ []) × (ys ≡ [])
none_apart [] ys h = (refl, h)
none_apart (x ∷ xs) ys h = absurd (cc)

pub frames_both : (names : Names) (xs ys : List Chunk) → frames_in names (xs ++ ys) ≡ frames_in names xs ++ frames_in names ys
frames_both names xs ys = ap (map (λ (c : Chunk). c.bytes)) (those_both (frame_in names) xs ys) ∙ map_both (those (frame_in names) xs) (those (frame_in names) ys)

pub framed_apart : (names : Names) (xs ys : List Chunk) → Framed names (xs ++ ys) → Framed names xs × Framed names ys
framed_apart names xs ys h =
    let each = taken_apart (opens names) xs ys h.each in
    let lists = none_apart (those (barred_in names) xs) (those (barred_in names) ys) (sym (those_both (barred_in names) xs ys) ∙ h.none_barred) in
    let sized = sized_apart (least_bytes names) (most_bytes names) (frames_in names xs) (frames_in names ys) (subst (AreWithin (least_bytes names) (most_bytes names)) (frames_both names xs ys) h.sized) in
    (record { each = each.0; none_barred = lists.0; those_of = refl; sized = sized.0 }, record { each = each.1; none_barred = lists.1; those_of = refl; sized = sized.1 })

-- a chunk of RIFF that is no movi and no frame is passed
pub sought_passed : (names : Names) (c : Chunk) (more : ℕ) (rest : List ℕ) → IsChunk c → is_list (codes "movi") c ≡ false → frame_in names c ≡ false → movi_sought names (length (chunk_text c) + more) (chunk_text c ++ rest) ≡ movi_sought names more rest
unfolding movi_sought
sought_passed names c more rest is other named =
    let one : chunks_text (c ∷ []) ≡ chunk_text c = append-nil (chunk_text c) in
    let walked = walk_complete (visit_riff names) (TakesRiff names) (riff_complete names) (c ∷ []) tt tt more rest (is, tt) (tt, (other, named), refl) in
    let alone : walk (visit_riff names) (length (chunk_text c) + more) tt (chunk_text c ++ rest) ≡ walk (visit_riff names) more tt rest = rw one at walked in
    ap (λ z. read_on z (λ p. given p.1)) alone

-- a movi is found
pub sought_movi : (names : Names) (left : ℕ) (size rest : List ℕ) → length size ≡ 4 → 4 ≤ little_number 4 size → 8 + padded (little_number 4 size) ≤ left →
    movi_sought names left ((codes "LIST" ++ size ++ codes "movi") ++ rest) ≡ Ok (Some (little_number 4 size - 4, left - (8 + padded (little_number 4 size))), rest)
unfolding movi_sought visit_riff
sought_movi names left size rest sized named fits =
    let n = little_number 4 size in
    let e : Entry = record { name = codes "LIST"; size = n; left = left - (8 + padded n) } in
    let text = (codes "LIST" ++ size ++ codes "movi") ++ rest in
    let whole : text ≡ (codes "LIST" ++ size) ++ (codes "movi" ++ rest) = append_assoc (codes "LIST" ++ size) (codes "movi") rest in
    let entry : entry_read left text ≡ Ok (Some e, codes "movi" ++ rest) = ap (entry_read left) whole ∙ entry_complete left (codes "LIST") size (codes "movi" ++ rest) refl sized fits (λ l. named) in
    let own : taken 4 (codes "movi" ++ rest) ≡ Ok (codes "movi", rest) = taken_complete 4 (codes "movi") rest refl in
    ap (λ z. read_on z (λ p. given p.1)) (walk_step (visit_riff names) left tt text)
    ∙ ap (λ z. read_on (read_on z (visited (visit_riff names) (walk (visit_riff names)) tt)) (λ p. given p.1)) entry
    ∙ ap (λ z. read_on (read_on (read_on z (riff_list e.left e.size)) (λ p. resumed (walk (visit_riff names) e.left) p.0 p.1)) (λ p. given p.1)) own

-- what is after RIFF does not depend on its bytes
begun_same : (input : ℕ) (names : Names) (riff other owed : ℕ) (text : List ℕ) → riff_begun (in_riff input names riff owed) text ≡ riff_begun (in_riff input names other owed) text
unfolding riff_begun
begun_same input names riff other owed text = refl

pub riff_same : (input : ℕ) (names : Names) (riff other owed : ℕ) (z : Result (Option (ℕ × ℕ) × List ℕ) Stop) → read_on z (movi_or_riff (in_riff input names riff owed)) ≡ read_on z (movi_or_riff (in_riff input names other owed))
riff_same input names riff other owed (Err why) = refl
riff_same input names riff other owed (Ok (Some p, rest)) = refl
riff_same input names riff other owed (Ok (None, rest)) = begun_same input names riff other owed rest

-- the frames after a movi, by the next movi of its RIFF
pub after_is : (input : ℕ) (names : Names) (riff owed : ℕ) (text : List ℕ) → (input ≡ 0 → ⊥) → frames_after (in_riff input names riff owed) text ≡ read_on (read_on (movi_sought names riff text) (movi_or_riff (in_riff input names riff owed))) frames_on
after_is input names riff owed text some = ap (λ z. read_on z frames_on) (moved_every (in_riff input names riff owed) some text)

pub after_other : (input : ℕ) (names : Names) (more owed : ℕ) (c : Chunk) (rest : List ℕ) → (input ≡ 0 → ⊥) → IsChunk c → is_list (codes "movi") c ≡ false → frame_in names c ≡ false →
    frames_after (in_riff input names (length (chunk_text c) + more) owed) (chunk_text c ++ rest) ≡ frames_after (in_riff input names more owed) rest
after_other input names more owed c rest some is other named =
    let left = length (chunk_text c) + more in
    after_is input names left owed (chunk_text c ++ rest) some
    ∙ ap (λ z. read_on (read_on z (movi_or_riff (in_riff input names left owed))) frames_on) (sought_passed names c more rest is other named)
    ∙ ap (λ z. read_on z frames_on) (riff_same input names left more owed (movi_sought names more rest))
    ∙ sym (after_is input names more owed rest some)

-- a movi takes its header and its chunks
pub movi_long : (size : List ℕ) (cs : List Chunk) → length size ≡ 4 → length (section_text (Section.Movi size cs)) ≡ 12 + length (chunks_text cs)
movi_long size cs sized =
    let front : length (codes "LIST" ++ size ++ codes "movi") ≡ 12 = length-append (codes "LIST" ++ size) (codes "movi") ∙ ap (λ n. n + length (codes "movi")) (length-append (codes "LIST") size) ∙ (omega (arith, sized, spelled)) in
    length-append (codes "LIST" ++ size ++ codes "movi") (chunks_text cs) ∙ ap (λ n. n + length (chunks_text cs)) front
  where
    spelled : (length (codes "LIST") ≡ 4) × (length (codes "movi") ≡ 4)
    spelled = (refl, refl)

pub after_movi : (input : ℕ) (names : Names) (more owed : ℕ) (size : List ℕ) (cs : List Chunk) (rest : List ℕ) → (input ≡ 0 → ⊥) → length size ≡ 4 → little_number 4 size ≡ 4 + length (chunks_text cs) → Framed names cs → Fit 0 cs →
    frames_after (in_riff input names (length (section_text (Section.Movi size cs)) + more) owed) (section_text (Section.Movi size cs) ++ rest)
    ≡ preceded (frames_in names cs) (frames_after (in_riff input names more (owed - length (frames_in names cs))) rest)
after_movi input names more owed size cs rest some sized counted framed fit =
    let s = Section.Movi size cs in
    let left = length (section_text s) + more in
    let n = little_number 4 size in
    let behind = chunks_text cs ++ rest in
    let even = taken_even (opens names) cs framed.each in
    let long = movi_long size cs sized in
    let found = sought_movi names left size behind sized (omega (arith, counted)) (omega (arith, counted, even, long)) in
    let room : n - 4 ≡ length (chunks_text cs) = omega (arith, counted) in
    let after : left - (8 + padded n) ≡ more = omega (arith, counted, even, long) in
    let here = in_riff input names more owed in
    after_is input names left owed (section_text s ++ rest) some
    ∙ ap (λ z. read_on (read_on (movi_sought names left z) (movi_or_riff (in_riff input names left owed))) frames_on) (append_assoc (codes "LIST" ++ size ++ codes "movi") (chunks_text cs) rest)
    ∙ ap (λ z. read_on (read_on z (movi_or_riff (in_riff input names left owed))) frames_on) found
    ∙ ap (λ k. frames_read (movi_at (in_riff input names left owed) (k, left - (8 + padded n))) behind) room
    ∙ ap (λ k. frames_read (movi_at (in_riff input names left owed) (length (chunks_text cs), k)) behind) after
    ∙ movi_frames here cs owed rest framed.each fit framed.none_barred framed.sized

-- the frames of the chunks of RIFF after a movi, and those after them
pub sections_read : (input : ℕ) (names : Names) (more owed : ℕ) (sections : List Section) (rest : List ℕ) → (input ≡ 0 → ⊥) → AreSections names sections → Framed names (movis sections) →
    frames_after (in_riff input names (length (sections_text sections) + more) owed) (sections_text sections ++ rest)
    ≡ preceded (frames_in names (movis sections)) (frames_after (in_riff input names more (owed - length (frames_in names (movis sections)))) rest)
sections_read input names more owed [] rest some are framed =
    ap (λ o. frames_after (in_riff input names o owed) rest) (zero_more more)
    ∙ ap (λ o. frames_after (in_riff input names more o) rest) (less_none owed)
    ∙ preceded_none (frames_after (in_riff input names more (owed - 0)) rest)
  where
    zero_more : (n : ℕ) → 0 + n ≡ n
    zero_more n = omega arith

    less_none : (n : ℕ) → n ≡ n - 0
    less_none n = omega arith
sections_read input names more owed (s ∷ ss) rest some are framed = on_section s are.0 framed (λ o k. sections_read input names more o ss rest some are.1 k)
  where
    left : ℕ
    left = length (sections_text ss) + more

    behind : List ℕ
    behind = sections_text ss ++ rest

    Goal : Section → Type 0
    Goal x = frames_after (in_riff input names (length (section_text x ++ sections_text ss) + more) owed) ((section_text x ++ sections_text ss) ++ rest)
        ≡ preceded (frames_in names (movi_chunks x ++ movis ss)) (frames_after (in_riff input names more (owed - length (frames_in names (movi_chunks x ++ movis ss)))) rest)

    whole : (x : Section) → frames_after (in_riff input names (length (section_text x ++ sections_text ss) + more) owed) ((section_text x ++ sections_text ss) ++ rest) ≡ frames_after (in_riff input names (length (section_text x) + left) owed) (section_text x ++ behind)
    whole x =
        let count : length (section_text x ++ sections_text ss) + more ≡ length (section_text x) + left = omega (arith, length-append (section_text x) (sections_text ss)) in
        ap (λ n. frames_after (in_riff input names n owed) ((section_text x ++ sections_text ss) ++ rest)) count
        ∙ ap (frames_after (in_riff input names (length (section_text x) + left) owed)) (append_assoc (section_text x) (sections_text ss) rest)

    Again : Type 0
    Again = (o : ℕ) → Framed names (movis ss) → frames_after (in_riff input names left o) behind ≡ preceded (frames_in names (movis ss)) (frames_after (in_riff input names more (o - length (frames_in names (movis ss)))) rest)

    on_section : (x : Section) → IsSection names x → Framed names (movi_chunks x ++ movis ss) → Again → Goal x
    on_section (Section.Other c) is framed again = whole (Section.Other c) ∙ after_other input names left owed c behind some is.0 is.1 is.2 ∙ again owed framed
    on_section (Section.Movi size cs) is framed again =
        let apart = framed_apart names cs (movis ss) framed in
        let fs = frames_in names cs in
        let gs = frames_in names (movis ss) in
        let both : fs ++ gs ≡ frames_in names (cs ++ movis ss) = sym (frames_both names cs (movis ss)) in
        let owes : owed - length fs - length gs ≡ owed - length (fs ++ gs) = omega (arith, length-append fs gs) in
        whole (Section.Movi size cs)
        ∙ after_movi input names left owed size cs behind some is.0 is.1 apart.0 is.2
        ∙ ap (preceded fs) (again (owed - length fs) apart.1)
        ∙ preceded_both fs gs (frames_after (in_riff input names more (owed - length fs - length gs)) rest)
        ∙ ap (λ n. preceded (fs ++ gs) (frames_after (in_riff input names more n) rest)) owes
        ∙ ap (λ z. preceded z (frames_after (in_riff input names more (owed - length z)) rest)) both

-- the frames of the next RIFFs
abbrev pub frames_behind : Place → Reading (List (List ℕ))
frames_behind place = riff_begun place >>= frames_on

-- if RIFF has no bytes left
pub after_end : (input : ℕ) (names : Names) (owed : ℕ) (text : List ℕ) → (input ≡ 0 → ⊥) → frames_after (in_riff input names 0 owed) text ≡ frames_behind (in_riff input names 0 owed) text
unfolding movi_sought walk_up_to
after_end input names owed text some = after_is input names 0 owed text some

-- the next RIFF is entered
pub begun_riff : (input : ℕ) (names : Names) (owed : ℕ) (size rest : List ℕ) → length size ≡ 4 → is_known (little_number 4 size) ≡ true → 4 ≤ little_number 4 size → 8 + little_number 4 size < input →
    riff_begun (in_riff input names 0 owed) ((codes "RIFF" ++ size ++ codes "AVIX") ++ rest) ≡ Ok (Some (riff_at (in_riff input names 0 owed) (little_number 4 size)), rest)
begun_riff input names owed size rest sized known room fits = riff_there (in_riff input names 0 owed) size rest sized known room fits

-- an RIFF takes its header and its chunks
pub riff_long : {names : Names} (r : Riff) → IsRiff names r → length (riff_text r) ≡ 8 + little_number 4 r.size
riff_long r is =
    let front : length (codes "RIFF" ++ r.size ++ codes "AVIX") ≡ 12 = length-append (codes "RIFF" ++ r.size) (codes "AVIX") ∙ ap (λ n. n + length (codes "AVIX")) (length-append (codes "RIFF") r.size) ∙ (omega (arith, is.sized, spelled)) in
    length-append (codes "RIFF" ++ r.size ++ codes "AVIX") (sections_text r.sections) ∙ (omega (arith, front, is.counted))
  where
    spelled : (length (codes "RIFF") ≡ 4) × (length (codes "AVIX") ≡ 4)
    spelled = (refl, refl)

-- the frames of an RIFF
pub riff_read : (input : ℕ) (names : Names) (owed : ℕ) (r : Riff) (rest : List ℕ) → IsRiff names r → length (riff_text r) < input → Framed names (movis r.sections) →
    frames_behind (in_riff input names 0 owed) (riff_text r ++ rest)
    ≡ preceded (frames_in names (movis r.sections)) (frames_behind (in_riff (input - length (riff_text r)) names 0 (owed - length (frames_in names (movis r.sections)))) rest)
riff_read input names owed r rest is fits framed =
    let n = little_number 4 r.size in
    let text = sections_text r.sections in
    let long : length (riff_text r) ≡ 8 + n = riff_long r is in
    let next = in_riff (input - (8 + n)) names (n - 4) owed in
    let some : input - (8 + n) ≡ 0 → ⊥ = λ e. omega (arith, e, fits, long) in
    let room : n - 4 ≡ length text + 0 = omega (arith, is.counted) in
    let fs = frames_in names (movis r.sections) in
    ap (frames_behind (in_riff input names 0 owed)) (append_assoc (codes "RIFF" ++ r.size ++ codes "AVIX") text rest)
    ∙ ap (λ z. read_on z frames_on) (begun_riff input names owed r.size (text ++ rest) is.sized is.known (omega (arith, is.counted)) (omega (arith, fits, long)))
    ∙ frames_none next (text ++ rest) (text ++ rest) (movi_empty names (text ++ rest))
    ∙ ap (λ k. frames_after (in_riff (input - (8 + n)) names k owed) (text ++ rest)) room
    ∙ sections_read (input - (8 + n)) names 0 owed r.sections rest some is.each framed
    ∙ ap (preceded fs) (after_end (input - (8 + n)) names (owed - length fs) rest some)
    ∙ ap (λ k. preceded fs (frames_behind (in_riff (input - k) names 0 (owed - length fs)) rest)) (sym long)

-- the frames of RIFFs, and those after them
pub riffs_read : (riffs : List Riff) (input : ℕ) (names : Names) (owed : ℕ) (rest : List ℕ) → AreRiffs names riffs → length (riffs_text riffs) < input → Framed names (riff_movis riffs) →
    frames_behind (in_riff input names 0 owed) (riffs_text riffs ++ rest)
    ≡ preceded (frames_in names (riff_movis riffs)) (frames_behind (in_riff (input - length (riffs_text riffs)) names 0 (owed - length (frames_in names (riff_movis riffs)))) rest)
riffs_read [] input names owed rest are fits framed =
    ap (λ n. frames_behind (in_riff n names 0 owed) rest) (less_none input)
    ∙ ap (λ n. frames_behind (in_riff (input - 0) names 0 n) rest) (less_none owed)
    ∙ preceded_none (frames_behind (in_riff (input - 0) names 0 (owed - 0)) rest)
  where
    less_none : (n : ℕ) → n ≡ n - 0
    less_none n = omega arith
riffs_read (r ∷ rs) input names owed rest are fits framed =
    let apart = framed_apart names (movis r.sections) (riff_movis rs) framed in
    let fs = frames_in names (movis r.sections) in
    let gs = frames_in names (riff_movis rs) in
    let both : fs ++ gs ≡ frames_in names (riff_movis (r ∷ rs)) = sym (frames_both names (movis r.sections) (riff_movis rs)) in
    let text = riff_text r in
    let behind = riffs_text rs ++ rest in
    let long : length (riffs_text (r ∷ rs)) ≡ length text + length (riffs_text rs) = length-append text (riffs_text rs) in
    let owes : owed - length fs - length gs ≡ owed - length (fs ++ gs) = omega (arith, length-append fs gs) in
    let left : input - length text - length (riffs_text rs) ≡ input - length (riffs_text (r ∷ rs)) = omega (arith, long) in
    ap (frames_behind (in_riff input names 0 owed)) (append_assoc text (riffs_text rs) rest)
    ∙ riff_read input names owed r behind are.0 (omega (arith, fits, long)) apart.0
    ∙ ap (preceded fs) (riffs_read rs (input - length text) names (owed - length fs) rest are.1 (omega (arith, fits, long)) apart.1)
    ∙ preceded_both fs gs (frames_behind (in_riff (input - length text - length (riffs_text rs)) names 0 (owed - length fs - length gs)) rest)
    ∙ ap (λ n. preceded (fs ++ gs) (frames_behind (in_riff (input - length text - length (riffs_text rs)) names 0 n) rest)) owes
    ∙ ap (λ n. preceded (fs ++ gs) (frames_behind (in_riff n names 0 (owed - length (fs ++ gs))) rest)) left
    ∙ ap (λ z. preceded z (frames_behind (in_riff (input - length (riffs_text (r ∷ rs))) names 0 (owed - length z)) rest)) both

-- other bytes end the frames if none is owed
pub behind_over : (input : ℕ) (names : Names) (owed : ℕ) (behind : List ℕ) → owed ≡ 0 → begins_another behind ≡ false → frames_behind (in_riff input names 0 owed) behind ≡ Ok ([], looked_past behind)
behind_over input names owed behind none other = ap (λ z. read_on z frames_on) (over_there (in_riff input names 0 owed) behind none other)

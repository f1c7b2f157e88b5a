-- The frames of a file of every RIFF are given one by one, before what is after its last RIFF is refused.
use Rattle.std.proofs.Common.{◌≤◌, ◌≡◌, ℕ, ◌+◌, ◌-◌, ◌<◌, Bool, true, false, Err, List, [], ◌∷◌, ◌++◌, length, codes, ap, ◌∙◌, sym, subst, arith, refl, append_assoc, append-nil, length-append}
use Rattle.byteorder.specs.Endian.{little_number}
use Rattle.ffv1_avi.specs.Names.{least_bytes, most_bytes, opens}
use Rattle.ffv1_avi.specs.declared.place.Extent.TheVariants.{EveryRiff}
use Rattle.ffv1_avi.specs.declared.place.Place.{Place}
use Rattle.ffv1_avi.specs.Chunks.{AreWithin, Chunk, IsChunk, chunk_text, chunks_text, is_list, Fit}
use Rattle.ffv1_avi.specs.Edges.{FramesThen, GivesThen, frames_to}
use Rattle.ffv1_avi.specs.Files.{file_read, found_read, frame_found, frame_read, frames_read, more_frames, movi_or_riff, movi_sought, open_read, riff_begun, sought_on}
use Rattle.ffv1_reads.specs.Head.{Head}
use Rattle.ffv1_avi.specs.Places.{most_input, movi_at}
use Rattle.ffv1_reads.specs.Reads.{Stop, given, read_on, ◌>>=◌}
use Rattle.ffv1_avi.specs.Padding.{padded}
use Rattle.ffv1_avi.specs.Riffs.{AreRiffs, AreSections, IsRiff, IsSection, Riff, RiffFile, Section, movi_chunks, movis, riff_movis, riff_text, riffs_text, section_text, sections_text, total}
use Rattle.ffv1_avi.specs.Walk.{walk_up_to}
use Rattle.ffv1_avi.proofs.EveryRiffLaws.{file_before, file_opened, first_at, first_riff, names_in, regrouped}
use Rattle.ffv1_avi.proofs.FrameTurns.{frames_step}
use Rattle.ffv1_avi.proofs.PartLaws.{parts_text}
use Rattle.ffv1_avi.proofs.FrameLaws.{frame_next, placed}
use Rattle.ffv1_avi.proofs.MoviFrames.{frames_passed, movi_there}
use Rattle.ffv1_avi.proofs.LaterFrames.{Framed, begun_riff, frames_both, frames_in, framed_apart, in_riff, movi_long, riff_long, riff_same, sought_movi, sought_passed}
use Rattle.ffv1_avi.proofs.LongMovis.{found_moved}
use Rattle.ffv1_avi.proofs.Moves.{extent_every}
use Rattle.ffv1_avi.specs.declared.place.Names.{Names}
use Rattle.ffv1_avi.specs.Chunks.{barred_in}
use Rattle.ffv1_avi.specs.Chunks.{frame_in}
use Rattle.ffv1_avi.proofs.TakenChunks.{IsTaken, fit_first, taken_even, taken_first}
use Rattle.ffv1_avi.proofs.OpenedLists.{barred_name, frame_chunk}

-- the frames are those of another place if the next one is
pub then_same : (p q : Place) (text more : List ℕ) (frames : List (List ℕ)) (why : Stop) → frame_read p text ≡ frame_read q more → FramesThen q more frames why → FramesThen p text frames why
then_same p q text more [] why same h = same ∙ h
then_same p q text more (f ∷ fs) why same h = (h.0, h.1, same ∙ h.2, h.3)

-- the frames of a movi, and then those after it
movi_then : (input : ℕ) (names : Names) (riff owed : ℕ) (cs : List Chunk) (rest : List ℕ) (frames : List (List ℕ)) (why : Stop) → Framed names cs → Fit 0 cs → FramesThen (in_riff input names riff (owed - length (frames_in names cs))) rest frames why →
    FramesThen (placed (in_riff input names riff 0) (length (chunks_text cs)) owed) (chunks_text cs ++ rest) (frames_in names cs ++ frames) why
movi_then input names riff owed [] rest frames why framed fit h =
    let P : ℕ → Type 0 = λ n. FramesThen (in_riff input names riff n) rest frames why in
    let same : owed - 0 ≡ owed = omega arith in
    subst P same h
movi_then input names riff owed (c ∷ cs) rest frames why framed fit h =
    on_names (barred_in names c) (frame_in names c) refl refl h (λ o k. movi_then input names riff o cs rest frames why apart.1 fit.1 k)
  where
    apart : Framed names (c ∷ []) × Framed names cs
    apart = framed_apart names (c ∷ []) cs framed

    taken : IsTaken (opens names) c
    taken = (taken_first (opens names) c cs framed.each).0

    fits : 8 + padded (little_number 4 c.size) ≤ length (chunk_text c) + length (chunks_text cs)
    fits = omega (arith, fit_first 0 c cs fit)

    more : ℕ
    more = length (chunks_text cs)

    behind : List ℕ
    behind = chunks_text cs ++ rest

    place : Place
    place = in_riff input names riff 0

    here : Place
    here = placed place (length (chunk_text c) + more) owed

    fs : List (List ℕ)
    fs = frames_in names cs

    Goal : List (List ℕ) → Type 0
    Goal all = FramesThen (placed place (length (chunks_text (c ∷ cs))) owed) (chunks_text (c ∷ cs) ++ rest) all why

    counted : (all : List (List ℕ)) → FramesThen here (chunk_text c ++ behind) all why → Goal all
    counted all k =
        let P : ℕ → Type 0 = λ n. FramesThen (placed place n owed) (chunks_text (c ∷ cs) ++ rest) all why in
        let Q : List ℕ → Type 0 = λ z. FramesThen here z all why in
        subst P (sym (length-append (chunk_text c) (chunks_text cs))) (subst Q (sym (append_assoc (chunk_text c) (chunks_text cs) rest)) k)

    Again : Type 0
    Again = (o : ℕ) → FramesThen (in_riff input names riff (o - length fs)) rest frames why → FramesThen (placed place more o) behind (fs ++ frames) why

    on_names : (l n : Bool) → barred_in names c ≡ l → frame_in names c ≡ n → FramesThen (in_riff input names riff (owed - length (frames_in names (c ∷ cs)))) rest frames why → Again → Goal (frames_in names (c ∷ cs) ++ frames)
    on_names true n p q k again = let gone : c ∷ [] ≡ [] = rw p at apart.0.none_barred in absurd (cc)
    on_names false false p q k again =
        let none : frames_in names (c ∷ cs) ≡ fs = rw q refl in
        let P : List (List ℕ) → Type 0 = λ z. FramesThen (in_riff input names riff (owed - length z)) rest frames why in
        let later = again owed (subst P none k) in
        let Q : List (List ℕ) → Type 0 = λ z. Goal (z ++ frames) in
        subst Q (sym none) (counted (fs ++ frames) (then_same here (placed place more owed) (chunk_text c ++ behind) behind (fs ++ frames) why (ap (λ z. read_on z found_read) (frames_passed here c more behind taken fits p q)) later))
    on_names false true p q k again =
        let one : frames_in names (c ∷ cs) ≡ c.bytes ∷ fs = rw q refl in
        let sizes : AreWithin (least_bytes names) (most_bytes names) (c.bytes ∷ []) = rw q at apart.0.sized in
        let P : List (List ℕ) → Type 0 = λ z. FramesThen (in_riff input names riff (owed - length z)) rest frames why in
        let owes : owed - length (c.bytes ∷ fs) ≡ owed - 1 - length fs = omega arith in
        let R : ℕ → Type 0 = λ n. FramesThen (in_riff input names riff n) rest frames why in
        let later = again (owed - 1) (subst R owes (subst P one k)) in
        let Q : List (List ℕ) → Type 0 = λ z. Goal (z ++ frames) in
        subst Q (sym one) (counted (c.bytes ∷ (fs ++ frames)) (placed place more (owed - 1), behind, frame_next here (chunk_text c ++ behind) (c.bytes, more) behind (movi_there names c more behind (frame_chunk names c taken q) (barred_name names c p) q sizes.1 sizes.0), later))

-- the next frame after a movi, by the next movi of its RIFF
next_is : (input : ℕ) (names : Names) (riff owed : ℕ) (text : List ℕ) → (input ≡ 0 → ⊥) → frame_read (in_riff input names riff owed) text ≡ read_on (read_on (read_on (movi_sought names riff text) (movi_or_riff (in_riff input names riff owed))) (sought_on frame_found)) found_read
next_is input names riff owed text some = ap (λ z. read_on z found_read) (found_moved (in_riff input names riff owed) text refl refl (extent_every (in_riff input names riff owed) some))

other_next : (input : ℕ) (names : Names) (more owed : ℕ) (c : Chunk) (rest : List ℕ) → (input ≡ 0 → ⊥) → IsChunk c → is_list (codes "movi") c ≡ false → frame_in names c ≡ false →
    frame_read (in_riff input names (length (chunk_text c) + more) owed) (chunk_text c ++ rest) ≡ frame_read (in_riff input names more owed) rest
other_next input names more owed c rest some is other named =
    let left = length (chunk_text c) + more in
    next_is input names left owed (chunk_text c ++ rest) some
    ∙ ap (λ z. read_on (read_on (read_on z (movi_or_riff (in_riff input names left owed))) (sought_on frame_found)) found_read) (sought_passed names c more rest is other named)
    ∙ ap (λ z. read_on (read_on z (sought_on frame_found)) found_read) (riff_same input names left more owed (movi_sought names more rest))
    ∙ sym (next_is input names more owed rest some)

movi_next : (input : ℕ) (names : Names) (more owed : ℕ) (size : List ℕ) (cs : List Chunk) (rest : List ℕ) → (input ≡ 0 → ⊥) → length size ≡ 4 → little_number 4 size ≡ 4 + length (chunks_text cs) → Framed names cs →
    frame_read (in_riff input names (length (section_text (Section.Movi size cs)) + more) owed) (section_text (Section.Movi size cs) ++ rest)
    ≡ frame_read (placed (in_riff input names more 0) (length (chunks_text cs)) owed) (chunks_text cs ++ rest)
movi_next input names more owed size cs rest some sized counted framed =
    let s = Section.Movi size cs in
    let left = length (section_text s) + more in
    let n = little_number 4 size in
    let behind = chunks_text cs ++ rest in
    let even = taken_even (opens names) cs framed.each in
    let long = movi_long size cs sized in
    let found = sought_movi names left size behind sized (omega (arith, counted)) (omega (arith, counted, even, long)) in
    let room : n - 4 ≡ length (chunks_text cs) = omega (arith, counted) in
    let after : left - (8 + padded n) ≡ more = omega (arith, counted, even, long) in
    next_is input names left owed (section_text s ++ rest) some
    ∙ ap (λ z. read_on (read_on (read_on (movi_sought names left z) (movi_or_riff (in_riff input names left owed))) (sought_on frame_found)) found_read) (append_assoc (codes "LIST" ++ size ++ codes "movi") (chunks_text cs) rest)
    ∙ ap (λ z. read_on (read_on (read_on z (movi_or_riff (in_riff input names left owed))) (sought_on frame_found)) found_read) found
    ∙ ap (λ k. frame_read (movi_at (in_riff input names left owed) (k, left - (8 + padded n))) behind) room
    ∙ ap (λ k. frame_read (movi_at (in_riff input names left owed) (length (chunks_text cs), k)) behind) after

-- the frames of the chunks of RIFF after a movi, and then those after them
sections_then : (input : ℕ) (names : Names) (more owed : ℕ) (sections : List Section) (rest : List ℕ) (frames : List (List ℕ)) (why : Stop) → (input ≡ 0 → ⊥) → AreSections names sections → Framed names (movis sections) → FramesThen (in_riff input names more (owed - length (frames_in names (movis sections)))) rest frames why →
    FramesThen (in_riff input names (length (sections_text sections) + more) owed) (sections_text sections ++ rest) (frames_in names (movis sections) ++ frames) why
sections_then input names more owed [] rest frames why some are framed h =
    let P : ℕ → Type 0 = λ n. FramesThen (in_riff input names more n) rest frames why in
    let Q : ℕ → Type 0 = λ n. FramesThen (in_riff input names n owed) rest frames why in
    let less : owed - 0 ≡ owed = omega arith in
    let count : more ≡ 0 + more = omega arith in
    subst Q count (subst P less h)
sections_then input names more owed (s ∷ ss) rest frames why some are framed h =
    whole s (on_section s are.0 framed h (λ o k g. sections_then input names more o ss rest frames why some are.1 k g))
  where
    left : ℕ
    left = length (sections_text ss) + more

    behind : List ℕ
    behind = sections_text ss ++ rest

    Goal : Section → Type 0
    Goal x = FramesThen (in_riff input names (length (section_text x) + left) owed) (section_text x ++ behind) (frames_in names (movi_chunks x ++ movis ss) ++ frames) why

    whole : (x : Section) → Goal x → FramesThen (in_riff input names (length (section_text x ++ sections_text ss) + more) owed) ((section_text x ++ sections_text ss) ++ rest) (frames_in names (movi_chunks x ++ movis ss) ++ frames) why
    whole x k =
        let count : length (section_text x) + left ≡ length (section_text x ++ sections_text ss) + more = omega (arith, length-append (section_text x) (sections_text ss)) in
        let all = frames_in names (movi_chunks x ++ movis ss) ++ frames in
        let P : ℕ → Type 0 = λ n. FramesThen (in_riff input names n owed) ((section_text x ++ sections_text ss) ++ rest) all why in
        let Q : List ℕ → Type 0 = λ z. FramesThen (in_riff input names (length (section_text x) + left) owed) z all why in
        subst P count (subst Q (sym (append_assoc (section_text x) (sections_text ss) rest)) k)

    Again : Type 0
    Again = (o : ℕ) → Framed names (movis ss) → FramesThen (in_riff input names more (o - length (frames_in names (movis ss)))) rest frames why → FramesThen (in_riff input names left o) behind (frames_in names (movis ss) ++ frames) why

    on_section : (x : Section) → IsSection names x → Framed names (movi_chunks x ++ movis ss) → FramesThen (in_riff input names more (owed - length (frames_in names (movi_chunks x ++ movis ss)))) rest frames why → Again → Goal x
    on_section (Section.Other c) is k g again =
        then_same (in_riff input names (length (chunk_text c) + left) owed) (in_riff input names left owed) (chunk_text c ++ behind) behind (frames_in names (movis ss) ++ frames) why (other_next input names left owed c behind some is.0 is.1 is.2) (again owed k g)
    on_section (Section.Movi size cs) is k g again =
        let apart = framed_apart names cs (movis ss) k in
        let fs = frames_in names cs in
        let gs = frames_in names (movis ss) in
        let both : frames_in names (cs ++ movis ss) ≡ fs ++ gs = frames_both names cs (movis ss) in
        let owes : owed - length (frames_in names (cs ++ movis ss)) ≡ owed - length fs - length gs = omega (arith, ap length both, length-append fs gs) in
        let P : ℕ → Type 0 = λ n. FramesThen (in_riff input names more n) rest frames why in
        let later = again (owed - length fs) apart.1 (subst P owes g) in
        let here = movi_then input names left owed cs behind (gs ++ frames) why apart.0 is.2 later in
        let all : fs ++ (gs ++ frames) ≡ frames_in names (cs ++ movis ss) ++ frames = sym (append_assoc fs gs frames) ∙ ap (λ z. z ++ frames) (sym both) in
        let Q : List (List ℕ) → Type 0 = λ z. FramesThen (in_riff input names (length (section_text (Section.Movi size cs)) + left) owed) (section_text (Section.Movi size cs) ++ behind) z why in
        subst Q all (then_same (in_riff input names (length (section_text (Section.Movi size cs)) + left) owed) (placed (in_riff input names left 0) (length (chunks_text cs)) owed) (section_text (Section.Movi size cs) ++ behind) (chunks_text cs ++ behind) (fs ++ (gs ++ frames)) why (movi_next input names left owed size cs behind some is.0 is.1 apart.0) here)

-- the next RIFF is entered
riff_next : (input : ℕ) (names : Names) (owed : ℕ) (r : Riff) (rest : List ℕ) → IsRiff names r → length (riff_text r) < input →
    frame_read (in_riff input names 0 owed) (riff_text r ++ rest) ≡ frame_read (in_riff (input - length (riff_text r)) names (length (sections_text r.sections) + 0) owed) (sections_text r.sections ++ rest)
unfolding movi_sought walk_up_to
riff_next input names owed r rest is fits =
    let n = little_number 4 r.size in
    let text = sections_text r.sections in
    let long : length (riff_text r) ≡ 8 + n = riff_long r is in
    let some : input ≡ 0 → ⊥ = λ e. omega (arith, e, fits) in
    let room : n - 4 ≡ length text + 0 = omega (arith, is.counted) in
    next_is input names 0 owed (riff_text r ++ rest) some
    ∙ ap (λ z. read_on (read_on (riff_begun (in_riff input names 0 owed) z) (sought_on frame_found)) found_read) (append_assoc (codes "RIFF" ++ r.size ++ codes "AVIX") text rest)
    ∙ ap (λ z. read_on (read_on z (sought_on frame_found)) found_read) (begun_riff input names owed r.size (text ++ rest) is.sized is.known (omega (arith, is.counted)) (omega (arith, fits, long)))
    ∙ ap (λ k. frame_read (in_riff (input - (8 + n)) names k owed) (text ++ rest)) room
    ∙ ap (λ k. frame_read (in_riff (input - k) names (length text + 0) owed) (text ++ rest)) (sym long)

-- the frames of RIFFs, and then those after them
riffs_then : (riffs : List Riff) (input : ℕ) (names : Names) (owed : ℕ) (rest : List ℕ) (frames : List (List ℕ)) (why : Stop) → AreRiffs names riffs → length (riffs_text riffs) < input → Framed names (riff_movis riffs) →
    FramesThen (in_riff (input - length (riffs_text riffs)) names 0 (owed - length (frames_in names (riff_movis riffs)))) rest frames why →
    FramesThen (in_riff input names 0 owed) (riffs_text riffs ++ rest) (frames_in names (riff_movis riffs) ++ frames) why
riffs_then [] input names owed rest frames why are fits framed h =
    let P : ℕ → Type 0 = λ n. FramesThen (in_riff n names 0 (owed - 0)) rest frames why in
    let Q : ℕ → Type 0 = λ n. FramesThen (in_riff input names 0 n) rest frames why in
    let less : (n : ℕ) → n - 0 ≡ n = λ n. (omega arith) in
    subst Q (less owed) (subst P (less input) h)
riffs_then (r ∷ rs) input names owed rest frames why are fits framed h =
    let apart = framed_apart names (movis r.sections) (riff_movis rs) framed in
    let fs = frames_in names (movis r.sections) in
    let gs = frames_in names (riff_movis rs) in
    let both : frames_in names (riff_movis (r ∷ rs)) ≡ fs ++ gs = frames_both names (movis r.sections) (riff_movis rs) in
    let text = riff_text r in
    let behind = riffs_text rs ++ rest in
    let long : length (riffs_text (r ∷ rs)) ≡ length text + length (riffs_text rs) = length-append text (riffs_text rs) in
    let owes : owed - length (frames_in names (riff_movis (r ∷ rs))) ≡ owed - length fs - length gs = omega (arith, ap length both, length-append fs gs) in
    let left : input - length (riffs_text (r ∷ rs)) ≡ input - length text - length (riffs_text rs) = omega (arith, long) in
    let P : ℕ → Type 0 = λ n. FramesThen (in_riff (input - length (riffs_text (r ∷ rs))) names 0 n) rest frames why in
    let Q : ℕ → Type 0 = λ n. FramesThen (in_riff n names 0 (owed - length fs - length gs)) rest frames why in
    let later = riffs_then rs (input - length text) names (owed - length fs) rest frames why are.1 (omega (arith, fits, long)) apart.1 (subst Q left (subst P owes h)) in
    let some : input - length text ≡ 0 → ⊥ = λ e. omega (arith, e, fits, long) in
    let here = sections_then (input - length text) names 0 owed r.sections behind (gs ++ frames) why some are.0.each apart.0 later in
    let all : fs ++ (gs ++ frames) ≡ frames_in names (riff_movis (r ∷ rs)) ++ frames = sym (append_assoc fs gs frames) ∙ ap (λ z. z ++ frames) (sym both) in
    let R : List (List ℕ) → Type 0 = λ z. FramesThen (in_riff input names 0 owed) (riffs_text (r ∷ rs) ++ rest) z why in
    let S : List ℕ → Type 0 = λ z. FramesThen (in_riff input names 0 owed) z (fs ++ (gs ++ frames)) why in
    subst R all (subst S (sym (append_assoc text (riffs_text rs) rest))
    (then_same (in_riff input names 0 owed) (in_riff (input - length text) names (length (sections_text r.sections) + 0) owed) (text ++ behind) (sections_text r.sections ++ behind) (fs ++ (gs ++ frames)) why (riff_next input names owed r behind are.0 (omega (arith, fits, long))) here))

-- those of a movi, of what is after it in RIFF and of RIFFs
pub place_then : (input : ℕ) (names : Names) (owed : ℕ) (chunks : List Chunk) (sections : List Section) (riffs : List Riff) (rest : List ℕ) (why : Stop) → AreSections names sections → AreRiffs names riffs → length (riffs_text riffs) < input → Fit 0 chunks → Framed names (chunks ++ (movis sections ++ riff_movis riffs)) →
    riff_begun (in_riff (input - length (riffs_text riffs)) names 0 (owed - length (frames_in names (chunks ++ (movis sections ++ riff_movis riffs))))) rest ≡ Err why →
    FramesThen (placed (in_riff input names (length (sections_text sections)) 0) (length (chunks_text chunks)) owed) (chunks_text chunks ++ (sections_text sections ++ (riffs_text riffs ++ rest))) (frames_in names (chunks ++ (movis sections ++ riff_movis riffs))) why
unfolding movi_sought walk_up_to
place_then input names owed chunks sections riffs rest why sections_are riffs_are fits fit framed refused =
    let first = framed_apart names chunks (movis sections ++ riff_movis riffs) framed in
    let second = framed_apart names (movis sections) (riff_movis riffs) first.1 in
    let some : input ≡ 0 → ⊥ = λ e. omega (arith, e, fits) in
    let fs = frames_in names chunks in
    let gs = frames_in names (movis sections) in
    let hs = frames_in names (riff_movis riffs) in
    let behind = riffs_text riffs ++ rest in
    let more = input - length (riffs_text riffs) in
    let left = length (sections_text sections) in
    let all : frames_in names (chunks ++ (movis sections ++ riff_movis riffs)) ≡ fs ++ (gs ++ hs) = frames_both names chunks (movis sections ++ riff_movis riffs) ∙ ap (λ z. fs ++ z) (frames_both names (movis sections) (riff_movis riffs)) in
    let owes : owed - length (frames_in names (chunks ++ (movis sections ++ riff_movis riffs))) ≡ owed - length fs - length gs - length hs = omega (arith, ap length all, length-append fs (gs ++ hs), length-append gs hs) in
    let P : ℕ → Type 0 = λ n. riff_begun (in_riff more names 0 n) rest ≡ Err why in
    let last : frame_read (in_riff more names 0 (owed - length fs - length gs - length hs)) rest ≡ Err why =
    next_is more names 0 (owed - length fs - length gs - length hs) rest (λ e. omega (arith, e, fits)) ∙ ap (λ z. read_on (read_on z (sought_on frame_found)) found_read) (subst P owes refused) in
    let third = riffs_then riffs input names (owed - length fs - length gs) rest [] why riffs_are fits second.1 last in
    let two = sections_then input names 0 (owed - length fs) sections behind (hs ++ []) why some sections_are second.0 third in
    let Q : ℕ → Type 0 = λ n. FramesThen (in_riff input names n (owed - length fs)) (sections_text sections ++ behind) (gs ++ (hs ++ [])) why in
    let room : left + 0 ≡ left = omega arith in
    let one = movi_then input names left owed chunks (sections_text sections ++ behind) (gs ++ (hs ++ [])) why first.0 fit (subst Q room two) in
    let same : fs ++ (gs ++ (hs ++ [])) ≡ frames_in names (chunks ++ (movis sections ++ riff_movis riffs)) = ap (λ z. fs ++ (gs ++ z)) (append-nil hs) ∙ sym all in
    let R : List (List ℕ) → Type 0 = λ z. FramesThen (placed (in_riff input names left 0) (length (chunks_text chunks)) owed) (chunks_text chunks ++ (sections_text sections ++ behind)) z why in
    subst R same one

-- a file that is refused up to the edge of an RIFF, or after it, has given the frames before
pub file_then : {file : List ℕ} {head : Head} {frames : List (List ℕ)} (is : RiffFile file head frames) (before after : List Riff) (rest : List ℕ) (why : Stop) → is.riffs ≡ before ++ after →
    riff_begun (in_riff (most_input - length (riffs_text before)) (names_in is) 0 (total is.extended - length (frames_to is before))) rest ≡ Err why → GivesThen (first_riff is ++ (riffs_text before ++ rest)) head (frames_to is before) why
file_then is before after rest why parted refused =
    let known = file_before is before after parted in
    let behind = chunks_text is.chunks ++ (sections_text is.sections ++ (riffs_text before ++ rest)) in
    let whole = regrouped (codes "RIFF" ++ is.riff_size ++ codes "AVI ") (parts_text is.parts) (codes "LIST" ++ is.movi_size ++ codes "movi") (chunks_text is.chunks) (sections_text is.sections) (riffs_text before ++ rest) in
    let frames_there = place_then most_input (names_in is) (total is.extended) is.chunks is.sections before rest why is.sections_are known.0 known.1 is.fit known.2 refused in
    (first_at is, behind, ap (open_read EveryRiff) whole ∙ file_opened is behind, frames_there)

-- what is refused so has that fault
then_refused : (place : Place) (text : List ℕ) (frames : List (List ℕ)) (why : Stop) → FramesThen place text frames why → frames_read place text ≡ Err why
then_refused place text [] why h = frames_step place text ∙ ap (λ z. read_on z (more_frames frames_read)) h
then_refused place text (f ∷ fs) why h =
    frames_step place text
    ∙ ap (λ z. read_on z (more_frames frames_read)) h.2
    ∙ ap (λ z. read_on z (λ frames. given (f ∷ frames))) (then_refused h.0 h.1 fs why h.3)

pub gives_refused : (file : List ℕ) (head : Head) (frames : List (List ℕ)) (why : Stop) → GivesThen file head frames why → file_read EveryRiff file ≡ Err why
gives_refused file head frames why h =
    ap (λ z. read_on z (λ p. (frames_read p.1 >>= λ frames. given (p.0, frames)))) h.2
    ∙ ap (λ z. read_on z (λ frames. given (head, frames))) (then_refused h.0 h.1 frames why h.3)

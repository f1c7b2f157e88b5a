-- Frames of a movi that stands there are read, one after the other.
use Rattle.std.proofs.Common.{◌≡◌, ℕ, suc, ◌+◌, ◌-◌, ◌≤◌, nat_lt, Bool, true, false, Some, Result, Ok, Err, List, [], ◌∷◌, ◌++◌, length, map, ap, ◌∙◌, sym, subst, arith, refl, append_assoc, append-nil, length-append}
use Rattle.std.proofs.lemmas.Bool.{le-ltb}
use Rattle.byteorder.specs.Endian.{little_number}
use Rattle.ffv1_avi.specs.declared.chunk.Entry.{Entry}
use Rattle.ffv1_avi.specs.Chunks.{AreFrames, AreTaken, AreWithin, Chunk, Fit, IsChunk, chunk_text, chunks_text, those}
use Rattle.ffv1_avi.specs.declared.place.Extent.TheVariants.{FirstMovi}
use Rattle.ffv1_avi.specs.declared.place.Place.{Place}
use Rattle.ffv1_avi.specs.Files.{found_or_on, found_read, frame_found, frames_read, more_frames, movi_found}
use Rattle.ffv1_avi.specs.Opens.{visit_movi}
use Rattle.ffv1_avi.specs.Places.{first_place}
use Rattle.ffv1_reads.specs.Reads.{Kept, Stop, given, read_on}
use Rattle.ffv1_avi.specs.Padding.{content, padded}
use Rattle.ffv1_avi.specs.Walk.{entry_in, entry_of, resumed, visited, walk_in}
use Rattle.ffv1_avi.proofs.ListWalks.{entry_complete_in, walk_complete_in}
use Rattle.ffv1_avi.proofs.PassedBytes.{content_complete}
use Rattle.ffv1_avi.proofs.FrameTurns.{frames_step}
use Rattle.ffv1_avi.proofs.Moves.{frame_step, moved_first, movi_empty}
use Rattle.ffv1_reads.proofs.Results.{ok_is}
use Rattle.ffv1_avi.proofs.ChunkByChunk.{walk_step_in}
use Rattle.ffv1_avi.specs.declared.place.Names.{Names}
use Rattle.ffv1_reads.specs.Head.{limit}
use Rattle.ffv1_avi.specs.Names.{is_barred, least_bytes, most_bytes, opens, rule_of}
use Rattle.ffv1_avi.proofs.OpenedLists.{barred_name, frame_chunk, frame_no_list, size_whole, stands_rec}
use Rattle.ffv1_avi.proofs.TakenChunks.{IsTaken, chunks_fit, fit_first, taken_first, taken_one}
use Rattle.ffv1_avi.specs.Chunks.{barred_in}
use Rattle.ffv1_avi.specs.Chunks.{frame_in}
use Rattle.ffv1_avi.specs.declared.place.Names.TheVariants.{Any}
use Rattle.ffv1_avi.proofs.FrameLaws.{TakesMovi, after_same, found_same, frame_next, frames_after, frames_none, frames_on, movi_complete, movi_frame, movi_part, movi_read, movi_stands, placed, stands_in}

-- a chunk that is no frame is passed
pub movi_passed : (names : Names) (c : Chunk) (more : ℕ) (rest : List ℕ) → IsTaken (opens names) c → 8 + padded (little_number 4 c.size) ≤ length (chunk_text c) + more → barred_in names c ≡ false → frame_in names c ≡ false → movi_found names (length (chunk_text c) + more) (chunk_text c ++ rest) ≡ movi_found names more rest
unfolding movi_found
movi_passed names c more rest is fits stands named =
    let one : chunks_text (c ∷ []) ≡ chunk_text c = append-nil (chunk_text c) in
    let fit : Fit more (c ∷ []) = (rw one fits, tt) in
    let takes : TakesMovi names tt c.name c.bytes tt = (barred_name names c stands, named, stands_rec names c stands) in
    let walked = walk_complete_in (rule_of names) (visit_movi names) (TakesMovi names) (movi_stands names) (movi_complete names) (c ∷ []) tt tt more rest (taken_one (opens names) c is) fit (tt, takes, refl) in
    let alone : walk_in (rule_of names) (visit_movi names) (length (chunk_text c) + more) tt (chunk_text c ++ rest) ≡ walk_in (rule_of names) (visit_movi names) more tt rest = rw one at walked in
    ap (λ z. read_on z (λ p. given p.1)) alone

-- a frame is read
pub movi_there : (names : Names) (c : Chunk) (more : ℕ) (rest : List ℕ) → IsChunk c → is_barred names c.name ≡ false → frame_in names c ≡ true → length c.bytes ≤ most_bytes names → least_bytes names ≤ length c.bytes → movi_read names (length (chunk_text c) + more) (chunk_text c ++ rest) ≡ Ok (Some (c.bytes, more), rest)
unfolding movi_found visit_movi
movi_there names c more rest is list named short some =
    let left = length (chunk_text c) + more in
    let size = little_number 4 c.size in
    let total : length (chunk_text c) ≡ 8 + padded (length c.bytes) = omega (arith, is.named, is.sized, is.padded, length-append ((c.name ++ c.size) ++ c.bytes) c.padding, length-append (c.name ++ c.size) c.bytes, length-append c.name c.size) in
    let counted : length c.bytes ≡ size = sym is.counted in
    let e : Entry = entry_of left c.name size in
    let taken = size_whole names c.name size (frame_no_list names c.name named) in
    let behind : e.left ≡ more = rw (← counted) (omega (arith, total)) in
    let whole : chunk_text c ++ rest ≡ (c.name ++ c.size) ++ ((c.bytes ++ c.padding) ++ rest) = regrouped c.name c.size c.bytes c.padding rest in
    let entry : entry_in (rule_of names) left (chunk_text c ++ rest) ≡ Ok (Some e, (c.bytes ++ c.padding) ++ rest) =
    ap (entry_in (rule_of names) left) whole ∙ entry_complete_in (rule_of names) left c.name c.size ((c.bytes ++ c.padding) ++ rest) (stands_in names c.name list) is.named is.sized (rw (← counted) (omega (arith, total))) (λ l. rw is.counted (is.listed l))
    ∙ ap (λ n. Ok (Some (entry_of left c.name n), (c.bytes ++ c.padding) ++ rest)) taken in
    let fits : nat_lt (most_bytes names) size ≡ false = le-ltb _ _ (rw is.counted short) in
    let not_none : nat_lt size (least_bytes names) ≡ false = le-ltb _ _ (rw is.counted some) in
    let stop : visit_movi names tt e ((c.bytes ++ c.padding) ++ rest) ≡ Ok ((tt, Some (size, e.left)), (c.bytes ++ c.padding) ++ rest) = rw (list, named, fits, not_none) refl in
    let read : content Kept size ((c.bytes ++ c.padding) ++ rest) ≡ Ok (c.bytes, rest) = content_complete Kept size c.bytes c.padding rest counted (rw is.counted is.padded) in
    ap (λ z. read_on (read_on z (λ p. given p.1)) movi_frame) (walk_step_in (rule_of names) (visit_movi names) left tt (chunk_text c ++ rest))
    ∙ ap (λ z. read_on (read_on (read_on z (visited (visit_movi names) (walk_in (rule_of names) (visit_movi names)) tt)) (λ p. given p.1)) movi_frame) entry
    ∙ ap (λ z. read_on (read_on (read_on z (λ p. resumed (walk_in (rule_of names) (visit_movi names) e.left) p.0 p.1)) (λ p. given p.1)) movi_frame) stop
    ∙ ap (λ z. read_on z (λ bytes. given (Some (bytes, e.left)))) read
    ∙ rw behind refl
  where
    regrouped : (a b c d e : List ℕ) → (((a ++ b) ++ c) ++ d) ++ e ≡ (a ++ b) ++ ((c ++ d) ++ e)
    regrouped a b c d e = simp append_assoc

-- at a position whose movi begins with a chunk that is no frame
pub frames_passed : (place : Place) (c : Chunk) (more : ℕ) (rest : List ℕ) → IsTaken (opens place.names) c → 8 + padded (little_number 4 c.size) ≤ length (chunk_text c) + more → barred_in place.names c ≡ false → frame_in place.names c ≡ false →
    frame_found (placed place (length (chunk_text c) + more) place.owed) (chunk_text c ++ rest) ≡ frame_found (placed place more place.owed) rest
frames_passed place c more rest is fits list named =
    let here = placed place (length (chunk_text c) + more) place.owed in
    frame_step here (chunk_text c ++ rest)
    ∙ ap (λ z. read_on z (found_or_on frame_found here)) (movi_passed place.names c more rest is fits list named)
    ∙ found_same here more (movi_found place.names more rest)
    ∙ sym (frame_step (placed place more place.owed) rest)

abbrev pub bytes_of : List Chunk → List (List ℕ)
bytes_of cs = map (λ (c : Chunk). c.bytes) cs

-- the frames of chunks are read, and then those after them
pub movi_frames : (place : Place) (cs : List Chunk) (owed : ℕ) (rest : List ℕ) → AreTaken (opens place.names) cs → Fit 0 cs → those (barred_in place.names) cs ≡ [] → AreWithin (least_bytes place.names) (most_bytes place.names) (bytes_of (those (frame_in place.names) cs)) →
    frames_read (placed place (length (chunks_text cs)) owed) (chunks_text cs ++ rest)
    ≡ read_on (frames_after (placed place 0 (owed - length (bytes_of (those (frame_in place.names) cs)))) rest) (λ frames. given (bytes_of (those (frame_in place.names) cs) ++ frames))
movi_frames place [] owed rest each fit none_barred sized =
    frames_none (placed place 0 owed) rest rest (movi_empty place.names rest)
    ∙ after_same (placed place 0 owed) 0 (owed - 0) (omega arith) rest
    ∙ given_same (frames_after (placed place 0 (owed - 0)) rest)
  where
    given_same : (z : Result (List (List ℕ) × List ℕ) Stop) → z ≡ read_on z (λ frames. given ([] ++ frames))
    given_same (Ok p) = refl
    given_same (Err why) = refl
movi_frames place (c ∷ cs) owed rest each fit none_barred sized =
    on_names (barred_in place.names c) (frame_in place.names c) refl refl (λ o l s. movi_frames place cs o rest taken.1 fit.1 l s)
  where
    taken : IsTaken (opens place.names) c × AreTaken (opens place.names) cs
    taken = taken_first (opens place.names) c cs each

    fits : 8 + padded (little_number 4 c.size) ≤ length (chunk_text c) + length (chunks_text cs)
    fits = omega (arith, fit_first 0 c cs fit)

    behind : List ℕ
    behind = chunks_text cs ++ rest

    more : ℕ
    more = length (chunks_text cs)

    these : List Chunk → List (List ℕ)
    these xs = bytes_of (those (frame_in place.names) xs)

    Later : ℕ → List Chunk → Result (List (List ℕ) × List ℕ) Stop
    Later o xs = read_on (frames_after (placed place 0 (o - length (these xs))) rest) (λ frames. given (these xs ++ frames))

    Again : Type 0
    Again = (o : ℕ) → those (barred_in place.names) cs ≡ [] → AreWithin (least_bytes place.names) (most_bytes place.names) (these cs) → frames_read (placed place more o) behind ≡ Later o cs

    whole : frames_read (placed place (length (chunks_text (c ∷ cs))) owed) (chunks_text (c ∷ cs) ++ rest) ≡ frames_read (placed place (length (chunk_text c) + more) owed) (chunk_text c ++ behind)
    whole = ap (λ n. frames_read (placed place n owed) (chunks_text (c ∷ cs) ++ rest)) (length-append (chunk_text c) (chunks_text cs)) ∙ ap (frames_read (placed place (length (chunk_text c) + more) owed)) (append_assoc (chunk_text c) (chunks_text cs) rest)

    one_more : (z : Result (List (List ℕ) × List ℕ) Stop) → read_on (read_on z (λ frames. given (these cs ++ frames))) (λ frames. given (c.bytes ∷ frames)) ≡ read_on z (λ frames. given (c.bytes ∷ (these cs ++ frames)))
    one_more (Ok p) = refl
    one_more (Err why) = refl

    on_names : (a b : Bool) → barred_in place.names c ≡ a → frame_in place.names c ≡ b → Again → frames_read (placed place (length (chunks_text (c ∷ cs))) owed) (chunks_text (c ∷ cs) ++ rest) ≡ Later owed (c ∷ cs)
    on_names true b p q again = let gone : c ∷ those (barred_in place.names) cs ≡ [] = rw p at none_barred in absurd (cc)
    on_names false false p q again =
        let later = again owed (rw p at none_barred) (rw q at sized) in
        let here = placed place (length (chunk_text c) + more) owed in
        rw q
        (whole
        ∙ frames_step here (chunk_text c ++ behind)
        ∙ ap (λ z. read_on (read_on z found_read) (more_frames frames_read)) (frames_passed here c more behind taken.0 fits p q)
        ∙ sym (frames_step (placed place more owed) behind)
        ∙ later)
    on_names false true p q again =
        let here = placed place (length (chunk_text c) + more) owed in
        let sizes = rw q at sized in
        let later = again (owed - 1) (rw p at none_barred) sizes.2 in
        let owes : owed - 1 - length (these cs) ≡ owed - suc (length (these cs)) = omega arith in
        rw q
        (whole
        ∙ frames_step here (chunk_text c ++ behind)
        ∙ ap (λ z. read_on z (more_frames frames_read)) (frame_next here (chunk_text c ++ behind) (c.bytes, more) behind (movi_there place.names c more behind (frame_chunk place.names c taken.0 q) (barred_name place.names c p) q sizes.1 sizes.0))
        ∙ ap (λ z. read_on z (λ frames. given (c.bytes ∷ frames))) later
        ∙ one_more (frames_after (placed place 0 (owed - 1 - length (these cs))) rest)
        ∙ ap (λ n. read_on (frames_after (placed place 0 n) rest) (λ frames. given (c.bytes ∷ (these cs ++ frames)))) owes)

-- if the first movi alone is read
abbrev pub in_movi : ℕ → Place
in_movi left = first_place FirstMovi 0 left Any 0

pub record ReadFrames (left : ℕ) (text : List ℕ) (frames : List (List ℕ)) (rest : List ℕ) : Type 0 where
  pub chunks : List Chunk
  pub text_is : text ≡ chunks_text chunks ++ rest
  pub long : length (chunks_text chunks) ≡ left
  pub framed : AreFrames Any chunks frames

pub frames_sound : (left : ℕ) (text : List ℕ) (w : List (List ℕ) × List ℕ) → frames_read (in_movi left) text ≡ Ok w → ReadFrames left text w.0 w.1
frames_sound left text w h =
    let part = movi_part (in_movi left) text w h in
    let end : (frames_after (placed (in_movi left) 0 (0 - length part.here))) part.more ≡ Ok ([], part.more) = ap (λ z. read_on z frames_on) (moved_first (placed (in_movi left) 0 (0 - length part.here)) refl part.more) in
    let both = ok_is ([], part.more) (part.later, w.1) (sym end ∙ part.after) in
    let none : part.later ≡ [] = sym (ap (λ (z : List (List ℕ) × List ℕ). z.0) both) in
    let all : part.here ≡ w.0 = sym (part.parted ∙ ap (λ z. part.here ++ z) none ∙ append-nil part.here) in
    let P : List (List ℕ) → Type 0 = λ z. AreFrames Any part.chunks z in
    record { chunks = part.chunks; text_is = part.text_is ∙ ap (λ z. chunks_text part.chunks ++ z) (ap (λ (z : List (List ℕ) × List ℕ). z.1) both); long = part.long; framed = subst P all part.framed }

pub frames_complete : (chunks : List Chunk) (frames : List (List ℕ)) (rest : List ℕ) → AreFrames Any chunks frames → frames_read (in_movi (length (chunks_text chunks))) (chunks_text chunks ++ rest) ≡ Ok (frames, rest)
frames_complete chunks frames rest are =
    let P : List (List ℕ) → Type 0 = λ z. AreWithin 1 limit z in
    let here = bytes_of (those (frame_in Any) chunks) in
    let end : (frames_after (placed (in_movi 0) 0 (0 - length here))) rest ≡ Ok ([], rest) = ap (λ z. read_on z frames_on) (moved_first (placed (in_movi 0) 0 (0 - length here)) refl rest) in
    movi_frames (in_movi 0) chunks 0 rest are.each (chunks_fit 0 chunks are.each) are.none_barred (subst P (sym are.those_of) are.sized)
    ∙ ap (λ z. read_on z (λ frames. given (here ++ frames))) end
    ∙ ap (λ z. Ok (z, rest)) (append-nil here ∙ are.those_of)

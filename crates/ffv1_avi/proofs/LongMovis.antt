-- Chunks that do not fit in a movi, in what is after it in its RIFF, or in the next RIFF.
use Rattle.std.proofs.Common.{◌≡◌, ℕ, ◌+◌, ◌<◌, Bool, true, false, Some, None, Ok, Err, List, [], ◌∷◌, ◌++◌, length, codes, ap, ◌∙◌, arith, refl}
use Rattle.byteorder.specs.Endian.{little_number}
use Rattle.ffv1_reads.specs.declared.fault.FileFault.TheVariants as fault
use Rattle.ffv1_avi.specs.declared.place.Extent.TheVariants.{EveryRiff}
use Rattle.ffv1_avi.specs.declared.place.Extent.{Extent}
use Rattle.ffv1_avi.specs.declared.place.Place.{Place}
use Rattle.ffv1_avi.specs.Chunks.{AreChunks, Chunk, Passes, chunks_text, is_list, those, AreTaken}
use Rattle.ffv1_avi.specs.Files.{beyond, found_or_on, found_read, frame_found, frame_read, moved, moved_by, movi_found, movi_or_riff, movi_sought, riff_begun, sought_on}
use Rattle.ffv1_avi.specs.Opens.{visit_riff}
use Rattle.ffv1_avi.specs.Opens.{visit_movi}
use Rattle.ffv1_avi.specs.Places.{extent_of, riff_at}
use Rattle.ffv1_reads.specs.Reads.{Met, given, read_on}
use Rattle.ffv1_avi.specs.Names.{bars, opens, rule_of}
use Rattle.ffv1_avi.specs.Walk.{is_known, visited, walk, walk_in, walk_up_to}
use Rattle.ffv1_avi.specs.declared.place.Open.{Open}
use Rattle.ffv1_avi.specs.declared.place.Open.TheVariants.{Sized}
use Rattle.ffv1_avi.proofs.FrameLaws.{TakesMovi, movi_complete, movi_stands}
use Rattle.ffv1_avi.proofs.LaterFrames.{begun_riff, in_riff}
use Rattle.ffv1_avi.proofs.ListWalks.{Run, walk_complete, walk_complete_in}
use Rattle.ffv1_avi.proofs.Moves.{extent_every, frame_step, movi_empty}
use Rattle.ffv1_avi.proofs.RefusalLaws.{entry_long, entry_long_in}
use Rattle.ffv1_avi.proofs.RiffLaws.{TakesRiff, riff_complete}
use Rattle.ffv1_avi.proofs.ChunkByChunk.{walk_step, walk_step_in}
use Rattle.ffv1_avi.specs.declared.place.Names.{Names}
use Rattle.ffv1_avi.specs.Chunks.{barred_in}
use Rattle.ffv1_avi.specs.Chunks.{frame_in}
use Rattle.ffv1_avi.proofs.TakenChunks.{chunks_fit, taken_more, taken_none}
use Rattle.ffv1_avi.proofs.OpenedLists.{barred_name, stands_rec, stands_taken}

-- chunks that are no frames
movi_run : (names : Names) (cs : List Chunk) → those (barred_in names) cs ≡ [] → those (frame_in names) cs ≡ [] → Run (TakesMovi names) tt cs tt
movi_run names [] lists frames = refl
movi_run names (c ∷ cs) lists frames = on_names (barred_in names c) (frame_in names c) refl refl (λ l f. movi_run names cs l f)
  where
    on_names : (a b : Bool) → barred_in names c ≡ a → frame_in names c ≡ b → (those (barred_in names) cs ≡ [] → those (frame_in names) cs ≡ [] → Run (TakesMovi names) tt cs tt) → Run (TakesMovi names) tt (c ∷ cs) tt
    on_names true b p q again = let gone : c ∷ those (barred_in names) cs ≡ [] = rw p at lists in absurd (cc)
    on_names false true p q again = let gone : c ∷ those (frame_in names) cs ≡ [] = rw q at frames in absurd (cc)
    on_names false false p q again = (tt, (barred_name names c p, q, stands_rec names c p), again (rw p at lists) (rw q at frames))

-- whole chunks that may stand in movi are taken there as they are
movi_taken : (names : Names) (cs : List Chunk) → AreChunks cs → those (barred_in names) cs ≡ [] → AreTaken (opens names) cs
movi_taken names [] each lists = taken_none (opens names)
movi_taken names (c ∷ cs) each lists = on_name (barred_in names c) refl (λ l. movi_taken names cs each.1 l)
  where
    on_name : (b : Bool) → barred_in names c ≡ b → (those (barred_in names) cs ≡ [] → AreTaken (opens names) cs) → AreTaken (opens names) (c ∷ cs)
    on_name true p again = let gone : c ∷ those (barred_in names) cs ≡ [] = rw p at lists in absurd (cc)
    on_name false p again = taken_more (opens names) c cs (stands_taken names c each.0 p) (again (rw p at lists))

-- chunks that are no movi and no frames
riff_run : (names : Names) (cs : List Chunk) → those (is_list (codes "movi")) cs ≡ [] → those (frame_in names) cs ≡ [] → Run (TakesRiff names) tt cs tt
riff_run names [] none frames = refl
riff_run names (c ∷ cs) none frames = on_name (is_list (codes "movi") c) (frame_in names c) refl refl (λ h k. riff_run names cs h k)
  where
    on_name : (a b : Bool) → is_list (codes "movi") c ≡ a → frame_in names c ≡ b → (those (is_list (codes "movi")) cs ≡ [] → those (frame_in names) cs ≡ [] → Run (TakesRiff names) tt cs tt) → Run (TakesRiff names) tt (c ∷ cs) tt
    on_name true b p q again = let gone : c ∷ those (is_list (codes "movi")) cs ≡ [] = rw p at none in absurd (cc)
    on_name false true p q again = let gone : c ∷ those (frame_in names) cs ≡ [] = rw q at frames in absurd (cc)
    on_name false false p q again = (tt, (p, q), again (rw p at none) (rw q at frames))

pub movi_long_at : (place : Place) (chunks : List Chunk) (left : ℕ) (name size rest : List ℕ) → place.movi ≡ length (chunks_text chunks) + left → AreChunks chunks → those (barred_in place.names) chunks ≡ [] → those (frame_in place.names) chunks ≡ [] → Passes left name size → bars place.names name ≡ false →
    frame_read place (chunks_text chunks ++ ((name ++ size) ++ rest)) ≡ Err (Met fault.Truncated rest)
unfolding movi_found
movi_long_at place chunks left name size rest room each lists frames passes stands =
    let text = (name ++ size) ++ rest in
    let visit = visit_movi place.names in
    let found : movi_found place.names place.movi (chunks_text chunks ++ text) ≡ Err (Met fault.Truncated rest) =
    ap (λ n. movi_found place.names n (chunks_text chunks ++ text)) room
    ∙ ap (λ z. read_on z (λ p. given p.1)) (walk_complete_in (rule_of place.names) visit (TakesMovi place.names) (movi_stands place.names) (movi_complete place.names) chunks tt tt left text (movi_taken place.names chunks each lists) (chunks_fit left chunks each) (movi_run place.names chunks lists frames))
    ∙ ap (λ z. read_on z (λ p. given p.1)) (walk_step_in (rule_of place.names) visit left tt text)
    ∙ ap (λ z. read_on (read_on z (visited visit (walk_in (rule_of place.names) visit) tt)) (λ p. given p.1)) (entry_long_in (rule_of place.names) left name size rest stands refl passes.named passes.sized passes.header passes.passes) in
    ap (λ z. read_on z found_read) (frame_step place (chunks_text chunks ++ text))
    ∙ ap (λ z. read_on (read_on z (found_or_on frame_found place)) found_read) found

-- if movi has no bytes left
pub found_moved : (place : Place) (text : List ℕ) → place.open_in ≡ Sized → place.movi ≡ 0 → extent_of place ≡ EveryRiff → frame_found place text ≡ read_on (read_on (movi_sought place.names place.riff text) (movi_or_riff place)) (sought_on frame_found)
unfolding moved
found_moved place text known none every =
    frame_step place text
    ∙ ap (λ n. read_on (movi_found place.names n text) (found_or_on frame_found place)) none
    ∙ ap (λ z. read_on z (found_or_on frame_found place)) (movi_empty place.names text)
    ∙ ap (λ (o : Open). beyond o frame_found place text) known
    ∙ ap (λ (z : Extent). read_on (moved_by z place text) (sought_on frame_found)) every

found_long : (place : Place) (chunks : List Chunk) (left : ℕ) (name size rest : List ℕ) → place.open_in ≡ Sized → place.movi ≡ 0 → extent_of place ≡ EveryRiff → place.riff ≡ length (chunks_text chunks) + left → AreChunks chunks → those (is_list (codes "movi")) chunks ≡ [] → those (frame_in place.names) chunks ≡ [] → Passes left name size →
    frame_found place (chunks_text chunks ++ ((name ++ size) ++ rest)) ≡ Err (Met fault.Truncated rest)
unfolding movi_sought
found_long place chunks left name size rest known none every room each movis frames passes =
    let text = (name ++ size) ++ rest in
    let visit = visit_riff place.names in
    let sought : movi_sought place.names place.riff (chunks_text chunks ++ text) ≡ Err (Met fault.Truncated rest) =
    ap (λ n. movi_sought place.names n (chunks_text chunks ++ text)) room
    ∙ ap (λ z. read_on z (λ p. given p.1)) (walk_complete visit (TakesRiff place.names) (riff_complete place.names) chunks tt tt left text each (riff_run place.names chunks movis frames))
    ∙ ap (λ z. read_on z (λ p. given p.1)) (walk_step visit left tt text)
    ∙ ap (λ z. read_on (read_on z (visited visit (walk visit) tt)) (λ p. given p.1)) (entry_long left name size rest passes.named passes.sized passes.header passes.passes) in
    found_moved place (chunks_text chunks ++ text) known none every
    ∙ ap (λ z. read_on (read_on z (movi_or_riff place)) (sought_on frame_found)) sought

pub after_long_at : (place : Place) (chunks : List Chunk) (left : ℕ) (name size rest : List ℕ) → place.open_in ≡ Sized → extent_of place ≡ EveryRiff → place.movi ≡ 0 → place.riff ≡ length (chunks_text chunks) + left → AreChunks chunks → those (is_list (codes "movi")) chunks ≡ [] → those (frame_in place.names) chunks ≡ [] → Passes left name size →
    frame_read place (chunks_text chunks ++ ((name ++ size) ++ rest)) ≡ Err (Met fault.Truncated rest)
after_long_at place chunks left name size rest known every none room each movis frames passes = ap (λ z. read_on z found_read) (found_long place chunks left name size rest known none every room each movis frames passes)

-- the next RIFF is looked for by three of a position's numbers
begun_in : (place : Place) (text : List ℕ) → riff_begun place text ≡ riff_begun (in_riff place.input place.names 0 place.owed) text
unfolding riff_begun
begun_in place text = refl

pub next_long_at : (place : Place) (riff_size : List ℕ) (chunks : List Chunk) (left : ℕ) (name size rest : List ℕ) → place.open_in ≡ Sized → extent_of place ≡ EveryRiff → place.movi ≡ 0 → place.riff ≡ 0 → length riff_size ≡ 4 → is_known (little_number 4 riff_size) ≡ true → little_number 4 riff_size ≡ 4 + length (chunks_text chunks) + left →
    8 + little_number 4 riff_size < place.input → AreChunks chunks → those (is_list (codes "movi")) chunks ≡ [] → those (frame_in place.names) chunks ≡ [] → Passes left name size →
    frame_read place ((codes "RIFF" ++ riff_size ++ codes "AVIX") ++ (chunks_text chunks ++ ((name ++ size) ++ rest))) ≡ Err (Met fault.Truncated rest)
unfolding movi_sought walk_up_to
next_long_at place riff_size chunks left name size rest known every none ended sized told counted fits each movis frames passes =
    let behind = chunks_text chunks ++ ((name ++ size) ++ rest) in
    let text = (codes "RIFF" ++ riff_size ++ codes "AVIX") ++ behind in
    let n = little_number 4 riff_size in
    let next = riff_at place n in
    let begun : riff_begun place text ≡ Ok (Some next, behind) = begun_in place text ∙ begun_riff place.input place.names place.owed riff_size behind sized told (omega (arith, counted)) fits in
    let nothing : movi_sought place.names place.riff text ≡ Ok (None, text) = ap (λ k. movi_sought place.names k text) ended in
    let still : extent_of next ≡ EveryRiff = extent_every next (λ e. omega (arith, e, fits)) in
    ap (λ z. read_on z found_read)
    (found_moved place text known none every
    ∙ ap (λ z. read_on (read_on z (movi_or_riff place)) (sought_on frame_found)) nothing
    ∙ ap (λ z. read_on z (sought_on frame_found)) begun
    ∙ found_long next chunks left name size rest refl refl still (omega (arith, counted)) each movis frames passes)

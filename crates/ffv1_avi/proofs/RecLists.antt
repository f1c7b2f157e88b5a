-- A list in a movi, if every RIFF is read: its chunks are those of movi if it is a list `rec `.
use Rattle.std.proofs.Common.{◌≡◌, inr, ℕ, ◌+◌, ◌-◌, ◌≤◌, ◌||◌, Bool, true, false, Some, Ok, Err, List, [], ◌++◌, length, codes, ap, ◌∙◌, sym, subst, arith, refl, append_assoc, append-nil, length-append}
use Rattle.byteorder.specs.Endian.{little_number}
use Rattle.ffv1_reads.specs.declared.fault.FileFault.TheVariants as fault
use Rattle.ffv1_reads.specs.Reads.{Looked, Met, given, read_on}
use Rattle.ffv1_avi.specs.declared.chunk.Entry.{Entry}
use Rattle.ffv1_avi.specs.declared.place.Names.{Names}
use Rattle.ffv1_avi.specs.declared.place.Names.TheVariants.{Closed}
use Rattle.ffv1_avi.specs.declared.place.Place.{Place}
use Rattle.ffv1_avi.specs.Chunks.{Chunk, IsOpened, chunk_text}
use Rattle.ffv1_avi.specs.Files.{found_or_on, found_read, frame_found, frame_read, movi_found}
use Rattle.ffv1_avi.specs.Opens.{list_opened, visit_movi}
use Rattle.ffv1_avi.specs.Names.{is_barred, is_index, is_of_other, is_stream_frame, opens, palette_name, rule_of, stands_beside}
use Rattle.ffv1_avi.specs.Offsets.{movi_left}
use Rattle.ffv1_avi.specs.Padding.{content, padded}
use Rattle.ffv1_avi.specs.Walk.{entry_in, entry_of, is_name, resumed, size_in, visited, walk_in}
use Rattle.ffv1_avi.proofs.ChunkByChunk.{walk_step_in}
use Rattle.ffv1_avi.proofs.FrameLaws.{placed, stands_in}
use Rattle.ffv1_avi.proofs.MoviFrames.{frames_passed}
use Rattle.ffv1_avi.proofs.ListWalks.{entry_complete_in}
use Rattle.ffv1_avi.proofs.Moves.{frame_step}
use Rattle.ffv1_avi.proofs.OpenedLists.{list_no_frame, rec_stands}
use Rattle.ffv1_avi.proofs.PassedBytes.{content_complete}
use Rattle.ffv1_avi.proofs.TakenChunks.{IsTaken}

-- a list may stand in movi, by its name
list_stands : (stream streams : ℕ) → is_barred (Closed stream streams) (codes "LIST") ≡ false
unfolding stands_beside
list_stands stream streams = on_frame (is_stream_frame stream (codes "LIST")) refl
  where
    any : (a b c d : Bool) → (a || b || c || d || true) ≡ true
    any true b c d = refl
    any false true c d = refl
    any false false true d = refl
    any false false false true = refl
    any false false false false = refl

    beside : stands_beside stream streams (codes "LIST") ≡ true
    beside = any (is_name (codes "LIST") (palette_name stream)) (is_of_other stream streams (codes "LIST")) (is_index (codes "LIST")) (is_name (codes "LIST") (codes "JUNK"))

    on_frame : (b : Bool) → is_stream_frame stream (codes "LIST") ≡ b → is_barred (Closed stream streams) (codes "LIST") ≡ false
    on_frame true p = rw p refl
    on_frame false p = rw (p, beside) refl

-- the list in a movi, up to its own name
abbrev head : List ℕ → List ℕ → Chunk
head size own = record { name = codes "LIST"; size = size; bytes = own; padding = [] }

-- the chunks of a list `rec ` are those of movi
pub rec_opened : (place : Place) (stream streams : ℕ) (size rest : List ℕ) → place.names ≡ Closed stream streams → length size ≡ 4 → 4 ≤ little_number 4 size → 8 + padded (little_number 4 size) ≤ place.movi →
    frame_read place ((codes "LIST" ++ size ++ codes "rec ") ++ rest) ≡ frame_read (movi_left place (place.movi - 12)) rest
rec_opened place stream streams size rest closed sized room fits =
    let c = head size (codes "rec ") in
    let opened : IsOpened c = record { named = refl; sized = sized; room = room; own = refl; none_padded = refl } in
    let P : Names → Type 0 = λ z. IsTaken (opens z) c in
    let is : IsTaken (opens place.names) c = subst P (sym closed) (inr opened) in
    let Q : Names → Type 0 = λ z. is_barred z (codes "LIST") ≡ false in
    let stands : is_barred place.names (codes "LIST") ≡ false = subst Q (sym closed) (list_stands stream streams) in
    let same : chunk_text c ≡ codes "LIST" ++ size ++ codes "rec " = append-nil ((codes "LIST" ++ size) ++ codes "rec ") in
    let spelled : (length (codes "LIST") ≡ 4) × (length (codes "rec ") ≡ 4) = (refl, refl) in
    let long : length (chunk_text c) ≡ 12 = ap length same ∙ (omega (arith, sized, spelled, length-append (codes "LIST" ++ size) (codes "rec "), length-append (codes "LIST") size)) in
    let left = place.movi - 12 in
    let all : place.movi ≡ length (chunk_text c) + left = omega (arith, long, fits, room) in
    let enough : 8 + padded (little_number 4 size) ≤ length (chunk_text c) + left = omega (arith, all, fits) in
    let passed = frames_passed place c left rest is enough (rec_stands place.names c stands (λ l. refl)) (list_no_frame place.names (codes "LIST") refl) in
    ap (λ n. frame_read (placed place n place.owed) ((codes "LIST" ++ size ++ codes "rec ") ++ rest)) all
    ∙ ap (λ z. frame_read (placed place (length (chunk_text c) + left) place.owed) (z ++ rest)) (sym same)
    ∙ ap (λ z. read_on z found_read) passed

-- a list of another own name is refused after that
pub list_refused : (place : Place) (stream streams : ℕ) (size own rest : List ℕ) → place.names ≡ Closed stream streams → length size ≡ 4 → 4 ≤ little_number 4 size → 8 + padded (little_number 4 size) ≤ place.movi → length own ≡ 4 → is_name own (codes "rec ") ≡ false →
    frame_read place ((codes "LIST" ++ size ++ own) ++ rest) ≡ Err (Met fault.NotAvi rest)
unfolding movi_found visit_movi
list_refused place stream streams size own rest closed sized room fits four other =
    let text = (codes "LIST" ++ size ++ own) ++ rest in
    let visit = visit_movi place.names in
    let rule = rule_of place.names in
    let walking = walk_in rule visit in
    let n = little_number 4 size in
    let e : Entry = entry_of place.movi (codes "LIST") 4 in
    let Q : Names → Type 0 = λ z. is_barred z (codes "LIST") ≡ false in
    let stands : is_barred place.names (codes "LIST") ≡ false = subst Q (sym closed) (list_stands stream streams) in
    let R : Names → Type 0 = λ z. size_in (rule_of z) (codes "LIST") n ≡ 4 in
    let opened : size_in rule (codes "LIST") n ≡ 4 = subst R (sym closed) refl in
    let whole : text ≡ (codes "LIST" ++ size) ++ (own ++ rest) = append_assoc (codes "LIST" ++ size) own rest in
    let entry : entry_in rule place.movi text ≡ Ok (Some e, own ++ rest) =
    ap (entry_in rule place.movi) whole
    ∙ entry_complete_in rule place.movi (codes "LIST") size (own ++ rest) (stands_in place.names (codes "LIST") stands) refl sized fits (λ l. room)
    ∙ ap (λ k. Ok (Some (entry_of place.movi (codes "LIST") k), own ++ rest)) opened in
    let said : content Looked 4 (own ++ rest) ≡ Ok (own, rest) = ap (λ z. content Looked 4 (z ++ rest)) (sym (append-nil own)) ∙ content_complete Looked 4 own [] rest four refl in
    let frame = list_no_frame place.names (codes "LIST") refl in
    let stop : visit tt e (own ++ rest) ≡ Err (Met fault.NotAvi rest) = rw (stands, frame) (ap (λ z. read_on z list_opened) said ∙ rw other refl) in
    ap (λ z. read_on z found_read) (frame_step place text)
    ∙ ap (λ z. read_on (read_on (read_on z (λ p. given p.1)) (found_or_on frame_found place)) found_read) (walk_step_in rule visit place.movi tt text)
    ∙ ap (λ z. read_on (read_on (read_on (read_on z (visited visit walking tt)) (λ p. given p.1)) (found_or_on frame_found place)) found_read) entry
    ∙ ap (λ z. read_on (read_on (read_on (read_on z (λ p. resumed (walking e.left) p.0 p.1)) (λ p. given p.1)) (found_or_on frame_found place)) found_read) stop

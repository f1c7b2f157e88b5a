-- Files that are refused: movi before any stream, and a chunk that does not fit in movi.
use Rattle.std.proofs.Common.{◌≡◌, ℕ, ◌+◌, ◌-◌, ◌≤◌, ◌<◌, ◌==◌, nat_lt, nat_le, if◌then◌else◌, Bool, true, false, Some, Ok, Err, List, [], ◌∷◌, ◌++◌, length, take, drop, codes, flat_map, ap, ◌∙◌, sym, refl, append_assoc, arith, length-append, zero-add}
use Rattle.std.proofs.lemmas.Bool.{le-leb, le-ltb, lt-ltb, ne_eqb}
use Rattle.byteorder.specs.Endian.{little_number}
use Rattle.ffv1_avi.specs.declared.chunk.Entry.{Entry}
use Rattle.ffv1_reads.specs.declared.fault.FileFault.TheVariants as fault
use Rattle.ffv1_avi.specs.Chunks.{AreChunks, AreParts, Chunk, MoviBegins, Part, chunk_text, chunks_text, header_chunks, is_named, streams, those}
use Rattle.ffv1_avi.specs.Files.{begins, found_or_on, found_read, frame_read, frame_found, list_visited, movi_found, no_headers, open_read, opened, top_read, visit_top}
use Rattle.ffv1_avi.specs.Opens.{visit_movi}
use Rattle.ffv1_avi.specs.declared.place.Extent.TheVariants.{FirstMovi}
use Rattle.ffv1_avi.specs.declared.place.Names.TheVariants.{Any}
use Rattle.ffv1_reads.specs.Reads.{Met, given, read_on, refused, taken}
use Rattle.ffv1_avi.specs.Padding.{padded}
use Rattle.ffv1_avi.specs.Walk.{plain, entry_in, entry_read, is_name, is_sizeless, resumed, visited, walk, Rule}
use Rattle.ffv1_reads.proofs.Results.{cut_back, cut_front}
use Rattle.ffv1_avi.proofs.ListWalks.{entry_complete, walk_complete}
use Rattle.ffv1_avi.proofs.Contents.{number_taken}
use Rattle.ffv1_avi.proofs.MoviFrames.{frames_passed, in_movi}
use Rattle.ffv1_avi.proofs.Moves.{frame_step}
use Rattle.ffv1_avi.proofs.HeaderLaws.{run_none}
use Rattle.ffv1_avi.proofs.PartLaws.{chunks_of, parts_text}
use Rattle.ffv1_reads.proofs.WantedBytes.{taken_complete}
use Rattle.ffv1_avi.proofs.TopLaws.{TakesTop, some_size, top_complete}
use Rattle.ffv1_avi.proofs.ChunkByChunk.{walk_step}
use Rattle.ffv1_avi.proofs.TakenChunks.{chunk_fits}

top_read_none : (said : ℕ) (parts : List Part) (movi_size : List ℕ) (rest : List ℕ) → length movi_size ≡ 4 → 4 ≤ little_number 4 movi_size →
    length (parts_text parts) + (8 + padded (little_number 4 movi_size)) ≤ said - 4 → AreParts parts → streams parts ≡ [] →
    top_read FirstMovi said (parts_text parts ++ ((codes "LIST" ++ movi_size ++ codes "movi") ++ rest)) ≡ Err (Met fault.NoFfv1 rest)
unfolding top_read visit_top
top_read_none said parts movi_size rest sized named fits each none =
    let room = said - 4 in
    let size = little_number 4 movi_size in
    let more = room - length (parts_text parts) in
    let run = run_none (flat_map header_chunks parts) no_headers none in
    let chunks = chunks_of FirstMovi parts no_headers no_headers each run in
    let behind = (codes "LIST" ++ movi_size ++ codes "movi") ++ rest in
    let walked = walk_complete (visit_top FirstMovi) (TakesTop FirstMovi) (top_complete FirstMovi) chunks.chunks no_headers no_headers more behind chunks.each chunks.run in
    let count : room ≡ length (chunks_text chunks.chunks) + more = omega (arith, fits, ap length chunks.text) in
    let whole : behind ≡ (codes "LIST" ++ movi_size) ++ (codes "movi" ++ rest) = append_assoc (codes "LIST" ++ movi_size) (codes "movi") rest in
    let e : Entry = record { name = codes "LIST"; size = size; left = more - (8 + padded size) } in
    let entry : entry_read more behind ≡ Ok (Some e, codes "movi" ++ rest) = ap (entry_read more) whole ∙ entry_complete more (codes "LIST") movi_size (codes "movi" ++ rest) refl sized (omega (arith, fits)) (λ l. named) in
    let own : taken 4 (codes "movi" ++ rest) ≡ Ok (codes "movi", rest) = taken_complete 4 (codes "movi") rest refl in
    ap (λ z. read_on (walk (visit_top FirstMovi) room no_headers (z ++ behind)) (λ p. opened FirstMovi said p.1)) (sym chunks.text)
    ∙ ap (λ n. read_on (walk (visit_top FirstMovi) n no_headers (chunks_text chunks.chunks ++ behind)) (λ p. opened FirstMovi said p.1)) count
    ∙ ap (λ z. read_on z (λ p. opened FirstMovi said p.1)) (walked ∙ walk_step (visit_top FirstMovi) more no_headers behind)
    ∙ ap (λ z. read_on (read_on z (visited (visit_top FirstMovi) (walk (visit_top FirstMovi)) no_headers)) (λ p. opened FirstMovi said p.1)) entry
    ∙ ap (λ z. read_on (read_on (read_on z (list_visited FirstMovi no_headers e.left size)) (λ p. resumed (walk (visit_top FirstMovi) e.left) p.0 p.1)) (λ p. opened FirstMovi said p.1)) own
    ∙ rw (some_size size named) refl

pub no_stream : (file : List ℕ) (parts : List Part) (rest : List ℕ) → MoviBegins file parts rest → streams parts ≡ [] → open_read FirstMovi file ≡ Err (Met fault.NoFfv1 rest)
unfolding open_read
no_stream file parts rest is none =
    let riff_size = is.riff_size in
    let bytes = codes "RIFF" ++ riff_size ++ codes "AVI " in
    let behind = parts_text parts ++ ((codes "LIST" ++ is.movi_size ++ codes "movi") ++ rest) in
    let long : length bytes ≡ 12 = omega (arith, is.riff_sized, length-append (codes "RIFF" ++ riff_size) (codes "AVI "), length-append (codes "RIFF") riff_size, spelled_length) in
    let third : drop 8 bytes ≡ codes "AVI " = cut_back 8 (codes "RIFF" ++ riff_size) (codes "AVI ") (omega (arith, is.riff_sized, length-append (codes "RIFF") riff_size)) in
    let second : little_number 4 (drop 4 bytes) ≡ little_number 4 riff_size = ap (little_number 4) (ap (drop 4) (append_assoc (codes "RIFF") riff_size (codes "AVI ")) ∙ cut_back 4 (codes "RIFF") (riff_size ++ codes "AVI ") refl) ∙ sym (number_taken 4 (riff_size ++ codes "AVI ") (omega arith)) ∙ ap (little_number 4) (cut_front 4 riff_size (codes "AVI ") is.riff_sized) in
    let avi : is_name (drop 8 bytes) (codes "AVI ") ≡ true = rw third refl in
    let room : nat_le 4 (little_number 4 riff_size) ≡ true = le-leb _ _ (omega (arith, is.fits)) in
    ap (open_read FirstMovi) is.bytes
    ∙ ap (λ z. read_on z (λ bytes. if begins FirstMovi bytes then top_read FirstMovi (little_number 4 (drop 4 bytes)) else refused fault.NotAvi)) (taken_complete 12 bytes behind long)
    ∙ rw (avi, second, room) (top_read_none (little_number 4 riff_size) parts is.movi_size rest is.movi_sized is.movi_named (omega (arith, is.fits)) is.each none)
  where
    spelled_length : length (codes "AVI ") ≡ 4
    spelled_length = refl

-- a header whose chunk does not fit
pub entry_long_in : (rule : Rule) (left : ℕ) (name size rest : List ℕ) → rule.bars name ≡ false → is_sizeless rule name (little_number 4 size) ≡ false → length name ≡ 4 → length size ≡ 4 → 8 ≤ left → left < 8 + padded (little_number 4 size) → entry_in rule left ((name ++ size) ++ rest) ≡ Err (Met fault.Truncated rest)
unfolding entry_in
entry_long_in rule left name size rest stands known named sized enough long =
    let both : length (name ++ size) ≡ 8 = omega (arith, named, sized, length-append name size) in
    let some : (left == 0) ≡ false = ne_eqb _ _ (λ e. omega (arith, enough, e)) in
    let room : nat_lt left 8 ≡ false = le-ltb _ _ enough in
    let there : nat_lt (length ((name ++ size) ++ rest)) 8 ≡ false = le-ltb _ _ (omega (arith, both, length-append (name ++ size) rest)) in
    let front : take 8 ((name ++ size) ++ rest) ≡ name ++ size = cut_front 8 (name ++ size) rest both in
    let behind : drop 8 ((name ++ size) ++ rest) ≡ rest = cut_back 8 (name ++ size) rest both in
    let first : take 4 (name ++ size) ≡ name = cut_front 4 name size named in
    let second : drop 4 (name ++ size) ≡ size = cut_back 4 name size named in
    let fit : nat_lt left (8 + padded (little_number 4 size)) ≡ true = lt-ltb _ _ long in
    rw (some, room, there, front, behind, first, second, stands, fit, known) refl

-- the same in a list that bars no name
pub entry_long : (left : ℕ) (name size rest : List ℕ) → length name ≡ 4 → length size ≡ 4 → 8 ≤ left → left < 8 + padded (little_number 4 size) → entry_read left ((name ++ size) ++ rest) ≡ Err (Met fault.Truncated rest)
entry_long left name size rest named sized enough long = entry_long_in plain left name size rest refl refl named sized enough long

-- a header whose name the list bars
pub entry_barred : (rule : Rule) (left : ℕ) (name size rest : List ℕ) → rule.bars name ≡ true → length name ≡ 4 → length size ≡ 4 → 8 ≤ left → entry_in rule left ((name ++ size) ++ rest) ≡ Err (Met fault.NotAvi rest)
unfolding entry_in
entry_barred rule left name size rest bar named sized enough =
    let both : length (name ++ size) ≡ 8 = omega (arith, named, sized, length-append name size) in
    let some : (left == 0) ≡ false = ne_eqb _ _ (λ e. omega (arith, enough, e)) in
    let room : nat_lt left 8 ≡ false = le-ltb _ _ enough in
    let there : nat_lt (length ((name ++ size) ++ rest)) 8 ≡ false = le-ltb _ _ (omega (arith, both, length-append (name ++ size) rest)) in
    let front : take 8 ((name ++ size) ++ rest) ≡ name ++ size = cut_front 8 (name ++ size) rest both in
    let behind : drop 8 ((name ++ size) ++ rest) ≡ rest = cut_back 8 (name ++ size) rest both in
    let first : take 4 (name ++ size) ≡ name = cut_front 4 name size named in
    rw (some, room, there, front, behind, first, bar) refl

pub chunk_long : (chunks : List Chunk) (left : ℕ) (name size rest : List ℕ) → AreChunks chunks → those (is_named (codes "LIST")) chunks ≡ [] → those (is_named (codes "00dc")) chunks ≡ [] →
    length name ≡ 4 → length size ≡ 4 → 8 ≤ left → left < 8 + padded (little_number 4 size) →
    frame_read (in_movi (length (chunks_text chunks) + left)) (chunks_text chunks ++ ((name ++ size) ++ rest)) ≡ Err (Met fault.Truncated rest)
unfolding movi_found
chunk_long [] left name size rest each lists frames named sized enough long =
    let text = (name ++ size) ++ rest in
    ap (λ n. frame_read (in_movi n) text) (zero-add left)
    ∙ ap (λ z. read_on z found_read) (frame_step (in_movi left) text)
    ∙ ap (λ z. read_on (read_on (read_on z (λ p. given p.1)) (found_or_on frame_found (in_movi left))) found_read) (walk_step (visit_movi Any) left tt text)
    ∙ ap (λ z. read_on (read_on (read_on (read_on z (visited (visit_movi Any) (walk (visit_movi Any)) tt)) (λ p. given p.1)) (found_or_on frame_found (in_movi left))) found_read) (entry_long left name size rest named sized enough long)
chunk_long (c ∷ cs) left name size rest each lists frames named sized enough long = on_names (is_named (codes "LIST") c) (is_named (codes "00dc") c) refl refl (λ l f. chunk_long cs left name size rest each.1 l f named sized enough long)
  where
    text : List ℕ
    text = (name ++ size) ++ rest

    Again : Type 0
    Again = those (is_named (codes "LIST")) cs ≡ [] → those (is_named (codes "00dc")) cs ≡ [] → frame_read (in_movi (length (chunks_text cs) + left)) (chunks_text cs ++ text) ≡ Err (Met fault.Truncated rest)

    on_names : (a b : Bool) → is_named (codes "LIST") c ≡ a → is_named (codes "00dc") c ≡ b → Again → frame_read (in_movi (length (chunks_text (c ∷ cs)) + left)) (chunks_text (c ∷ cs) ++ text) ≡ Err (Met fault.Truncated rest)
    on_names true b p q again = let gone : c ∷ those (is_named (codes "LIST")) cs ≡ [] = rw p at lists in absurd (cc)
    on_names false true p q again = let gone : c ∷ those (is_named (codes "00dc")) cs ≡ [] = rw q at frames in absurd (cc)
    on_names false false p q again =
        let more = length (chunks_text cs) + left in
        let all : length (chunk_text c ++ chunks_text cs) + left ≡ length (chunk_text c) + more = omega (arith, length-append (chunk_text c) (chunks_text cs)) in
        let whole : (chunk_text c ++ chunks_text cs) ++ text ≡ chunk_text c ++ (chunks_text cs ++ text) = append_assoc (chunk_text c) (chunks_text cs) text in
        ap (λ n. frame_read (in_movi n) ((chunk_text c ++ chunks_text cs) ++ text)) all
        ∙ ap (frame_read (in_movi (length (chunk_text c) + more))) whole
        ∙ ap (λ z. read_on z found_read) (frames_passed (in_movi 0) c more (chunks_text cs ++ text) each.0 (chunk_fits c more each.0) p q)
        ∙ again (rw p at lists) (rw q at frames)

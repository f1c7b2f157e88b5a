-- What stands in an RIFF or a movi without size is read, piece by piece.
use Rattle.std.proofs.Common.{◌≡◌, ℕ, ◌+◌, ◌-◌, ◌%◌, ◌≤◌, ◌<◌, ◌==◌, nat_lt, Bool, true, false, Some, None, Ok, List, [], ◌∷◌, ◌++◌, length, drop, codes, if◌then◌else◌, ◌&&◌, ap, ◌∙◌, sym, arith, refl, append_assoc, length-append}
use Rattle.std.proofs.lemmas.Bool.{le-ltb, lt-ltb, ne_eqb}
use Rattle.byteorder.specs.Endian.{little_number}
use Rattle.ffv1_avi.specs.declared.chunk.Entry.{Entry}
use Rattle.ffv1_avi.specs.declared.place.Extent.TheVariants.{EveryRiff}
use Rattle.ffv1_avi.specs.declared.place.Names.{Names}
use Rattle.ffv1_avi.specs.declared.place.Open.{Open}
use Rattle.ffv1_avi.specs.declared.place.Open.TheVariants.{Sized, OpenRiff, OpenMovi}
use Rattle.ffv1_avi.specs.declared.place.Place.{Place}
use Rattle.ffv1_avi.specs.Chunks.{Chunk, IsChunk, barred_in, chunk_text, chunks_text, frame_in, is_list}
use Rattle.ffv1_avi.specs.Files.{frames_read, more_frames}
use Rattle.ffv1_avi.specs.Names.{least_bytes, most_bytes, opens, riff_rule, rule_of}
use Rattle.ffv1_avi.specs.OpenFiles.{ArePieces, IsPiece, IsWithin, Piece, leads_to, piece_chunks, piece_text, pieces_chunks, pieces_text}
use Rattle.ffv1_avi.specs.Opens.{goes_on, movi_chunk, named_or_end, open_entry, open_found, open_framed, open_in_movi, open_in_riff, open_judged, open_named, open_passed, or_end, riff_chunk, riff_list, sizeless_in_riff, sizeless_opened, visit_movi, visit_riff}
use Rattle.ffv1_avi.specs.Padding.{padded}
use Rattle.ffv1_avi.specs.Places.{is_open, open_at, open_frame_at}
use Rattle.ffv1_avi.specs.Riffs.{Section, section_text}
use Rattle.ffv1_avi.specs.Walk.{Rule, entry_judged, entry_of, is_known, is_name, is_sizeless, plain, size_in, sizeless_judged}
use Rattle.ffv1_reads.specs.Reads.{Kept, given, read_on, taken, ◌>>=◌}
use Rattle.ffv1_reads.proofs.Results.{cut_back}
use Rattle.ffv1_reads.proofs.WantedBytes.{taken_complete}
use Rattle.ffv1_avi.proofs.FrameLaws.{frames_after, frames_none, frames_stepped, movi_complete, stands_in}
use Rattle.ffv1_avi.proofs.MoviFrames.{movi_frames}
use Rattle.ffv1_avi.proofs.LaterFrames.{Framed, frames_both, frames_in, framed_apart, movi_long, preceded, preceded_none}
use Rattle.ffv1_avi.proofs.Moves.{movi_empty}
use Rattle.ffv1_avi.proofs.OpenCases.{named_none, named_there, size_there}
use Rattle.ffv1_avi.proofs.OpenedLists.{barred_name, stands_rec}
use Rattle.ffv1_avi.proofs.PassedBytes.{content_complete}
use Rattle.ffv1_avi.proofs.RiffLaws.{riff_complete}
use Rattle.ffv1_avi.proofs.TakenChunks.{IsTaken, taken_as, taken_even, taken_first}

regrouped : (a b c d : List ℕ) → ((a ++ b) ++ c) ++ d ≡ a ++ ((b ++ c) ++ d)
regrouped a b c d = simp append_assoc

apart_four : (a b c d : List ℕ) → ((a ++ b) ++ c) ++ d ≡ a ++ (b ++ (c ++ d))
apart_four a b c d = simp append_assoc

-- a name there
found_named : (place : Place) (name rest : List ℕ) → 0 < place.input → length name ≡ 4 → open_found place (name ++ rest) ≡ open_named place name rest
unfolding open_found
found_named place name rest some four =
    let more : (place.input == 0) ≡ false = ne_eqb _ _ (λ e. omega (arith, e, some)) in
    rw more (ap (λ z. read_on z (or_end (open_named place))) (named_there place.owed name rest four))

-- nothing there
found_over : (place : Place) → place.owed ≡ 0 → open_found place [] ≡ Ok (None, [])
unfolding open_found
found_over place none = on_input (place.input == 0) refl
  where
    on_input : (b : Bool) → (place.input == 0) ≡ b → open_found place [] ≡ Ok (None, [])
    on_input true p = rw p refl
    on_input false p = rw p (ap (λ n. read_on (named_or_end n []) (or_end (open_named place))) none ∙ ap (λ z. read_on z (or_end (open_named place))) named_none)

named_riff : (place : Place) (name text : List ℕ) → is_name name (codes "RIFF") ≡ false → goes_on place.open_in name ≡ false → open_named place name text ≡ riff_chunk place name text
unfolding open_named
named_riff place name text other stays = rw (other, stays) refl

named_movi : (place : Place) (name text : List ℕ) → is_name name (codes "RIFF") ≡ false → goes_on place.open_in name ≡ true → open_named place name text ≡ movi_chunk place name text
unfolding open_named
named_movi place name text other goes = rw (other, goes) refl

-- a header that fits
judged_there : (rule : Rule) (left n : ℕ) (name text : List ℕ) → rule.bars name ≡ false → 8 + padded n ≤ left → (is_name name (codes "LIST") ≡ true → 4 ≤ n) → entry_judged rule left name n text ≡ Ok (Some (entry_of left name (size_in rule name n)), text)
judged_there rule left n name text stands fits listed =
    let fit : nat_lt left (8 + padded n) ≡ false = le-ltb _ _ fits in
    rw (stands, fit, no_short_list (is_name name (codes "LIST")) refl) refl
  where
    no_short_list : (b : Bool) → is_name name (codes "LIST") ≡ b → (b && nat_lt n 4) ≡ false
    no_short_list true is = le-ltb _ _ (listed is)
    no_short_list false is = refl

-- a further RIFF
pub found_further : (place : Place) (size rest : List ℕ) → length size ≡ 4 → 12 < place.input → open_found place ((codes "RIFF" ++ size ++ codes "AVIX") ++ rest) ≡ Ok (Some (None, open_at place OpenRiff (place.input - 12) 0), rest)
unfolding open_named
found_further place size rest sized fits =
    let head = size ++ codes "AVIX" in
    let eight : length head ≡ 8 = omega (arith, length-append size (codes "AVIX"), sized, spelled) in
    let form : drop 4 head ≡ codes "AVIX" = cut_back 4 size (codes "AVIX") sized in
    let less : nat_lt 12 place.input ≡ true = lt-ltb _ _ fits in
    ap (open_found place) (regrouped (codes "RIFF") size (codes "AVIX") rest)
    ∙ found_named place (codes "RIFF") (head ++ rest) (omega (arith, fits)) refl
    ∙ ap (λ z. read_on z (open_judged place)) (taken_complete 8 head rest eight)
    ∙ rw (form, less) refl
  where
    spelled : length (codes "AVIX") ≡ 4
    spelled = refl

-- a movi without size
pub found_unsized : (place : Place) (size rest : List ℕ) → length size ≡ 4 → is_known (little_number 4 size) ≡ false → goes_on place.open_in (codes "LIST") ≡ false → 12 < place.input → open_found place ((codes "LIST" ++ size ++ codes "movi") ++ rest) ≡ Ok (Some (None, open_at place OpenMovi (place.input - 12) 0), rest)
found_unsized place size rest sized unknown stays fits =
    let left = place.input - 1 in
    let rule = riff_rule EveryRiff in
    let behind = codes "movi" ++ rest in
    let room : nat_lt left 12 ≡ false = le-ltb _ _ (omega (arith, fits)) in
    let input : left - 8 - 3 ≡ place.input - 12 = omega arith in
    ap (open_found place) (apart_four (codes "LIST") size (codes "movi") rest)
    ∙ found_named place (codes "LIST") (size ++ behind) (omega (arith, fits)) refl
    ∙ named_riff place (codes "LIST") (size ++ behind) refl stays
    ∙ ap (λ z. read_on z (λ n. (if is_sizeless rule (codes "LIST") n then (sizeless_judged left (codes "LIST") >>= sizeless_in_riff place) else (open_entry plain place (codes "LIST") n >>= open_in_riff place)))) (size_there size behind sized)
    ∙ rw (unknown, room) (ap (λ z. read_on z (sizeless_opened place (left - 8))) (taken_complete 4 (codes "movi") rest refl))
    ∙ ap (λ n. Ok (Some (None, open_at place OpenMovi n 0), rest)) input

-- a chunk of RIFF
riff_sized : (place : Place) (name size rest : List ℕ) → length size ≡ 4 → is_sizeless (riff_rule EveryRiff) name (little_number 4 size) ≡ false → 8 + padded (little_number 4 size) ≤ place.input - 1 → (is_name name (codes "LIST") ≡ true → 4 ≤ little_number 4 size) → riff_chunk place name (size ++ rest) ≡ open_in_riff place (Some (entry_of (place.input - 1) name (little_number 4 size))) rest
riff_sized place name size rest sized known fits listed =
    let left = place.input - 1 in
    let rule = riff_rule EveryRiff in
    ap (λ z. read_on z (λ n. (if is_sizeless rule name n then (sizeless_judged left name >>= sizeless_in_riff place) else (open_entry plain place name n >>= open_in_riff place)))) (size_there size rest sized)
    ∙ rw known (ap (λ z. read_on z (open_in_riff place)) (judged_there plain left (little_number 4 size) name rest refl fits listed))

found_riff : (place : Place) (name size rest : List ℕ) → length name ≡ 4 → length size ≡ 4 → is_name name (codes "RIFF") ≡ false → goes_on place.open_in name ≡ false → is_sizeless (riff_rule EveryRiff) name (little_number 4 size) ≡ false → 8 + padded (little_number 4 size) < place.input → (is_name name (codes "LIST") ≡ true → 4 ≤ little_number 4 size) → open_found place (name ++ (size ++ rest)) ≡ open_in_riff place (Some (entry_of (place.input - 1) name (little_number 4 size))) rest
found_riff place name size rest named sized other stays known fits listed =
    found_named place name (size ++ rest) (omega (arith, fits)) named
    ∙ named_riff place name (size ++ rest) other stays
    ∙ riff_sized place name size rest sized known (omega (arith, fits)) listed

pub found_other : (place : Place) (c : Chunk) (rest : List ℕ) → IsChunk c → is_list (codes "movi") c ≡ false → frame_in place.names c ≡ false → is_name c.name (codes "RIFF") ≡ false → (is_name c.name (codes "LIST") ≡ true → is_known (little_number 4 c.size) ≡ true) → goes_on place.open_in c.name ≡ false → 8 + padded (little_number 4 c.size) < place.input →
    open_found place (chunk_text c ++ rest) ≡ Ok (Some (None, open_at place OpenRiff (place.input - length (chunk_text c)) 0), rest)
found_other place c rest is no_movi no_frame other told stays fits =
    let n = little_number 4 c.size in
    let left = place.input - 1 in
    let e : Entry = entry_of left c.name n in
    let long : length (chunk_text c) ≡ 8 + padded n = rw is.counted (omega (arith, is.named, is.sized, is.padded, length-append ((c.name ++ c.size) ++ c.bytes) c.padding, length-append (c.name ++ c.size) c.bytes, length-append c.name c.size)) in
    let input : e.left + 1 ≡ place.input - length (chunk_text c) = omega (arith, long, fits) in
    let room : is_name c.name (codes "LIST") ≡ true → 4 ≤ n = λ l. rw is.counted (is.listed l) in
    let odd : length c.padding ≡ n % 2 = rw is.counted is.padded in
    ap (open_found place) (parted c.name c.size c.bytes c.padding rest)
    ∙ found_riff place c.name c.size ((c.bytes ++ c.padding) ++ rest) is.named is.sized other stays (known (is_name c.name (codes "LIST")) refl) fits room
    ∙ ap (λ z. read_on z (λ p. given (Some (None, open_passed place e.left p.1)))) (riff_complete place.names tt e c.bytes c.padding tt rest room (sym is.counted) odd (no_movi, no_frame))
    ∙ ap (λ k. Ok (Some (None, open_at place OpenRiff k 0), rest)) input
  where
    parted : (a b c d e : List ℕ) → (((a ++ b) ++ c) ++ d) ++ e ≡ a ++ (b ++ ((c ++ d) ++ e))
    parted a b c d e = simp append_assoc

    known : (l : Bool) → is_name c.name (codes "LIST") ≡ l → is_sizeless (riff_rule EveryRiff) c.name (little_number 4 c.size) ≡ false
    known true l = rw (l, told l) refl
    known false l = rw l refl

pub found_movi : (place : Place) (size rest : List ℕ) → length size ≡ 4 → is_known (little_number 4 size) ≡ true → goes_on place.open_in (codes "LIST") ≡ false → 4 ≤ little_number 4 size → 8 + padded (little_number 4 size) < place.input →
    open_found place ((codes "LIST" ++ size ++ codes "movi") ++ rest) ≡ Ok (Some (None, open_at place OpenRiff (place.input - (8 + padded (little_number 4 size))) (little_number 4 size - 4)), rest)
unfolding visit_riff
found_movi place size rest sized known stays room fits =
    let n = little_number 4 size in
    let e : Entry = entry_of (place.input - 1) (codes "LIST") n in
    let input : e.left + 1 ≡ place.input - (8 + padded n) = omega (arith, fits) in
    ap (open_found place) (apart_four (codes "LIST") size (codes "movi") rest)
    ∙ found_riff place (codes "LIST") size (codes "movi" ++ rest) refl sized refl stays (rw known refl) fits (λ _. room)
    ∙ ap (λ z. read_on (read_on z (riff_list e.left e.size)) (λ p. given (Some (None, open_passed place e.left p.1)))) (taken_complete 4 (codes "movi") rest refl)
    ∙ ap (λ k. Ok (Some (None, open_at place OpenRiff k (n - 4)), rest)) input

-- a chunk of movi
found_beside : (place : Place) (c : Chunk) (rest : List ℕ) → IsTaken (opens place.names) c → barred_in place.names c ≡ false → is_name c.name (codes "RIFF") ≡ false → goes_on place.open_in c.name ≡ true → 8 + padded (little_number 4 c.size) < place.input →
    open_found place (chunk_text c ++ rest) ≡ open_in_movi place (Some (entry_of (place.input - 1) c.name (length c.bytes))) ((c.bytes ++ c.padding) ++ rest)
found_beside place c rest taken stands other goes fits =
    let is = taken_as (rule_of place.names) c taken in
    let n = little_number 4 c.size in
    let left = place.input - 1 in
    let behind = (c.bytes ++ c.padding) ++ rest in
    ap (open_found place) (parted c.name c.size c.bytes c.padding rest)
    ∙ found_named place c.name (c.size ++ behind) (omega (arith, fits)) is.named
    ∙ named_movi place c.name (c.size ++ behind) other goes
    ∙ ap (λ z. read_on z (λ size. (open_entry (rule_of place.names) place c.name size >>= open_in_movi place))) (size_there c.size behind is.sized)
    ∙ ap (λ z. read_on z (open_in_movi place)) (judged_there (rule_of place.names) left n c.name behind (stands_in place.names c.name (barred_name place.names c stands)) (omega (arith, fits)) is.room)
    ∙ ap (λ k. open_in_movi place (Some (entry_of left c.name k)) behind) is.size
  where
    parted : (a b c d e : List ℕ) → (((a ++ b) ++ c) ++ d) ++ e ≡ a ++ (b ++ ((c ++ d) ++ e))
    parted a b c d e = simp append_assoc

pub found_passed : (place : Place) (c : Chunk) (rest : List ℕ) → IsTaken (opens place.names) c → barred_in place.names c ≡ false → frame_in place.names c ≡ false → is_name c.name (codes "RIFF") ≡ false → goes_on place.open_in c.name ≡ true → 8 + padded (little_number 4 c.size) < place.input → length (chunk_text c) < place.input →
    open_found place (chunk_text c ++ rest) ≡ Ok (Some (None, open_at place OpenMovi (place.input - length (chunk_text c)) 0), rest)
found_passed place c rest taken stands no_frame other goes fits short =
    let is = taken_as (rule_of place.names) c taken in
    let e : Entry = entry_of (place.input - 1) c.name (length c.bytes) in
    let input : e.left + 1 ≡ place.input - length (chunk_text c) = omega (arith, is.long, short) in
    found_beside place c rest taken stands other goes fits
    ∙ ap (λ z. read_on z (λ p. open_framed place e.left p.1)) (movi_complete place.names tt e c.bytes c.padding tt rest is.listed refl is.odd (barred_name place.names c stands, no_frame, stands_rec place.names c stands))
    ∙ ap (λ k. Ok (Some (None, open_at place OpenMovi k 0), rest)) input

pub found_frame : (place : Place) (c : Chunk) (rest : List ℕ) → IsTaken (opens place.names) c → barred_in place.names c ≡ false → frame_in place.names c ≡ true → length c.bytes ≤ most_bytes place.names → least_bytes place.names ≤ length c.bytes → is_name c.name (codes "RIFF") ≡ false → goes_on place.open_in c.name ≡ true → 8 + padded (little_number 4 c.size) < place.input → length (chunk_text c) < place.input →
    open_found place (chunk_text c ++ rest) ≡ Ok (Some (Some (length c.bytes), open_frame_at place (place.input - length (chunk_text c))), (c.bytes ++ c.padding) ++ rest)
unfolding visit_movi
found_frame place c rest taken stands named short some other goes fits less =
    let is = taken_as (rule_of place.names) c taken in
    let e : Entry = entry_of (place.input - 1) c.name (length c.bytes) in
    let behind = (c.bytes ++ c.padding) ++ rest in
    let input : e.left + 1 ≡ place.input - length (chunk_text c) = omega (arith, is.long, less) in
    let fit : nat_lt (most_bytes place.names) (length c.bytes) ≡ false = le-ltb _ _ short in
    let not_none : nat_lt (length c.bytes) (least_bytes place.names) ≡ false = le-ltb _ _ some in
    let stop : visit_movi place.names tt e behind ≡ Ok ((tt, Some (length c.bytes, e.left)), behind) = rw (barred_name place.names c stands, named, fit, not_none) refl in
    found_beside place c rest taken stands other goes fits
    ∙ ap (λ z. read_on z (λ p. open_framed place e.left p.1)) stop
    ∙ ap (λ k. Ok (Some (Some (length c.bytes), open_frame_at place k), behind)) input

-- in an RIFF or a movi without size, after a movi
abbrev pub in_open : Open → ℕ → Names → ℕ → Place
in_open o input names owed = record { input = input; riff = 0; movi = 0; names = names; owed = owed; open_in = o }

pub after_open : (o : Open) (input : ℕ) (names : Names) (owed : ℕ) (text : List ℕ) → is_open o ≡ true → frames_after (in_open o input names owed) text ≡ read_on (open_found (in_open o input names owed) text) frames_stepped
after_open Sized input names owed text e = absurd (cc)
after_open OpenRiff input names owed text e = refl
after_open OpenMovi input names owed text e = refl

-- without a frame
step_on : (o to : Open) (input left : ℕ) (names : Names) (owed : ℕ) (text more : List ℕ) → is_open o ≡ true → open_found (in_open o input names owed) text ≡ Ok (Some (None, in_open to left names owed), more) →
    frames_after (in_open o input names owed) text ≡ preceded [] (frames_after (in_open to left names (owed - 0)) more)
step_on o to input left names owed text more unknown is =
    let less : owed ≡ owed - 0 = omega arith in
    after_open o input names owed text unknown
    ∙ ap (λ z. read_on z frames_stepped) is
    ∙ frames_none (in_open to left names owed) more more (movi_empty names more)
    ∙ ap (λ n. frames_after (in_open to left names n) more) less
    ∙ preceded_none (frames_after (in_open to left names (owed - 0)) more)

abbrev Goes : Open → ℕ → Names → ℕ → Piece → List ℕ → Type 0
Goes o input names owed p rest =
    frames_after (in_open o input names owed) (piece_text p ++ rest)
    ≡ preceded (frames_in names (piece_chunks p)) (frames_after (in_open (leads_to p) (input - length (piece_text p)) names (owed - length (frames_in names (piece_chunks p)))) rest)

pub front_long : (a size b : List ℕ) → length a ≡ 4 → length size ≡ 4 → length b ≡ 4 → length ((a ++ size) ++ b) ≡ 12
front_long a size b one two three = omega (arith, one, two, three, length-append (a ++ size) b, length-append a size)

beside_read : (o : Open) (input : ℕ) (names : Names) (owed : ℕ) (c : Chunk) (rest : List ℕ) → is_open o ≡ true → IsPiece names input o (Piece.Beside c) → Framed names (c ∷ []) → length (chunk_text c) < input → Goes o input names owed (Piece.Beside c) rest
beside_read o input names owed c rest unknown is framed short = on_names (barred_in names c) (frame_in names c) refl refl
  where
    place : Place
    place = in_open o input names owed

    taken : IsTaken (opens names) c
    taken = (taken_first (opens names) c [] is.0).0

    left : ℕ
    left = input - length (chunk_text c)

    on_names : (a b : Bool) → barred_in names c ≡ a → frame_in names c ≡ b → Goes o input names owed (Piece.Beside c) rest
    on_names true b p q = let gone : c ∷ [] ≡ [] = rw p at framed.none_barred in absurd (cc)
    on_names false false p q = rw q (step_on o OpenMovi input left names owed (chunk_text c ++ rest) rest unknown (found_passed place c rest taken p q is.1 is.2 is.3 short))
    on_names false true p q =
        let sizes = rw q at framed.sized in
        let next = in_open OpenMovi left names (owed - 1) in
        let chunk = taken_as (rule_of names) c taken in
        let n = length c.bytes in
        rw q
        (after_open o input names owed (chunk_text c ++ rest) unknown
        ∙ ap (λ z. read_on z frames_stepped) (found_frame place c rest taken p q sizes.1 sizes.0 is.1 is.2 is.3 short)
        ∙ ap (λ z. read_on (read_on z (λ bytes. given (Some (bytes, next)))) (more_frames frames_read)) (content_complete Kept n c.bytes c.padding rest refl chunk.odd)
        ∙ ap (λ z. read_on z (λ frames. given (c.bytes ∷ frames))) (frames_none next rest rest (movi_empty names rest)))

movi_read : (o : Open) (input : ℕ) (names : Names) (owed : ℕ) (size : List ℕ) (cs : List Chunk) (rest : List ℕ) → is_open o ≡ true → IsWithin names input o (Section.Movi size cs) → Framed names cs → Goes o input names owed (Piece.Within (Section.Movi size cs)) rest
movi_read o input names owed size cs rest unknown is framed =
    let n = little_number 4 size in
    let place = in_open o input names owed in
    let behind = chunks_text cs ++ rest in
    let even = taken_even (opens names) cs framed.each in
    let long = movi_long size cs is.0.0 in
    let room : n - 4 ≡ length (chunks_text cs) = omega (arith, is.0.1) in
    let left : input - (8 + padded n) ≡ input - length (section_text (Section.Movi size cs)) = omega (arith, is.0.1, even, long) in
    let made : ℕ → ℕ → Place = λ k movi. open_at place OpenRiff k movi in
    after_open o input names owed (section_text (Section.Movi size cs) ++ rest) unknown
    ∙ ap (λ z. read_on (open_found place z) frames_stepped) (append_assoc (codes "LIST" ++ size ++ codes "movi") (chunks_text cs) rest)
    ∙ ap (λ z. read_on z frames_stepped) (found_movi place size behind is.0.0 is.1 is.2 (omega (arith, is.0.1)) is.3)
    ∙ ap (λ k. frames_read (made (input - (8 + padded n)) k) behind) room
    ∙ ap (λ k. frames_read (made k (length (chunks_text cs))) behind) left
    ∙ movi_frames (in_open OpenRiff (input - length (section_text (Section.Movi size cs))) names owed) cs owed rest framed.each is.0.2 framed.none_barred framed.sized

pub piece_read : (o : Open) (input : ℕ) (names : Names) (owed : ℕ) (p : Piece) (rest : List ℕ) → is_open o ≡ true → IsPiece names input o p → Framed names (piece_chunks p) → Goes o input names owed p rest
piece_read o input names owed (Piece.Further size) rest unknown is framed =
    let long : 12 ≡ length (piece_text (Piece.Further size)) = sym (front_long (codes "RIFF") size (codes "AVIX") refl is.0 refl) in
    ap (λ z. z) (step_on o OpenRiff input (input - 12) names owed (piece_text (Piece.Further size) ++ rest) rest unknown (found_further (in_open o input names owed) size rest is.0 is.1))
    ∙ ap (λ k. preceded [] (frames_after (in_open OpenRiff (input - k) names (owed - 0)) rest)) long
piece_read o input names owed (Piece.Unsized size) rest unknown is framed =
    let long : 12 ≡ length (piece_text (Piece.Unsized size)) = sym (front_long (codes "LIST") size (codes "movi") refl is.0 refl) in
    step_on o OpenMovi input (input - 12) names owed (piece_text (Piece.Unsized size) ++ rest) rest unknown (found_unsized (in_open o input names owed) size rest is.0 is.1 is.2 is.3)
    ∙ ap (λ k. preceded [] (frames_after (in_open OpenMovi (input - k) names (owed - 0)) rest)) long
piece_read o input names owed (Piece.Beside c) rest unknown is framed =
    let chunk = taken_as (rule_of names) c (taken_first (opens names) c [] is.0).0 in
    let fits = Rattle.ffv1_avi.proofs.TakenChunks.size_fits (rule_of names) c.name (little_number 4 c.size) chunk.room in
    beside_read o input names owed c rest unknown is framed (omega (arith, chunk.long, ap padded chunk.size, fits, is.3))
piece_read o input names owed (Piece.Within (Section.Movi size cs)) rest unknown is framed = movi_read o input names owed size cs rest unknown is framed
piece_read o input names owed (Piece.Within (Section.Other c)) rest unknown is framed =
    step_on o OpenRiff input (input - length (chunk_text c)) names owed (chunk_text c ++ rest) rest unknown (found_other (in_open o input names owed) c rest is.0.0 is.0.1 is.0.2 is.1 is.2 is.3 is.4)

pub leads_open : (p : Piece) → is_open (leads_to p) ≡ true
leads_open (Piece.Further size) = refl
leads_open (Piece.Unsized size) = refl
leads_open (Piece.Beside c) = refl
leads_open (Piece.Within s) = refl

-- all pieces, up to the end of the input
pub pieces_read : (pieces : List Piece) (o : Open) (input : ℕ) (names : Names) (owed : ℕ) → is_open o ≡ true → ArePieces names input o pieces → Framed names (pieces_chunks pieces) → owed ≤ length (frames_in names (pieces_chunks pieces)) →
    frames_after (in_open o input names owed) (pieces_text pieces) ≡ Ok (frames_in names (pieces_chunks pieces), [])
pieces_read [] o input names owed unknown are framed enough =
    after_open o input names owed [] unknown ∙ ap (λ z. read_on z frames_stepped) (found_over (in_open o input names owed) (omega (arith, enough)))
pieces_read (p ∷ ps) o input names owed unknown are framed enough =
    let apart = framed_apart names (piece_chunks p) (pieces_chunks ps) framed in
    let fs = frames_in names (piece_chunks p) in
    let gs = frames_in names (pieces_chunks ps) in
    let both : frames_in names (pieces_chunks (p ∷ ps)) ≡ fs ++ gs = frames_both names (piece_chunks p) (pieces_chunks ps) in
    let owes : owed - length fs ≤ length gs = omega (arith, enough, ap length both, length-append fs gs) in
    piece_read o input names owed p (pieces_text ps) unknown are.0 apart.0
    ∙ ap (preceded fs) (pieces_read ps (leads_to p) (input - length (piece_text p)) names (owed - length fs) (leads_open p) are.1 apart.1 owes)
    ∙ ap (λ z. Ok (z, [])) (sym both)

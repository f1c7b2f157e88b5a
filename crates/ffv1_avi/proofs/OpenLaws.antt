-- A file up to its first movi.
use Rattle.std.proofs.Common.{◌<◌, ◌≡◌, ◌⊎◌, inl, inr, ℕ, ◌+◌, ◌-◌, ◌≤◌, ◌==◌, if◌then◌else◌, Bool, true, false, Option, Some, None, Ok, List, ◌++◌, length, take, drop, codes, flat_map, ap, ◌∙◌, sym, subst, arith, refl, append_assoc, length-append, length-take, length-drop}
use Rattle.std.proofs.lemmas.Bool.{leb-true, le-leb}
use Rattle.std.proofs.lemmas.List.{take-append-drop}
use Rattle.std.specs.Cmp.Lexicographic.{same_text}
use Rattle.byteorder.specs.Endian.{little_number}
use Rattle.ffv1_avi.specs.declared.chunk.Entry.{Entry}
use Rattle.ffv1_reads.specs.declared.fault.FileFault.TheVariants as fault
use Rattle.ffv1_avi.specs.Chunks.{AreChunks, AreParts, Chunk, Part, chunks_text, header_chunks}
use Rattle.ffv1_avi.specs.Files.{Headers, begins, has_form, list_named, list_visited, movi_reached, no_headers, open_movi_reached, open_read, opened, owed, place_in, room_in, top_read, visit_top}
use Rattle.ffv1_reads.specs.Head.{Head}
use Rattle.ffv1_avi.specs.declared.place.Extent.{Extent}
use Rattle.ffv1_avi.specs.declared.place.Place.{Place}
use Rattle.ffv1_avi.specs.Names.{is_every, least_bytes, least_in, most_bytes, most_in, riff_rule}
use Rattle.ffv1_avi.specs.declared.place.Names.{Names}
use Rattle.ffv1_avi.specs.declared.place.Open.{Open}
use Rattle.ffv1_avi.specs.declared.place.Open.TheVariants.{Sized, OpenRiff, OpenMovi}
use Rattle.ffv1_avi.specs.declared.place.Extent.TheVariants.{FirstMovi, EveryRiff}
use Rattle.ffv1_avi.specs.Places.{extent_of, first_open, first_place, unsized}
use Rattle.ffv1_reads.specs.Reads.{Reading, read_on, refused, taken}
use Rattle.ffv1_avi.specs.Padding.{padded}
use Rattle.ffv1_avi.specs.Walk.{entry_in, entry_of, is_known, is_name, resumed, visited, walk_in}
use Rattle.ffv1_avi.proofs.ListWalks.{Ended, Headed, Run, entry_complete_in, entry_sizeless, walk_complete_in, walk_sound_in}
use Rattle.ffv1_avi.proofs.TakenChunks.{chunks_fit}
use Rattle.ffv1_reads.proofs.Results.{cut_back, cut_front}
use Rattle.ffv1_avi.proofs.Contents.{drop_more, number_taken}
use Rattle.ffv1_avi.proofs.HeaderLaws.{TakesHeader}
use Rattle.ffv1_avi.proofs.PartLaws.{chunks_of, parts_of, parts_text}
use Rattle.ffv1_reads.proofs.Results.{read_on_ok}
use Rattle.ffv1_reads.proofs.WantedBytes.{taken_complete, taken_sound}
use Rattle.ffv1_avi.proofs.TopLaws.{IsMovi, TakesTop, movi_place, some_size, top_complete, top_halts, top_sound, top_stop}
use Rattle.ffv1_reads.proofs.Results.{ok_is}
use Rattle.ffv1_avi.proofs.ChunkByChunk.{walk_step_in}
use Rattle.ffv1_avi.specs.declared.place.Names.TheVariants.{Closed}

-- the first movi, of a known size, after parts of so many bytes in RIFF of a size
pub record IsSizedMovi (extent : Extent) (said long : ℕ) (movi_size : List ℕ) (known : Headers) (place : Place) : Type 0 where
  pub left : ℕ
  pub named : 4 ≤ little_number 4 movi_size
  pub counted : long + (8 + padded (little_number 4 movi_size)) + left ≡ room_in extent said
  pub place_is : place ≡ place_in extent said (first_place extent left (little_number 4 movi_size - 4) (Closed known.passed known.streams) (owed known.frames))

-- or one without size
pub record IsOpenMovi (extent : Extent) (said long : ℕ) (movi_size : List ℕ) (known : Headers) (place : Place) : Type 0 where
  pub every : is_every extent ≡ true
  pub unknown : is_known (little_number 4 movi_size) ≡ false
  pub room : long + 12 ≤ room_in extent said
  pub bare : 4 ≤ little_number 4 movi_size → room_in extent said < long + (8 + padded (little_number 4 movi_size))
  pub place_is : place ≡ place_in extent said (first_open (Closed known.passed known.streams) (owed known.frames))

-- the chunks up to movi of an RIFF of a size
pub record IsTop (extent : Extent) (said : ℕ) (text : List ℕ) (y : Head × Place) (rest : List ℕ) : Type 0 where
  pub parts : List Part
  pub movi_size : List ℕ
  pub known : Headers
  pub text_is : text ≡ parts_text parts ++ ((codes "LIST" ++ movi_size ++ codes "movi") ++ rest)
  pub movi_sized : length movi_size ≡ 4
  pub each : AreParts parts
  pub run : Run (TakesHeader extent) no_headers (flat_map header_chunks parts) known
  pub head : known.head ≡ Some y.0
  pub movi : IsSizedMovi extent said (length (parts_text parts)) movi_size known y.1 ⊎ IsOpenMovi extent said (length (parts_text parts)) movi_size known y.1

top_read_sound : (extent : Extent) (said : ℕ) (text : List ℕ) (w : (Head × Place) × List ℕ) → top_read extent said text ≡ Ok w → IsTop extent said text w.0 w.1
unfolding top_read
top_read_sound extent said text w h =
    let first = read_on_ok (walk_in (riff_rule extent) (visit_top extent) (room_in extent said) no_headers text) (λ p. opened extent said p.1) w h in
    let walked = walk_sound_in (riff_rule extent) (visit_top extent) (TakesTop extent) (top_sound extent) (top_halts extent) (room_in extent said) no_headers text first.0 first.1 in
    on_end first.0.0.0 first.0.0.1 first.0.1 walked.chunks walked.behind walked.after walked.last walked.text_is walked.each walked.long walked.run walked.end first.2
  where
    on_end : (t : Headers) (o : Option (Head × Place)) (rest : List ℕ) (chunks : List Chunk) (behind : List ℕ) (after : ℕ) (last : Headers) → text ≡ chunks_text chunks ++ behind → AreChunks chunks → length (chunks_text chunks) + after ≡ room_in extent said →
        Run (TakesTop extent) no_headers chunks last → Ended (riff_rule extent) (visit_top extent) after last behind t o rest → opened extent said o rest ≡ Ok w → IsTop extent said text w.0 w.1
    on_end t None rest chunks behind after last whole each long run end k = absurd (cc)
    on_end t (Some y) rest chunks behind after last whole each long run end k =
        let e = end.0 in
        let movi = top_stop extent last e end.1 t y rest end.3 in
        let parts = parts_of extent chunks no_headers last each run in
        let named : e.name ≡ codes "LIST" = same_text e.name (codes "LIST") (sym movi.list) in
        let z : Head × Place = (y.0, place_in extent said y.1) in
        let Q : (Head × Place) × List ℕ → Type 0 = λ v. IsTop extent said text v.0 v.1 in
        subst Q (ok_is (z, rest) w k) (on_headed parts.parts parts.text parts.each parts.run e end.1 movi named end.2)
      where
        z : Head × Place
        z = (y.0, place_in extent said y.1)

        on_headed : (parts : List Part) → chunks_text chunks ≡ parts_text parts → AreParts parts → Run (TakesHeader extent) no_headers (flat_map header_chunks parts) last → (e : Entry) (more : List ℕ) → IsMovi extent last e more y rest → e.name ≡ codes "LIST" → Headed (riff_rule extent) after behind e more → IsTop extent said text z rest
        on_headed parts text_of each_part run_part e more movi named (inl entry) =
            let here : text ≡ parts_text parts ++ ((codes "LIST" ++ entry.size ++ codes "movi") ++ rest) =
            whole ∙ ap (λ z. z ++ behind) text_of ∙ ap (λ z. parts_text parts ++ z) (entry.text_is ∙ ap (λ z. (z ++ entry.size) ++ more) named ∙ ap (λ z. (codes "LIST" ++ entry.size) ++ z) movi.text_is ∙ sym (append_assoc (codes "LIST" ++ entry.size) (codes "movi") rest)) in
            let four : 4 ≤ little_number 4 entry.size = rw entry.counted (entry.listed movi.list) in
            let sized : e.size ≡ little_number 4 entry.size = sym entry.counted in
            let stands : y.1 ≡ first_place extent e.left (little_number 4 entry.size - 4) (Closed last.passed last.streams) (owed last.frames) =
            movi.place ∙ ap (λ n. movi_place extent e.left n last) sized ∙ rw (some_size (little_number 4 entry.size) four) refl in
            let counted : length (parts_text parts) + (8 + padded (little_number 4 entry.size)) + e.left ≡ room_in extent said = rw entry.counted (omega (arith, long, entry.fits, ap length text_of)) in
            let sized_movi : IsSizedMovi extent said (length (parts_text parts)) entry.size last z.1 = record { left = e.left; named = four; counted = counted; place_is = ap (place_in extent said) stands } in
            record { parts = parts; movi_size = entry.size; known = last; text_is = here; movi_sized = entry.sized; each = each_part; run = run_part; head = movi.head; movi = inl sized_movi }
        on_headed parts text_of each_part run_part e more movi named (inr entry) =
            let here : text ≡ parts_text parts ++ ((codes "LIST" ++ entry.size ++ codes "movi") ++ rest) =
            whole ∙ ap (λ z. z ++ behind) text_of ∙ ap (λ z. parts_text parts ++ z) (entry.text_is ∙ ap (λ z. (z ++ entry.size) ++ more) named ∙ ap (λ z. (codes "LIST" ++ entry.size) ++ z) movi.text_is ∙ sym (append_assoc (codes "LIST" ++ entry.size) (codes "movi") rest)) in
            let stands : y.1 ≡ first_open (Closed last.passed last.streams) (owed last.frames) = movi.place ∙ ap (λ n. movi_place extent e.left n last) entry.none in
            let room : length (parts_text parts) + 12 ≤ room_in extent said = omega (arith, long, entry.room, ap length text_of) in
            let open_movi : IsOpenMovi extent said (length (parts_text parts)) entry.size last z.1 = record { every = entry.may; unknown = entry.unknown; room = room; bare = λ four. omega (arith, long, entry.bare four, ap length text_of); place_is = ap (place_in extent said) stands } in
            record { parts = parts; movi_size = entry.size; known = last; text_is = here; movi_sized = entry.sized; each = each_part; run = run_part; head = movi.head; movi = inr open_movi }

-- a file up to the first movi, of which what is left may be anything
pub record IsOpening (extent : Extent) (text : List ℕ) (y : Head × Place) (rest : List ℕ) : Type 0 where
  pub riff_size : List ℕ
  pub behind : List ℕ
  pub text_is : text ≡ (codes "RIFF" ++ riff_size ++ codes "AVI ") ++ behind
  pub riff_sized : length riff_size ≡ 4
  pub riff_formed : has_form extent (little_number 4 riff_size) ≡ true
  pub top : IsTop extent (little_number 4 riff_size) behind y rest

pub open_sound : (extent : Extent) (text : List ℕ) (w : (Head × Place) × List ℕ) → open_read extent text ≡ Ok w → IsOpening extent text w.0 w.1
unfolding open_read
open_sound extent text w h =
    let first = read_on_ok (taken 12 text) (λ bytes. if begins extent bytes then top_read extent (little_number 4 (drop 4 bytes)) else refused fault.NotAvi) w h in
    let front = taken_sound 12 text first.0 first.1 in
    on_names first.0.0 first.0.1 front.0 front.1 (is_name (take 4 first.0.0) (codes "RIFF")) (is_name (drop 8 first.0.0) (codes "AVI ")) (has_form extent (little_number 4 (drop 4 first.0.0))) refl refl refl first.2
  where
    on_names : (bytes more : List ℕ) → text ≡ bytes ++ more → length bytes ≡ 12 → (a b c : Bool) → is_name (take 4 bytes) (codes "RIFF") ≡ a → is_name (drop 8 bytes) (codes "AVI ") ≡ b → has_form extent (little_number 4 (drop 4 bytes)) ≡ c →
        (if begins extent bytes then top_read extent (little_number 4 (drop 4 bytes)) else refused fault.NotAvi) more ≡ Ok w → IsOpening extent text w.0 w.1
    on_names bytes more whole long false b c p q r k = absurd (cc (rw p at k))
    on_names bytes more whole long true false c p q r k = absurd (cc (rw (p, q) at k))
    on_names bytes more whole long true true false p q r k = absurd (cc (rw (p, q, r) at k))
    on_names bytes more whole long true true true p q r k =
        let size = take 4 (drop 4 bytes) in
        let sized : length size ≡ 4 = length-take 4 (drop 4 bytes) ∙ (omega (arith, long, length-drop 4 bytes)) in
        let number : little_number 4 size ≡ little_number 4 (drop 4 bytes) = number_taken 4 (drop 4 bytes) (omega arith) in
        let riff : take 4 bytes ≡ codes "RIFF" = same_text (take 4 bytes) (codes "RIFF") (sym p) in
        let avi : drop 8 bytes ≡ codes "AVI " = same_text (drop 8 bytes) (codes "AVI ") (sym q) in
        let apart : bytes ≡ (take 4 bytes ++ size) ++ drop 8 bytes =
        sym (take-append-drop 4 bytes) ∙ ap (λ z. take 4 bytes ++ z) (sym (take-append-drop 4 (drop 4 bytes)) ∙ ap (λ z. size ++ z) (drop_more 4 4 bytes)) ∙ sym (append_assoc (take 4 bytes) size (drop 8 bytes)) in
        let spelled : bytes ≡ codes "RIFF" ++ size ++ codes "AVI " = apart ∙ ap (λ z. (z ++ size) ++ drop 8 bytes) riff ∙ ap (λ z. (codes "RIFF" ++ size) ++ z) avi in
        let formed : has_form extent (little_number 4 size) ≡ true = ap (has_form extent) number ∙ r in
        let top = top_read_sound extent (little_number 4 size) more w (ap (λ n. top_read extent n more) number ∙ rw (p, q, r) at k) in
        record { riff_size = size; behind = more; text_is = whole ∙ ap (λ z. z ++ more) spelled; riff_sized = sized; riff_formed = formed; top = top }

-- parts, and what the walk of RIFF makes of what comes after them
pub top_goes : (extent : Extent) (said : ℕ) (parts : List Part) (t : Headers) (left : ℕ) (rest : List ℕ) → room_in extent said ≡ length (parts_text parts) + left → AreParts parts → Run (TakesHeader extent) no_headers (flat_map header_chunks parts) t →
    top_read extent said (parts_text parts ++ rest) ≡ read_on (walk_in (riff_rule extent) (visit_top extent) left t rest) (λ p. opened extent said p.1)
unfolding top_read
top_goes extent said parts t left rest count each run =
    let chunks = chunks_of extent parts no_headers t each run in
    let walked = walk_complete_in (riff_rule extent) (visit_top extent) (TakesTop extent) (λ s name bytes t takes. refl) (top_complete extent) chunks.chunks no_headers t left rest chunks.each (chunks_fit left chunks.chunks chunks.each) chunks.run in
    ap (λ n. read_on (walk_in (riff_rule extent) (visit_top extent) n no_headers (parts_text parts ++ rest)) (λ p. opened extent said p.1)) count
    ∙ ap (λ z. read_on (walk_in (riff_rule extent) (visit_top extent) (length z + left) no_headers (z ++ rest)) (λ p. opened extent said p.1)) (sym chunks.text)
    ∙ ap (λ z. read_on z (λ p. opened extent said p.1)) walked

-- a list of which the size is known, after them
pub top_listed : (extent : Extent) (said : ℕ) (t : Headers) (left : ℕ) (size own rest : List ℕ) → length size ≡ 4 → length own ≡ 4 → 4 ≤ little_number 4 size → 8 + padded (little_number 4 size) ≤ left →
    read_on (walk_in (riff_rule extent) (visit_top extent) left t ((codes "LIST" ++ size) ++ (own ++ rest))) (λ p. opened extent said p.1)
    ≡ read_on (read_on (list_named extent t (left - (8 + padded (little_number 4 size))) (little_number 4 size) own rest) (λ p. resumed (walk_in (riff_rule extent) (visit_top extent) (left - (8 + padded (little_number 4 size)))) p.0 p.1)) (λ p. opened extent said p.1)
unfolding visit_top
top_listed extent said t left size own rest sized four named fits =
    let n = little_number 4 size in
    let rule = riff_rule extent in
    let more = left - (8 + padded n) in
    let e : Entry = record { name = codes "LIST"; size = n; left = more } in
    let entry : entry_in rule left ((codes "LIST" ++ size) ++ (own ++ rest)) ≡ Ok (Some e, own ++ rest) = entry_complete_in rule left (codes "LIST") size (own ++ rest) refl refl sized fits (λ l. named) in
    let there : taken 4 (own ++ rest) ≡ Ok (own, rest) = taken_complete 4 own rest four in
    let on : Headers × Option (Head × Place) → Reading (Headers × Option (Head × Place)) = λ p. resumed (walk_in rule (visit_top extent) more) p.0 p.1 in
    ap (λ z. read_on z (λ p. opened extent said p.1)) (walk_step_in rule (visit_top extent) left t ((codes "LIST" ++ size) ++ (own ++ rest)))
    ∙ ap (λ z. read_on (read_on z (visited (visit_top extent) (walk_in rule (visit_top extent)) t)) (λ p. opened extent said p.1)) entry
    ∙ ap (λ z. read_on (read_on (read_on z (list_visited extent t more n)) on) (λ p. opened extent said p.1)) there
    ∙ rw (some_size n named) refl

pub top_read_complete : (extent : Extent) (said : ℕ) (parts : List Part) (movi_size : List ℕ) (left : ℕ) (known : Headers) (head : Head) (rest : List ℕ) → length movi_size ≡ 4 → 4 ≤ little_number 4 movi_size →
    length (parts_text parts) + (8 + padded (little_number 4 movi_size)) + left ≡ room_in extent said → AreParts parts → Run (TakesHeader extent) no_headers (flat_map header_chunks parts) known → known.head ≡ Some head →
    top_read extent said (parts_text parts ++ ((codes "LIST" ++ movi_size ++ codes "movi") ++ rest)) ≡ Ok ((head, place_in extent said (first_place extent left (little_number 4 movi_size - 4) (Closed known.passed known.streams) (owed known.frames))), rest)
top_read_complete extent said parts movi_size left known head rest sized named fits each run has =
    let size = little_number 4 movi_size in
    let more = 8 + padded size + left in
    let behind = (codes "LIST" ++ movi_size ++ codes "movi") ++ rest in
    let whole : behind ≡ (codes "LIST" ++ movi_size) ++ (codes "movi" ++ rest) = append_assoc (codes "LIST" ++ movi_size) (codes "movi") rest in
    let after : more - (8 + padded size) ≡ left = omega arith in
    let on : Headers × Option (Head × Place) → Reading (Headers × Option (Head × Place)) = λ p. resumed (walk_in (riff_rule extent) (visit_top extent) (more - (8 + padded size))) p.0 p.1 in
    top_goes extent said parts known more behind (omega (arith, fits)) each run
    ∙ ap (λ z. read_on (walk_in (riff_rule extent) (visit_top extent) more known z) (λ p. opened extent said p.1)) whole
    ∙ top_listed extent said known more movi_size (codes "movi") rest sized refl named (omega arith)
    ∙ ap (λ z. read_on (read_on (movi_reached extent known (more - (8 + padded size)) size z rest) on) (λ p. opened extent said p.1)) has
    ∙ ap (λ n. Ok ((head, place_in extent said (first_place extent n (size - 4) (Closed known.passed known.streams) (owed known.frames))), rest)) after

-- the first movi of an RIFF, if its size is not known
pub top_read_open : (said : ℕ) (parts : List Part) (movi_size : List ℕ) (known : Headers) (head : Head) (rest : List ℕ) → length movi_size ≡ 4 → is_known (little_number 4 movi_size) ≡ false →
    length (parts_text parts) + 12 ≤ room_in EveryRiff said → (4 ≤ little_number 4 movi_size → room_in EveryRiff said < length (parts_text parts) + (8 + padded (little_number 4 movi_size))) → AreParts parts → Run (TakesHeader EveryRiff) no_headers (flat_map header_chunks parts) known → known.head ≡ Some head →
    top_read EveryRiff said (parts_text parts ++ ((codes "LIST" ++ movi_size ++ codes "movi") ++ rest)) ≡ Ok ((head, place_in EveryRiff said (first_open (Closed known.passed known.streams) (owed known.frames))), rest)
unfolding visit_top
top_read_open said parts movi_size known head rest sized unknown fits bare each run has =
    let more = room_in EveryRiff said - length (parts_text parts) in
    let rule = riff_rule EveryRiff in
    let behind = (codes "LIST" ++ movi_size ++ codes "movi") ++ rest in
    let whole : behind ≡ (codes "LIST" ++ movi_size) ++ (codes "movi" ++ rest) = append_assoc (codes "LIST" ++ movi_size) (codes "movi") rest in
    let entry : entry_in rule more ((codes "LIST" ++ movi_size) ++ (codes "movi" ++ rest)) ≡ Ok (Some (entry_of more (codes "LIST") 0), codes "movi" ++ rest) = entry_sizeless EveryRiff more (codes "LIST") movi_size (codes "movi" ++ rest) refl refl sized refl unknown (omega (arith, fits)) (λ four. omega (arith, fits, bare four)) in
    let there : taken 4 (codes "movi" ++ rest) ≡ Ok (codes "movi", rest) = taken_complete 4 (codes "movi") rest refl in
    let on : Headers × Option (Head × Place) → Reading (Headers × Option (Head × Place)) = λ p. resumed (walk_in rule (visit_top EveryRiff) (more - 8)) p.0 p.1 in
    top_goes EveryRiff said parts known more behind (omega (arith, fits)) each run
    ∙ ap (λ z. read_on (walk_in rule (visit_top EveryRiff) more known z) (λ p. opened EveryRiff said p.1)) whole
    ∙ ap (λ z. read_on z (λ p. opened EveryRiff said p.1)) (walk_step_in rule (visit_top EveryRiff) more known ((codes "LIST" ++ movi_size) ++ (codes "movi" ++ rest)))
    ∙ ap (λ z. read_on (read_on z (visited (visit_top EveryRiff) (walk_in rule (visit_top EveryRiff)) known)) (λ p. opened EveryRiff said p.1)) entry
    ∙ ap (λ z. read_on (read_on (read_on z (list_visited EveryRiff known (more - 8) 0)) on) (λ p. opened EveryRiff said p.1)) there
    ∙ ap (λ z. read_on (read_on (open_movi_reached known z rest) on) (λ p. opened EveryRiff said p.1)) has

-- RIFF is read up to its parts
pub open_headed : (extent : Extent) (riff_size rest : List ℕ) → length riff_size ≡ 4 → has_form extent (little_number 4 riff_size) ≡ true → open_read extent ((codes "RIFF" ++ riff_size ++ codes "AVI ") ++ rest) ≡ top_read extent (little_number 4 riff_size) rest
unfolding open_read
open_headed extent riff_size rest riff formed =
    let bytes = codes "RIFF" ++ riff_size ++ codes "AVI " in
    let long : length bytes ≡ 12 = omega (arith, riff, length-append (codes "RIFF" ++ riff_size) (codes "AVI "), length-append (codes "RIFF") riff_size, spelled_length) in
    let third : drop 8 bytes ≡ codes "AVI " = cut_back 8 (codes "RIFF" ++ riff_size) (codes "AVI ") (omega (arith, riff, length-append (codes "RIFF") riff_size)) in
    let second : little_number 4 (drop 4 bytes) ≡ little_number 4 riff_size = ap (little_number 4) (ap (drop 4) (append_assoc (codes "RIFF") riff_size (codes "AVI ")) ∙ cut_back 4 (codes "RIFF") (riff_size ++ codes "AVI ") refl) ∙ sym (number_taken 4 (riff_size ++ codes "AVI ") (omega arith)) ∙ ap (little_number 4) (cut_front 4 riff_size (codes "AVI ") riff) in
    let avi : is_name (drop 8 bytes) (codes "AVI ") ≡ true = rw third refl in
    ap (λ z. read_on z (λ bytes. if begins extent bytes then top_read extent (little_number 4 (drop 4 bytes)) else refused fault.NotAvi)) (taken_complete 12 bytes rest long)
    ∙ rw (avi, second, formed) refl
  where
    spelled_length : length (codes "AVI ") ≡ 4
    spelled_length = refl

-- a size with room for a form has it
pub form_room : (extent : Extent) (n : ℕ) → 4 ≤ n → has_form extent n ≡ true
form_room FirstMovi n room = le-leb _ _ room
form_room EveryRiff n room = rw (some_size n room) (le-leb _ _ room)

pub room_some : (extent : Extent) (n : ℕ) → 4 ≤ n → room_in extent n ≡ n - 4
room_some FirstMovi n room = refl
room_some EveryRiff n room = rw (some_size n room) refl

-- a known size has room for a form
pub known_room : (n : ℕ) → is_known n ≡ true → has_form EveryRiff n ≡ true → 4 ≤ n
known_room n known formed = on_none (n == 0) refl
  where
    on_none : (b : Bool) → (n == 0) ≡ b → 4 ≤ n
    on_none true p = absurd (let no : false ≡ true = rw p at known in cc)
    on_none false p = leb-true _ _ (rw p at formed)

-- a movi without size stays one
pub open_stays : (said : ℕ) (place : Place) → place.open_in ≡ OpenMovi → place_in EveryRiff said place ≡ place
open_stays said place is = on_known (is_known said) refl
  where
    by_open : (o : Open) → o ≡ OpenMovi → unsized o place ≡ place
    by_open Sized e = absurd (cc)
    by_open OpenRiff e = absurd (cc)
    by_open OpenMovi e = refl

    on_known : (b : Bool) → is_known said ≡ b → place_in EveryRiff said place ≡ place
    on_known true p = rw p refl
    on_known false p = rw p (by_open place.open_in is)

-- where the size of RIFF is known, or the first movi is read alone
pub place_known : (extent : Extent) (n : ℕ) (place : Place) → (is_every extent ≡ true → is_known n ≡ true) → place_in extent n place ≡ place
place_known FirstMovi n place known = refl
place_known EveryRiff n place known = rw (known refl) refl

pub open_complete : (extent : Extent) (riff_size : List ℕ) (parts : List Part) (movi_size : List ℕ) (left : ℕ) (known : Headers) (head : Head) (rest : List ℕ) → length riff_size ≡ 4 → length movi_size ≡ 4 → 4 ≤ little_number 4 movi_size → (is_every extent ≡ true → is_known (little_number 4 riff_size) ≡ true) →
    4 + length (parts_text parts) + (8 + padded (little_number 4 movi_size)) + left ≡ little_number 4 riff_size → AreParts parts → Run (TakesHeader extent) no_headers (flat_map header_chunks parts) known → known.head ≡ Some head →
    open_read extent ((codes "RIFF" ++ riff_size ++ codes "AVI ") ++ (parts_text parts ++ ((codes "LIST" ++ movi_size ++ codes "movi") ++ rest))) ≡ Ok ((head, first_place extent left (little_number 4 movi_size - 4) (Closed known.passed known.streams) (owed known.frames)), rest)
open_complete extent riff_size parts movi_size left known head rest riff sized named told fits each run has =
    let said = little_number 4 riff_size in
    let room : 4 ≤ said = omega (arith, fits) in
    let behind = parts_text parts ++ ((codes "LIST" ++ movi_size ++ codes "movi") ++ rest) in
    open_headed extent riff_size behind riff (form_room extent said room)
    ∙ top_read_complete extent said parts movi_size left known head rest sized named (omega (arith, fits, room_some extent said room)) each run has
    ∙ ap (λ p. Ok ((head, p), rest)) (place_known extent said (first_place extent left (little_number 4 movi_size - 4) (Closed known.passed known.streams) (owed known.frames)) told)

-- of the first movi alone, what is known of it
pub first_sized : (said long : ℕ) (movi_size : List ℕ) (known : Headers) (place : Place) → IsSizedMovi FirstMovi said long movi_size known place ⊎ IsOpenMovi FirstMovi said long movi_size known place → IsSizedMovi FirstMovi said long movi_size known place
first_sized said long movi_size known place (inl sized) = sized
first_sized said long movi_size known place (inr other) = absurd (let no : false ≡ true = other.every in cc)

-- which chunks movi has
pub unsized_names : (extent : Extent) (said : ℕ) (place : Place) → (place_in extent said place).names ≡ place.names
unsized_names FirstMovi said place = refl
unsized_names EveryRiff said place = on_known (is_known said) refl
  where
    by_open : (o : Open) → (unsized o place).names ≡ place.names
    by_open Sized = refl
    by_open OpenRiff = refl
    by_open OpenMovi = refl

    on_known : (b : Bool) → is_known said ≡ b → (place_in EveryRiff said place).names ≡ place.names
    on_known true p = rw p refl
    on_known false p = rw p (by_open place.open_in)

abbrev Bounded : Extent → Names → Type 0
Bounded extent names = (most_bytes names ≡ most_in extent) × (least_bytes names ≡ least_in extent)

opened_bounds : (extent : Extent) (said long : ℕ) (movi_size : List ℕ) (known : Headers) (place : Place) → IsSizedMovi extent said long movi_size known place ⊎ IsOpenMovi extent said long movi_size known place → Bounded extent place.names
opened_bounds FirstMovi said long movi_size known place (inl sized) = let P : Place → Type 0 = λ p. Bounded FirstMovi p.names in subst P (sym sized.place_is) (refl, refl)
opened_bounds EveryRiff said long movi_size known place (inl sized) =
    let P : Place → Type 0 = λ p. Bounded EveryRiff p.names in
    let made = first_place EveryRiff sized.left (little_number 4 movi_size - 4) (Closed known.passed known.streams) (owed known.frames) in
    let Q : Names → Type 0 = Bounded EveryRiff in
    subst P (sym sized.place_is) (subst Q (sym (unsized_names EveryRiff said made)) (refl, refl))
opened_bounds FirstMovi said long movi_size known place (inr other) = absurd (let no : false ≡ true = other.every in cc)
opened_bounds EveryRiff said long movi_size known place (inr other) =
    let P : Place → Type 0 = λ p. Bounded EveryRiff p.names in
    let made = first_open (Closed known.passed known.streams) (owed known.frames) in
    let Q : Names → Type 0 = Bounded EveryRiff in
    subst P (sym other.place_is) (subst Q (sym (unsized_names EveryRiff said made)) (refl, refl))

-- how many bytes a frame may have, by how far is read
pub opened_most : (extent : Extent) (text : List ℕ) (w : (Head × Place) × List ℕ) → open_read extent text ≡ Ok w → most_bytes w.0.1.names ≡ most_in extent
opened_most extent text w h =
    let is = open_sound extent text w h in
    let top = is.top in
    (opened_bounds extent (little_number 4 is.riff_size) (length (parts_text top.parts)) top.movi_size top.known w.0.1 top.movi).0

pub opened_least : (extent : Extent) (text : List ℕ) (w : (Head × Place) × List ℕ) → open_read extent text ≡ Ok w → least_bytes w.0.1.names ≡ least_in extent
opened_least extent text w h =
    let is = open_sound extent text w h in
    let top = is.top in
    (opened_bounds extent (little_number 4 is.riff_size) (length (parts_text top.parts)) top.movi_size top.known w.0.1 top.movi).1

-- how far is read
place_extent : (extent : Extent) (said : ℕ) (place : Place) → extent_of (place_in extent said place) ≡ extent_of place
place_extent FirstMovi said place = refl
place_extent EveryRiff said place = on_known (is_known said) refl
  where
    by_open : (o : Open) → extent_of (unsized o place) ≡ extent_of place
    by_open Sized = refl
    by_open OpenRiff = refl
    by_open OpenMovi = refl

    on_known : (b : Bool) → is_known said ≡ b → extent_of (place_in EveryRiff said place) ≡ extent_of place
    on_known true p = rw p refl
    on_known false p = rw p (by_open place.open_in)

pub opened_extent : (extent : Extent) (text : List ℕ) (y : Head × Place) (rest : List ℕ) → open_read extent text ≡ Ok (y, rest) → extent_of y.1 ≡ extent
opened_extent extent text y rest h = on_movi extent is.top.movi
  where
    is : IsOpening extent text y rest
    is = open_sound extent text (y, rest) h

    on_movi : (e : Extent) → IsSizedMovi e (little_number 4 is.riff_size) (length (parts_text is.top.parts)) is.top.movi_size is.top.known y.1 ⊎ IsOpenMovi e (little_number 4 is.riff_size) (length (parts_text is.top.parts)) is.top.movi_size is.top.known y.1 → extent_of y.1 ≡ e
    on_movi FirstMovi (inl sized) = ap (λ (z : Place). extent_of z) sized.place_is
    on_movi EveryRiff (inl sized) = ap (λ (z : Place). extent_of z) sized.place_is ∙ place_extent EveryRiff (little_number 4 is.riff_size) _
    on_movi FirstMovi (inr other) = absurd (let no : false ≡ true = other.every in cc)
    on_movi EveryRiff (inr other) = ap (λ (z : Place). extent_of z) other.place_is ∙ place_extent EveryRiff (little_number 4 is.riff_size) _

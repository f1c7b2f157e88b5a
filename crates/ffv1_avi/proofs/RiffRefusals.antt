-- Files of every RIFF that are refused before the first movi.
use Rattle.std.proofs.Common.{◌≡◌, inl, inr, ℕ, suc, zero, ◌+◌, ◌-◌, ◌%◌, ◌<◌, nat_lt, Bool, true, false, Option, Some, None, Ok, Err, List, [], ◌∷◌, ◌++◌, length, take, codes, flat_map, if◌then◌else◌, ap, ◌∙◌, sym, subst, arith, refl, append_assoc}
use Rattle.std.proofs.lemmas.Bool.{le-ltb, lt-ltb}
use Rattle.std.proofs.lemmas.List.{take_all}
use Rattle.byteorder.specs.Endian.{little_number}
use Rattle.ffv1_reads.specs.declared.fault.FileFault.TheVariants as fault
use Rattle.ffv1_avi.specs.declared.place.Extent.TheVariants.{EveryRiff}
use Rattle.ffv1_avi.specs.declared.place.Place.{Place}
use Rattle.ffv1_avi.specs.Begun.{HasShortFormat, HeaderBegins, RiffBegins, StreamBegins, streams_of}
use Rattle.ffv1_avi.specs.Chunks.{AreOthers, Chunk, MoviBegins, Part, Passes, chunks_text, header_chunks, is_list, streams}
use Rattle.ffv1_avi.specs.Counted.{AreCounted, ExtendedBegins, HasExtended}
use Rattle.ffv1_avi.specs.Files.{Headers, extended_read, header_named, movi_reached, no_headers, open_read, opened, stream_visited, visit_extended, visit_header, visit_top}
use Rattle.ffv1_avi.specs.Opens.{list_skipped}
use Rattle.ffv1_reads.specs.Head.{Head}
use Rattle.ffv1_reads.specs.Reads.{Met, Reading, given, passed, read_on, taken, ◌>>=◌}
use Rattle.ffv1_avi.specs.Padding.{padded}
use Rattle.ffv1_avi.specs.Streams.{Known, nothing_known, stream_judged, stream_read, visit_field}
use Rattle.ffv1_avi.specs.Walk.{is_known, is_name, is_sizeless, resumed, visited, walk, walk_in}
use Rattle.ffv1_avi.specs.Names.{riff_rule}
use Rattle.ffv1_avi.proofs.Fields.{TakesField, field_complete}
use Rattle.ffv1_avi.proofs.FrameLaws.{those_both}
use Rattle.ffv1_avi.proofs.HeaderLaws.{StreamBytes, TakesHeader, stream_end, with_frames}
use Rattle.ffv1_avi.proofs.HeaderRuns.{Counts, heads, total_exists}
use Rattle.ffv1_avi.proofs.ListWalks.{Run, walk_complete}
use Rattle.ffv1_avi.proofs.LongLaws.{begun_room, header_fault, list_count, list_entry, open_begun}
use Rattle.ffv1_avi.proofs.OpenLaws.{top_goes, top_listed}
use Rattle.ffv1_avi.proofs.PartLaws.{parts_text, run_part}
use Rattle.ffv1_reads.proofs.WantedBytes.{taken_complete}
use Rattle.ffv1_avi.proofs.RefusalLaws.{entry_long, entry_long_in}
use Rattle.ffv1_avi.proofs.StreamLaws.{run_exists}
use Rattle.ffv1_avi.proofs.TotalLaws.{TakesTotal, total_complete}
use Rattle.ffv1_avi.proofs.ChunkByChunk.{walk_step, walk_step_in}
use Rattle.ffv1_avi.specs.Files.{stream_came}

-- what streams lead to
counted : (k n : ℕ) (streams : List Chunk) → n + k ≡ 100 → AreCounted k streams → (o : Option Head) × (m : ℕ) × Counts None n streams o m
counted zero n [] all are = (None, n, (refl, refl))
counted zero n (s ∷ ss) all are = (None, n, inl (le-ltb _ _ (omega (arith, all)), refl, refl))
counted (suc k) n [] all are = (None, n, (refl, refl))
counted (suc k) n (s ∷ ss) all (inl (head, is)) =
    let low : nat_lt n 100 ≡ true = lt-ltb _ _ (omega (arith, all)) in
    let bytes : StreamBytes EveryRiff s.bytes (Some head) = record { fields = is.fields; bytes_are = is.bytes; each = is.each; says = is.says } in
    (Some head, n, inr (low, Some head, bytes, (refl, refl)))
counted (suc k) n (s ∷ ss) all (inr (other, more)) =
    let low : nat_lt n 100 ≡ true = lt-ltb _ _ (omega (arith, all)) in
    let bytes : StreamBytes EveryRiff s.bytes None = record { fields = other.fields; bytes_are = other.bytes; each = other.each; says = (refl, other.says) } in
    let later = counted k (n + 1) ss (omega (arith, all)) more in
    (later.0, later.1, inr (low, None, bytes, later.2))

-- if none of the first 100 counts
none_counted : (k n : ℕ) (streams : List Chunk) → n + k ≡ 100 → AreOthers EveryRiff (take k streams) → Counts None n streams None (n + length (take k streams))
none_counted zero n [] all are = (refl, omega arith)
none_counted zero n (s ∷ ss) all are = inl (le-ltb _ _ (omega (arith, all)), refl, omega arith)
none_counted (suc k) n [] all are = (refl, omega arith)
none_counted (suc k) n (s ∷ ss) all are =
    let low : nat_lt n 100 ≡ true = lt-ltb _ _ (omega (arith, all)) in
    let bytes : StreamBytes EveryRiff s.bytes None = record { fields = are.0.fields; bytes_are = are.0.bytes; each = are.0.each; says = (refl, are.0.says) } in
    let P : ℕ → Type 0 = λ m. Counts None (n + 1) ss None m in
    let count : n + 1 + length (take k ss) ≡ n + length (take (suc k) (s ∷ ss)) = omega arith in
    inr (low, None, bytes, subst P count (none_counted k (n + 1) ss (omega (arith, all)) are.1))

counted_run : (cs : List Chunk) → AreCounted 100 (streams_of cs) → HasExtended cs → (t : Headers) × Run (TakesHeader EveryRiff) no_headers cs t
counted_run cs are has =
    let found = counted 100 0 (streams_of cs) refl are in
    let run = heads cs no_headers has.0 found.0 found.1 found.2 has.1 in
    (run.known, run.run)

-- chunks of hdrl of which no stream counts
pub record NoneCounts (cs : List Chunk) (number : ℕ) : Type 0 where
  pub known : Headers
  pub run : Run (TakesHeader EveryRiff) no_headers cs known
  pub none : known.head ≡ None
  pub passed : known.passed ≡ number

none_run : (cs : List Chunk) → AreOthers EveryRiff (take 100 (streams_of cs)) → HasExtended cs → NoneCounts cs (0 + length (take 100 (streams_of cs)))
none_run cs are has =
    let run = heads cs no_headers has.0 None (0 + length (take 100 (streams_of cs))) (none_counted 100 0 (streams_of cs) refl are) has.1 in
    record { known = run.known; run = run.run; none = run.head_is; passed = run.number }

pub every_no_stream : (file : List ℕ) (parts : List Part) (rest : List ℕ) → MoviBegins file parts rest → AreOthers EveryRiff (take 100 (streams parts)) → HasExtended (flat_map header_chunks parts) → open_read EveryRiff file ≡ Err (Met fault.NoFfv1 rest)
every_no_stream file parts rest is are has =
    let run = none_run (flat_map header_chunks parts) are has in
    let text = (codes "LIST" ++ is.movi_size ++ codes "movi") ++ rest in
    let left = little_number 4 is.riff_size - (4 + length (parts_text parts)) in
    let size = little_number 4 is.movi_size in
    let said = little_number 4 is.riff_size in
    let begun : RiffBegins file parts left text = record { riff_size = is.riff_size; bytes = is.bytes; sized = is.riff_sized; counted = omega (arith, is.fits); each = is.each } in
    let whole : text ≡ (codes "LIST" ++ is.movi_size) ++ (codes "movi" ++ rest) = append_assoc (codes "LIST" ++ is.movi_size) (codes "movi") rest in
    let more = left - (8 + padded size) in
    let on : Headers × Option (Head × Place) → Reading (Headers × Option (Head × Place)) = λ p. resumed (walk_in (riff_rule EveryRiff) (visit_top EveryRiff) more) p.0 p.1 in
    open_begun EveryRiff file parts left text begun
    ∙ top_goes EveryRiff said parts run.known left text (begun_room EveryRiff file parts left text begun) is.each run.run
    ∙ ap (λ z. read_on (walk_in (riff_rule EveryRiff) (visit_top EveryRiff) left run.known z) (λ p. opened EveryRiff said p.1)) whole
    ∙ top_listed EveryRiff said run.known left is.movi_size (codes "movi") rest is.movi_sized refl is.movi_named (omega (arith, is.fits))
    ∙ ap (λ z. read_on (read_on (movi_reached EveryRiff run.known more size z rest) on) (λ p. opened EveryRiff said p.1)) run.none

pub every_riff_long : (file : List ℕ) (parts : List Part) (left : ℕ) (name size rest : List ℕ) → RiffBegins file parts left ((name ++ size) ++ rest) → AreCounted 100 (streams parts) → HasExtended (flat_map header_chunks parts) → Passes left name size →
    (is_name name (codes "LIST") ≡ true → is_known (little_number 4 size) ≡ true) → open_read EveryRiff file ≡ Err (Met fault.Truncated rest)
every_riff_long file parts left name size rest is are has passes told =
    let text = (name ++ size) ++ rest in
    let rule = riff_rule EveryRiff in
    let said = little_number 4 is.riff_size in
    let run = counted_run (flat_map header_chunks parts) are has in
    open_begun EveryRiff file parts left text is
    ∙ top_goes EveryRiff said parts run.0 left text (begun_room EveryRiff file parts left text is) is.each run.1
    ∙ ap (λ z. read_on z (λ p. opened EveryRiff said p.1)) (walk_step_in rule (visit_top EveryRiff) left run.0 text)
    ∙ ap (λ z. read_on (read_on z (visited (visit_top EveryRiff) (walk_in rule (visit_top EveryRiff)) run.0)) (λ p. opened EveryRiff said p.1)) (entry_long_in rule left name size rest refl (known_size (is_name name (codes "LIST")) (little_number 4 size) refl told) passes.named passes.sized passes.header passes.passes)
  where
    known_size : (b : Bool) (n : ℕ) → is_name name (codes "LIST") ≡ b → (is_name name (codes "LIST") ≡ true → is_known n ≡ true) → is_sizeless (riff_rule EveryRiff) name n ≡ false
    known_size false n p told = rw p refl
    known_size true n p told = rw (p, told p) refl

-- the streams of parts, and those of chunks of hdrl after them
streams_both : (parts : List Part) (chunks : List Chunk) → streams_of (flat_map header_chunks parts ++ chunks) ≡ streams parts ++ streams_of chunks
streams_both parts chunks = those_both (is_list (codes "strl")) (flat_map header_chunks parts) chunks

pub every_header_long : (file : List ℕ) (parts : List Part) (chunks : List Chunk) (left : ℕ) (name size rest : List ℕ) → HeaderBegins file parts chunks left ((name ++ size) ++ rest) →
    AreCounted 100 (streams parts ++ streams_of chunks) → HasExtended (flat_map header_chunks parts ++ chunks) → Passes left name size → open_read EveryRiff file ≡ Err (Met fault.Truncated rest)
every_header_long file parts chunks left name size rest is are has passes =
    let run = counted_run (flat_map header_chunks parts ++ chunks) (subst (AreCounted 100) (sym (streams_both parts chunks)) are) has in
    let parted = run_part (TakesHeader EveryRiff) (flat_map header_chunks parts) chunks no_headers run.0 run.1 in
    let text = (name ++ size) ++ rest in
    header_fault EveryRiff file parts chunks left text is parted.0 run.0 (Met fault.Truncated rest) parted.1 parted.2
    (walk_step (visit_header EveryRiff) left run.0 text
    ∙ ap (λ z. read_on z (visited (visit_header EveryRiff) (walk (visit_header EveryRiff)) run.0)) (entry_long left name size rest passes.named passes.sized passes.header passes.passes))

pub every_stream_long : (file : List ℕ) (parts : List Part) (chunks fields : List Chunk) (left : ℕ) (name size rest : List ℕ) → StreamBegins file parts chunks fields left ((name ++ size) ++ rest) →
    AreOthers EveryRiff (streams parts ++ streams_of chunks) → length (streams parts ++ streams_of chunks) < 100 → HasExtended (flat_map header_chunks parts ++ chunks) → HasShortFormat fields → Passes left name size → open_read EveryRiff file ≡ Err (Met fault.Truncated rest)
unfolding visit_header stream_read
every_stream_long file parts chunks fields left name size rest is are few has short passes =
    let text = (name ++ size) ++ rest in
    let these = streams_of (flat_map header_chunks parts ++ chunks) in
    let below : length these < 100 = omega (arith, few, ap length (streams_both parts chunks)) in
    let all : take 100 these ≡ these = take_all 100 these (omega (arith, below)) in
    let none = none_run (flat_map header_chunks parts ++ chunks) (subst (AreOthers EveryRiff) (sym (all ∙ streams_both parts chunks)) are) has in
    let low : nat_lt none.known.passed 100 ≡ true = lt-ltb _ _ (omega (arith, none.passed, ap length all, below)) in
    let parted = run_part (TakesHeader EveryRiff) (flat_map header_chunks parts) chunks no_headers none.known none.run in
    let t = none.known in
    let came = stream_came EveryRiff t in
    let run = run_exists EveryRiff fields nothing_known (λ _. short) in
    let own_text = chunks_text fields ++ text in
    let count = little_number 4 is.stream.size in
    let own : taken 4 (codes "strl" ++ own_text) ≡ Ok (codes "strl", own_text) = taken_complete 4 (codes "strl") own_text refl in
    let judged : (Known × Option ⊥) → Reading (Option Head) = λ k. stream_judged EveryRiff k.0.rates k.0.format in
    let read : stream_read EveryRiff (count - 4) own_text ≡ Err (Met fault.Truncated rest) =
    ap (λ n. read_on (walk (visit_field EveryRiff) n nothing_known own_text) judged) (list_count is.text is.room (codes "strl") fields left text is.stream)
    ∙ ap (λ z. read_on z judged) (walk_complete (visit_field EveryRiff) (TakesField EveryRiff) (field_complete EveryRiff) fields nothing_known run.0 left text is.stream.each run.1)
    ∙ ap (λ z. read_on z judged) (walk_step (visit_field EveryRiff) left run.0 text)
    ∙ ap (λ z. read_on (read_on z (visited (visit_field EveryRiff) (walk (visit_field EveryRiff)) run.0)) judged) (entry_long left name size rest passes.named passes.sized passes.header passes.passes) in
    let on : Headers × Option ⊥ → Reading (Headers × Option ⊥) = λ p. resumed (walk (visit_header EveryRiff) (is.room - (8 + padded count))) p.0 p.1 in
    header_fault EveryRiff file parts chunks is.room is.text is.header parted.0 t (Met fault.Truncated rest) parted.1 parted.2
    (walk_step (visit_header EveryRiff) is.room t is.text
    ∙ ap (λ z. read_on z (visited (visit_header EveryRiff) (walk (visit_header EveryRiff)) t)) (list_entry is.text is.room (codes "strl") fields left text is.stream)
    ∙ ap (λ z. read_on (read_on z (header_named EveryRiff t count)) on) own
    ∙ ap (λ h. read_on (stream_visited EveryRiff came count h own_text) on) none.none
    ∙ ap (λ b. read_on ((if b then (stream_read EveryRiff (count - 4) >>= stream_end came count) else list_skipped came count) own_text) on) low
    ∙ ap (λ z. read_on (read_on z (stream_end came count)) on) read)

pub every_extended_long : (file : List ℕ) (parts : List Part) (chunks inner : List Chunk) (left : ℕ) (name size rest : List ℕ) → ExtendedBegins file parts chunks inner left ((name ++ size) ++ rest) →
    AreCounted 100 (streams parts ++ streams_of chunks) → HasExtended (flat_map header_chunks parts ++ chunks) → Passes left name size → open_read EveryRiff file ≡ Err (Met fault.Truncated rest)
unfolding visit_header extended_read
every_extended_long file parts chunks inner left name size rest is are has passes =
    let text = (name ++ size) ++ rest in
    let run = counted_run (flat_map header_chunks parts ++ chunks) (subst (AreCounted 100) (sym (streams_both parts chunks)) are) has in
    let parted = run_part (TakesHeader EveryRiff) (flat_map header_chunks parts) chunks no_headers run.0 run.1 in
    let t = run.0 in
    let total = total_exists inner t.frames in
    let own_text = chunks_text inner ++ text in
    let count = little_number 4 is.extended.size in
    let own : taken 4 (codes "odml" ++ own_text) ≡ Ok (codes "odml", own_text) = taken_complete 4 (codes "odml") own_text refl in
    let end : Option ℕ × Option ⊥ → Reading (Option ℕ) = λ p. (passed (count % 2) >>= λ _. given p.0) in
    let read : extended_read t.frames count own_text ≡ Err (Met fault.Truncated rest) =
    ap (λ n. read_on (walk visit_extended n t.frames own_text) end) (list_count is.text is.room (codes "odml") inner left text is.extended)
    ∙ ap (λ z. read_on z end) (walk_complete visit_extended TakesTotal total_complete inner t.frames total.0 left text is.extended.each total.1)
    ∙ ap (λ z. read_on z end) (walk_step visit_extended left total.0 text)
    ∙ ap (λ z. read_on (read_on z (visited visit_extended (walk visit_extended) total.0)) end) (entry_long left name size rest passes.named passes.sized passes.header passes.passes) in
    let on : Headers × Option ⊥ → Reading (Headers × Option ⊥) = λ p. resumed (walk (visit_header EveryRiff) (is.room - (8 + padded count))) p.0 p.1 in
    header_fault EveryRiff file parts chunks is.room is.text is.header parted.0 t (Met fault.Truncated rest) parted.1 parted.2
    (walk_step (visit_header EveryRiff) is.room t is.text
    ∙ ap (λ z. read_on z (visited (visit_header EveryRiff) (walk (visit_header EveryRiff)) t)) (list_entry is.text is.room (codes "odml") inner left text is.extended)
    ∙ ap (λ z. read_on (read_on z (header_named EveryRiff t count)) on) own
    ∙ ap (λ z. read_on (read_on z (λ frames. given (with_frames t frames, None))) on) read)

-- Files with a chunk that does not fit in RIFF, in hdrl or in the first strl.
use Rattle.std.proofs.Common.{◌≡◌, ℕ, ◌+◌, ◌-◌, ◌%◌, ◌≤◌, Option, Some, None, Ok, Err, List, [], ◌∷◌, ◌++◌, length, codes, flat_map, ap, ◌∙◌, sym, subst, refl, arith}
use Rattle.byteorder.specs.Endian.{little_number}
use Rattle.ffv1_reads.specs.declared.fault.FileFault.TheVariants as fault
use Rattle.ffv1_avi.specs.declared.place.Extent.{Extent}
use Rattle.ffv1_avi.specs.declared.place.Extent.TheVariants.{FirstMovi}
use Rattle.ffv1_avi.specs.declared.place.Place.{Place}
use Rattle.ffv1_reads.specs.Head.{Head}
use Rattle.ffv1_avi.specs.Begun.{AreReadable, HasShortFormat, HeaderBegins, ListBegins, RiffBegins, StreamBegins, parts_text, streams_of}
use Rattle.ffv1_avi.specs.Chunks.{AreChunks, Chunk, Part, Passes, chunks_text, header_chunks, is_list, streams}
use Rattle.ffv1_avi.specs.Files.{Headers, header_named, header_read, no_headers, open_read, opened, room_in, top_read, visit_header, visit_top}
use Rattle.ffv1_avi.specs.Names.{riff_rule}
use Rattle.ffv1_reads.specs.Reads.{Met, Reading, Stop, given, passed, read_on, taken, ◌>>=◌}
use Rattle.ffv1_avi.specs.Padding.{padded}
use Rattle.ffv1_avi.specs.Streams.{Known, nothing_known, stream_judged, stream_read, visit_field}
use Rattle.ffv1_avi.specs.Walk.{entry_read, resumed, visited, walk, walk_in}
use Rattle.ffv1_avi.proofs.ListWalks.{Run, entry_complete, walk_complete}
use Rattle.ffv1_avi.proofs.Fields.{TakesField, field_complete}
use Rattle.ffv1_avi.proofs.FrameLaws.{those_both}
use Rattle.ffv1_avi.proofs.HeaderLaws.{TakesHeader, header_complete, headed, run_none, run_some, stream_end}
use Rattle.ffv1_avi.proofs.PartLaws.{run_part}
use Rattle.ffv1_reads.proofs.WantedBytes.{taken_complete}
use Rattle.ffv1_avi.proofs.RefusalLaws.{entry_long}
use Rattle.ffv1_avi.proofs.StreamLaws.{run_exists}
use Rattle.ffv1_avi.proofs.OpenLaws.{form_room, open_headed, room_some, top_goes, top_listed}
use Rattle.ffv1_avi.proofs.ChunkByChunk.{walk_step}

-- chunks whose streams are readable lead to a head or to none
readable_run : (cs : List Chunk) → AreReadable (streams_of cs) → (t : Headers) × Run (TakesHeader FirstMovi) no_headers cs t
readable_run cs h = go (streams_of cs) refl h
  where
    go : (ss : List Chunk) → streams_of cs ≡ ss → AreReadable ss → (t : Headers) × Run (TakesHeader FirstMovi) no_headers cs t
    go [] e h = (no_headers, run_none cs no_headers e)
    go (stream ∷ others) e h = (headed h.0, run_some cs stream others h.0 e h.1)

-- RIFF is read up to its parts, and then after them
pub open_begun : (extent : Extent) (file : List ℕ) (parts : List Part) (left : ℕ) (rest : List ℕ) (is : RiffBegins file parts left rest) →
    open_read extent file ≡ top_read extent (little_number 4 is.riff_size) (parts_text parts ++ rest)
open_begun extent file parts left rest is =
    ap (open_read extent) is.bytes ∙ open_headed extent is.riff_size (parts_text parts ++ rest) is.sized (form_room extent (little_number 4 is.riff_size) (omega (arith, is.counted)))

-- how many bytes are left of RIFF then
pub begun_room : (extent : Extent) (file : List ℕ) (parts : List Part) (left : ℕ) (rest : List ℕ) (is : RiffBegins file parts left rest) → room_in extent (little_number 4 is.riff_size) ≡ length (parts_text parts) + left
begun_room extent file parts left rest is = omega (arith, is.counted, room_some extent (little_number 4 is.riff_size) (omega (arith, is.counted)))

pub riff_long : (file : List ℕ) (parts : List Part) (left : ℕ) (name size rest : List ℕ) → RiffBegins file parts left ((name ++ size) ++ rest) → AreReadable (streams parts) → Passes left name size →
    open_read FirstMovi file ≡ Err (Met fault.Truncated rest)
riff_long file parts left name size rest is readable passes =
    let text = (name ++ size) ++ rest in
    let run = readable_run (flat_map header_chunks parts) readable in
    open_begun FirstMovi file parts left text is
    ∙ top_goes FirstMovi (little_number 4 is.riff_size) parts run.0 left text (begun_room FirstMovi file parts left text is) is.each run.1
    ∙ ap (λ z. read_on z (λ p. opened FirstMovi (little_number 4 is.riff_size) p.1)) (walk_step (visit_top FirstMovi) left run.0 text)
    ∙ ap (λ z. read_on (read_on z (visited (visit_top FirstMovi) (walk (visit_top FirstMovi)) run.0)) (λ p. opened FirstMovi (little_number 4 is.riff_size) p.1)) (entry_long left name size rest passes.named passes.sized passes.header passes.passes)

-- a list's header is read, and its own name
pub list_entry : (text : List ℕ) (room : ℕ) (own : List ℕ) (chunks : List Chunk) (left : ℕ) (rest : List ℕ) (is : ListBegins text room own chunks left rest) →
    entry_read room text ≡ Ok (Some (record { name = codes "LIST"; size = little_number 4 is.size; left = room - (8 + padded (little_number 4 is.size)) }), own ++ (chunks_text chunks ++ rest))
list_entry text room own chunks left rest is =
    ap (entry_read room) is.bytes
    ∙ entry_complete room (codes "LIST") is.size (own ++ (chunks_text chunks ++ rest)) refl is.sized is.fits (λ l. omega (arith, is.counted))

-- what a list has after its own name
pub list_count : (text : List ℕ) (room : ℕ) (own : List ℕ) (chunks : List Chunk) (left : ℕ) (rest : List ℕ) (is : ListBegins text room own chunks left rest) →
    little_number 4 is.size - 4 ≡ length (chunks_text chunks) + left
list_count text room own chunks left rest is = omega (arith, is.counted)

-- the chunks of hdrl are walked
header_goes : (extent : Extent) (s t : Headers) (size : ℕ) (chunks : List Chunk) (left : ℕ) (rest : List ℕ) → size - 4 ≡ length (chunks_text chunks) + left → AreChunks chunks → Run (TakesHeader extent) s chunks t →
    header_read extent s size (chunks_text chunks ++ rest) ≡ read_on (walk (visit_header extent) left t rest) (λ p. (passed (size % 2) >>= λ _. given p.0))
unfolding header_read
header_goes extent s t size chunks left rest count each run =
    ap (λ n. read_on (walk (visit_header extent) n s (chunks_text chunks ++ rest)) (λ p. (passed (size % 2) >>= λ _. given p.0))) count
    ∙ ap (λ z. read_on z (λ p. (passed (size % 2) >>= λ _. given p.0))) (walk_complete (visit_header extent) (TakesHeader extent) (header_complete extent) chunks s t left rest each run)

-- a walk goes on after hdrl, and after the first stream
abbrev going : Headers → Reading (Headers × Option (Head × Place))
going found = given (found, None)

-- what stands in hdrl is read as its walk says, after parts and chunks of it
module _ (extent : Extent) (file : List ℕ) (parts : List Part) (chunks : List Chunk) (left : ℕ) (rest : List ℕ) (is : HeaderBegins file parts chunks left rest) where
  -- a fault that the walk of hdrl comes to is the file's
  pub header_fault : (s t : Headers) (e : Stop) → Run (TakesHeader extent) no_headers (flat_map header_chunks parts) s → Run (TakesHeader extent) s chunks t → walk (visit_header extent) left t rest ≡ Err e → open_read extent file ≡ Err e
  header_fault s t e before run fault =
      let text = chunks_text chunks ++ rest in
      let size = little_number 4 is.header.size in
      let read : header_read extent s size text ≡ Err e = header_goes extent s t size chunks left rest (list_count is.text is.room (codes "hdrl") chunks left rest is.header) is.header.each run
      ∙ ap (λ z. read_on z (λ p. (passed (size % 2) >>= λ _. given p.0))) fault in
      let said = little_number 4 is.riff.riff_size in
      let header = is.header in
      let more = is.room - (8 + padded size) in
      let behind = chunks_text chunks ++ rest in
      let named : 4 ≤ size = omega (arith, header.counted) in
      let on : Headers × Option (Head × Place) → Reading (Headers × Option (Head × Place)) = λ p. resumed (walk_in (riff_rule extent) (visit_top extent) more) p.0 p.1 in
      open_begun extent file parts is.room is.text is.riff
      ∙ top_goes extent said parts s is.room is.text (begun_room extent file parts is.room is.text is.riff) is.riff.each before
      ∙ ap (λ z. read_on (walk_in (riff_rule extent) (visit_top extent) is.room s z) (λ p. opened extent said p.1)) header.bytes
      ∙ top_listed extent said s is.room header.size (codes "hdrl") behind header.sized refl named header.fits
      ∙ ap (λ z. read_on (read_on (read_on z going) on) (λ p. opened extent said p.1)) read

pub header_long : (file : List ℕ) (parts : List Part) (chunks : List Chunk) (left : ℕ) (name size rest : List ℕ) → HeaderBegins file parts chunks left ((name ++ size) ++ rest) →
    AreReadable (streams parts ++ streams_of chunks) → Passes left name size → open_read FirstMovi file ≡ Err (Met fault.Truncated rest)
header_long file parts chunks left name size rest is readable passes =
    let both : streams_of (flat_map header_chunks parts ++ chunks) ≡ streams parts ++ streams_of chunks = those_both (is_list (codes "strl")) (flat_map header_chunks parts) chunks in
    let run = readable_run (flat_map header_chunks parts ++ chunks) (subst AreReadable (sym both) readable) in
    let parted = run_part (TakesHeader FirstMovi) (flat_map header_chunks parts) chunks no_headers run.0 run.1 in
    let text = (name ++ size) ++ rest in
    header_fault FirstMovi file parts chunks left text is parted.0 run.0 (Met fault.Truncated rest) parted.1 parted.2
    (walk_step (visit_header FirstMovi) left run.0 text
    ∙ ap (λ z. read_on z (visited (visit_header FirstMovi) (walk (visit_header FirstMovi)) run.0)) (entry_long left name size rest passes.named passes.sized passes.header passes.passes))

pub stream_long : (file : List ℕ) (parts : List Part) (chunks fields : List Chunk) (left : ℕ) (name size rest : List ℕ) → StreamBegins file parts chunks fields left ((name ++ size) ++ rest) →
    streams parts ≡ [] → streams_of chunks ≡ [] → HasShortFormat fields → Passes left name size → open_read FirstMovi file ≡ Err (Met fault.Truncated rest)
unfolding visit_header stream_read
stream_long file parts chunks fields left name size rest is none none_here short passes =
    let text = (name ++ size) ++ rest in
    let before = run_none (flat_map header_chunks parts) no_headers none in
    let here = run_none chunks no_headers none_here in
    let run = run_exists FirstMovi fields nothing_known (λ _. short) in
    let own_text = chunks_text fields ++ text in
    let count = little_number 4 is.stream.size in
    let own : taken 4 (codes "strl" ++ own_text) ≡ Ok (codes "strl", own_text) = taken_complete 4 (codes "strl") own_text refl in
    let judged : (Known × Option ⊥) → Reading (Option Head) = λ k. stream_judged FirstMovi k.0.rates k.0.format in
    let read : stream_read FirstMovi (count - 4) own_text ≡ Err (Met fault.Truncated rest) =
    ap (λ n. read_on (walk (visit_field FirstMovi) n nothing_known own_text) judged) (list_count is.text is.room (codes "strl") fields left text is.stream)
    ∙ ap (λ z. read_on z judged) (walk_complete (visit_field FirstMovi) (TakesField FirstMovi) (field_complete FirstMovi) fields nothing_known run.0 left text is.stream.each run.1)
    ∙ ap (λ z. read_on z judged) (walk_step (visit_field FirstMovi) left run.0 text)
    ∙ ap (λ z. read_on (read_on z (visited (visit_field FirstMovi) (walk (visit_field FirstMovi)) run.0)) judged) (entry_long left name size rest passes.named passes.sized passes.header passes.passes) in
    header_fault FirstMovi file parts chunks is.room is.text is.header no_headers no_headers (Met fault.Truncated rest) before here
    (walk_step (visit_header FirstMovi) is.room no_headers is.text
    ∙ ap (λ z. read_on z (visited (visit_header FirstMovi) (walk (visit_header FirstMovi)) no_headers)) (list_entry is.text is.room (codes "strl") fields left text is.stream)
    ∙ ap (λ z. read_on (read_on z (header_named FirstMovi no_headers count)) (λ p. resumed (walk (visit_header FirstMovi) (is.room - (8 + padded count))) p.0 p.1)) own
    ∙ ap (λ z. read_on (read_on z (stream_end no_headers count)) (λ p. resumed (walk (visit_header FirstMovi) (is.room - (8 + padded count))) p.0 p.1)) read)

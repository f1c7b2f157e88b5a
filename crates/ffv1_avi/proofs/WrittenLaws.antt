-- What is written is a file by its chunks.
use Rattle.std.proofs.Common.{◌≡◌, ℕ, ◌+◌, ◌-◌, ◌%◌, ◌^◌, ◌≤◌, ◌<◌, nat_le, true, Result, Ok, List, [], ◌∷◌, ◌++◌, length, take, drop, codes, flat_map, map, sum, ap, ◌∙◌, sym, arith, refl, append-nil, length-append, false}
use Rattle.std.proofs.lemmas.Bool.{le-leb}
use Rattle.std.proofs.lemmas.List.{length-replicate, take_all}
use Rattle.std.proofs.lemmas.List.Sums.{sum_by-cons}
use Rattle.byteorder.specs.Endian.{little_number}
use Rattle.byteorder.specs.Numbers.{little_number-reads_back}
use Rattle.ffv1_reads.specs.Bitmap.{number}
use Rattle.ffv1_avi.specs.Chunks.{AreFrames, AreSized, AreWithin, AviFile, Chunk, IsChunk, IsPart, IsStream, IsWritable, Part, Says, chunk_text, chunks_text, part_chunk, Fit, barred_in}
use Rattle.ffv1_reads.specs.Reads.{Stop}
use Rattle.ffv1_avi.specs.declared.place.Names.{Names}
use Rattle.ffv1_avi.specs.Names.{is_barred, is_frame, least_bytes, most_bytes, opens}
use Rattle.ffv1_avi.specs.declared.place.Names.TheVariants.{Any, Closed}
use Rattle.ffv1_avi.specs.declared.place.Extent.{Extent}
use Rattle.ffv1_avi.specs.declared.place.Extent.TheVariants.{FirstMovi, EveryRiff}
use Rattle.ffv1_reads.specs.Head.{Head, limit, without_colour}
use Rattle.ffv1_avi.specs.Padding.{padded}
use Rattle.ffv1_reads.specs.Bitmap.{is_ffv1}
use Rattle.ffv1_avi.specs.Streams.{is_format, record_end}
use Rattle.ffv1_avi.specs.Written.{avih, file_of, format_size, frame_chunk, frame_size, front, head_text, movi, movi_size, padding, riff_size, spelled, strf, strh}
use Rattle.ffv1_avi.proofs.PartLaws.{parts_text}
use Rattle.ffv1_avi.proofs.TakenChunks.{chunk_fits, taken_more, taken_none}
use Rattle.ffv1_avi.proofs.OpenedLists.{chunk_beside, frame_no_list, name_stands}

-- a number of 32 bits is read back
pub back : (n : ℕ) → n < 2 ^ 32 → little_number 4 (number n) ≡ n
back n h = little_number-reads_back 4 n [] h

-- a frame's chunk
abbrev pub frame_of : List ℕ → Chunk
frame_of frame = record { name = codes "00dc"; size = number (length frame); bytes = frame; padding = padding (length frame) }

frame_is : (frame : List ℕ) → length frame < 2 ^ 32 → IsChunk (frame_of frame)
frame_is frame short = record { named = refl; sized = refl; counted = back (length frame) short; padded = length-replicate (length frame % 2) 0; listed = λ l. absurd (cc) }

pub frames_text : (frames : List (List ℕ)) → chunks_text (map frame_of frames) ≡ flat_map frame_chunk frames
frames_text [] = refl
frames_text (f ∷ fs) = ap (λ z. frame_chunk f ++ z) (frames_text fs)

most_fits : (names : Names) → most_bytes names < 2 ^ 32
most_fits Any = omega arith
most_fits (Closed stream streams) = omega arith

least_fits : (names : Names) → least_bytes names ≤ 1
least_fits Any = omega arith
least_fits (Closed stream streams) = omega arith

sized_within : (least most : ℕ) → least ≤ 1 → (frames : List (List ℕ)) → AreSized most frames → AreWithin least most frames
sized_within least most few [] sized = tt
sized_within least most few (f ∷ fs) sized = (omega (arith, few, sized.0), sized.1, sized_within least most few fs sized.2)

pub frames_are : (names : Names) → is_barred names (codes "00dc") ≡ false → is_frame names (codes "00dc") ≡ true → (frames : List (List ℕ)) → AreSized (most_bytes names) frames → AreFrames names (map frame_of frames) frames
frames_are names stands named [] sized = record { each = taken_none (opens names); none_barred = refl; those_of = refl; sized = tt }
frames_are names stands named (f ∷ fs) sized =
    let more = frames_are names stands named fs sized.2 in
    let fits : length f < 2 ^ 32 = omega (arith, sized.1, most_fits names) in
    let other = frame_no_list names (codes "00dc") named in
    let here : barred_in names (frame_of f) ≡ false = name_stands names (frame_of f) stands other in
    let taken = chunk_beside names (frame_of f) (frame_is f fits) other in
    record { each = taken_more (opens names) (frame_of f) (map frame_of fs) taken more.each; none_barred = rw here more.none_barred; those_of = rw named (ap (λ z. f ∷ z) more.those_of); sized = sized_within (least_bytes names) (most_bytes names) (least_fits names) (f ∷ fs) sized }

-- and each fits
pub frames_fit : (names : Names) (frames : List (List ℕ)) → AreSized (most_bytes names) frames → Fit 0 (map frame_of frames)
frames_fit names [] sized = tt
frames_fit names (f ∷ fs) sized =
    let fits : length f < 2 ^ 32 = omega (arith, sized.1, most_fits names) in
    let first = chunk_fits (frame_of f) 0 (frame_is f fits) in
    (omega (arith, first, length-append (chunk_text (frame_of f)) (chunks_text (map frame_of fs))), frames_fit names fs sized.2)

pub frames_long : (most : ℕ) (frames : List (List ℕ)) → AreSized most frames → (4 + length (chunks_text (map frame_of frames)) ≡ movi_size frames) × (movi_size frames % 2 ≡ 0)
frames_long most [] sized = (refl, refl)
frames_long most (f ∷ fs) sized =
    let more = frames_long most fs sized.2 in
    let c = frame_of f in
    let whole : sum (map frame_size (f ∷ fs)) ≡ frame_size f + sum (map frame_size fs) = sum_by-cons (λ x. x) (frame_size f) (map frame_size fs) in
    let odd : length (padding (length f)) ≡ length f % 2 = length-replicate (length f % 2) 0 in
    let named : length (c.name ++ c.size) ≡ 8 = refl in
    let size : length (chunk_text c) ≡ frame_size f = omega (arith, odd, named, length-append ((c.name ++ c.size) ++ f) (padding (length f)), length-append (c.name ++ c.size) f) in
    let both : length (chunks_text (map frame_of (f ∷ fs))) ≡ length (chunk_text c) + length (chunks_text (map frame_of fs)) = length-append (chunk_text c) (chunks_text (map frame_of fs)) in
    (omega (arith, more.0, whole, size, both), omega (arith, more.1, whole))

-- the chunks of the written head
abbrev pub avih_of : Head → ℕ → Chunk
avih_of head count = record { name = codes "avih"; size = number 56; bytes = spelled (drop 2 (avih head count)); padding = [] }

abbrev pub strh_of : Head → ℕ → Chunk
strh_of head count = record { name = codes "strh"; size = number 56; bytes = spelled (drop 2 (strh head count)); padding = [] }

abbrev pub strf_of : Head → Chunk
strf_of head = record { name = codes "strf"; size = number (40 + length head.config_record); bytes = spelled (drop 2 (strf head)) ++ head.config_record; padding = padding (40 + length head.config_record) }

abbrev pub fields_of : Head → ℕ → List Chunk
fields_of head count = strh_of head count ∷ strf_of head ∷ []

abbrev pub stream_of : Head → ℕ → Chunk
stream_of head count = record { name = codes "LIST"; size = number (76 + format_size head); bytes = codes "strl" ++ chunks_text (fields_of head count); padding = [] }

abbrev pub header_of : Head → ℕ → Part
header_of head count = Part.Header (number (152 + format_size head)) (avih_of head count ∷ stream_of head count ∷ []) []

avih_is : (head : Head) (count : ℕ) → IsChunk (avih_of head count)
avih_is head count = record { named = refl; sized = refl; counted = refl; padded = refl; listed = λ l. absurd (cc) }

strh_is : (head : Head) (count : ℕ) → IsChunk (strh_of head count)
strh_is head count = record { named = refl; sized = refl; counted = refl; padded = refl; listed = λ l. absurd (cc) }

strf_long : (head : Head) → length (strf_of head).bytes ≡ 40 + length head.config_record
strf_long head = length-append (spelled (drop 2 (strf head))) head.config_record

strf_is : (head : Head) → 40 + length head.config_record ≤ limit → IsChunk (strf_of head)
strf_is head short =
    let n = 40 + length head.config_record in
    record { named = refl; sized = refl; counted = back n (omega (arith, short)) ∙ sym (strf_long head); padded = length-replicate (n % 2) 0 ∙ ap (λ k. k % 2) (sym (strf_long head)); listed = λ l. absurd (cc) }

-- how long the written chunks are
strf_text_long : (head : Head) → length (chunk_text (strf_of head)) ≡ 8 + format_size head
strf_text_long head =
    let n = 40 + length head.config_record in
    let c = strf_of head in
    let odd : length (padding n) ≡ n % 2 = length-replicate (n % 2) 0 in
    let front : length (c.name ++ c.size) ≡ 8 = refl in
    omega (arith, odd, front, strf_long head, length-append ((c.name ++ c.size) ++ c.bytes) (padding n), length-append (c.name ++ c.size) c.bytes)

stream_long : (head : Head) (count : ℕ) → length (stream_of head count).bytes ≡ 76 + format_size head
stream_long head count =
    let strh_long : length (chunk_text (strh_of head count)) ≡ 64 = refl in
    let strf_alone : length (chunks_text (strf_of head ∷ [])) ≡ 8 + format_size head = ap length (append-nil (chunk_text (strf_of head))) ∙ strf_text_long head in
    let both : length (chunks_text (fields_of head count)) ≡ length (chunk_text (strh_of head count)) + length (chunks_text (strf_of head ∷ [])) = length-append (chunk_text (strh_of head count)) (chunks_text (strf_of head ∷ [])) in
    length-append (codes "strl") (chunks_text (fields_of head count)) ∙ (omega (arith, strh_long, strf_alone, both))

stream_chunk : (head : Head) (count : ℕ) → 40 + length head.config_record ≤ limit → IsChunk (stream_of head count)
stream_chunk head count short =
    let long = stream_long head count in
    record { named = refl; sized = refl; counted = back (76 + format_size head) (omega (arith, short)) ∙ sym long; padded = sym (ap (λ n. n % 2) long ∙ (omega arith)); listed = λ l. (omega (arith, long)) }

stream_text_long : (head : Head) (count : ℕ) → length (chunk_text (stream_of head count)) ≡ 84 + format_size head
stream_text_long head count =
    let c = stream_of head count in
    let front : length (c.name ++ c.size) ≡ 8 = refl in
    ap length (append-nil ((c.name ++ c.size) ++ c.bytes)) ∙ length-append (c.name ++ c.size) c.bytes ∙ (omega (arith, front, stream_long head count))

header_long : (head : Head) (count : ℕ) → length (part_chunk (header_of head count)).bytes ≡ 152 + format_size head
header_long head count =
    let avih_long : length (chunk_text (avih_of head count)) ≡ 64 = refl in
    let alone : length (chunks_text (stream_of head count ∷ [])) ≡ 84 + format_size head = ap length (append-nil (chunk_text (stream_of head count))) ∙ stream_text_long head count in
    let chunks = avih_of head count ∷ stream_of head count ∷ [] in
    let both : length (chunks_text chunks) ≡ length (chunk_text (avih_of head count)) + length (chunks_text (stream_of head count ∷ [])) = length-append (chunk_text (avih_of head count)) (chunks_text (stream_of head count ∷ [])) in
    length-append (codes "hdrl") (chunks_text chunks) ∙ (omega (arith, avih_long, alone, both))

pub header_is : (head : Head) (count : ℕ) → 40 + length head.config_record ≤ limit → IsPart (header_of head count)
header_is head count short =
    let long = header_long head count in
    let is : IsChunk (part_chunk (header_of head count)) = record { named = refl; sized = refl; counted = back (152 + format_size head) (omega (arith, short)) ∙ sym long; padded = sym (ap (λ n. n % 2) long ∙ (omega arith)); listed = λ l. (omega (arith, long)) } in
    (is, (avih_is head count, (stream_chunk head count short, tt)))

pub parts_long : (head : Head) (count : ℕ) → length (parts_text (header_of head count ∷ [])) ≡ 160 + format_size head
parts_long head count =
    let c = part_chunk (header_of head count) in
    let front : length (c.name ++ c.size) ≡ 8 = refl in
    ap length (append-nil (chunk_text c) ∙ append-nil ((c.name ++ c.size) ++ c.bytes)) ∙ length-append (c.name ++ c.size) c.bytes ∙ (omega (arith, front, header_long head count))

-- its name is that of FFV1
name_back : (extent : Extent) → is_format extent (codes "FFV1") ≡ true
unfolding is_ffv1
name_back FirstMovi = refl
name_back EveryRiff = refl

-- what the written stream says
written_says : (extent by : Extent) (head : Head) (frames : List (List ℕ)) (count : ℕ) → IsWritable by head frames → Says extent (fields_of head count) (without_colour head)
written_says extent by head frames count is =
    let rate = back head.rate is.rate in
    let scale = back head.scale is.scale in
    let width = back head.width is.width in
    let height = back head.height is.height in
    let room : nat_le 40 (length (strf_of head).bytes) ≡ true = le-leb _ _ (omega (arith, strf_long head)) in
    let short : length (strf_of head).bytes ≤ limit = omega (arith, strf_long head, is.short) in
    let whole : take (length (strf_of head).bytes - 40) head.config_record ≡ head.config_record = take_all (length (strf_of head).bytes - 40) head.config_record (omega (arith, strf_long head)) in
    record { header = strh_of head count; format = strf_of head; first_header = refl; first_format = refl; short = short; video = rw (rate, scale) refl; ffv1 = rw (room, width, height, to_end extent, whole, name_back extent) refl; both = is.both; plain = refl }
  where
    -- biSize leaves the record out
    to_end : (x : Extent) → record_end x (little_number 4 (strf_of head).bytes) (length (strf_of head).bytes) ≡ length (strf_of head).bytes
    to_end FirstMovi = refl
    to_end EveryRiff = refl

pub written_stream : (extent by : Extent) (head : Head) (frames : List (List ℕ)) (count : ℕ) → IsWritable by head frames → IsStream extent (stream_of head count) (without_colour head)
written_stream extent by head frames count is =
    record { fields = fields_of head count; bytes = refl; each = (strh_is head count, (strf_is head is.short, tt)); says = written_says extent by head frames count is }

-- the parts in a row
pub tail_same : (config pad behind : List ℕ) → (config ++ pad) ++ behind ≡ ((((((config ++ pad) ++ []) ++ []) ++ []) ++ []) ++ []) ++ behind
tail_same config pad behind = simp append-nil

pub written_file : (head : Head) (frames : List (List ℕ)) → IsWritable FirstMovi head frames → AviFile (file_of head frames) (without_colour head) frames
written_file head frames is =
    let count = length frames in
    let size = movi_size frames in
    let long = frames_long limit frames is.sized in
    let small : size < 2 ^ 32 = omega (arith, is.small) in
    let counted : little_number 4 (number size) ≡ 4 + length (chunks_text (map frame_of frames)) = back size small ∙ sym long.0 in
    let riff : little_number 4 (number (riff_size head frames)) ≡ riff_size head frames = back (riff_size head frames) (omega (arith, is.small)) in
    let fits : 4 + length (parts_text (header_of head count ∷ [])) + (8 + padded (little_number 4 (number size))) ≤ little_number 4 (number (riff_size head frames)) = rw (riff, back size small) (omega (arith, parts_long head count, long.1)) in
    let tail = spelled (movi size) ++ flat_map frame_chunk frames in
    let behind : spelled (movi size) ++ flat_map frame_chunk frames ≡ spelled (movi size) ++ (chunks_text (map frame_of frames) ++ []) = ap (λ z. spelled (movi size) ++ z) (sym (append-nil (chunks_text (map frame_of frames)) ∙ frames_text frames)) in
    let whole : file_of head frames ≡ (codes "RIFF" ++ number (riff_size head frames) ++ codes "AVI ") ++ (parts_text (header_of head count ∷ []) ++ ((codes "LIST" ++ number size ++ codes "movi") ++ (chunks_text (map frame_of frames) ++ []))) =
    ap (λ z. head_text head count (riff_size head frames) ++ z) behind
    ∙ ap (λ z. front head count (riff_size head frames) ++ z) (tail_same head.config_record (padding (40 + length head.config_record)) (spelled (movi size) ++ (chunks_text (map frame_of frames) ++ []))) in
    record { riff_size = number (riff_size head frames); parts = header_of head count ∷ []; movi_size = number size; chunks = map frame_of frames; rest = []; stream = stream_of head count; others = []; bytes = whole; riff_sized = refl; movi_sized = refl; counted = counted; fits = fits; each = (header_is head count is.short, tt); first = refl; says = written_stream FirstMovi FirstMovi head frames count is; framed = frames_are Any refl refl frames is.sized }

-- of which nothing is left
pub written_rest : (head : Head) (frames : List (List ℕ)) (is : IsWritable FirstMovi head frames) → ◌≡◌ {A = Result ((Head × List (List ℕ)) × List ℕ) Stop} (Ok ((without_colour head, frames), (written_file head frames is).rest)) (Ok ((without_colour head, frames), []))
unfolding written_file
written_rest head frames is = refl

-- The file that is written, as a function of its head and its frames, by Microsoft's AVI RIFF File
-- Reference, with the configuration record in the format as RFC 9043, 4.3.3 has it.
use Rattle.std.specs.Prelude.{ℕ, ◌+◌, ◌*◌, ◌/◌, ◌%◌, ◌==◌, min, if◌then◌else◌, List, [], ◌∷◌, ◌++◌}
use Rattle.std.specs.Prelude.{length, replicate, codes, flat_map, map, nat_le, sum, Option, Some}
use Rattle.std.specs.Prelude.{None}
use Rattle.std.specs.declared.vec.Vec.{Vec}
use Rattle.ffv1_avi.specs.declared.field.Field.{Field}
use Rattle.ffv1_avi.specs.declared.field.Field.TheVariants.{Name, Number, Pair}
use Rattle.ffv1_reads.specs.Bitmap.{bitmap_header, number, pair}
use Rattle.ffv1_reads.specs.Head.{Head}
use Rattle.ffv1_avi.specs.Padding.{padded}

-- the padding of so many bytes
abbrev pub padding : ℕ → List ℕ
padding size = replicate (size % 2) 0

-- microseconds a frame, in 32 bits; 0 if there is no rate
abbrev pub microseconds : ℕ → ℕ → ℕ
microseconds rate scale = if rate == 0 then 0 else min (1000000 * scale / rate) 4294967295

-- what a frame takes in movi
abbrev pub frame_size : List ℕ → ℕ
frame_size frame = 8 + padded (length frame)

-- the size of the list movi
abbrev pub movi_size : List (List ℕ) → ℕ
movi_size frames = 4 + sum (map frame_size frames)

-- the size of a format with its padding
abbrev pub format_size : Head → ℕ
format_size head = padded (40 + length head.config_record)

-- the size of RIFF
abbrev pub riff_size : Head → List (List ℕ) → ℕ
riff_size head frames = 172 + format_size head + movi_size frames

-- the main header, AVIMAINHEADER: its name and size, then dwMicroSecPerFrame, dwMaxBytesPerSec,
-- dwPaddingGranularity, dwFlags, dwTotalFrames, dwInitialFrames, dwStreams (one),
-- dwSuggestedBufferSize, dwWidth, dwHeight and four reserved
abbrev pub avih : Head → ℕ → List (List ℕ)
avih head count =
    codes "avih" ∷ number 56
    ∷ number (microseconds head.rate head.scale) ∷ number 0 ∷ number 0 ∷ number 0 ∷ number count ∷
    number 0 ∷ number 1
    ∷ number 0 ∷ number head.width ∷ number head.height ∷ number 0 ∷ number 0 ∷ number 0 ∷ number 0
    ∷ []

-- the stream's header, AVISTREAMHEADER: its name and size, then fccType, fccHandler, dwFlags,
-- wPriority and wLanguage, dwInitialFrames, dwScale, dwRate, dwStart, dwLength,
-- dwSuggestedBufferSize, dwQuality, dwSampleSize and rcFrame (left, top, right, bottom)
abbrev pub strh : Head → ℕ → List (List ℕ)
strh head count =
    codes "strh" ∷ number 56 ∷ codes "vids" ∷ codes "FFV1"
    ∷ number 0 ∷ pair 0 0 ∷ number 0 ∷ number head.scale ∷ number head.rate ∷ number 0 ∷ number
    count
    ∷ number 0 ∷ number 0 ∷ number 0 ∷ pair 0 0 ∷ pair head.width head.height ∷ []

-- the stream's format up to the configuration record: its name and size, then BITMAPINFOHEADER,
-- with its size without the record, and no size of a picture
abbrev pub strf : Head → List (List ℕ)
strf head =
    codes "strf" ∷ number (40 + length head.config_record)
    ∷ bitmap_header 40 head.width head.height 0

-- fields, one after the other
abbrev pub spelled : List (List ℕ) → List ℕ
spelled fields = flat_map (λ (field : List ℕ). field) fields

-- RIFF and its list hdrl
abbrev pub opening : ℕ → ℕ → List (List ℕ)
opening size format =
    codes "RIFF" ∷ number size ∷ codes "AVI " ∷ codes "LIST" ∷ number (152 + format) ∷ codes "hdrl"
    ∷ []

-- the list strl and the stream's header
abbrev pub stream : Head → ℕ → ℕ → List (List ℕ)
stream head format count = codes "LIST" ∷ number (76 + format) ∷ codes "strl" ∷ strh head count

-- all before the configuration record
abbrev pub front : Head → ℕ → ℕ → List ℕ
front head count size =
    spelled (opening size (format_size head)) ++ spelled (avih head count)
    ++ spelled (stream head (format_size head) count) ++ spelled (strf head)

-- all before movi, for so many frames, for the given size of RIFF
abbrev pub head_text : Head → ℕ → ℕ → List ℕ
head_text head count size =
    front head count size ++ head.config_record ++ padding (40 + length head.config_record)

-- the list movi
abbrev pub movi : ℕ → List (List ℕ)
movi size = codes "LIST" ∷ number size ∷ codes "movi" ∷ []

-- a frame's chunk
abbrev pub frame_chunk : List ℕ → List ℕ
frame_chunk frame =
    spelled (codes "00dc" ∷ number (length frame) ∷ []) ++ frame ++ padding (length frame)

-- the file
abbrev pub file_of : Head → List (List ℕ) → List ℕ
file_of head frames =
    head_text head (length frames) (riff_size head frames)
    ++ (spelled (movi (movi_size frames)) ++ flat_map frame_chunk frames)

-- the greatest size of RIFF that is written: readers may take it as a signed number of 32 bits
abbrev pub most : ℕ
most = 2147483647

-- the sizes of movi and RIFF, if that is not too great
abbrev pub sizes_of : Head → List (List ℕ) → Option (ℕ × ℕ)
sizes_of head frames =
    if nat_le (riff_size head frames) most then Some
    (movi_size frames, riff_size head frames) else None

-- frames, apart from where they lie in memory
abbrev pub frames_of : {A : Type 0} → List (Vec ℕ A) → List (List ℕ)
frames_of frames = map (λ f. f.items) frames

-- a field of a header, as it is spelled
abbrev pub field_bytes : Field → List ℕ
field_bytes (Name name) = name
field_bytes (Number n) = number n
field_bytes (Pair a b) = pair a b

abbrev pub fields_bytes : List Field → List ℕ
fields_bytes fields = flat_map field_bytes fields

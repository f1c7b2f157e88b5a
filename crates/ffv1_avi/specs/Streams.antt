-- The first stream of a file: what its header (AVISTREAMHEADER of Microsoft's AVI RIFF File
-- Reference) and its format (BITMAPINFOHEADER, with the configuration record after it as RFC 9043,
-- 4.3.3 has it) say.
use Rattle.std.specs.Prelude.{ℕ, ◌-◌, ◌==◌, ◌&&◌, if◌then◌else◌, nat_lt, nat_le, List, length}
use Rattle.std.specs.Prelude.{take, drop, codes, Option, Some, None, Bool, false, ◌+◌}
use Rattle.byteorder.specs.Endian.{little_number}
use Rattle.ffv1_reads.specs.declared.fault.FileFault.TheVariants as fault
use Rattle.ffv1_avi.specs.declared.place.Extent.{Extent}
use Rattle.ffv1_avi.specs.declared.place.Extent.TheVariants.{FirstMovi, EveryRiff}
use Rattle.ffv1_reads.specs.Bitmap as bitmap
use Rattle.ffv1_reads.specs.Bitmap.{is_ffv1}
use Rattle.ffv1_reads.specs.Colour.{unsaid}
use Rattle.ffv1_reads.specs.Head.{Head, limit}
use Rattle.ffv1_reads.specs.Reads.{Looked, Kept, Reading, Want, given, refused, taken, wanted}
use Rattle.ffv1_reads.specs.Reads.{passed}
use Rattle.ffv1_avi.specs.Padding.{padded, content}
use Rattle.ffv1_reads.specs.Reads.{◌>>=◌}
use Rattle.ffv1_avi.specs.Walk.{is_name, Visit, walk}

-- the rate and the scale of a stream's header, if it is one of video
abbrev pub rates_of : List ℕ → Option (ℕ × ℕ)
rates_of bytes =
    if nat_le 56 (length bytes) && is_name (take 4 bytes) (codes "vids")
    then Some (little_number 4 (drop 24 bytes), little_number 4 (drop 20 bytes))
    else None

-- a format: the sizes, and the configuration record
pub record Format : Type 0 where
  pub width : ℕ
  pub height : ℕ
  pub config_record : List ℕ

-- where the record ends in a format of a given size: where biSize, the first number, says so; or at
-- the end of the chunk
abbrev pub record_end : Extent → ℕ → ℕ → ℕ
record_end FirstMovi says size = size
record_end EveryRiff says size = bitmap.record_end says size

-- the name of a format is FFV1; if every RIFF is read, each letter may be small
abbrev pub is_format : Extent → List ℕ → Bool
is_format FirstMovi name = is_name name (codes "FFV1")
is_format EveryRiff name = is_ffv1 name

-- a stream's format, if it is FFV1
abbrev pub format_of : Extent → List ℕ → Option Format
format_of extent bytes =
    if nat_le 40 (length bytes) && is_format extent (take 4 (drop 16 bytes))
    then Some (record {
      width = little_number 4 (drop 4 bytes);
      height = little_number 4 (drop 8 bytes);
      config_record =
          take (record_end extent (little_number 4 bytes) (length bytes) - 40) (drop 40 bytes);
    })
    else None

-- what is known of a stream so far: whether a header came, and a format, and what they say
pub record Known : Type 0 where
  pub rates : Option (Option (ℕ × ℕ))
  pub format : Option (Option Format)

abbrev pub nothing_known : Known
nothing_known = record { rates = None; format = None }

-- the head of a video, whose rate and scale are both zero or neither; of its colours an AVI says
-- nothing
abbrev pub head_judged : ℕ × ℕ → Format → Reading Head
head_judged rates format =
    if rates.0 == 0
    then (if rates.1 == 0 then given
    (record {
      width = format.width;
      height = format.height;
      rate = rates.0;
      scale = rates.1;
      colour = unsaid;
      config_record = format.config_record;
    }) else refused fault.NotAvi)
    else (if rates.1 == 0 then refused fault.NotAvi else given
    (record {
      width = format.width;
      height = format.height;
      rate = rates.0;
      scale = rates.1;
      colour = unsaid;
      config_record = format.config_record;
    }))

-- a stream that is no FFV1 video: the first movi alone is read only of a file whose first stream is
-- one
abbrev pub no_video : Extent → Reading (Option Head)
no_video FirstMovi = refused fault.NoFfv1
no_video EveryRiff = given None

-- a stream is judged at its end: its head, if it is FFV1 video
abbrev pub stream_judged : Extent → Option (Option (ℕ × ℕ)) → Option (Option Format) →
    Reading (Option Head)
stream_judged extent (Some (Some rates)) (Some (Some format)) =
    head_judged rates format >>= λ head. given (Some head)
stream_judged extent rates format = no_video extent

-- a chunk that says nothing here
abbrev pub skipped : {S Y : Type 0} → S → ℕ → Reading (S × Option Y)
skipped s size = passed (padded size) >>= λ _. given (s, None)

-- what a header of a given size says
unfoldable pub rates_in : ℕ → Reading (Option (ℕ × ℕ))
rates_in size = content Looked size >>= λ bytes. given (rates_of bytes)

-- what a format says whose first 40 bytes are these, and after them the record, if it is FFV1
abbrev pub format_behind : List ℕ → List ℕ → Option Format
format_behind front config =
    Some (record {
      width = little_number 4 (drop 4 front);
      height = little_number 4 (drop 8 front);
      config_record = config;
    })

-- the rest of a format of a given size, after its first 40 bytes: the record is kept if it is FFV1
abbrev pub format_rest : Extent → Want → ℕ → List ℕ → Reading (Option Format)
format_rest extent w size front =
    if is_format extent (take 4 (drop 16 front))
    then (wanted w (record_end extent (little_number 4 front) size - 40) >>= λ config.
    (passed (padded size - record_end extent (little_number 4 front) size) >>= λ _.
    given (format_behind front config)))
    else (passed (padded size - 40) >>= λ _. given None)

abbrev pub format_by : Extent → Want → ℕ → Reading (Option Format)
format_by extent w size =
    if nat_lt size 40 then (passed (padded size) >>= λ _. given None)
    else (taken 40 >>= format_rest extent w size)

-- what a format of a given size says
unfoldable pub format_in : Extent → ℕ → Reading (Option Format)
format_in extent size = format_by extent Kept size

-- the first header of the stream counts
abbrev pub rates_read : Known → ℕ → Option (Option (ℕ × ℕ)) → Reading (Known × Option ⊥)
rates_read k size None =
    rates_in size >>= λ r. given (record { rates = Some r; format = k.format }, None)
rates_read k size (Some old) = skipped k size

-- the first format of the stream counts; one that is too long is not read
abbrev pub format_read : Extent → Known → ℕ → Option (Option Format) → Reading (Known × Option ⊥)
format_read extent k size None =
    if nat_lt limit size then refused fault.ChunkTooLong else
    (format_in extent size >>= λ f. given (record { rates = k.rates; format = Some f }, None))
format_read extent k size (Some old) = skipped k size

-- a chunk of a stream's list
unfoldable pub visit_field : Extent → Visit Known ⊥
visit_field extent k e =
    if is_name e.name (codes "strh") then rates_read k e.size k.rates
    else if is_name e.name (codes "strf") then format_read extent k e.size k.format
    else skipped k e.size

-- a stream's list with so many bytes after its own name: its head, if it is FFV1 video
unfoldable pub stream_read : Extent → ℕ → Reading (Option Head)
stream_read extent room =
    walk (visit_field extent) room nothing_known >>= λ k.
    stream_judged extent k.0.rates k.0.format

-- ---- a further stream

-- a format of FFV1 begins after so many bytes
abbrev pub format_at : ℕ → List ℕ → Bool
format_at at bytes =
    is_name (take 4 (drop at bytes)) (codes "strf") && is_ffv1 (take 4 (drop (at + 24) bytes))

-- it comes after a header of so many bytes
abbrev pub after_header : ℕ → List ℕ → Bool
after_header size bytes =
    if size == 56 then format_at 64 bytes
    else if size == 64 then format_at 72 bytes
    else false

-- the first 100 bytes of a stream's list, after its own name, are those of FFV1 video: a header of
-- video, of 56 or 64 bytes, and then a format of FFV1
unfoldable pub begins_video : List ℕ → Bool
begins_video bytes =
    if is_name (take 4 bytes) (codes "strh") && is_name (take 4 (drop 8 bytes)) (codes "vids")
    then after_header (little_number 4 (drop 4 bytes)) bytes
    else false

-- Tracks (RFC 9559, 5.1.4), in memory: the first entry of FFV1 video.
use Rattle.std.specs.Prelude.{ℕ, suc, zero, ◌+◌, ◌-◌, ◌^◌, ◌==◌, ◌&&◌, Bool, if◌then◌else◌, min}
use Rattle.std.specs.Prelude.{nat_eq, nat_le, List, [], length, take, drop, codes, Option, Some}
use Rattle.std.specs.Prelude.{None, Result, Ok, Err, true, false}
use lib.Pointwise.{pointwise}
use Rattle.byteorder.specs.Endian.{little_number}
use Rattle.ffv1_reads.specs.Bitmap.{is_ffv1, record_end}
use Rattle.ffv1_reads.specs.Head.{Head}
use Rattle.ffv1_reads.specs.declared.fault.FileFault.{FileFault}
use Rattle.ffv1_reads.specs.declared.fault.FileFault.TheVariants as fault
use Rattle.ffv1_ebml.specs.Contents.{Found, Part, content_told, first_part, found, number_in}
use Rattle.ffv1_ebml.specs.Contents.{text_in}
use Rattle.ffv1_matroska.specs.Colours.{colour_in}
use Rattle.ffv1_matroska.specs.Rates.{greatest, rate_of}
use Rattle.ffv1_matroska.specs.Blocks.{bit_of, is_unknown}
use Rattle.ffv1_matroska.specs.declared.track.TrackNumbers.{TrackNumbers}

-- the IDs of TrackEntry and of what is looked for in it
abbrev pub entry : ℕ
entry = 0xAE

abbrev pub track_number : ℕ
track_number = 0xD7

abbrev pub track_type : ℕ
track_type = 0x83

abbrev pub codec_id : ℕ
codec_id = 0x86

abbrev pub codec_private : ℕ
codec_private = 0x63A2

abbrev pub content_encodings : ℕ
content_encodings = 0x6D80

abbrev pub default_duration : ℕ
default_duration = 0x23E383

abbrev pub video : ℕ
video = 0xE0

abbrev pub pixel_width : ℕ
pixel_width = 0xB0

abbrev pub pixel_height : ℕ
pixel_height = 0xBA

-- a track by the number that its blocks have, and those of all tracks, with the head that it says
pub record Track : Type 0 where
  pub numbers : TrackNumbers
  pub head : Head

-- what was found is read on
infixl 10 ◌>>?◌
abbrev pub ◌>>?◌ : {X Y : Type 0} → Result X FileFault → (X → Result Y FileFault) →
    Result Y FileFault
Ok x >>? next = next x
Err f >>? next = Err f

-- the content of an element that may be missing
abbrev pub content_of : Option (List ℕ) → List ℕ
content_of None = []
content_of (Some bytes) = bytes

-- the content of the first element with this ID, and no bytes if there is none
abbrev pub content_at : ℕ → List ℕ → Result (List ℕ) FileFault
content_at ident content = found ident content >>? λ o. Ok (content_of o)

-- the number that it holds, and 0 if there is none
abbrev pub number_at : ℕ → List ℕ → Result ℕ FileFault
number_at ident content = content_at ident content >>? number_in 0

-- these bytes are this text
abbrev pub is_text : List ℕ → List ℕ → Bool
is_text bytes text = pointwise nat_eq bytes text

-- the format of Video for Windows is FFV1 (RFC 9559, 8.3, V_MS/VFW/FOURCC): its fourth number is
-- that name, in great or small letters, and the record comes after its 40 bytes
abbrev pub is_format : List ℕ → Bool
is_format format = nat_le 40 (length format) && is_ffv1 (take 4 (drop 16 format))

-- the record of such a format, which ends where biSize, its first number, says so, or at its end
abbrev pub format_record : List ℕ → List ℕ
format_record format =
    take (record_end (little_number 4 format) (length format) - 40) (drop 40 format)

-- the configuration record, of an entry of this codec, if it is FFV1 (RFC 9043, 4.3.3)
abbrev pub record_of : List ℕ → List ℕ → Found
record_of codec content =
    if is_text codec (codes "V_FFV1")
    then (content_at codec_private content >>? λ bytes. Ok (Some bytes))
    else if is_text codec (codes "V_MS/VFW/FOURCC")
    then (content_at codec_private content >>? λ format.
    (if is_format format then Ok (Some (format_record format)) else Ok None))
    else Ok None

-- the same, of an entry; a field is looked for only while the entry may be one
unfoldable pub record_in : List ℕ → Found
record_in content = number_at track_type content >>? λ type.
    (if type == 1
    then (content_at codec_id content >>? λ codec. record_of (text_in codec) content)
    else Ok None)

-- blocks that are compressed or encrypted are not read
abbrev pub plain : {X : Type 0} → Result X FileFault → Option (List ℕ) → Result X FileFault
plain next None = next
plain next (Some bytes) = Err fault.Encoded

-- the track of an entry with this record
unfoldable pub track_of : List ℕ → List ℕ → Result Track FileFault
track_of content config = found content_encodings content >>? plain
    (number_at track_number content >>? λ number.
    (number_at default_duration content >>? λ duration.
    (content_at video content >>? λ picture.
    (number_at pixel_width picture >>? λ width.
    (number_at pixel_height picture >>? λ height.
    Ok (record {
      numbers = record { number = number; known = 0; others = 0; duration = duration };
      head = record {
        width = min width greatest;
        height = min height greatest;
        rate = (rate_of duration).rate;
        scale = (rate_of duration).scale;
        colour = colour_in picture;
        config_record = config;
      };
    }))))))

-- the track of an element of Tracks, if that is an entry of FFV1 video
abbrev pub track_with : List ℕ → Option (List ℕ) → Result (Option Track) FileFault
track_with content None = Ok None
track_with content (Some config) = track_of content config >>? λ track. Ok (Some track)

unfoldable pub track_at : ℕ → List ℕ → Result (Option Track) FileFault
track_at ident content =
    if ident == entry then (record_in content >>? track_with content) else Ok None

-- the first that is one counts
abbrev pub track_or_on : (List ℕ → Result Track FileFault) → List ℕ → Option Track →
    Result Track FileFault
track_or_on on rest None = on rest
track_or_on on rest (Some track) = Ok track

abbrev pub part_or_on : (List ℕ → Result Track FileFault) → Option Part → Result Track FileFault
part_or_on on None = Err fault.NoFfv1
part_or_on on (Some p) = track_at p.ident p.content >>? track_or_on on p.rest

-- among at most so many elements
unfoldable pub track_up_to : ℕ → List ℕ → Result Track FileFault
track_up_to zero content = Err fault.NoFfv1
track_up_to (suc most) content = first_part content >>? part_or_on (track_up_to most)

-- the first track of FFV1 video; the CRC-32 of the content is judged first
unfoldable pub first_track : List ℕ → Result Track FileFault
first_track content = content_told content >>? λ _. track_up_to (length content) content

-- the numbers of tracks, with one more
unfoldable pub with_number : ℕ → ℕ → ℕ
with_number known number =
    if is_unknown known number then known + 2 ^ bit_of number else known

-- with that of an element of Tracks, if it is an entry
abbrev pub known_with : ℕ → ℕ → List ℕ → Result ℕ FileFault
known_with known ident content =
    if ident == entry
    then (number_at track_number content >>? λ number. Ok (with_number known number))
    else Ok known

-- up to the first element that can't be read
abbrev pub known_on : (ℕ → List ℕ → ℕ) → ℕ → List ℕ → Result ℕ FileFault → ℕ
known_on on known rest (Ok more) = on more rest
known_on on known rest (Err f) = known

abbrev pub known_or_on : (ℕ → List ℕ → ℕ) → ℕ → Result (Option Part) FileFault → ℕ
known_or_on on known (Ok (Some p)) =
    known_on on known p.rest (known_with known p.ident p.content)
known_or_on on known (Ok None) = known
known_or_on on known (Err f) = known

unfoldable pub known_up_to : ℕ → ℕ → List ℕ → ℕ
known_up_to zero known content = known
known_up_to (suc most) known content =
    known_or_on (known_up_to most) known (first_part content)

-- the numbers of the entries of the content of Tracks
abbrev pub known_in : List ℕ → ℕ
known_in content = known_up_to (length content) 0 content

-- an element of Tracks is an entry of FFV1 video: its record was found. One that can't be read so
-- far is none
abbrev pub has_record : Found → Bool
has_record (Ok (Some bytes)) = true
has_record (Ok None) = false
has_record (Err f) = false

abbrev pub is_video : ℕ → List ℕ → Bool
is_video ident content = if ident == entry then has_record (record_in content) else false

-- how many there are, with one more element; it is held in 8 bytes
abbrev pub videos_with : ℕ → ℕ → List ℕ → ℕ
videos_with count ident content =
    if is_video ident content then min (count + 1) (2 ^ 64 - 1) else count

-- up to the first element that can't be read
abbrev pub videos_or_on : (ℕ → List ℕ → ℕ) → ℕ → Result (Option Part) FileFault → ℕ
videos_or_on on count (Ok (Some p)) = on (videos_with count p.ident p.content) p.rest
videos_or_on on count (Ok None) = count
videos_or_on on count (Err f) = count

unfoldable pub videos_up_to : ℕ → ℕ → List ℕ → ℕ
videos_up_to zero count content = count
videos_up_to (suc most) count content =
    videos_or_on (videos_up_to most) count (first_part content)

-- how many entries of FFV1 video the content of Tracks has beside the first
abbrev pub others_in : List ℕ → ℕ
others_in content = videos_up_to (length content) 0 content - 1

abbrev pub track_among : ℕ → ℕ → Track → Track
track_among known others track =
    record {
      numbers = record {
        number = track.numbers.number;
        known = known;
        others = others;
        duration = track.numbers.duration;
      };
      head = track.head;
    }

-- the track of the content of Tracks, with the numbers of all, and how many others are FFV1 video
unfoldable pub track_in : List ℕ → Result Track FileFault
track_in content = first_track content >>? λ track.
    Ok (track_among (known_in content) (others_in content) track)

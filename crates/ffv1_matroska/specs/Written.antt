-- The file that is written, as a function of its head, of what else its TrackEntry says and of its
-- frames (RFC 9559, 5.1, with FFV1 as RFC 9043, 4.3.3 has it). Sizes are one byte or eight, and
-- numbers have a fixed width, so that where an element stands depends on no other element's value.
use Rattle.std.specs.Prelude.{ℕ, suc, ◌+◌, ◌*◌, ◌-◌, ◌%◌, ◌^◌, ◌==◌, ◌||◌, if◌then◌else◌, List}
use Rattle.std.specs.Prelude.{[], ◌∷◌, ◌++◌, flat_map, length, replicate, codes, Option, Some, None}
use Rattle.std.specs.Int.{bytes_low_first, leading_zeros, w64}
use Rattle.ffv1_reads.specs.Bitmap.{bitmap_header}
use Rattle.ffv1_reads.specs.Head.{Head}
use Rattle.ffv1_reads.specs.declared.colour.Colour.{Colour}
use Rattle.ffv1_sum.specs.Sum.{crc_of}
use Rattle.ffv1_ebml.specs.Elements.{crc_ident}
use Rattle.ffv1_ebml.specs.Spelled.{ident_bytes, long, number_element, short, spelled}
use Rattle.ffv1_ebml.specs.Spelled.{unknown as unknown_size}
use Rattle.ffv1_matroska.specs.Colours.{chroma_siting_horz, chroma_siting_vert, colour, primaries}
use Rattle.ffv1_matroska.specs.Colours.{matrix_coefficients, range, transfer_characteristics}
use Rattle.ffv1_matroska.specs.Opened.{ebml, tracks}
use Rattle.ffv1_matroska.specs.Opening.{doc_type, read_version, segment, type_read_version}
use Rattle.ffv1_matroska.specs.Rates.{duration_of}
use Rattle.ffv1_matroska.specs.Segments.{cluster, simple_block}
use Rattle.ffv1_matroska.specs.Tracks.{codec_id, codec_private, default_duration, entry}
use Rattle.ffv1_matroska.specs.Tracks.{pixel_height, pixel_width, track_number, track_type, video}
use Rattle.ffv1_matroska.specs.WrittenIdents.{cue_cluster_position, cue_point, cue_time, cue_track}
use Rattle.ffv1_matroska.specs.WrittenIdents.{cue_track_positions, cues, display_height}
use Rattle.ffv1_matroska.specs.WrittenIdents.{display_unit, display_width, duration, ebml_version}
use Rattle.ffv1_matroska.specs.WrittenIdents.{field_order, flag_interlaced, flag_lacing, info}
use Rattle.ffv1_matroska.specs.WrittenIdents.{language, max_id_length, max_size_length, muxing_app}
use Rattle.ffv1_matroska.specs.WrittenIdents.{seek, seek_head, seek_id, seek_position, timestamp}
use Rattle.ffv1_matroska.specs.WrittenIdents.{timestamp_scale, track_uid, type_version, void}
use Rattle.ffv1_matroska.specs.WrittenIdents.{writing_app}
use Rattle.ffv1_matroska.specs.WrittenPlaces.{every, places_from, stride_of}
use Rattle.ffv1_matroska.specs.declared.track_entry.CodecId.{CodecId}
use Rattle.ffv1_matroska.specs.declared.track_entry.CodecId.TheVariants as codec
use Rattle.ffv1_matroska.specs.declared.track_entry.TrackEntry.{TrackEntry}
use Rattle.ffv1_matroska.specs.declared.write.opening.Finish.{Finish}

-- an element of some content, its size in one byte, and in eight
abbrev pub short_element : ℕ → List ℕ → List ℕ
short_element ident content = spelled ident (short (length content)) content

abbrev pub long_element : ℕ → List ℕ → List ℕ
long_element ident content = spelled ident (long (length content)) content

-- the CRC-32 of some content, low end first (RFC 8794, 11.3.1)
unfoldable pub crc_element : List ℕ → List ℕ
crc_element content = spelled crc_ident (short 4) (bytes_low_first 0 4 (crc_of content))

-- some content after its CRC-32
abbrev pub checked : List ℕ → List ℕ
checked content = crc_element content ++ content

-- an element of so many bytes that says nothing (RFC 8794, 11.3.2)
unfoldable pub void_element : ℕ → List ℕ
void_element size = short_element void (replicate (size - 2) 0)

-- ---- the opening

-- the header of EBML (RFC 8794, 11.2)
unfoldable pub ebml_header : List ℕ
ebml_header =
    short_element ebml
    (number_element ebml_version 1 1 ++ number_element read_version 1 1
    ++ number_element max_id_length 1 4 ++ number_element max_size_length 1 8
    ++ short_element doc_type (codes "matroska") ++ number_element type_version 1 4
    ++ number_element type_read_version 1 2)

-- where an element of the Segment begins, by its ID of four bytes (5.1.1.1). Places are counted
-- from the first byte of the Segment's content
unfoldable pub seek_element : ℕ → ℕ → List ℕ
seek_element ident place =
    short_element seek (number_element seek_id 4 ident ++ number_element seek_position 8 place)

-- where Info and Tracks begin
abbrev pub info_place : ℕ
info_place = 74

abbrev pub tracks_place : ℕ
tracks_place = 148

-- of Cues; while that is not known, as many bytes that say nothing
abbrev pub cues_seek : Option Finish → List ℕ
cues_seek None = void_element 21
cues_seek (Some f) = seek_element cues f.cues

unfoldable pub seeks : Option Finish → List ℕ
seeks finish =
    seek_element info info_place ++ seek_element tracks tracks_place ++ cues_seek finish

-- the greatest power of two within a number above 0, by its exponent
abbrev pub exponent_of : ℕ → ℕ
exponent_of n = 63 - leading_zeros w64 n

-- a number from 1 to 2 ^ 53 - 1 in the format binary64 of IEEE 754 (RFC 8794, 7.3)
unfoldable pub double : ℕ → ℕ
double n = (1023 + exponent_of n) * 2 ^ 52 + (n - 2 ^ exponent_of n) * 2 ^ (52 - exponent_of n)

-- how long a frame lasts, in nanoseconds; 0 if there is no rate
abbrev pub frame_duration : Head → ℕ
frame_duration head = duration_of (record { rate = head.rate; scale = head.scale })

-- how many nanoseconds a timestamp counts: a frame, so that its timestamp is its number
unfoldable pub tick_of : Head → ℕ
tick_of head = if frame_duration head == 0 then 40000000 else frame_duration head

-- the name of the writer (5.1.2.13, 5.1.2.14): it changes only when the written form does
abbrev pub writer_name : List ℕ
writer_name = codes "Ravenbillon mkv 1"

-- how long all frames last (5.1.2.10), in ticks; while that is not known, as many bytes that say
-- nothing
abbrev pub duration_element : Option Finish → List ℕ
duration_element None = void_element 11
duration_element (Some f) = number_element duration 8 (double f.count)

unfoldable pub info_content : Head → Option Finish → List ℕ
info_content head finish =
    number_element timestamp_scale 8 (tick_of head) ++ duration_element finish
    ++ short_element muxing_app writer_name ++ short_element writing_app writer_name

-- the size of the Segment, which is unknown until all is written
abbrev pub segment_size : Option Finish → List ℕ
segment_size None = unknown_size
segment_size (Some f) = long f.size

-- all that comes before Tracks: open, and once all is written
unfoldable pub opening : Head → Option Finish → List ℕ
opening head finish =
    ebml_header ++ (ident_bytes segment ++ segment_size finish)
    ++ short_element seek_head (checked (seeks finish))
    ++ short_element info (checked (info_content head finish))

-- ---- Tracks (5.1.4)

-- whether pictures are interlaced (5.1.4.1.28.1), and which of their fields comes first, if both
-- are in one frame (5.1.4.1.28.2); an unknown structure says nothing
abbrev pub interlaced_of : ℕ → ℕ
interlaced_of structure =
    if structure == 3 then 2 else if structure == 1 || structure == 2 then 1 else 0

unfoldable pub order_element : ℕ → List ℕ
order_element structure =
    if structure == 1 then number_element field_order 1 9
    else if structure == 2 then number_element field_order 1 14
    else []

-- the shape of a picture if the aspect of a sample is known, as a ratio (5.1.4.1.28.12 to
-- 5.1.4.1.28.14)
unfoldable pub display : Head → TrackEntry → List ℕ
display head details =
    if details.sar_num == 0 || details.sar_den == 0 then []
    else number_element display_width 8 (head.width * details.sar_num)
    ++ number_element display_height 8 (head.height * details.sar_den)
    ++ number_element display_unit 1 3

-- a number of colours that is said; its default says nothing
abbrev pub said_field : ℕ → ℕ → ℕ → List ℕ
said_field ident default value =
    if value == default then [] else number_element ident 1 value

-- those that are said, in the order of their IDs (5.1.4.1.28.17, 5.1.4.1.28.23 to 5.1.4.1.28.27)
unfoldable pub colour_content : Colour → List ℕ
colour_content c =
    said_field matrix_coefficients 2 c.matrix ++ said_field chroma_siting_horz 0 c.siting_across
    ++ said_field chroma_siting_vert 0 c.siting_down ++ said_field range 0 c.range
    ++ said_field transfer_characteristics 2 c.transfer ++ said_field primaries 2 c.primaries

-- what is said of colours, if anything is (5.1.4.1.28.16)
unfoldable pub colour_element : Colour → List ℕ
colour_element c =
    if length (colour_content c) == 0 then [] else short_element colour (colour_content c)

unfoldable pub video_content : Head → TrackEntry → List ℕ
video_content head details =
    number_element pixel_width 4 head.width ++ number_element pixel_height 4 head.height
    ++ number_element flag_interlaced 1 (interlaced_of details.structure)
    ++ order_element details.structure ++ display head details ++ colour_element head.colour

unfoldable pub duration_field : Head → List ℕ
duration_field head =
    if frame_duration head == 0 then []
    else number_element default_duration 8 (frame_duration head)

-- what the one track is, before its configuration record
-- the codec ID (RFC 9559, 8)
abbrev pub codec_name : CodecId → List ℕ
codec_name codec.Native = codes "V_FFV1"
codec_name codec.Vfw = codes "V_MS/VFW/FOURCC"

-- what stands in CodecPrivate before the configuration record: of Video for Windows its format,
-- whose size is that of the header and the record together, and whose pictures have three bytes a
-- sample
abbrev pub private_front : CodecId → Head → List ℕ
private_front codec.Native head = []
private_front codec.Vfw head =
    flat_map (λ (field : List ℕ). field)
    (bitmap_header (40 + length head.config_record) head.width head.height
    (head.width * head.height * 3))

-- and after it: there a byte if the record has an odd number of them
abbrev pub private_end : CodecId → Head → List ℕ
private_end codec.Native head = []
private_end codec.Vfw head = replicate (length head.config_record % 2) 0

abbrev pub private_content : CodecId → Head → List ℕ
private_content id head =
    private_front id head ++ (head.config_record ++ private_end id head)

unfoldable pub entry_fields : Head → TrackEntry → List ℕ
entry_fields head details =
    number_element track_number 1 1 ++ number_element track_uid 1 1
    ++ number_element track_type 1 1 ++ number_element flag_lacing 1 0
    ++ short_element language (codes "und") ++ short_element codec_id (codec_name details.codec_id)
    ++ duration_field head ++ short_element video (video_content head details)

unfoldable pub entry_element : Head → TrackEntry → List ℕ
entry_element head details =
    long_element entry
    (entry_fields head details
    ++ long_element codec_private (private_content details.codec_id head))

unfoldable pub tracks_element : Head → TrackEntry → List ℕ
tracks_element head details = long_element tracks (checked (entry_element head details))

-- ---- Clusters (5.1.3)

-- of the track 1, at the Cluster's own time, a key frame (10.2)
abbrev pub block_header : List ℕ
block_header = 0x81 ∷ 0x00 ∷ 0x00 ∷ 0x80 ∷ []

unfoldable pub cluster_content : ℕ → List ℕ → List ℕ
cluster_content number frame =
    number_element timestamp 8 number ++ long_element simple_block (block_header ++ frame)

-- of the frame that has so many before it
unfoldable pub cluster_element : ℕ → List ℕ → List ℕ
cluster_element number frame = long_element cluster (checked (cluster_content number frame))

-- of frames in turn, the first of which has so many before it
unfoldable pub clusters_from : ℕ → List (List ℕ) → List ℕ
clusters_from number [] = []
clusters_from number (frame ∷ frames) =
    cluster_element number frame ++ clusters_from (suc number) frames

-- ---- Cues (5.1.5)

-- where the Cluster of a frame begins
unfoldable pub cue_element : ℕ → ℕ → List ℕ
cue_element number place =
    short_element cue_point
    (number_element cue_time 8 number
    ++ short_element cue_track_positions
    (number_element cue_track 1 1 ++ number_element cue_cluster_position 8 place))

-- of every stride-th frame, from this one on
unfoldable pub cues_from : ℕ → ℕ → List ℕ → List ℕ
cues_from number stride [] = []
cues_from number stride (place ∷ places) =
    cue_element number place ++ cues_from (number + stride) stride places

unfoldable pub cues_element : ℕ → List ℕ → List ℕ
cues_element stride places = long_element cues (checked (cues_from 0 stride places))

-- ---- the file

-- where the first Cluster begins
abbrev pub first_place : Head → TrackEntry → ℕ
first_place head details = tracks_place + length (tracks_element head details)

-- where the last Cluster ends
abbrev pub end_place : Head → TrackEntry → List (List ℕ) → ℕ
end_place head details frames = first_place head details + length (clusters_from 0 frames)

-- where the Clusters of every stride-th frame begin
abbrev pub cue_places : Head → TrackEntry → List (List ℕ) → List ℕ
cue_places head details frames =
    every (stride_of (length frames)) (places_from (first_place head details) frames)

-- the Cues of all frames
abbrev pub cues_of : Head → TrackEntry → List (List ℕ) → List ℕ
cues_of head details frames =
    cues_element (stride_of (length frames)) (cue_places head details frames)

-- what is known once all is written
abbrev pub finish_of : Head → TrackEntry → List (List ℕ) → Finish
finish_of head details frames = record {
  size = end_place head details frames + length (cues_of head details frames);
  cues = end_place head details frames;
  count = length frames;
}

-- up to the last Cluster
abbrev pub to_clusters : Option Finish → Head → TrackEntry → List (List ℕ) → List ℕ
to_clusters finish head details frames =
    opening head finish ++ tracks_element head details ++ clusters_from 0 frames

-- a file that is being written: nothing, until there is a frame
abbrev pub begun_of : Head → TrackEntry → List (List ℕ) → List ℕ
begun_of head details [] = []
begun_of head details (frame ∷ frames) = to_clusters None head details (frame ∷ frames)

-- all frames and their Cues, of a file that can't be written over
abbrev pub open_of : Head → TrackEntry → List (List ℕ) → List ℕ
open_of head details frames = to_clusters None head details frames ++ cues_of head details frames

-- the whole file
abbrev pub finished_of : Head → TrackEntry → List (List ℕ) → List ℕ
finished_of head details frames =
    to_clusters (Some (finish_of head details frames)) head details frames
    ++ cues_of head details frames

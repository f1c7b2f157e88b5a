-- How long the elements of a written file are.
use Rattle.std.proofs.Common.{◌≡◌, ◌≤◌, ◌+◌, ◌*◌, ◌++◌, ℕ, List, [], ◌∷◌, length, refl, arith, length-append}
use Rattle.ffv1_ebml.specs.Spelled.{ident_length, number_element}
use Rattle.ffv1_reads.specs.Head.{Head}
use Rattle.ffv1_matroska.specs.Opened.{tracks}
use Rattle.ffv1_matroska.specs.Segments.{cluster, simple_block}
use Rattle.ffv1_matroska.specs.Tracks.{codec_private, entry}
use Rattle.ffv1_matroska.specs.Written.{block_header, checked, cluster_content, cluster_element, crc_element, cue_element, cues_element, cues_from, entry_element, entry_fields, long_element, private_content, private_end, private_front, tracks_element}
use Rattle.ffv1_matroska.specs.WrittenIdents.{cues, timestamp}
use Rattle.ffv1_matroska.specs.declared.track_entry.CodecId.{CodecId}
use Rattle.ffv1_matroska.specs.declared.track_entry.TrackEntry.{TrackEntry}
use Rattle.ffv1_matroska.proofs.SpelledLengths.{long_long, number_long}

pub crc_long : (content : List ℕ) → length (crc_element content) ≡ 6
unfolding crc_element ident_length
crc_long content = refl

pub checked_long : (content : List ℕ) → length (checked content) ≡ 6 + length content
checked_long content = omega (arith, length-append (crc_element content) content, crc_long content)

-- an element of four bytes of ID, eight of size and a CRC-32
four : (ident : ℕ) → ident_length ident ≡ 4 → (content : List ℕ) → length (long_element ident (checked content)) ≡ 18 + length content
four ident is content = omega (arith, long_long ident (checked content), checked_long content, is)

tracks_four : ident_length tracks ≡ 4
unfolding ident_length
tracks_four = refl

cluster_four : ident_length cluster ≡ 4
unfolding ident_length
cluster_four = refl

cues_four : ident_length cues ≡ 4
unfolding ident_length
cues_four = refl

entry_one : ident_length entry ≡ 1
unfolding ident_length
entry_one = refl

private_two : ident_length codec_private ≡ 2
unfolding ident_length
private_two = refl

timestamp_one : ident_length timestamp ≡ 1
unfolding ident_length
timestamp_one = refl

block_one : ident_length simple_block ≡ 1
unfolding ident_length
block_one = refl

-- Tracks
pub tracks_long : (head : Head) (details : TrackEntry) → length (tracks_element head details) ≡ 37 + length (entry_fields head details) + length (private_content details.codec_id head)
unfolding tracks_element entry_element
tracks_long head details =
    let held = private_content details.codec_id head in
    let config = long_element codec_private held in
    let inner = entry_fields head details ++ config in
    let a = long_long codec_private held in
    let b = length-append (entry_fields head details) config in
    let c = long_long entry inner in
    omega (arith, a, b, c, four tracks tracks_four (long_element entry inner), entry_one, private_two)

-- the record stands in CodecPrivate
pub record_within : (id : CodecId) (head : Head) → length head.config_record ≤ length (private_content id head)
record_within id head = omega (arith, length-append (private_front id head) (head.config_record ++ private_end id head), length-append head.config_record (private_end id head))

-- a Cluster
pub cluster_long : (number : ℕ) (frame : List ℕ) → length (cluster_element number frame) ≡ 41 + length frame
unfolding cluster_element cluster_content
cluster_long number frame =
    let block = long_element simple_block (block_header ++ frame) in
    let a = long_long simple_block (block_header ++ frame) in
    let b = length-append (number_element timestamp 8 number) block in
    let c = number_long timestamp 8 number in
    let d : length (block_header ++ frame) ≡ 4 + length frame = length-append block_header frame in
    omega (arith, a, b, c, d, four cluster cluster_four (cluster_content number frame), timestamp_one, block_one)

-- a cue, and Cues
pub cue_long : (number place : ℕ) → length (cue_element number place) ≡ 27
unfolding cue_element ident_length
cue_long number place = refl

pub cues_from_long : (number stride : ℕ) (places : List ℕ) → length (cues_from number stride places) ≡ 27 * length places
unfolding cues_from
cues_from_long number stride [] = refl
cues_from_long number stride (place ∷ places) =
    let more = cues_from_long (number + stride) stride places in
    omega (arith, length-append (cue_element number place) (cues_from (number + stride) stride places), cue_long number place, more)

pub cues_long : (stride : ℕ) (places : List ℕ) → length (cues_element stride places) ≡ 18 + 27 * length places
unfolding cues_element
cues_long stride places = omega (arith, four cues cues_four (cues_from 0 stride places), cues_from_long 0 stride places)

-- What is written are bytes, if the record and the frames are.
use Rattle.std.specs.Prelude.{All}
use Rattle.std.proofs.Common.{◌%◌, codes, ◌≡◌, ◌≤◌, ◌<◌, ◌+◌, ◌-◌, ◌*◌, ◌^◌, ◌++◌, ◌&&◌, ◌||◌, ◌==◌, ℕ, suc, zero, List, [], ◌∷◌, Bool, true, false, cond, nat_lt, inl, inr, length-append, Option, Some, None, length, get_or, codes, refl, ap, arith}
use Rattle.std.specs.Prelude.{replicate}
use Rattle.std.proofs.lemmas.Bool.{cases_eq, ltb-true, ne_eqb}
use Rattle.std.proofs.lemmas.List.Elements.{All-append}
use Rattle.std.specs.Int.{byte_at, bytes_high_first, bytes_low_first}
use Rattle.ffv1_reads.specs.Head.{Head}
use Rattle.ffv1_reads.specs.declared.colour.Colour.{Colour}
use Rattle.ffv1_ebml.specs.Spelled.{ident_bytes, ident_length, long, number_element, short}
use Rattle.ffv1_matroska.specs.declared.track_entry.CodecId.{CodecId}
use Rattle.ffv1_matroska.specs.declared.track_entry.CodecId.TheVariants as codec
use Rattle.ffv1_matroska.specs.Colours.{chroma_siting_horz, chroma_siting_vert, colour, matrix_coefficients, primaries, range, transfer_characteristics}
use Rattle.ffv1_matroska.specs.Opened.{tracks}
use Rattle.ffv1_matroska.specs.Tracks.{codec_id, codec_private, default_duration, entry, pixel_height, pixel_width, track_number, track_type, video}
use Rattle.ffv1_matroska.specs.Segments.{simple_block}
use Rattle.ffv1_matroska.specs.Written.{block_header, cluster_content, colour_content, colour_element, cue_element, cues_from, display, double, duration_field, entry_element, entry_fields, frame_duration, info_content, info_place, interlaced_of, long_element, order_element, said_field, seek_element, seeks, short_element, tick_of, tracks_place, video_content, void_element, writer_name, codec_name, private_content, private_end, private_front}
use Rattle.ffv1_matroska.specs.WrittenIdents.{cue_cluster_position, cue_point, cue_time, cue_track, cue_track_positions, cues, display_height, display_unit, display_width, duration, field_order, flag_interlaced, flag_lacing, info, language, muxing_app, seek, seek_id, seek_position, timestamp, timestamp_scale, track_uid, void, writing_app}
use Rattle.ffv1_matroska.proofs.SpelledLengths.{ident_most, number_long, short_long}
use Rattle.ffv1_matroska.specs.declared.track_entry.TrackEntry.{TrackEntry}
use Rattle.ffv1_matroska.specs.declared.write.opening.Finish.{Finish}

-- each is below 256
abbrev pub AreBytes : List ℕ → Type 0
AreBytes xs = All (λ b. b < 256) xs

none_are : AreBytes []
none_are = λ k d inside. absurd (omega (arith, inside))

one_more : (b : ℕ) (bs : List ℕ) → b < 256 → AreBytes bs → AreBytes (b ∷ bs)
one_more b bs h all = λ k d inside. by_place k d inside
  where
    by_place : (k d : ℕ) → k < length (b ∷ bs) → get_or (b ∷ bs) k d < 256
    by_place zero d inside = h
    by_place (suc k) d inside = all k d (omega (arith, inside))

both : (xs ys : List ℕ) → AreBytes xs → AreBytes ys → AreBytes (xs ++ ys)
both xs ys p q = All-append (λ b. b < 256) xs ys p q

-- a literal
abbrev are_low : List ℕ → Bool
are_low [] = true
are_low (b ∷ bs) = nat_lt b 256 && are_low bs

low_first : (b : ℕ) (bs : List ℕ) (p : Bool) → nat_lt b 256 ≡ p → (p && are_low bs) ≡ true → (are_low bs ≡ true → AreBytes bs) → AreBytes (b ∷ bs)
low_first b bs true e t more = one_more b bs (ltb-true b 256 e) (more t)
low_first b bs false e t more = absurd (cc)

by_test : (bs : List ℕ) → are_low bs ≡ true → AreBytes bs
by_test [] t = none_are
by_test (b ∷ bs) t = low_first b bs (nat_lt b 256) refl t (by_test bs)

byte_low : (i n : ℕ) → byte_at i n < 256
byte_low zero n = omega arith
byte_low (suc i) n = omega arith

high_are : (k n : ℕ) → AreBytes (bytes_high_first k n)
high_are zero n = none_are
high_are (suc k) n = one_more (byte_at k n) (bytes_high_first k n) (byte_low k n) (high_are k n)

short_are : (n : ℕ) → n < 128 → AreBytes (short n)
short_are n few = one_more (128 + n) [] (omega (arith, few)) none_are

long_are : (n : ℕ) → AreBytes (long n)
unfolding long
long_are n = high_are 8 (2 ^ 56 + n)

in_short : (ident : ℕ) (content : List ℕ) → length content < 128 → AreBytes content → AreBytes (short_element ident content)
in_short ident content few all = both (ident_bytes ident ++ short (length content)) content (both (ident_bytes ident) (short (length content)) (high_are (ident_length ident) ident) (short_are (length content) few)) all

in_long : (ident : ℕ) (content : List ℕ) → AreBytes content → AreBytes (long_element ident content)
in_long ident content all = both (ident_bytes ident ++ long (length content)) content (both (ident_bytes ident) (long (length content)) (high_are (ident_length ident) ident) (long_are (length content))) all

number_are : (ident width number : ℕ) → width < 128 → AreBytes (number_element ident width number)
number_are ident width number few = both (ident_bytes ident ++ short width) (bytes_high_first width number) (both (ident_bytes ident) (short width) (high_are (ident_length ident) ident) (short_are width few)) (high_are width number)

eight : (ident number : ℕ) → AreBytes (number_element ident 8 number)
eight ident number = number_are ident 8 number (omega arith)

one : (ident number : ℕ) → AreBytes (number_element ident 1 number)
one ident number = number_are ident 1 number (omega arith)

zeros_are : (n : ℕ) → AreBytes (replicate n 0)
zeros_are zero = none_are
zeros_are (suc n) = one_more 0 (replicate n 0) (omega arith) (zeros_are n)

void_are : (n : ℕ) → n < 128 → AreBytes (void_element n)
unfolding void_element
void_are n few = in_short void (replicate (n - 2) 0) (omega (arith, long_zeros (n - 2), few)) (zeros_are (n - 2))
  where
    long_zeros : (n : ℕ) → length (replicate {A = ℕ} n 0) ≡ n
    long_zeros zero = refl
    long_zeros (suc n) = ap suc (long_zeros n)

seek_are : (ident place : ℕ) → AreBytes (seek_element ident place)
unfolding seek_element ident_length
seek_are ident place =
    let inner = number_element seek_id 4 ident ++ number_element seek_position 8 place in
    let few : length inner ≡ 18 = refl in
    in_short seek inner (omega (arith, few)) (both (number_element seek_id 4 ident) (number_element seek_position 8 place) (number_are seek_id 4 ident (omega arith)) (eight seek_position place))

pub seeks_are : (finish : Option Finish) → AreBytes (seeks finish)
unfolding seeks
seeks_are None = both _ (void_element 21) (both _ _ (seek_are info info_place) (seek_are tracks tracks_place)) (void_are 21 (omega arith))
seeks_are (Some f) = both _ (seek_element cues f.cues) (both _ _ (seek_are info info_place) (seek_are tracks tracks_place)) (seek_are cues f.cues)

name_are : (ident : ℕ) → AreBytes (short_element ident writer_name)
name_are ident = in_short ident writer_name (omega arith) (by_test writer_name refl)

pub info_are : (head : Head) (finish : Option Finish) → AreBytes (info_content head finish)
unfolding info_content
info_are head None = both _ _ (both _ _ (both _ _ (eight timestamp_scale (tick_of head)) (void_are 11 (omega arith))) (name_are muxing_app)) (name_are writing_app)
info_are head (Some f) = both _ _ (both _ _ (both _ _ (eight timestamp_scale (tick_of head)) (eight duration (double f.count))) (name_are muxing_app)) (name_are writing_app)

-- Tracks
order_are : (structure : ℕ) → AreBytes (order_element structure)
unfolding order_element
order_are structure = elim (cases_eq structure 1) [
  | inl first ↦ rw first (one field_order 9)
  | inr other ↦ elim (cases_eq structure 2) [
    | inl second ↦ rw second (one field_order 14)
    | inr neither ↦ rw (ne_eqb structure 1 other, ne_eqb structure 2 neither) none_are
  ]
]

-- at most so many bytes hold a number
number_most : (ident width number : ℕ) → length (number_element ident width number) ≤ 5 + width
number_most ident width number = let most = ident_most ident in omega (arith, number_long ident width number, most)

order_most : (structure : ℕ) → length (order_element structure) ≤ 6
unfolding order_element
order_most structure = elim (cases_eq structure 1) [
  | inl first ↦ rw first (number_most field_order 1 9)
  | inr other ↦ elim (cases_eq structure 2) [
    | inl second ↦ rw second (number_most field_order 1 14)
    | inr neither ↦ rw (ne_eqb structure 1 other, ne_eqb structure 2 neither) (omega arith)
  ]
]

-- what is shown, by whether the aspect is known
record ShownBytes (xs : List ℕ) : Type 0 where
  few : length xs ≤ 39
  are : AreBytes xs

shown_by : (p : Bool) (a b : ℕ) → ShownBytes (cond p [] (number_element display_width 8 a ++ number_element display_height 8 b ++ number_element display_unit 1 3))
shown_by true a b = record { few = omega arith; are = none_are }
shown_by false a b =
    let x = number_element display_width 8 a in
    let y = number_element display_height 8 b in
    let z = number_element display_unit 1 3 in
    record {
      few = omega (arith, length-append (x ++ y) z, length-append x y, number_most display_width 8 a, number_most display_height 8 b, number_most display_unit 1 3);
      are = both (x ++ y) z (both x y (eight display_width a) (eight display_height b)) (one display_unit 3);
    }

display_is : (head : Head) (details : TrackEntry) → ShownBytes (display head details)
unfolding display
display_is head details = shown_by (details.sar_num == 0 || details.sar_den == 0) (head.width * details.sar_num) (head.height * details.sar_den)

-- what is said of colours
said_by : (p : Bool) (ident value : ℕ) → (length (cond p [] (number_element ident 1 value)) ≤ 6) × AreBytes (cond p [] (number_element ident 1 value))
said_by true ident value = (omega arith, none_are)
said_by false ident value = (number_most ident 1 value, one ident value)

said_is : (ident default value : ℕ) → (length (said_field ident default value) ≤ 6) × AreBytes (said_field ident default value)
said_is ident default value = said_by (value == default) ident value

colours_are : (c : Colour) → (length (colour_content c) ≤ 36) × AreBytes (colour_content c)
unfolding colour_content
colours_are c =
    let a = said_is matrix_coefficients 2 c.matrix in
    let b = said_is chroma_siting_horz 0 c.siting_across in
    let d = said_is chroma_siting_vert 0 c.siting_down in
    let e = said_is range 0 c.range in
    let f = said_is transfer_characteristics 2 c.transfer in
    let g = said_is primaries 2 c.primaries in
    let two = joined _ _ 6 6 a b in
    let three = joined _ _ 12 6 two d in
    let four = joined _ _ 18 6 three e in
    let five = joined _ _ 24 6 four f in
    joined _ _ 30 6 five g
  where
    joined : (xs ys : List ℕ) (m n : ℕ) → (length xs ≤ m) × AreBytes xs → (length ys ≤ n) × AreBytes ys → (length (xs ++ ys) ≤ m + n) × AreBytes (xs ++ ys)
    joined xs ys m n p q = (omega (arith, length-append xs ys, p.0, q.0), both xs ys p.1 q.1)

pub colours_few : (c : Colour) → length (colour_content c) ≤ 36
colours_few c = (colours_are c).0

colour_by : (p : Bool) (content : List ℕ) → length content ≤ 36 → AreBytes content → (length (cond p [] (short_element colour content)) ≤ 41) × AreBytes (cond p [] (short_element colour content))
colour_by true content few are = (omega arith, none_are)
colour_by false content few are =
    let most = ident_most colour in
    (omega (arith, short_long colour content, most, few), in_short colour content (omega (arith, few)) are)

colour_is : (c : Colour) → (length (colour_element c) ≤ 41) × AreBytes (colour_element c)
unfolding colour_element
colour_is c = let are = colours_are c in colour_by (length (colour_content c) == 0) (colour_content c) are.0 are.1

video_is : (head : Head) (details : TrackEntry) → (length (video_content head details) < 126) × AreBytes (video_content head details)
unfolding video_content
video_is head details =
    let a = number_element pixel_width 4 head.width in
    let b = number_element pixel_height 4 head.height in
    let c = number_element flag_interlaced 1 (interlaced_of details.structure) in
    let d = order_element details.structure in
    let e = display head details in
    let f = colour_element head.colour in
    let shows = display_is head details in
    let colours = colour_is head.colour in
    let few = shows.few in (
      omega (arith, length-append ((((a ++ b) ++ c) ++ d) ++ e) f, length-append (((a ++ b) ++ c) ++ d) e, length-append ((a ++ b) ++ c) d, length-append (a ++ b) c, length-append a b, number_most pixel_width 4 head.width, number_most pixel_height 4 head.height, number_most flag_interlaced 1 (interlaced_of details.structure), order_most details.structure, few, colours.0),
      both ((((a ++ b) ++ c) ++ d) ++ e) f (both (((a ++ b) ++ c) ++ d) e (both ((a ++ b) ++ c) d (both (a ++ b) c (both a b (number_are pixel_width 4 head.width (omega arith)) (number_are pixel_height 4 head.height (omega arith))) (one flag_interlaced (interlaced_of details.structure))) (order_are details.structure)) shows.are) colours.1,
    )

pub video_few : (head : Head) (details : TrackEntry) → length (video_content head details) < 126
video_few head details = (video_is head details).0

duration_by : (p : Bool) (n : ℕ) → AreBytes (cond p [] (number_element default_duration 8 n))
duration_by true n = none_are
duration_by false n = eight default_duration n

field_are : (head : Head) → AreBytes (duration_field head)
unfolding duration_field
field_are head = duration_by (frame_duration head == 0) (frame_duration head)

named_are : (id : CodecId) → AreBytes (short_element codec_id (codec_name id))
named_are codec.Native = in_short codec_id (codes "V_FFV1") (omega arith) (by_test (codes "V_FFV1") refl)
named_are codec.Vfw = in_short codec_id (codes "V_MS/VFW/FOURCC") (omega arith) (by_test (codes "V_MS/VFW/FOURCC") refl)

low_are : (n : ℕ) → AreBytes (bytes_low_first 0 4 n)
low_are n = one_more (byte_at 0 n) (byte_at 1 n ∷ byte_at 2 n ∷ byte_at 3 n ∷ []) (byte_low 0 n) (one_more (byte_at 1 n) (byte_at 2 n ∷ byte_at 3 n ∷ []) (byte_low 1 n) (one_more (byte_at 2 n) (byte_at 3 n ∷ []) (byte_low 2 n) (one_more (byte_at 3 n) [] (byte_low 3 n) none_are)))

front_are : (id : CodecId) (head : Head) → AreBytes (private_front id head)
front_are codec.Native head = none_are
front_are codec.Vfw head =
    let image = head.width * head.height * 3 in
    let e = bytes_low_first 0 4 image ++ replicate 16 0 in
    let d = (1 ∷ 0 ∷ 24 ∷ 0 ∷ codes "FFV1") ++ e in
    let c = bytes_low_first 0 4 head.height ++ d in
    let b = bytes_low_first 0 4 head.width ++ c in
    both (bytes_low_first 0 4 (40 + length head.config_record)) b (low_are (40 + length head.config_record))
    (both (bytes_low_first 0 4 head.width) c (low_are head.width)
    (both (bytes_low_first 0 4 head.height) d (low_are head.height)
    (both (1 ∷ 0 ∷ 24 ∷ 0 ∷ codes "FFV1") e (by_test (1 ∷ 0 ∷ 24 ∷ 0 ∷ codes "FFV1") refl)
    (both (bytes_low_first 0 4 image) (replicate 16 0) (low_are image) (by_test (replicate 16 0) refl)))))

end_are : (id : CodecId) (head : Head) → AreBytes (private_end id head)
end_are codec.Native head = none_are
end_are codec.Vfw head = zeros_are (length head.config_record % 2)
  where
    zeros_are : (n : ℕ) → AreBytes (replicate n 0)
    zeros_are zero = none_are
    zeros_are (suc n) = one_more 0 (replicate n 0) (omega arith) (zeros_are n)

private_are : (id : CodecId) (head : Head) → AreBytes head.config_record → AreBytes (private_content id head)
private_are id head all = both (private_front id head) (head.config_record ++ private_end id head) (front_are id head) (both head.config_record (private_end id head) all (end_are id head))

fields_are : (head : Head) (details : TrackEntry) → AreBytes (entry_fields head details)
unfolding entry_fields
fields_are head details =
    let video_all = video_is head details in
    both _ _ (both _ _ (both _ _ (both _ _ (both _ _ (both _ _ (both _ _ (one track_number 1) (one track_uid 1)) (one track_type 1)) (one flag_lacing 0))
    (in_short language (codes "und") (omega arith) (by_test (codes "und") refl))) (named_are details.codec_id)) (field_are head))
    (in_short video (video_content head details) (let few = video_all.0 in omega (arith, few)) video_all.1)

pub entry_are : (head : Head) (details : TrackEntry) → AreBytes head.config_record → AreBytes (entry_element head details)
unfolding entry_element
entry_are head details all = in_long entry _ (both (entry_fields head details) (long_element codec_private (private_content details.codec_id head)) (fields_are head details) (in_long codec_private (private_content details.codec_id head) (private_are details.codec_id head all)))

pub cluster_are : (number : ℕ) (frame : List ℕ) → AreBytes frame → AreBytes (cluster_content number frame)
unfolding cluster_content
cluster_are number frame all = both (number_element timestamp 8 number) (long_element simple_block (block_header ++ frame)) (eight timestamp number) (in_long simple_block (block_header ++ frame) (both block_header frame (by_test block_header refl) all))

cue_are : (number place : ℕ) → AreBytes (cue_element number place)
unfolding cue_element ident_length
cue_are number place =
    let inner = number_element cue_track 1 1 ++ number_element cue_cluster_position 8 place in
    let track_positions = short_element cue_track_positions inner in
    let content = number_element cue_time 8 number ++ track_positions in
    let few : length inner ≡ 13 = refl in
    let some : length content ≡ 25 = refl in
    in_short cue_point content (omega (arith, some)) (both (number_element cue_time 8 number) track_positions (eight cue_time number)
    (in_short cue_track_positions inner (omega (arith, few)) (both (number_element cue_track 1 1) (number_element cue_cluster_position 8 place) (one cue_track 1) (eight cue_cluster_position place))))

pub cues_are : (number stride : ℕ) (places : List ℕ) → AreBytes (cues_from number stride places)
unfolding cues_from
cues_are number stride [] = none_are
cues_are number stride (place ∷ places) = both (cue_element number place) (cues_from (number + stride) stride places) (cue_are number place) (cues_are (number + stride) stride places)

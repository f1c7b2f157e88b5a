-- Tracks that are written say their track.
use Rattle.std.proofs.Common.{◌%◌, Bool, true, false, nat_le, nat_lt, take, drop, ◌≡◌, ◌<◌, ◌+◌, ◌-◌, ◌*◌, ◌^◌, ◌∙◌, ◌++◌, ℕ, List, [], ◌∷◌, Some, None, Ok, codes, length, min, refl, sym, ap, arith, inl, inr, append_assoc, append-nil, length-append}
use Rattle.std.proofs.Math.Nat.{div-le_self, min-eq_left}
use Rattle.std.proofs.lemmas.List.{length-replicate}
use Rattle.std.proofs.lemmas.Bool.{cases_eq, ne_eqb, le-leb, ltb-false}
use Rattle.std.specs.Int.{bytes_high_first, bytes_low_first}
use Rattle.ffv1_sum.specs.Sum.{crc_of}
use Rattle.ffv1_reads.specs.Colour.{IsColour}
use Rattle.ffv1_reads.specs.Head.{Head}
use Rattle.ffv1_ebml.specs.Contents.{first_part, found}
use Rattle.ffv1_ebml.specs.Elements.{crc_ident}
use Rattle.ffv1_ebml.specs.Spelled.{long, number_element, short}
use Rattle.ffv1_ebml.specs.Vints.{number_of}
use Rattle.ffv1_ebml.proofs.ElementLaws.{found_first, found_past, part_less, part_spelled}
use Rattle.ffv1_ebml.proofs.SpelledLaws.{long_spelled, number_high, short_spelled}
use Rattle.ffv1_reads.specs.Bitmap.{record_end}
use Rattle.byteorder.specs.Endian.{little_number}
use Rattle.byteorder.specs.Numbers.{little_number-reads_back}
use Rattle.ffv1_matroska.specs.declared.track_entry.CodecId.{CodecId}
use Rattle.ffv1_matroska.specs.declared.track_entry.CodecId.TheVariants as codec
use Rattle.ffv1_matroska.specs.Colours.{colour_in}
use Rattle.ffv1_matroska.specs.Rates.{IsTimed, Rate, greatest, rate_of, second}
use Rattle.ffv1_matroska.specs.Blocks.{is_unknown}
use Rattle.ffv1_matroska.proofs.WrittenClusters.{written_numbers}
use Rattle.ffv1_reads.specs.Bitmap.{is_ffv1}
use Rattle.ffv1_matroska.specs.Tracks.{Track, known_in, known_with, others_in, track_among, videos_up_to, videos_with, with_number, codec_id, codec_private, content_encodings, default_duration, entry, number_at, pixel_height, pixel_width, record_in, track_at, track_in, track_number, track_of, track_type, track_up_to, video, format_record, is_format}
use Rattle.ffv1_matroska.specs.WrittenIdents.{flag_lacing, language, track_uid}
use Rattle.ffv1_matroska.specs.Written.{checked, crc_element, duration_field, entry_element, entry_fields, frame_duration, long_element, short_element, video_content, codec_name, private_content, private_end, private_front}
use Rattle.ffv1_matroska.specs.Writers.{rate_in}
use Rattle.ffv1_matroska.specs.declared.track_entry.TrackEntry.{TrackEntry}
use Rattle.ffv1_matroska.proofs.FieldsFound.{AreFields, Field, fields_text, found_in, long_field, number_field, number_is, short_field, short_is}
use Rattle.ffv1_matroska.proofs.SpelledLengths.{long_long}
use Rattle.ffv1_matroska.proofs.TrackWalks.{first_found, judged, known_end, known_next, track_here, track_next, videos_end, videos_next}
use Rattle.ffv1_matroska.proofs.WrittenBytes.{AreBytes, entry_are, video_few}
use Rattle.ffv1_matroska.proofs.VideoParts.{beside_size, video_colour, video_parts}
use Rattle.ffv1_matroska.proofs.WrittenChecks.{checked_told, crc_is_ident}

-- a number that is found
number_found : (ident width number : ℕ) (content : List ℕ) → width ≡ 4 → number < 2 ^ 32 → found ident content ≡ Ok (Some (bytes_high_first width number)) → number_at ident content ≡ Ok number
number_found ident width number content four fits is =
    let low : number_of (bytes_high_first 4 number) ≡ number = number_high 4 number ∙ (omega (arith, fits)) in
    rw (is, four) (ap (λ k. Ok k) low)

-- what Video says
size_found : (head : Head) (details : TrackEntry) → head.width < 2 ^ 32 → head.height < 2 ^ 32 → (number_at pixel_width (video_content head details) ≡ Ok head.width) × (number_at pixel_height (video_content head details) ≡ Ok head.height)
size_found head details wide high =
    let rest = beside_size head details in
    let after = number_element pixel_height 4 head.height ++ rest in
    let all = video_parts head details in
    let first : found pixel_width (video_content head details) ≡ Ok (Some (bytes_high_first 4 head.width)) = ap (found pixel_width) all ∙ found_first pixel_width (short 4) (bytes_high_first 4 head.width) after (inl (omega arith, omega arith)) (short_spelled 4 (omega arith)) in
    let past : found pixel_height (number_element pixel_width 4 head.width ++ after) ≡ found pixel_height after = found_past pixel_height pixel_width (short 4) (bytes_high_first 4 head.width) after (inl (omega arith, omega arith)) (short_spelled 4 (omega arith)) (λ same. omega (arith, same)) in
    let next : found pixel_height (video_content head details) ≡ Ok (Some (bytes_high_first 4 head.height)) = ap (found pixel_height) all ∙ past ∙ found_first pixel_height (short 4) (bytes_high_first 4 head.height) rest (inl (omega arith, omega arith)) (short_spelled 4 (omega arith)) in
    (number_found pixel_width 4 head.width _ refl wide first, number_found pixel_height 4 head.height _ refl high next)

-- the fields of an entry, where those of its duration are these
abbrev entry_list : CodecId → List Field → List ℕ → List ℕ → List Field
entry_list id duration picture config =
    number_field track_number 1 1 ∷ number_field track_uid 1 1 ∷ number_field track_type 1 1 ∷ number_field flag_lacing 1 0
    ∷ short_field language (codes "und") ∷ short_field codec_id (codec_name id) ∷ (duration ++ (short_field video picture ∷ long_field codec_private config ∷ []))

-- what is found in them
record Says (id : CodecId) (content : List ℕ) (number : ℕ) (picture config : List ℕ) : Type 0 where
  kind : found track_type content ≡ Ok (Some (1 ∷ []))
  codec : found codec_id content ≡ Ok (Some (codec_name id))
  config_is : found codec_private content ≡ Ok (Some config)
  plain : found content_encodings content ≡ Ok None
  track : found track_number content ≡ Ok (Some (1 ∷ []))
  lasts : number_at default_duration content ≡ Ok number
  picture_is : found video content ≡ Ok (Some picture)

last_are : (picture config : List ℕ) → length picture < 127 → length config < 2 ^ 56 - 1 → AreFields (short_field video picture ∷ long_field codec_private config ∷ [])
last_are picture config few short = (short_is video picture (inl (omega arith, omega arith)) few, ((inr (inl (omega arith, omega arith)), long_spelled (length config) short), tt))

-- the codec ID is short
name_few : (id : CodecId) → length (codec_name id) < 127
name_few codec.Native = omega arith
name_few codec.Vfw = omega arith

entry_list_are : (id : CodecId) (duration : List Field) (picture config : List ℕ) → AreFields (duration ++ (short_field video picture ∷ long_field codec_private config ∷ [])) → AreFields (entry_list id duration picture config)
entry_list_are id duration picture config last = (
  number_is track_number 1 1 (inl (omega arith, omega arith)) (omega arith),
  (
    number_is track_uid 1 1 (inr (inl (omega arith, omega arith))) (omega arith),
    (
      number_is track_type 1 1 (inl (omega arith, omega arith)) (omega arith),
      (
        number_is flag_lacing 1 0 (inl (omega arith, omega arith)) (omega arith),
        (
          short_is language (codes "und") (inr (inr (inl (omega arith, omega arith)))) (omega arith),
          (short_is codec_id (codec_name id) (inl (omega arith, omega arith)) (name_few id), last),
        ),
      ),
    ),
  ),
)

says_none : (id : CodecId) (picture config : List ℕ) → length picture < 127 → length config < 2 ^ 56 - 1 → Says id (fields_text (entry_list id [] picture config)) 0 picture config
says_none id picture config few short =
    let fs = entry_list id [] picture config in
    let are = entry_list_are id [] picture config (last_are picture config few short) in
    let lasts = found_in default_duration fs are in
    record {
      kind = found_in track_type fs are;
      codec = found_in codec_id fs are;
      config_is = found_in codec_private fs are;
      plain = found_in content_encodings fs are;
      track = found_in track_number fs are;
      lasts = rw lasts refl;
      picture_is = found_in video fs are;
    }

says_some : (id : CodecId) (number : ℕ) (picture config : List ℕ) → number < 2 ^ 64 → length picture < 127 → length config < 2 ^ 56 - 1 → Says id (fields_text (entry_list id (number_field default_duration 8 number ∷ []) picture config)) number picture config
says_some id number picture config fits few short =
    let one = number_field default_duration 8 number in
    let fs = entry_list id (one ∷ []) picture config in
    let are = entry_list_are id (one ∷ []) picture config (number_is default_duration 8 number (inr (inr (inl (omega arith, omega arith)))) (omega arith), last_are picture config few short) in
    let lasts = found_in default_duration fs are in
    let low : number_of (bytes_high_first 8 number) ≡ number = number_high 8 number ∙ (omega (arith, fits)) in
    record {
      kind = found_in track_type fs are;
      codec = found_in codec_id fs are;
      config_is = found_in codec_private fs are;
      plain = found_in content_encodings fs are;
      track = found_in track_number fs are;
      lasts = rw lasts (ap (λ k. Ok k) low);
      picture_is = found_in video fs are;
    }

-- the content of an entry is those fields
regrouped : (a b c d e f g h p : List ℕ) → (((((((a ++ b) ++ c) ++ d) ++ e) ++ f) ++ g) ++ h) ++ p ≡ a ++ (b ++ (c ++ (d ++ (e ++ (f ++ (g ++ (h ++ (p ++ []))))))))
regrouped a b c d e f g h p = simp (append_assoc, append-nil)

abbrev content_of_entry : Head → TrackEntry → List ℕ
content_of_entry head details = entry_fields head details ++ long_element codec_private (private_content details.codec_id head)

with_field : (head : Head) (details : TrackEntry) (field : List ℕ) → duration_field head ≡ field → content_of_entry head details ≡
    number_element track_number 1 1 ++ (number_element track_uid 1 1 ++ (number_element track_type 1 1 ++ (number_element flag_lacing 1 0 ++ (short_element language (codes "und") ++ (short_element codec_id (codec_name details.codec_id) ++ (field ++ (short_element video (video_content head details) ++ (long_element codec_private (private_content details.codec_id head) ++ []))))))))
unfolding entry_fields
with_field head details field is = rw is (regrouped (number_element track_number 1 1) (number_element track_uid 1 1) (number_element track_type 1 1) (number_element flag_lacing 1 0) (short_element language (codes "und")) (short_element codec_id (codec_name details.codec_id)) field (short_element video (video_content head details)) (long_element codec_private (private_content details.codec_id head)))

says_at : (id : CodecId) (content other : List ℕ) (number : ℕ) (picture config : List ℕ) → content ≡ other → Says id other number picture config → Says id content number picture config
says_at id content other number picture config e h = rw e h

no_field : (head : Head) → frame_duration head ≡ 0 → duration_field head ≡ []
unfolding duration_field
no_field head none = rw none refl

a_field : (head : Head) → (frame_duration head ≡ 0 → ⊥) → duration_field head ≡ number_element default_duration 8 (frame_duration head)
unfolding duration_field
a_field head some = rw (ne_eqb (frame_duration head) 0 some) refl

entry_says : (head : Head) (details : TrackEntry) → frame_duration head < 2 ^ 64 → length (private_content details.codec_id head) < 2 ^ 56 - 1 → Says details.codec_id (content_of_entry head details) (frame_duration head) (video_content head details) (private_content details.codec_id head)
entry_says head details fits short =
    let few : length (video_content head details) < 127 = let most = video_few head details in omega (arith, most) in
    elim (cases_eq (frame_duration head) 0) [
      | inl none ↦ says_at details.codec_id (content_of_entry head details) (fields_text (entry_list details.codec_id [] (video_content head details) (private_content details.codec_id head))) (frame_duration head) (video_content head details) (private_content details.codec_id head) (with_field head details [] (no_field head none)) (rw none (says_none details.codec_id (video_content head details) (private_content details.codec_id head) few short))
      | inr some ↦ says_at details.codec_id (content_of_entry head details) (fields_text (entry_list details.codec_id (number_field default_duration 8 (frame_duration head) ∷ []) (video_content head details) (private_content details.codec_id head))) (frame_duration head) (video_content head details) (private_content details.codec_id head) (with_field head details (number_element default_duration 8 (frame_duration head)) (a_field head some)) (says_some details.codec_id (frame_duration head) (video_content head details) (private_content details.codec_id head) fits few short)
    ]

-- the record comes back from CodecPrivate
front_long : (head : Head) → length (private_front codec.Vfw head) ≡ 40
front_long head = refl

end_long : (head : Head) → length (private_end codec.Vfw head) ≡ length head.config_record % 2
end_long head = length-replicate (length head.config_record % 2) 0

private_long : (head : Head) → length (private_content codec.Vfw head) ≡ 40 + (length head.config_record + length head.config_record % 2)
private_long head = omega (arith, front_long head, end_long head, length-append (private_front codec.Vfw head) (head.config_record ++ private_end codec.Vfw head), length-append head.config_record (private_end codec.Vfw head))

-- the size that stands first, of a record that is not too long
size_back : (head : Head) → length head.config_record < 2 ^ 31 → little_number 4 (private_content codec.Vfw head) ≡ 40 + length head.config_record
size_back head short = little_number-reads_back 4 (40 + length head.config_record) (drop 4 (private_content codec.Vfw head)) (omega (arith, short))

-- biSize says where the record ends, or that is the end
end_back : (says size n : ℕ) → says ≡ 40 + n → size ≡ 40 + (n + n % 2) → record_end says size ≡ 40 + n
end_back says size n s z = on_tests (nat_lt 40 says) (nat_lt says size) refl refl
  where
    on_tests : (a b : Bool) → nat_lt 40 says ≡ a → nat_lt says size ≡ b → record_end says size ≡ 40 + n
    on_tests true true p q = rw (p, q) s
    on_tests true false p q = let far = ltb-false _ _ q in rw (p, q) (omega (arith, s, z, far))
    on_tests false b p q = let far = ltb-false _ _ p in rw p (omega (arith, s, z, far))

format_back : (head : Head) → length head.config_record < 2 ^ 31 → format_record (private_content codec.Vfw head) ≡ head.config_record
format_back head few =
    let n = length head.config_record in
    let format = private_content codec.Vfw head in
    let ends : record_end (little_number 4 format) (length format) ≡ 40 + n = end_back (little_number 4 format) (length format) n (size_back head few) (private_long head) in
    let cut : 40 + n - 40 ≡ n = omega arith in
    ap (λ e. take (e - 40) (drop 40 format)) ends ∙ ap (λ m. take m (drop 40 format)) cut ∙ take_front head.config_record (private_end codec.Vfw head)
  where
    take_front : (xs ys : List ℕ) → take (length xs) (xs ++ ys) ≡ xs
    take_front [] ys = refl
    take_front (x ∷ xs) ys = ap (λ z. x ∷ z) (take_front xs ys)

is_format_back : (head : Head) → is_format (private_content codec.Vfw head) ≡ true
unfolding is_ffv1
is_format_back head =
    let room : nat_le 40 (length (private_content codec.Vfw head)) ≡ true = le-leb _ _ (omega (arith, private_long head)) in
    rw room refl

record_says : (id : CodecId) (head : Head) (content : List ℕ) (number : ℕ) (picture : List ℕ) → length head.config_record < 2 ^ 31 → Says id content number picture (private_content id head) → record_in content ≡ Ok (Some head.config_record)
unfolding record_in
record_says codec.Native head content number picture short h =
    rw (h.kind, h.codec, h.config_is) (ap (λ z. Ok (Some z)) (append-nil head.config_record))
record_says codec.Vfw head content number picture short h =
    rw (h.kind, h.codec, h.config_is, is_format_back head) (ap (λ z. Ok (Some z)) (format_back head short))

track_of_says : (id : CodecId) (content : List ℕ) (number : ℕ) (picture held config : List ℕ) (width height : ℕ) → Says id content number picture held → number_at pixel_width picture ≡ Ok width → number_at pixel_height picture ≡ Ok height →
    track_of content config ≡ Ok (record { numbers = record { number = 1; known = 0; others = 0; duration = number }; head = record { width = min width greatest; height = min height greatest; rate = (rate_of number).rate; scale = (rate_of number).scale; colour = colour_in picture; config_record = config } })
unfolding track_of
track_of_says id content number picture held config width height h wide high = rw (h.plain, h.track, h.lasts, h.picture_is, wide, high) refl

head_says : (head : Head) (picture : List ℕ) → head.width < 2 ^ 32 → head.height < 2 ^ 32 → IsTimed (rate_in head) → colour_in picture ≡ head.colour →
    ◌≡◌ {A = Head} (record { width = min head.width greatest; height = min head.height greatest; rate = (rate_of (frame_duration head)).rate; scale = (rate_of (frame_duration head)).scale; colour = colour_in picture; config_record = head.config_record }) head
head_says head picture wide high timed coloured =
    let a : min head.width greatest ≡ head.width = min-eq_left (omega (arith, wide)) in
    let b : min head.height greatest ≡ head.height = min-eq_left (omega (arith, high)) in
    let c : (rate_of (frame_duration head)).rate ≡ head.rate = ap (λ (r : Rate). r.rate) timed in
    let d : (rate_of (frame_duration head)).scale ≡ head.scale = ap (λ (r : Rate). r.scale) timed in
    rw (a, b, c, d, coloured) refl

entry_track : (head : Head) (details : TrackEntry) → head.width < 2 ^ 32 → head.height < 2 ^ 32 → IsColour head.colour → IsTimed (rate_in head) → frame_duration head < 2 ^ 64 → length (private_content details.codec_id head) < 2 ^ 56 - 1 → length head.config_record < 2 ^ 31 →
    track_at entry (content_of_entry head details) ≡ Ok (Some (record { numbers = record { number = 1; known = 0; others = 0; duration = frame_duration head }; head = head }))
unfolding track_at
entry_track head details wide high coloured timed fits short few =
    let says = entry_says head details fits short in
    let sizes = size_found head details wide high in
    let config = record_says details.codec_id head (content_of_entry head details) (frame_duration head) (video_content head details) few says in
    let track = track_of_says details.codec_id (content_of_entry head details) (frame_duration head) (video_content head details) (private_content details.codec_id head) head.config_record head.width head.height says sizes.0 sizes.1 in
    rw (config, track) (ap (λ h. Ok (Some (record { numbers = record { number = 1; known = 0; others = 0; duration = frame_duration head }; head = h }))) (head_says head (video_content head details) wide high timed (video_colour head details coloured)))

-- and its number is the only one
entry_known : (head : Head) (details : TrackEntry) → frame_duration head < 2 ^ 64 → length (private_content details.codec_id head) < 2 ^ 56 - 1 → known_with 0 entry (content_of_entry head details) ≡ Ok 2
unfolding with_number is_unknown
entry_known head details fits short =
    let says = entry_says head details fits short in
    rw says.track refl

-- and it is FFV1 video
entry_video : (head : Head) (details : TrackEntry) → frame_duration head < 2 ^ 64 → length (private_content details.codec_id head) < 2 ^ 56 - 1 → length head.config_record < 2 ^ 31 → videos_with 0 entry (content_of_entry head details) ≡ 1
entry_video head details fits short few =
    let says = entry_says head details fits short in
    let config = record_says details.codec_id head (content_of_entry head details) (frame_duration head) (video_content head details) few says in
    rw config refl

-- a duration fits in eight bytes
pub duration_fits : (head : Head) → head.rate < 2 ^ 32 → head.scale < 2 ^ 32 → frame_duration head < 2 ^ 64
duration_fits head rate scale = elim (cases_eq head.rate 0) [
  | inl none ↦ rw none (omega arith)
  | inr some ↦ rw (ne_eqb head.rate 0 some) (let less = div-le_self (2 * (second * head.scale) + head.rate) (2 * head.rate) in omega (arith, less, rate, scale))
]

-- the content of Tracks
pub track_says : (head : Head) (details : TrackEntry) → head.width < 2 ^ 32 → head.height < 2 ^ 32 → head.rate < 2 ^ 32 → head.scale < 2 ^ 32 → IsColour head.colour → IsTimed (rate_in head) → AreBytes head.config_record →
    length (content_of_entry head details) < 2 ^ 31 → track_in (checked (entry_element head details)) ≡ Ok (record { numbers = written_numbers (frame_duration head); head = head })
unfolding entry_element crc_element track_at first_part
track_says head details wide high rate scale coloured timed bytes within =
    let inner = content_of_entry head details in
    let e = entry_element head details in
    let low = bytes_low_first 0 4 (crc_of e) in
    let track : Track = record { numbers = record { number = 1; known = 0; others = 0; duration = frame_duration head }; head = head } in
    let content = checked e in
    let first = part_spelled crc_ident (short 4) low e crc_is_ident (short_spelled 4 (omega arith)) in
    let next = track_next (length content) content (record { ident = crc_ident; content = low; rest = e }) first refl (omega arith) (part_less content (record { ident = crc_ident; content = low; rest = e }) first) in
    let second : first_part e ≡ Ok (Some (record { ident = entry; content = inner; rest = [] })) = ap first_part (sym (append-nil e)) ∙ part_spelled entry (long (length inner)) inner [] (inl (omega arith, omega arith)) (long_spelled (length inner) (omega (arith, within))) in
    let held = private_content details.codec_id head in
    let held_short : length held < 2 ^ 31 = let a = length-append (entry_fields head details) (long_element codec_private held) in let b = long_long codec_private held in omega (arith, a, b, within) in
    let few : length head.config_record < 2 ^ 31 = let a = length-append (private_front details.codec_id head) (head.config_record ++ private_end details.codec_id head) in let b = length-append head.config_record (private_end details.codec_id head) in omega (arith, a, b, held_short) in
    let config_short : length held < 2 ^ 56 - 1 = omega (arith, held_short) in
    let at = entry_track head details wide high coloured timed (duration_fits head rate scale) config_short few in
    let here = track_here next.0 e (record { ident = entry; content = inner; rest = [] }) track second at next.1 (part_less e (record { ident = entry; content = inner; rest = [] }) second) in
    let found = judged content tt (track_up_to next.0 e) (Ok track) (sym (checked_told e (entry_are head details bytes))) next.2 here in
    let one = known_next (length content) 0 content (record { ident = crc_ident; content = low; rest = e }) 0 first refl (omega arith) (part_less content (record { ident = crc_ident; content = low; rest = e }) first) in
    let two = known_next one.0 0 e (record { ident = entry; content = inner; rest = [] }) 2 second (entry_known head details (duration_fits head rate scale) config_short) one.1 (part_less e (record { ident = entry; content = inner; rest = [] }) second) in
    let known : known_in content ≡ 2 = one.2 ∙ two.2 ∙ known_end two.0 2 [] refl in
    let one_video = videos_next (length content) 0 content (record { ident = crc_ident; content = low; rest = e }) first (omega arith) (part_less content (record { ident = crc_ident; content = low; rest = e }) first) in
    let two_videos = videos_next one_video.0 0 e (record { ident = entry; content = inner; rest = [] }) second one_video.1 (part_less e (record { ident = entry; content = inner; rest = [] }) second) in
    let videos : videos_up_to (length content) 0 content ≡ 1 =
    one_video.2 ∙ two_videos.2 ∙ videos_end two_videos.0 (videos_with 0 entry inner) [] refl ∙ entry_video head details (duration_fits head rate scale) config_short few in
    let others : others_in content ≡ 0 = ap (λ n. n - 1) videos in
    first_found content track found
    ∙ ap (λ k. Ok (track_among k (others_in content) track)) known
    ∙ ap (λ n. Ok (track_among 2 n track)) others

-- A video that was packed into Matroska is unpacked.
use Rattle.std.specs.Prelude.{All, slice_index_or, zero}
use Rattle.std.proofs.Common.{◌≡◌, refl, ℕ, suc, ◌+◌, ◌*◌, ◌<◌, ◌≤◌, ◌==◌, ◌||◌, Bool, true, false, Ok, inr, List, [], ◌∷◌, ◌++◌, length, map, sym, ◌∙◌, subst, arith, length-append, codes, cond, ◌%◌}
use Rattle.std.proofs.lemmas.List.{length-replicate}
use Rattle.ffv1_range.specs.Codes.{AreBytes}
use Rattle.ffv1_record.specs.Accepted.{Accepted, IsAccepted}
use Rattle.ffv1_record.specs.Record.{record_of}
use Rattle.ffv1_codec.specs.Frame.{frame_of}
use Rattle.ffv1_codec.specs.Picture.{Planes}
use Rattle.ffv1_codec.specs.SliceList.{Said}
use Rattle.ffv1_reads.specs.Head.{Head, limit}
use Rattle.ffv1_ebml.specs.Spelled.{ident_length, number_element}
use Rattle.ffv1_files.specs.Files.{file_read, is_matroska}
use Rattle.ffv1_files.specs.Whole.{IsWhole}
use Rattle.ffv1_files.specs.declared.container.Scope.TheVariants.{Whole}
use Rattle.ffv1_matroska.specs.MatroskaFiles.{MatroskaFile}
use Rattle.ffv1_matroska.specs.SegmentFiles.{SegmentFile}
use Rattle.ffv1_matroska.specs.Opened as matroska
use Rattle.ffv1_matroska.specs.Colours.{colour}
use Rattle.ffv1_matroska.proofs.WrittenBytes.{colours_few}
use Rattle.ffv1_matroska.specs.Written.{begun_of, checked, codec_name, colour_content, colour_element, display, duration_field, ebml_header, entry_element, entry_fields, finished_of, frame_duration, interlaced_of, long_element, open_of, opening, order_element, private_content, private_end, private_front, short_element, video_content}
use Rattle.ffv1_matroska.specs.WrittenFiles.{AreWritten, IsWritable}
use Rattle.ffv1_matroska.specs.Tracks.{codec_id, codec_private, default_duration, entry, pixel_height, pixel_width, track_number, track_type, video}
use Rattle.ffv1_matroska.specs.WrittenIdents.{display_height, display_unit, display_width, field_order, flag_interlaced, flag_lacing, language, track_uid}
use Rattle.ffv1_matroska.specs.declared.track_entry.TrackEntry.{TrackEntry}
use Rattle.ffv1_matroska.specs.declared.track_entry.CodecId.{CodecId}
use Rattle.ffv1_matroska.specs.declared.track_entry.CodecId.TheVariants as codec
use Rattle.ffv1_matroska.proofs.SpelledLengths.{ident_most, long_long, number_long, short_long}
use Rattle.ffv1_matroska.proofs.WrittenLengths.{checked_long}
use Rattle.ffv1_y4m.specs.VideoHead.{IsRatio}
use Rattle.ffv1_words.specs.declared.order.Choice.{Choice}
use Rattle.ffv1_engine.specs.MatroskaRoundTrip.{WasPackedMatroska, matroska_file, matroska_text}
use Rattle.ffv1_pack.specs.Grids.{choice_for}
use Rattle.ffv1_pack.specs.PackMatroska.{HasClusters, begun_file, details_for, whole_file}
use Rattle.ffv1_pack.specs.Packing.{AreReadable, packed_frames, packed_head, said_for}
use Rattle.ffv1_engine.specs.RoundTrip.{IsReadIn}
use Rattle.ffv1_video.specs.Video.{IsReadVideo, Video}
use Rattle.ffv1_video.specs.declared.profile.Profile.{Profile}
use Rattle.ffv1_video.specs.declared.profile.Profile.TheVariants.{Wide}
use Rattle.ffv1_video.specs.Profiles.{greatest_depth, record_profile}
use Rattle.ffv1_record.specs.declared.config.Profile.TheVariants as record_profiles
use Rattle.ffv1_pack.proofs.ReadableFrames.{readable_wide}
use Rattle.ffv1_engine.proofs.PackedFrames.{FrameLaws, frame_bytes, frame_some}
use Rattle.ffv1_reads.specs.declared.colour.Colour.{Colour}
use Rattle.ffv1_video.specs.Colours.{IsByteColour}
use Rattle.ffv1_engine.proofs.ColourNumbers.{colour_small}
use Rattle.ffv1_video.proofs.Depths.{all_within}
use Rattle.ffv1_engine.proofs.OpensOnce.{OpensOnce, matroska_file_once}
use Rattle.ffv1_engine.proofs.PackedIsUnpacked.{Given}
use Rattle.ffv1_engine.proofs.TextsPacked.{given_by, reads_is, short_in}
use Rattle.ffv1_engine.proofs.CanonicalVideos.{FileLaws}
use Rattle.ffv1_engine.proofs.PackedText.{RecordLaws, rated_by, sized}
use Rattle.ffv1_engine.proofs.RecordShort.{HasLowNumbers, low_numbers, record_are_bytes, record_most}

-- ---- Tracks are short

either_most : (b : Bool) (xs ys : List ℕ) (n : ℕ) → length xs ≤ n → length ys ≤ n → length (cond b xs ys) ≤ n
either_most true xs ys n h k = h
either_most false xs ys n h k = k

appended_most : (xs ys : List ℕ) (m n : ℕ) → length xs ≤ m → length ys ≤ n → length (xs ++ ys) ≤ m + n
appended_most xs ys m n h k = let long = length-append xs ys in omega (arith, long, h, k)

number_most : (ident width number : ℕ) → length (number_element ident width number) ≤ 5 + width
number_most ident width number =
    let long = number_long ident width number in
    let few = ident_most ident in
    omega (arith, long, few)

short_most : (ident : ℕ) (content : List ℕ) (n : ℕ) → length content ≤ n → length (short_element ident content) ≤ 5 + n
short_most ident content n h =
    let long = short_long ident content in
    let few = ident_most ident in
    omega (arith, long, few, h)

none_most : (n : ℕ) → length {A = ℕ} [] ≤ n
none_most n = omega arith

order_most : (structure : ℕ) → length (order_element structure) ≤ 6
unfolding order_element
order_most structure = either_most (structure == 1) _ _ 6 (number_most field_order 1 9) (either_most (structure == 2) _ _ 6 (number_most field_order 1 14) (none_most 6))

display_most : (head : Head) (details : TrackEntry) → length (display head details) ≤ 32
unfolding display
display_most head details =
    either_most (details.sar_num == 0 || details.sar_den == 0) _ _ 32 (none_most 32)
    (appended_most _ _ 26 6 (appended_most _ _ 13 13 (number_most display_width 8 (head.width * details.sar_num)) (number_most display_height 8 (head.height * details.sar_den))) (number_most display_unit 1 3))

colour_most : (c : Colour) → length (colour_element c) ≤ 41
unfolding colour_element
colour_most c = either_most (length (colour_content c) == 0) [] (short_element colour (colour_content c)) 41 (none_most 41) (short_most colour (colour_content c) 36 (colours_few c))

content_most : (head : Head) (details : TrackEntry) → length (video_content head details) ≤ 103
unfolding video_content
content_most head details =
    appended_most _ _ 62 41
    (appended_most _ _ 30 32
    (appended_most _ _ 24 6
    (appended_most _ _ 18 6 (appended_most _ _ 9 9 (number_most pixel_width 4 head.width) (number_most pixel_height 4 head.height)) (number_most flag_interlaced 1 (interlaced_of details.structure)))
    (order_most details.structure))
    (display_most head details))
    (colour_most head.colour)

duration_most : (head : Head) → length (duration_field head) ≤ 13
unfolding duration_field
duration_most head = either_most (frame_duration head == 0) _ _ 13 (none_most 13) (number_most default_duration 8 (frame_duration head))

text_three : length (codes "und") ≤ 3
text_three = let e : length (codes "und") ≡ 3 = refl in omega (arith, e)

name_most : (id : CodecId) → length (codec_name id) ≤ 15
name_most codec.Native = let e : length (codes "V_FFV1") ≡ 6 = refl in omega (arith, e)
name_most codec.Vfw = let e : length (codes "V_MS/VFW/FOURCC") ≡ 15 = refl in omega (arith, e)

fields_most : (head : Head) (details : TrackEntry) → length (entry_fields head details) ≤ 173
unfolding entry_fields
fields_most head details =
    appended_most _ _ 65 108
    (appended_most _ _ 52 13
    (appended_most _ _ 32 20
    (appended_most _ _ 24 8
    (appended_most _ _ 18 6
    (appended_most _ _ 12 6 (appended_most _ _ 6 6 (number_most track_number 1 1) (number_most track_uid 1 1)) (number_most track_type 1 1))
    (number_most flag_lacing 1 0))
    (short_most language (codes "und") 3 text_three))
    (short_most codec_id (codec_name details.codec_id) 15 (name_most details.codec_id)))
    (duration_most head))
    (short_most video (video_content head details) 103 (content_most head details))

-- the header of Video for Windows
front_long : (head : Head) → length (private_front codec.Vfw head) ≡ 40
front_long head = refl

private_most : (id : CodecId) (head : Head) → length (private_content id head) ≤ length head.config_record + 41
private_most codec.Native head = let e = length-append head.config_record [] in omega (arith, e)
private_most codec.Vfw head =
    let front = front_long head in
    let a = length-append (private_front codec.Vfw head) (head.config_record ++ private_end codec.Vfw head) in
    let b = length-append head.config_record (private_end codec.Vfw head) in
    let c = length-replicate {A = ℕ} (length head.config_record % 2) 0 in
    omega (arith, front, a, b, c)

tracks_short : (head : Head) (details : TrackEntry) → length head.config_record ≤ 2568 → length (checked (entry_element head details)) ≤ limit
unfolding entry_element
tracks_short head details few =
    let private = private_content details.codec_id head in
    let private_few = private_most details.codec_id head in
    let config = long_element codec_private private in
    let inner = entry_fields head details ++ config in
    let fields = fields_most head details in
    let a = long_long codec_private private in
    let b = length-append (entry_fields head details) config in
    let c = long_long entry inner in
    let d = checked_long (long_element entry inner) in
    let e = ident_most codec_private in
    let f = ident_most entry in
    omega (arith, few, fields, private_few, a, b, c, d, e, f)

-- ---- what can be written

byte_at : (xs : List ℕ) → AreBytes xs → (k d : ℕ) → k < length xs → slice_index_or xs k d < 256
byte_at [] are k d inside = absurd (omega (arith, inside))
byte_at (x ∷ xs) are zero d inside = are 0
byte_at (x ∷ xs) are (suc k) d inside = byte_at xs (λ i. are (suc i)) k d (omega (arith, inside))

all_bytes : (xs : List ℕ) → AreBytes xs → All (λ b. b < 256) xs
all_bytes xs are = λ k d inside. byte_at xs are k d inside

are_written : (laws : FrameLaws) (a : Accepted) (accepted : IsAccepted a.configuration a.table) (said : Said) (ps : List Planes) → AreReadable record_profiles.Wide (map (λ planes. frame_of a planes said) ps) →
    AreWritten (map (λ planes. frame_of a planes said) ps)
are_written laws a accepted said [] readable = tt
are_written laws a accepted said (p ∷ ps) readable =
    ((frame_some laws a accepted p said, readable.0, all_bytes (frame_of a p said) (frame_bytes laws a accepted p said)), are_written laws a accepted said ps readable.1)

pub writable : (profile : Profile) (frame_laws : FrameLaws) (records : RecordLaws) (choice : Choice) (v : Video) (a : Accepted) → HasClusters profile choice v a → 0 < length v.pictures →
    (v.ppm ≡ true → IsRatio 4294967295 choice.rate choice.scale) → IsByteColour choice.colour → IsWritable (packed_head choice v a) (details_for choice v.head) (packed_frames v a)
writable profile frame_laws records choice v a has some rated coloured =
    let sizes = sized v.ppm v.head.head has.head in
    let ratio = (rated_by choice v.ppm v.head a.configuration has.head rated).is in
    record {
      width = let few = sizes.wide in omega (arith, few);
      height = let few = sizes.high in omega (arith, few);
      rate = let few = ratio.first in omega (arith, few);
      scale = let few = ratio.second in omega (arith, few);
      colour = colour_small choice.colour v.head.head coloured;
      timed = has.timed;
      record_is = all_bytes (record_of a.configuration) (record_are_bytes a.configuration);
      short = tracks_short (packed_head choice v a) (details_for choice v.head)
          (subst (λ c. length (record_of c) ≤ 2568) (sym has.for.configuration) (record_most records.symbols (choice_for profile choice v.head) v.ppm v.head (subst HasLowNumbers has.for.configuration (low_numbers records.numbers a.configuration a.table has.for.accepted))));
      written = are_written frame_laws a has.for.accepted (said_for v.head) v.pictures (readable_wide (record_profile profile) (packed_frames v a) has.readable);
      near = has.near some;
    }

-- ---- what is read of it

-- what is known of files
pub record MatroskaLaws : Type 0 where
  pub finished : (head : Head) (details : TrackEntry) (frames : List (List ℕ)) → IsWritable head details frames → MatroskaFile (finished_of head details frames) head frames × (matroska.file_read (finished_of head details frames) ≡ Ok ((head, frames), []))
  pub opened : (head : Head) (details : TrackEntry) (frames : List (List ℕ)) → IsWritable head details frames → MatroskaFile (open_of head details frames) head frames × (matroska.file_read (open_of head details frames) ≡ Ok ((head, frames), []))
  pub begun : (head : Head) (details : TrackEntry) (frames : List (List ℕ)) → 0 < length frames → IsWritable head details frames →
      MatroskaFile (begun_of head details frames) head frames × (matroska.file_read (begun_of head details frames) ≡ Ok ((head, frames), []))
  pub is_file : (file : List ℕ) (head : Head) (frames : List (List ℕ)) (rest : List ℕ) → matroska.file_read file ≡ Ok ((head, frames), rest) → (is : MatroskaFile file head frames) × (is.rest ≡ rest)
  pub anywhere : (file : List ℕ) (head : Head) (frames : List (List ℕ)) (is : MatroskaFile file head frames) → (all : SegmentFile file head frames) × (all.rest ≡ is.rest)
  pub is_whole : (file : List ℕ) (head : Head) (frames : List (List ℕ)) (rest : List ℕ) → IsWhole file head frames rest → file_read Whole file ≡ Ok ((head, frames), rest)

-- its first byte
open_first : (head : Head) (details : TrackEntry) (frames : List (List ℕ)) → is_matroska (open_of head details frames) ≡ true
unfolding opening ebml_header ident_length
open_first head details frames = refl

finished_first : (head : Head) (details : TrackEntry) (frames : List (List ℕ)) → is_matroska (finished_of head details frames) ≡ true
unfolding opening ebml_header ident_length
finished_first head details frames = refl

begun_first : (head : Head) (details : TrackEntry) (frames : List (List ℕ)) → 0 < length frames → is_matroska (begun_of head details frames) ≡ true
unfolding opening ebml_header ident_length
begun_first head details [] some = absurd (omega (arith, some))
begun_first head details (f ∷ fs) some = refl

module _ (laws : MatroskaLaws) where
  read_whole : (file : List ℕ) (head : Head) (frames : List (List ℕ)) → is_matroska file ≡ true → matroska.file_read file ≡ Ok ((head, frames), []) → file_read Whole file ≡ Ok ((head, frames), [])
  read_whole file head frames first e =
      let is = laws.is_file file head frames [] e in
      let all = laws.anywhere file head frames is.0 in
      laws.is_whole file head frames [] (inr (first, (all.0, all.1 ∙ is.1)))

  -- what is read of the whole file
  pub whole_read : (b : Bool) (choice : Choice) (v : Video) (a : Accepted) → IsWritable (packed_head choice v a) (details_for choice v.head) (packed_frames v a) →
      MatroskaFile (whole_file b choice v a) (packed_head choice v a) (packed_frames v a) × (file_read Whole (whole_file b choice v a) ≡ Ok ((packed_head choice v a, packed_frames v a), []))
  whole_read true choice v a can =
      let both = laws.finished (packed_head choice v a) (details_for choice v.head) (packed_frames v a) can in
      (both.0, read_whole _ (packed_head choice v a) (packed_frames v a) (finished_first (packed_head choice v a) (details_for choice v.head) (packed_frames v a)) both.1)
  whole_read false choice v a can =
      let both = laws.opened (packed_head choice v a) (details_for choice v.head) (packed_frames v a) can in
      (both.0, read_whole _ (packed_head choice v a) (packed_frames v a) (open_first (packed_head choice v a) (details_for choice v.head) (packed_frames v a)) both.1)

  -- and of one that is begun
  pub begun_read : (choice : Choice) (v : Video) (a : Accepted) → 0 < length v.pictures → IsWritable (packed_head choice v a) (details_for choice v.head) (packed_frames v a) →
      file_read Whole (begun_file choice v a) ≡ Ok ((packed_head choice v a, packed_frames v a), [])
  begun_read choice v a some can =
      let many = some_frames v.pictures some in
      let both = laws.begun (packed_head choice v a) (details_for choice v.head) (packed_frames v a) many can in
      read_whole (begun_file choice v a) (packed_head choice v a) (packed_frames v a) (begun_first (packed_head choice v a) (details_for choice v.head) (packed_frames v a) many) both.1
    where
      some_frames : (ps : List Planes) → 0 < length ps → 0 < length (map (λ planes. frame_of a planes (said_for v.head)) ps)
      some_frames [] some = some
      some_frames (p ∷ ps) some = omega arith

-- ---- a text that was packed

-- what was accepted, in the profile that the file is read in
abbrev pub accepted_wide : {packing : Profile} → {choice : Choice} → {text : List ℕ} → WasPackedMatroska packing choice text → Accepted
accepted_wide w = record { configuration = w.packs.accepted.configuration; table = w.packs.accepted.table; profile = record_profile Wide }

-- the text that was packed is that video, as it was read
pub packed_so : (packing : Profile) (choice : Choice) (text : List ℕ) (w : WasPackedMatroska packing choice text) → IsReadVideo (greatest_depth packing) text (matroska_text w)
packed_so packing choice text w = reads_is (greatest_depth packing) text w.input.old w.input.new w.packs.video w.known w.packs.reads

pub given : (packing : Profile) → FileLaws Wide → FrameLaws → (choice : Choice) (text : List ℕ) (w : WasPackedMatroska packing choice text) → Given Wide (choice_for packing choice w.packs.video.head) (matroska_text w) (accepted_wide w)
given packing files frame_laws choice text w =
    given_by files frame_laws Wide (greatest_depth packing) (choice_for packing choice w.packs.video.head) text (matroska_text w) (accepted_wide w) (packed_so packing choice text w) w.bytes
    (record { configuration = w.packs.has.for.configuration; accepted = w.packs.has.for.accepted; passes = w.packs.has.for.accepted.passes; profiled = refl })
    (short_in Wide w.packs.accepted w.packs.video.head w.packs.video.pictures w.packs.has.short) w.packs.some
    (readable_wide (record_profile packing) (packed_frames (matroska_text w) w.packs.accepted) w.packs.has.readable) w.rated

-- and it is read
pub read_wide : (packing : Profile) (choice : Choice) (text : List ℕ) (w : WasPackedMatroska packing choice text) → IsReadIn Wide (matroska_text w) w.packs.accepted
read_wide packing choice text w = record {
  deep = all_within packing w.packs.video.head.depth w.packs.deep;
  passes = w.packs.has.for.accepted.passes;
  readable = readable_wide (record_profile packing) (packed_frames (matroska_text w) w.packs.accepted) w.packs.has.readable;
}

module _ (packing : Profile) (frame_laws : FrameLaws) (records : RecordLaws) (laws : MatroskaLaws) (choice : Choice) (text : List ℕ) (w : WasPackedMatroska packing choice text) where
  reads : MatroskaFile (matroska_file w) (packed_head choice (matroska_text w) (w.packs.accepted)) (packed_frames (matroska_text w) (w.packs.accepted))
      × (file_read Whole (matroska_file w) ≡ Ok ((packed_head choice (matroska_text w) (w.packs.accepted), packed_frames (matroska_text w) (w.packs.accepted)), []))
  reads = whole_read laws w.packed.finished choice w.packs.video w.packs.accepted (writable packing frame_laws records choice w.packs.video w.packs.accepted w.packs.has w.packs.some w.rated w.coloured)

  pub file_is : MatroskaFile (matroska_file w) (packed_head choice (matroska_text w) (accepted_wide w)) (packed_frames (matroska_text w) (accepted_wide w))
  file_is = reads.0

  pub file_reads : file_read Whole (matroska_file w) ≡ Ok ((packed_head choice (matroska_text w) (accepted_wide w), packed_frames (matroska_text w) (accepted_wide w)), [])
  file_reads = reads.1

  -- which is read as Matroska
  pub file_first : is_matroska (matroska_file w) ≡ true
  file_first = first_by w.packed.finished
    where
      first_by : (b : Bool) → is_matroska (whole_file b choice w.packs.video w.packs.accepted) ≡ true
      first_by true = finished_first (packed_head choice w.packs.video w.packs.accepted) (details_for choice w.packs.video.head) (packed_frames w.packs.video w.packs.accepted)
      first_by false = open_first (packed_head choice w.packs.video w.packs.accepted) (details_for choice w.packs.video.head) (packed_frames w.packs.video w.packs.accepted)

  -- in one reading
  pub file_opens : OpensOnce Wide (matroska_file w)
  file_opens = matroska_file_once (matroska_file w) _ file_first (read_by w.packed.finished)
    where
      can : IsWritable (packed_head choice w.packs.video w.packs.accepted) (details_for choice w.packs.video.head) (packed_frames w.packs.video w.packs.accepted)
      can = writable packing frame_laws records choice w.packs.video w.packs.accepted w.packs.has w.packs.some w.rated w.coloured

      read_by : (b : Bool) → matroska.file_read (whole_file b choice w.packs.video w.packs.accepted) ≡ Ok ((packed_head choice w.packs.video w.packs.accepted, packed_frames w.packs.video w.packs.accepted), [])
      read_by true = (laws.finished (packed_head choice w.packs.video w.packs.accepted) (details_for choice w.packs.video.head) (packed_frames w.packs.video w.packs.accepted) can).1
      read_by false = (laws.opened (packed_head choice w.packs.video w.packs.accepted) (details_for choice w.packs.video.head) (packed_frames w.packs.video w.packs.accepted) can).1

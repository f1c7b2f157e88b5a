-- What is written is a file by its elements.
use Rattle.std.proofs.Common.{◌≡◌, ◌≤◌, ◌<◌, ◌+◌, ◌-◌, ◌*◌, ◌^◌, ◌||◌, ◌∙◌, ◌++◌, ℕ, suc, List, [], ◌∷◌, true, Option, Some, None, Ok, codes, length, refl, sym, subst, ap, arith, inl, inr, append_assoc, append-nil, length-append}
use Rattle.std.proofs.lemmas.Bool.{cases_lt}
use Rattle.std.proofs.lemmas.Grind.{flat_map-append}
use Rattle.std.proofs.lemmas.Nat.{mul-le}
use Rattle.ffv1_reads.specs.Head.{Head, limit}
use Rattle.ffv1_ebml.specs.Contents.{first_part, found_up_to}
use Rattle.ffv1_ebml.specs.Elements.{element_in}
use Rattle.ffv1_ebml.specs.Spelled.{IsIdent, SaysSize, ident_bytes, ident_length, long, number_element, short}
use Rattle.ffv1_ebml.specs.Vints.{length_of, number_of, size_of, vint_read}
use Rattle.ffv1_ebml.proofs.SpelledLaws.{ident_spelled, long_spelled, short_spelled, unknown_spelled}
use Rattle.ffv1_matroska.specs.Elements.{AreParts, AreTopLevel, IsTopLevel, Part, TopLevel, part_frames, part_text, parts_frames, parts_text, top_text, tops_text}
use Rattle.ffv1_matroska.specs.MatroskaFiles.{AreBefore, FileBegins, IsTracks, MatroskaFile, SegmentEnds, endless}
use Rattle.ffv1_matroska.specs.Opened.{ebml, file_read, tracks}
use Rattle.ffv1_matroska.specs.Opening.{doc_type, header_in, read_version, segment, type_read_version}
use Rattle.ffv1_matroska.specs.Segments.{is_filler, is_section}
use Rattle.ffv1_matroska.specs.Tracks.{codec_private, entry}
use Rattle.ffv1_matroska.specs.WrittenFiles.{IsWritable}
use Rattle.ffv1_matroska.specs.WrittenIdents.{cues, ebml_version, info, max_id_length, max_size_length, seek_head, type_version}
use Rattle.ffv1_matroska.specs.WrittenPlaces.{every, places_from, stride_of}
use Rattle.ffv1_matroska.specs.Written.{begun_of, checked, crc_element, seek_element, void_element, clusters_from, cluster_element, cues_element, cues_from, cues_of, ebml_header, end_place, entry_element, entry_fields, finish_of, finished_of, frame_duration, first_place, info_content, long_element, open_of, opening, seeks, segment_size, short_element, to_clusters, tracks_element, private_content}
use Rattle.ffv1_matroska.specs.declared.track_entry.TrackEntry.{TrackEntry}
use Rattle.ffv1_matroska.specs.declared.write.opening.Finish.{Finish}
use Rattle.ffv1_matroska.proofs.FileLaws.{file_complete}
use Rattle.ffv1_matroska.proofs.Growing.{places_count}
use Rattle.ffv1_matroska.proofs.PieceByPiece.{file_parts}
use Rattle.ffv1_matroska.proofs.PlaceSteps.{every_count, left_below}
use Rattle.ffv1_matroska.proofs.SpelledLengths.{ident_long, long_long}
use Rattle.ffv1_matroska.proofs.StrideSteps.{stride_enough, stride_some}
use Rattle.ffv1_matroska.proofs.WrittenBytes.{AreBytes, cues_are, info_are, seeks_are}
use Rattle.ffv1_matroska.proofs.WrittenChecks.{checked_told}
use Rattle.ffv1_matroska.proofs.WrittenClusters.{cluster_parts, parts_are, parts_are_text, parts_have, written_numbers}
use Rattle.ffv1_matroska.proofs.WrittenLengths.{checked_long, cluster_long, cues_from_long, cues_long}
use Rattle.ffv1_matroska.proofs.WrittenTrack.{track_says}
use Rattle.ffv1_matroska.specs.declared.track.TrackNumbers.{TrackNumbers}

-- ---- before the Segment

abbrev header_bytes : List ℕ
header_bytes =
    number_element ebml_version 1 1 ++ number_element read_version 1 1 ++ number_element max_id_length 1 4 ++ number_element max_size_length 1 8
    ++ short_element doc_type (codes "matroska") ++ number_element type_version 1 4 ++ number_element type_read_version 1 2

header_judged : header_in header_bytes ≡ Ok tt
unfolding header_in first_part found_up_to element_in length_of size_of vint_read ident_length
header_judged = refl

header_few : length header_bytes ≡ 35
unfolding ident_length
header_few = refl

four_bytes : (ident : ℕ) → IsIdent ident → ident_length ident ≡ 4 → (length (ident_bytes ident) ≡ 4) × (number_of (ident_bytes ident) ≡ ident)
four_bytes ident is long_is = let p = ident_spelled ident is in (ident_long ident ∙ long_is, p.number)

ebml_is : IsIdent ebml
ebml_is = inr (inr (inr (omega arith, omega arith)))

segment_is : IsIdent segment
segment_is = inr (inr (inr (omega arith, omega arith)))

ebml_four : ident_length ebml ≡ 4
unfolding ident_length
ebml_four = refl

segment_four : ident_length segment ≡ 4
unfolding ident_length
segment_four = refl

-- ---- elements without frames

abbrev pub seek_top : Option Finish → TopLevel
seek_top finish = record { ident = ident_bytes seek_head; size = short (length (checked (seeks finish))); content = checked (seeks finish) }

abbrev pub info_top : Head → Option Finish → TopLevel
info_top head finish = record { ident = ident_bytes info; size = short (length (checked (info_content head finish))); content = checked (info_content head finish) }

abbrev pub tracks_top : Head → TrackEntry → TopLevel
tracks_top head details = record { ident = ident_bytes tracks; size = long (length (checked (entry_element head details))); content = checked (entry_element head details) }

abbrev cues_top : ℕ → List ℕ → TopLevel
cues_top stride places = record { ident = ident_bytes cues; size = long (length (checked (cues_from 0 stride places))); content = checked (cues_from 0 stride places) }

top_is : (ident : ℕ) (size content : List ℕ) → IsIdent ident → SaysSize size (Some (length (checked content))) → (is_section ident || is_filler ident) ≡ true → AreBytes content →
    IsTopLevel (record { ident = ident_bytes ident; size = size; content = checked content })
top_is ident size content is says known bytes =
    let p = ident_spelled ident is in
    record { named = p.is; few = p.few; sized = says; known = rw p.number known; told = λ _. checked_told content bytes }

pub seeks_few : (finish : Option Finish) → length (seeks finish) ≡ 63
unfolding seeks seek_element void_element ident_length
seeks_few None = refl
seeks_few (Some f) = refl

pub info_few : (head : Head) (finish : Option Finish) → length (info_content head finish) ≡ 63
unfolding info_content void_element ident_length
info_few head None = refl
info_few head (Some f) = refl

seek_known : (is_section seek_head || is_filler seek_head) ≡ true
unfolding is_section is_filler
seek_known = refl

info_known : (is_section info || is_filler info) ≡ true
unfolding is_section is_filler
info_known = refl

cues_known : (is_section cues || is_filler cues) ≡ true
unfolding is_section is_filler
cues_known = refl

pub seek_is : IsIdent seek_head
seek_is = inr (inr (inr (omega arith, omega arith)))

pub info_is : IsIdent info
info_is = inr (inr (inr (omega arith, omega arith)))

pub tracks_is : IsIdent tracks
tracks_is = inr (inr (inr (omega arith, omega arith)))

cues_is : IsIdent cues
cues_is = inr (inr (inr (omega arith, omega arith)))

pub before_are : (head : Head) (finish : Option Finish) → AreTopLevel (seek_top finish ∷ info_top head finish ∷ [])
before_are head finish =
    let a : length (checked (seeks finish)) < 127 = omega (arith, checked_long (seeks finish), seeks_few finish) in
    let b : length (checked (info_content head finish)) < 127 = omega (arith, checked_long (info_content head finish), info_few head finish) in (
      top_is seek_head (short (length (checked (seeks finish)))) (seeks finish) seek_is (short_spelled (length (checked (seeks finish))) a) seek_known (seeks_are finish),
      (top_is info (short (length (checked (info_content head finish)))) (info_content head finish) info_is (short_spelled (length (checked (info_content head finish))) b) info_known (info_are head finish), tt),
    )

pub no_tracks : (head : Head) (finish : Option Finish) → AreBefore (seek_top finish ∷ info_top head finish ∷ [])
no_tracks head finish =
    let a = (ident_spelled seek_head seek_is).number in
    let b = (ident_spelled info info_is).number in
    (λ same. omega (arith, same, a), (λ same. omega (arith, same, b), tt))

entry_short : (head : Head) (details : TrackEntry) → length (checked (entry_element head details)) ≤ limit → length (entry_fields head details ++ long_element codec_private (private_content details.codec_id head)) < 2 ^ 31
unfolding entry_element
entry_short head details few =
    let inner = entry_fields head details ++ long_element codec_private (private_content details.codec_id head) in
    omega (arith, checked_long (long_element entry inner), long_long entry inner, few)

pub tracks_say : (head : Head) (details : TrackEntry) (frames : List (List ℕ)) → IsWritable head details frames → IsTracks (tracks_top head details) (record { numbers = written_numbers (frame_duration head); head = head })
tracks_say head details frames is =
    let p = ident_spelled tracks tracks_is in
    let few : length (checked (entry_element head details)) < 2 ^ 56 - 1 = let most = is.short in omega (arith, most) in
    record {
      named = p.is;
      few = p.few;
      is = p.number;
      sized = long_spelled (length (checked (entry_element head details))) few;
      short = is.short;
      says = track_says head details is.width is.height is.rate is.scale is.colour is.timed is.record_is (entry_short head details is.short);
    }

-- ---- a file whose Segment has these parts

regrouped : (h c s a b x : List ℕ) → ((((h ++ c) ++ s) ++ a) ++ b) ++ x ≡ h ++ (c ++ (s ++ ((a ++ (b ++ [])) ++ x)))
regrouped h c s a b x = simp (append_assoc, append-nil)

opened : (head : Head) (finish : Option Finish) (x : List ℕ) → opening head finish ++ x ≡ (ident_bytes ebml ++ short (length header_bytes)) ++ (header_bytes ++ ((ident_bytes segment ++ segment_size finish) ++ (tops_text (seek_top finish ∷ info_top head finish ∷ []) ++ x)))
unfolding opening ebml_header
opened head finish x = regrouped (ident_bytes ebml ++ short (length header_bytes)) header_bytes (ident_bytes segment ++ segment_size finish) (top_text (seek_top finish)) (top_text (info_top head finish)) x

pub tops_long : (head : Head) (finish : Option Finish) → length (tops_text (seek_top finish ∷ info_top head finish ∷ [])) ≡ 148
unfolding seeks seek_element info_content void_element crc_element ident_length
tops_long head None = refl
tops_long head (Some f) = refl

pub file_begins : (head : Head) (finish : Option Finish) (size : Option ℕ) (x : List ℕ) → SaysSize (segment_size finish) size → FileBegins (opening head finish ++ x) size (tops_text (seek_top finish ∷ info_top head finish ∷ []) ++ x)
file_begins head finish size x says =
    record {
      ebml_ident = ident_bytes ebml;
      ebml_size = short (length header_bytes);
      header = header_bytes;
      voids = [];
      segment_ident = ident_bytes segment;
      segment_size = segment_size finish;
      bytes = opened head finish x;
      ebml_is = four_bytes ebml ebml_is ebml_four;
      ebml_sized = short_spelled (length header_bytes) (omega (arith, header_few));
      short = omega (arith, header_few);
      of_matroska = header_judged;
      voids_are = tt;
      few = omega arith;
      segment_is = four_bytes segment segment_is segment_four;
      sized = says;
    }

pub tracks_text : (head : Head) (details : TrackEntry) → top_text (tracks_top head details) ≡ tracks_element head details
unfolding tracks_element
tracks_text head details = refl

with_rest : (head : Head) (details : TrackEntry) (parts : List Part) (text : List ℕ) → parts_text parts ≡ text → tracks_element head details ++ text ≡ top_text (tracks_top head details) ++ (parts_text parts ++ [])
with_rest head details parts text is = rw (tracks_text head details, append-nil (parts_text parts), is) refl

pub file_with : (head : Head) (details : TrackEntry) (frames : List (List ℕ)) (finish : Option Finish) (size : Option ℕ) (parts : List Part) (text : List ℕ) → IsWritable head details frames → parts_text parts ≡ text → AreParts (written_numbers (frame_duration head)) parts → parts_frames parts ≡ frames →
    SaysSize (segment_size finish) size → SegmentEnds size (148 + (length (tracks_element head details) + length text)) [] → MatroskaFile (opening head finish ++ (tracks_element head details ++ text)) head frames
file_with head details frames finish size parts text is text_is are have says ends =
    let tops = tops_text (seek_top finish ∷ info_top head finish ∷ []) in
    let after = top_text (tracks_top head details) ++ (parts_text parts ++ []) in
    let begins = file_begins head finish size after says in
    let same = with_rest head details parts text text_is in
    let inner = top_text (tracks_top head details) ++ parts_text parts in
    let a : length (top_text (tracks_top head details)) ≡ length (tracks_element head details) = ap length (tracks_text head details) in
    let b : length (parts_text parts) ≡ length text = ap length text_is in
    let all : 148 + (length (tracks_element head details) + length text) ≡ length (tops ++ inner) = omega (arith, a, b, tops_long head finish, length-append tops inner, length-append (top_text (tracks_top head details)) (parts_text parts)) in
    record {
      size = size;
      before = seek_top finish ∷ info_top head finish ∷ [];
      tracks = tracks_top head details;
      track = record { numbers = written_numbers (frame_duration head); head = head };
      parts = parts;
      rest = [];
      begins = begins_at (opening head finish ++ after) (opening head finish ++ (tracks_element head details ++ text)) size (tops ++ after) (ap (λ z. opening head finish ++ z) (sym same)) begins;
      ends = ends_at size (148 + (length (tracks_element head details) + length text)) (length (tops ++ inner)) all ends;
      before_are = before_are head finish;
      first = no_tracks head finish;
      tracks_is = tracks_say head details frames is;
      head_is = refl;
      parts_are = are;
      frames_are = have;
    }
  where
    begins_at : (xs ys : List ℕ) (size : Option ℕ) (content : List ℕ) → xs ≡ ys → FileBegins xs size content → FileBegins ys size content
    begins_at xs ys size content e h = rw (← e) h

    ends_at : (size : Option ℕ) (m n : ℕ) → m ≡ n → SegmentEnds size m [] → SegmentEnds size n []
    ends_at size m n e h = rw (← e) h

-- a file, which is read to its end
pub record IsRead (file : List ℕ) (head : Head) (frames : List (List ℕ)) : Type 0 where
  pub is : MatroskaFile file head frames
  pub read : file_read file ≡ Ok ((head, frames), [])

read_with : (head : Head) (details : TrackEntry) (frames : List (List ℕ)) (finish : Option Finish) (size : Option ℕ) (parts : List Part) (text : List ℕ) → IsWritable head details frames → parts_text parts ≡ text → AreParts (written_numbers (frame_duration head)) parts → parts_frames parts ≡ frames →
    SaysSize (segment_size finish) size → SegmentEnds size (148 + (length (tracks_element head details) + length text)) [] → IsRead (opening head finish ++ (tracks_element head details ++ text)) head frames
unfolding file_with
read_with head details frames finish size parts text is text_is are have says ends =
    let whole = file_with head details frames finish size parts text is text_is are have says ends in
    record { is = whole; read = file_complete (opening head finish ++ (tracks_element head details ++ text)) head frames whole }

-- ---- how long it is

pub clusters_least : (number : ℕ) (frames : List (List ℕ)) → 41 * length frames ≤ length (clusters_from number frames)
unfolding clusters_from
clusters_least number [] = omega arith
clusters_least number (frame ∷ frames) =
    let more = clusters_least (suc number) frames in
    omega (arith, more, length-append (cluster_element number frame) (clusters_from (suc number) frames), cluster_long number frame)

-- at most 8192 have a cue
bounded : (s l : ℕ) → 0 < s → s * l < 8192 * s + s → l ≤ 8192
bounded s l some less = elim (cases_lt 8192 l) [
  | inl more ↦ let at_least : s * 8193 ≤ s * l = mul-le s 8193 s l (omega arith) (omega (arith, more)) in absurd (omega (arith, at_least, less))
  | inr fewer ↦ omega (arith, fewer)
]

pub cues_few : (ps : List ℕ) → length ps < 2 ^ 56 → length (every (stride_of (length ps)) ps) ≤ 8192
cues_few ps few =
    let n = length ps in
    let s = stride_of n in
    let some : 0 < s = stride_some 64 1 n (omega arith) in
    let count = every_count 0 s ps some in
    let left = left_below 0 s ps some some in
    let enough = stride_enough 64 1 n (let wide : n ≤ 8192 * (2 ^ 64 * 1) = omega (arith, few) in wide) in
    let product : s * length (every s ps) < 8192 * s + s = omega (arith, count, left, enough) in
    bounded s (length (every s ps)) some product

-- ---- its three forms

abbrev pub kept : Head → TrackEntry → List (List ℕ) → List ℕ
kept head details frames = every (stride_of (length frames)) (places_from (first_place head details) frames)

pub kept_few : (head : Head) (details : TrackEntry) (frames : List (List ℕ)) → end_place head details frames ≤ 2 ^ 56 - 2 ^ 20 → length (kept head details frames) ≤ 8192
kept_few head details frames near =
    let ps = places_from (first_place head details) frames in
    let long = places_count (first_place head details) frames in
    let least = clusters_least 0 frames in
    let few : length ps < 2 ^ 56 = omega (arith, long, least, near) in
    rw (← long) (cues_few ps few)

-- Cues at the end
abbrev cues_part : Head → TrackEntry → List (List ℕ) → List Part
cues_part head details frames = Part.Top (cues_top (stride_of (length frames)) (kept head details frames)) ∷ []

cues_text : (stride : ℕ) (places : List ℕ) → parts_text (Part.Top (cues_top stride places) ∷ []) ≡ cues_element stride places
unfolding cues_element
cues_text stride places = append-nil (top_text (cues_top stride places))

cues_top_is : (stride : ℕ) (places : List ℕ) → length places ≤ 8192 → IsTopLevel (cues_top stride places)
cues_top_is stride places few =
    let all = cues_from 0 stride places in
    let short_enough : length (checked all) < 2 ^ 56 - 1 = omega (arith, checked_long all, cues_from_long 0 stride places, few) in
    top_is cues (long (length (checked all))) all cues_is (long_spelled (length (checked all)) short_enough) cues_known (cues_are 0 stride places)

parts_join : (track : TrackNumbers) (xs ys : List Part) → AreParts track xs → AreParts track ys → AreParts track (xs ++ ys)
parts_join track [] ys a b = b
parts_join track (x ∷ xs) ys a b = (a.0, parts_join track xs ys a.1 b)

abbrev all_parts : Head → TrackEntry → List (List ℕ) → List Part
all_parts head details frames = cluster_parts 0 frames ++ cues_part head details frames

all_text : (head : Head) (details : TrackEntry) (frames : List (List ℕ)) → parts_text (all_parts head details frames) ≡ clusters_from 0 frames ++ cues_of head details frames
all_text head details frames = flat_map-append part_text (cluster_parts 0 frames) (cues_part head details frames) ∙ joined (parts_are_text 0 frames) (cues_text (stride_of (length frames)) (kept head details frames))
  where
    joined : {a b c d : List ℕ} → a ≡ b → c ≡ d → a ++ c ≡ b ++ d
    joined p q = cc

all_have : (head : Head) (details : TrackEntry) (frames : List (List ℕ)) → parts_frames (all_parts head details frames) ≡ frames
all_have head details frames = flat_map-append part_frames (cluster_parts 0 frames) (cues_part head details frames) ∙ append-nil (parts_frames (cluster_parts 0 frames)) ∙ parts_have 0 frames

all_are : (head : Head) (details : TrackEntry) (frames : List (List ℕ)) → IsWritable head details frames → AreParts (written_numbers (frame_duration head)) (all_parts head details frames)
all_are head details frames is = parts_join (written_numbers (frame_duration head)) (cluster_parts 0 frames) (cues_part head details frames) (parts_are (frame_duration head) 0 frames is.written) (cues_top_is (stride_of (length frames)) (kept head details frames) (kept_few head details frames is.near), tt)

at_file : (xs ys : List ℕ) (head : Head) (frames : List (List ℕ)) → xs ≡ ys → IsRead xs head frames → IsRead ys head frames
at_file xs ys head frames e h = let P : List ℕ → Type 0 = λ z. IsRead z head frames in subst P e h

abbrev tail_of : Head → TrackEntry → List (List ℕ) → List ℕ
tail_of head details frames = clusters_from 0 frames ++ cues_of head details frames

tail_long : (head : Head) (details : TrackEntry) (frames : List (List ℕ)) → length (tail_of head details frames) ≡ length (clusters_from 0 frames) + (18 + 27 * length (kept head details frames))
tail_long head details frames = omega (arith, length-append (clusters_from 0 frames) (cues_of head details frames), cues_long (stride_of (length frames)) (kept head details frames))

pub finished_file : (head : Head) (details : TrackEntry) (frames : List (List ℕ)) → IsWritable head details frames → IsRead (finished_of head details frames) head frames
finished_file head details frames is =
    let f = finish_of head details frames in
    let few = kept_few head details frames is.near in
    let near = is.near in
    let last = cues_long (stride_of (length frames)) (kept head details frames) in
    let small : f.size < 2 ^ 56 - 1 = omega (arith, near, few, last) in
    let ends : f.size ≡ 148 + (length (tracks_element head details) + length (tail_of head details frames)) = omega (arith, tail_long head details frames, last) in
    at_file _ _ head frames (sym (file_parts (Some f) head details frames)) (read_with head details frames (Some f) (Some f.size) (all_parts head details frames) (tail_of head details frames) is (all_text head details frames) (all_are head details frames is) (all_have head details frames) (long_spelled f.size small) ends)

pub open_file : (head : Head) (details : TrackEntry) (frames : List (List ℕ)) → IsWritable head details frames → IsRead (open_of head details frames) head frames
open_file head details frames is =
    let few = kept_few head details frames is.near in
    let near = is.near in
    let less : 148 + (length (tracks_element head details) + length (tail_of head details frames)) < endless = omega (arith, near, few, tail_long head details frames) in
    at_file _ _ head frames (sym (file_parts None head details frames)) (read_with head details frames None None (all_parts head details frames) (tail_of head details frames) is (all_text head details frames) (all_are head details frames is) (all_have head details frames) unknown_spelled (inr (less, refl)))

begun_by : (head : Head) (details : TrackEntry) (frames : List (List ℕ)) → IsWritable head details frames → IsRead (to_clusters None head details frames) head frames
begun_by head details frames is =
    let near = is.near in
    let less : 148 + (length (tracks_element head details) + length (clusters_from 0 frames)) < endless = omega (arith, near) in
    at_file _ _ head frames (sym (append_assoc (opening head None) (tracks_element head details) (clusters_from 0 frames))) (read_with head details frames None None (cluster_parts 0 frames) (clusters_from 0 frames) is (parts_are_text 0 frames) (parts_are (frame_duration head) 0 frames is.written) (parts_have 0 frames) unknown_spelled (inr (less, refl)))

pub begun_file : (head : Head) (details : TrackEntry) (frames : List (List ℕ)) → 0 < length frames → IsWritable head details frames → IsRead (begun_of head details frames) head frames
begun_file head details [] some is = absurd (omega (arith, some))
begun_file head details (f ∷ fs) some is = begun_by head details (f ∷ fs) is

-- How a written file opens, and how many nanoseconds a tick of it has.
use Rattle.std.proofs.Common.{◌≡◌, ◌≤◌, ◌<◌, ◌+◌, ◌-◌, ◌%◌, ◌^◌, ◌==◌, ◌∙◌, ◌++◌, ℕ, suc, zero, List, [], ◌∷◌, Bool, true, false, Option, Some, None, Ok, length, min, nat_le, refl, ap, arith, inl, inr, append-nil, append_assoc, length-append}
use Rattle.std.proofs.Math.Nat.{min-eq_left}
use Rattle.std.proofs.lemmas.Bool.{cases_eq, eq-eqb, le-leb, ne_eqb}
use Rattle.std.specs.Int.{bytes_high_first, bytes_low_first}
use Rattle.ffv1_sum.specs.Sum.{crc_of}
use Rattle.ffv1_reads.specs.Head.{Head, frame_limit}
use Rattle.ffv1_reads.specs.Reads.{given, read_on}
use Rattle.ffv1_reads.proofs.Results.{cut_back, cut_front}
use Rattle.ffv1_ebml.specs.Contents.{found, number_in}
use Rattle.ffv1_ebml.specs.Elements.{crc_ident}
use Rattle.ffv1_ebml.specs.Spelled.{IsIdent, SaysSize, ident_bytes, long, short, spelled}
use Rattle.ffv1_ebml.specs.declared.sum.Sum.TheVariants.{Absent, Begins}
use Rattle.ffv1_ebml.proofs.ElementLaws.{element_spelled, found_first}
use Rattle.ffv1_ebml.proofs.Numbers.{length_high}
use Rattle.ffv1_ebml.proofs.SpelledLaws.{ident_spelled, long_spelled, number_high, short_spelled}
use Rattle.ffv1_matroska.specs.Elements.{top_text, tops_text}
use Rattle.ffv1_matroska.specs.Late.{again_read}
use Rattle.ffv1_matroska.specs.MatroskaFiles.{FileBegins, endless}
use Rattle.ffv1_matroska.specs.Opened.{Opened, begin_up_to, begun_at, element_or_begun, open_read, tracks}
use Rattle.ffv1_matroska.specs.Opening.{segment_begun}
use Rattle.ffv1_matroska.specs.Places.{amount}
use Rattle.ffv1_matroska.specs.Scales.{scale_from, scale_in, scale_of, scale_on, scale_up_to, scale_with, tick_in}
use Rattle.ffv1_matroska.specs.Segments.{cluster}
use Rattle.ffv1_matroska.specs.Tracks.{Track}
use Rattle.ffv1_matroska.specs.Written.{checked, cluster_content, cluster_element, clusters_from, crc_element, duration_element, entry_element, frame_duration, info_content, opening, seeks, segment_size, short_element, tick_of, tracks_element, writer_name}
use Rattle.ffv1_matroska.specs.WrittenFiles.{IsWritable}
use Rattle.ffv1_matroska.specs.WrittenIdents.{info, muxing_app, seek_head, timestamp_scale, writing_app}
use Rattle.ffv1_matroska.specs.declared.place.Place.{Place}
use Rattle.ffv1_matroska.specs.declared.track_entry.TrackEntry.{TrackEntry}
use Rattle.ffv1_matroska.specs.declared.write.opening.Finish.{Finish}
use Rattle.ffv1_matroska.proofs.OpenedLaws.{begins_complete, ebml_complete, segment_complete, tops_begun, tracks_begun}
use Rattle.ffv1_matroska.proofs.PartLaws.{header_is_read}
use Rattle.ffv1_matroska.proofs.WrittenChecks.{crc_is_ident}
use Rattle.ffv1_matroska.proofs.WrittenClusters.{written_numbers}
use Rattle.ffv1_matroska.proofs.WrittenFile.{before_are, file_begins, info_few, info_is, info_top, no_tracks, seek_is, seek_top, seeks_few, tops_long, tracks_is, tracks_say, tracks_top}
use Rattle.ffv1_matroska.proofs.WrittenLengths.{checked_long, crc_long}
use Rattle.ffv1_matroska.proofs.WrittenPhases.{after, tail_text}
use Rattle.ffv1_matroska.proofs.SpelledLengths.{long_long}
use Rattle.ffv1_matroska.proofs.WrittenSteps.{at, content_small}
use Rattle.ffv1_matroska.proofs.WrittenTrack.{duration_fits}

-- ---- the Segment

abbrev pub open_ended : Option ℕ → Bool
open_ended None = true
open_ended (Some size) = false

-- how many bytes it counts
abbrev pub counted : Option ℕ → ℕ
counted None = endless
counted (Some size) = size

begun_there : (size : Option ℕ) → segment_begun size ≡ at (open_ended size) (counted size) 0 Absent
begun_there None = refl
begun_there (Some size) = refl

-- the first Cluster, after its header
abbrev pub first_at : Bool → ℕ → List ℕ → List (List ℕ) → Option (List ℕ) → Place
first_at e spare frame frames tail = at e (length (after 1 frames tail) + spare) (length (checked (cluster_content 0 frame))) Begins

abbrev pub first_text : List ℕ → List (List ℕ) → Option (List ℕ) → List ℕ
first_text frame frames tail = checked (cluster_content 0 frame) ++ after 1 frames tail

abbrev pub track_of : Head → Track
track_of head = record { numbers = written_numbers (frame_duration head); head = head }

cluster_is : IsIdent cluster
cluster_is = inr (inr (inr (omega arith, omega arith)))

-- where the first Cluster begins
cluster_parts : (frame : List ℕ) (frames : List (List ℕ)) (text : List ℕ) → clusters_from 0 (frame ∷ frames) ++ text ≡ (ident_bytes cluster ++ long (length (checked (cluster_content 0 frame)))) ++ (checked (cluster_content 0 frame) ++ (clusters_from 1 frames ++ text))
unfolding clusters_from cluster_element
cluster_parts frame frames text = regrouped (ident_bytes cluster ++ long (length (checked (cluster_content 0 frame)))) (checked (cluster_content 0 frame)) (clusters_from 1 frames) text
  where
    regrouped : (a b c d : List ℕ) → ((a ++ b) ++ c) ++ d ≡ a ++ (b ++ (c ++ d))
    regrouped a b c d = simp append_assoc

module _ (e : Bool) (spare : ℕ) (frame : List ℕ) (frames : List (List ℕ)) (tail : Option (List ℕ)) (few : length frame ≤ frame_limit) where
  content : List ℕ
  content = checked (cluster_content 0 frame)

  head_bytes : List ℕ
  head_bytes = ident_bytes cluster ++ long (length (checked (cluster_content 0 frame)))

  cluster_long_is : length (after 0 (frame ∷ frames) tail) + spare ≡ length (ident_bytes cluster ++ long (length (checked (cluster_content 0 frame)))) + (length (checked (cluster_content 0 frame)) + (length (after 1 frames tail) + spare))
  cluster_long_is =
      let body = checked (cluster_content 0 frame) in
      let head = ident_bytes cluster ++ long (length body) in
      let rest = after 1 frames tail in
      omega (arith, ap length (cluster_parts frame frames (tail_bytes tail)), length-append head (body ++ rest), length-append body rest)
    where
      tail_bytes : Option (List ℕ) → List ℕ
      tail_bytes t = tail_text t

  -- the frames begin
  frames_begin : (most : ℕ) (track : Track) → begin_up_to (suc most) (Some track) (at e (length (after 0 (frame ∷ frames) tail) + spare) 0 Absent) (after 0 (frame ∷ frames) tail) ≡ Ok ((track, first_at e spare frame frames tail), first_text frame frames tail)
  unfolding begin_up_to begun_at
  frames_begin most track =
      let body = checked (cluster_content 0 frame) in
      let head = ident_bytes cluster ++ long (length body) in
      let rest = after 1 frames tail in
      let p = ident_spelled cluster cluster_is in
      ap (λ k. begin_up_to (suc most) (Some track) (at e k 0 Absent) (after 0 (frame ∷ frames) tail)) cluster_long_is
      ∙ ap (begin_up_to (suc most) (Some track) (at e (length head + (length body + (length rest + spare))) 0 Absent)) (cluster_parts frame frames (tail_text tail))
      ∙ ap (λ z. read_on z (element_or_begun (begin_up_to most) (Some track) (at e (length head + (length body + (length rest + spare))) 0 Absent))) (header_is_read (at e 0 0 Absent) false (ident_bytes cluster) (long (length body)) (Some (length body)) (length rest + spare) (body ++ rest) p.is p.few (long_spelled (length body) (content_small 0 frame few)))
      ∙ rw p.number refl

  -- a tick is as long as it was told before
  ticks_end : (most scale : ℕ) → scale_up_to (suc most) scale (at e (length (after 0 (frame ∷ frames) tail) + spare) 0 Absent) (after 0 (frame ∷ frames) tail) ≡ scale
  unfolding scale_up_to
  ticks_end most scale =
      let body = checked (cluster_content 0 frame) in
      let head = ident_bytes cluster ++ long (length body) in
      let rest = after 1 frames tail in
      let p = ident_spelled cluster cluster_is in
      ap (λ k. scale_up_to (suc most) scale (at e k 0 Absent) (after 0 (frame ∷ frames) tail)) cluster_long_is
      ∙ ap (scale_up_to (suc most) scale (at e (length head + (length body + (length rest + spare))) 0 Absent)) (cluster_parts frame frames (tail_text tail))
      ∙ ap (scale_on (scale_up_to most) scale (at e (length head + (length body + (length rest + spare))) 0 Absent)) (header_is_read (at e 0 0 Absent) false (ident_bytes cluster) (long (length body)) (Some (length body)) (length rest + spare) (body ++ rest) p.is p.few (long_spelled (length body) (content_small 0 frame few)))
      ∙ rw p.number refl

-- ---- ticks

-- an element of the Segment that is no Cluster
ticks_on : (e : Bool) (m most scale ident : ℕ) (size content rest : List ℕ) → IsIdent ident → SaysSize size (Some (length content)) → (ident == cluster) ≡ false →
    scale_up_to (suc most) scale (at e (length (spelled ident size content) + m) 0 Absent) (spelled ident size content ++ rest) ≡ scale_up_to most (scale_with ident (Some (length content)) scale (content ++ rest)) (at e m 0 Absent) rest
unfolding scale_up_to
ticks_on e m most scale ident size content rest is says apart =
    let p = ident_spelled ident is in
    let head = ident_bytes ident ++ size in
    let long_is : length (head ++ content) + m ≡ length head + (length content + m) = omega (arith, length-append head content) in
    ap (λ k. scale_up_to (suc most) scale (at e k 0 Absent) ((head ++ content) ++ rest)) long_is
    ∙ ap (scale_up_to (suc most) scale (at e (length head + (length content + m)) 0 Absent)) (append_assoc head content rest)
    ∙ ap (scale_on (scale_up_to most) scale (at e (length head + (length content + m)) 0 Absent)) (header_is_read (at e 0 0 Absent) false (ident_bytes ident) size (Some (length content)) m (content ++ rest) p.is p.few says)
    ∙ rw (p.number, apart, cut_back (length content) content rest refl) refl

scale_is : IsIdent timestamp_scale
scale_is = inr (inr (inl (omega arith, omega arith)))

high_number : (n : ℕ) → number_in 1000000 (bytes_high_first 8 n) ≡ Ok (n % 256 ^ 8)
high_number n = ap Ok (number_high 8 n)

tick_fits : (head : Head) → head.rate < 2 ^ 32 → head.scale < 2 ^ 32 → tick_of head < 2 ^ 64
unfolding tick_of
tick_fits head rate scale = elim (cases_eq (frame_duration head) 0) [
  | inl none ↦ rw (eq-eqb _ _ none) (omega arith)
  | inr some ↦ rw (ne_eqb _ _ some) (duration_fits head rate scale)
]

-- Info says it
info_found : (head : Head) (finish : Option Finish) → found timestamp_scale (info_content head finish) ≡ Ok (Some (bytes_high_first 8 (tick_of head)))
unfolding info_content
info_found head finish =
    let high = bytes_high_first 8 (tick_of head) in
    let says : SaysSize (short 8) (Some (length high)) = rw (length_high 8 (tick_of head)) (short_spelled 8 (omega arith)) in
    let rest = duration_element finish ++ short_element muxing_app writer_name ++ short_element writing_app writer_name in
    ap (found timestamp_scale) (regrouped (spelled timestamp_scale (short 8) high) (duration_element finish) (short_element muxing_app writer_name) (short_element writing_app writer_name))
    ∙ found_first timestamp_scale (short 8) high rest scale_is says
  where
    regrouped : (a b c d : List ℕ) → ((a ++ b) ++ c) ++ d ≡ a ++ ((b ++ c) ++ d)
    regrouped a b c d = simp append_assoc

-- by the elements after its CRC-32
info_scale : (head : Head) (finish : Option Finish) (rest : List ℕ) → tick_of head < 2 ^ 64 → scale_in (length (checked (info_content head finish))) (checked (info_content head finish) ++ rest) ≡ tick_of head
unfolding crc_element scale_in
info_scale head finish rest small =
    let content = info_content head finish in
    let few = info_few head finish in
    let low = bytes_low_first 0 4 (crc_of content) in
    let crc = spelled crc_ident (short 4) low in
    let six : length crc ≡ 6 = crc_long content in
    let long_is : length (crc ++ content) ≡ 6 + length content = length-append crc content ∙ ap (λ k. k + length content) six in
    let some : (length (crc ++ content) == 0) ≡ false = ne_eqb _ _ (λ none. omega (arith, none, long_is)) in
    let fits : length crc ≤ length (crc ++ content) = omega (arith, six, long_is) in
    let left : length (crc ++ content) - length crc ≡ length content = omega (arith, six, long_is) in
    let within : nat_le (length content) 4096 ≡ true = le-leb _ _ (omega (arith, few)) in
    let least : min (length content) 4096 ≡ length content = min-eq_left (omega (arith, few)) in
    let same : tick_of head % 256 ^ 8 ≡ tick_of head = omega (arith, small) in
    ap (scale_in (length (crc ++ content))) (append_assoc crc content rest)
    ∙ rw (some, element_spelled (length (crc ++ content)) crc_ident Absent (short 4) low (content ++ rest) crc_is_ident (short_spelled 4 (omega arith)) fits, left, within, least, cut_front (length content) content rest refl, info_found head finish)
    (ap scale_of (high_number (tick_of head)) ∙ same)

-- up to the first Cluster
ticks_there : (head : Head) (finish : Option Finish) (details : TrackEntry) (e : Bool) (spare most : ℕ) (frame : List ℕ) (frames : List (List ℕ)) (tail : Option (List ℕ)) → IsWritable head details (frame ∷ frames) →
    (let rest = after 0 (frame ∷ frames) tail in
    scale_up_to (suc (suc (suc (suc most)))) 0 (at e (length (top_text (seek_top finish)) + (length (top_text (info_top head finish)) + (length (tracks_element head details) + (length rest + spare)))) 0 Absent) (top_text (seek_top finish) ++ (top_text (info_top head finish) ++ (tracks_element head details ++ rest))) ≡ tick_of head)
unfolding tracks_element
ticks_there head finish details e spare most frame frames tail is =
    let rest = after 0 (frame ∷ frames) tail in
    let one = checked (seeks finish) in
    let two = checked (info_content head finish) in
    let three = checked (entry_element head details) in
    let small = tick_fits head is.rate is.scale in
    let a : length one < 127 = omega (arith, checked_long (seeks finish), seeks_few finish) in
    let b : length two < 127 = omega (arith, checked_long (info_content head finish), info_few head finish) in
    let short_is = is.short in
    let c : length three < 2 ^ 56 - 1 = omega (arith, short_is) in
    let track = tracks_element head details in
    let m = length rest + spare in
    ticks_on e (length (top_text (info_top head finish)) + (length (top_text (tracks_top head details)) + m)) (suc (suc (suc most))) 0 seek_head (short (length one)) one (top_text (info_top head finish) ++ (top_text (tracks_top head details) ++ rest)) seek_is (short_spelled (length one) a) refl
    ∙ ticks_on e (length (top_text (tracks_top head details)) + m) (suc (suc most)) 0 info (short (length two)) two (top_text (tracks_top head details) ++ rest) info_is (short_spelled (length two) b) refl
    ∙ ap (λ k. scale_up_to (suc (suc most)) k (at e (length (top_text (tracks_top head details)) + m) 0 Absent) (top_text (tracks_top head details) ++ rest)) (info_scale head finish (top_text (tracks_top head details) ++ rest) small)
    ∙ ticks_on e m (suc most) (tick_of head) tracks (long (length three)) three rest tracks_is (long_spelled (length three) c) refl
    ∙ ticks_end e spare frame frames tail is.written.0.1 most (tick_of head)

-- ---- the file

tick_begins : (file content : List ℕ) (known : Option ℕ) → FileBegins file known content → tick_in file ≡ scale_from 0 (segment_begun known) content
unfolding tick_in
tick_begins file content known is =
    ap tick_in is.bytes
    ∙ rw (ebml_complete is.ebml_ident is.ebml_size is.header (tops_text is.voids ++ ((is.segment_ident ++ is.segment_size) ++ content)) is.ebml_is is.ebml_sized is.short is.of_matroska, segment_complete is.voids is.segment_ident is.segment_size content known is.voids_are is.few is.segment_is is.sized) refl

-- where its frames begin
module _ (head : Head) (details : TrackEntry) (finish : Option Finish) (e : Bool) (spare : ℕ) (frame : List ℕ) (frames : List (List ℕ)) (tail : Option (List ℕ)) (is : IsWritable head details (frame ∷ frames)) where
  abbrev Begun : ℕ → ℕ → Option Track → List ℕ → Type 0
  Begun most n found text = begin_up_to most found (at e n 0 Absent) text ≡ Ok ((track_of head, first_at e spare frame frames tail), first_text frame frames tail)

  begun_tracks : (most : ℕ) → length (top_text (tracks_top head details)) + (length (after 0 (frame ∷ frames) tail) + spare) < most →
      Begun most (length (top_text (tracks_top head details)) + (length (after 0 (frame ∷ frames) tail) + spare)) None (top_text (tracks_top head details) ++ after 0 (frame ∷ frames) tail)
  begun_tracks zero fits = absurd (omega (arith, fits))
  begun_tracks (suc zero) fits =
      let body = checked (entry_element head details) in
      let some : 0 < length (top_text (tracks_top head details)) = omega (arith, long_long tracks body) in
      absurd (omega (arith, fits, some))
  begun_tracks (suc (suc most)) fits =
      tracks_begun (suc most) (at e 0 0 Absent) (tracks_top head details) (track_of head) (length (after 0 (frame ∷ frames) tail) + spare) (after 0 (frame ∷ frames) tail) (tracks_say head details (frame ∷ frames) is)
      ∙ frames_begin e spare frame frames tail is.written.0.1 most (track_of head)

  begun_all : (most n : ℕ) → n < most → n ≡ 148 + (length (tracks_element head details) + (length (after 0 (frame ∷ frames) tail) + spare)) →
      Begun most n None (tops_text (seek_top finish ∷ info_top head finish ∷ []) ++ (tracks_element head details ++ after 0 (frame ∷ frames) tail))
  unfolding tracks_element
  begun_all most n fits long_is =
      let tops = seek_top finish ∷ info_top head finish ∷ [] in
      let rest = after 0 (frame ∷ frames) tail in
      let m = length (top_text (tracks_top head details)) + (length rest + spare) in
      let whole : n ≡ length (tops_text tops) + m = omega (arith, long_is, tops_long head finish) in
      let one = tops_begun most (at e 0 0 Absent) tops m (top_text (tracks_top head details) ++ rest) (before_are head finish) (no_tracks head finish) (omega (arith, fits, whole)) in
      ap (λ k. begin_up_to most None (at e k 0 Absent) (tops_text tops ++ (top_text (tracks_top head details) ++ rest))) whole
      ∙ one.2
      ∙ begun_tracks one.0 one.1

-- a file opens so, and a tick of it has so many nanoseconds
pub record OpensAt (file : List ℕ) (head : Head) (size : Option ℕ) (spare : ℕ) (frame : List ℕ) (frames : List (List ℕ)) (tail : Option (List ℕ)) : Type 0 where
  pub opens : again_read file ≡ Ok (record { track = track_of head; segment = size; place = first_at (open_ended size) spare frame frames tail }, first_text frame frames tail)
  pub tick : tick_in file ≡ tick_of head

tops_are : (head : Head) (finish : Option Finish) (text : List ℕ) → tops_text (seek_top finish ∷ info_top head finish ∷ []) ++ text ≡ top_text (seek_top finish) ++ (top_text (info_top head finish) ++ text)
tops_are head finish text = regrouped (top_text (seek_top finish)) (top_text (info_top head finish)) text
  where
    regrouped : (a b c : List ℕ) → (a ++ (b ++ [])) ++ c ≡ a ++ (b ++ c)
    regrouped a b c = simp (append_assoc, append-nil)

pub opens_at : (head : Head) (details : TrackEntry) (finish : Option Finish) (size : Option ℕ) (spare : ℕ) (frame : List ℕ) (frames : List (List ℕ)) (tail : Option (List ℕ)) → IsWritable head details (frame ∷ frames) → SaysSize (segment_size finish) size →
    counted size ≡ 148 + (length (tracks_element head details) + (length (after 0 (frame ∷ frames) tail) + spare)) →
    OpensAt (opening head finish ++ (tracks_element head details ++ after 0 (frame ∷ frames) tail)) head size spare frame frames tail
unfolding again_read
opens_at head details finish size spare frame frames tail is says long_is =
    let rest = after 0 (frame ∷ frames) tail in
    let track = tracks_element head details in
    let tops = tops_text (seek_top finish ∷ info_top head finish ∷ []) in
    let content = tops ++ (track ++ rest) in
    let file = opening head finish ++ (track ++ rest) in
    let e = open_ended size in
    let n = counted size in
    let begins : FileBegins file size content = file_begins head finish size (track ++ rest) says in
    let begun = begun_all head details finish e spare frame frames tail is (suc (n + 0 + 0)) n (omega arith) long_is in
    let made : Place → Opened = λ place. record { track = track_of head; segment = size; place = place } in
    let opened : open_read file ≡ Ok (made (first_at e spare frame frames tail), first_text frame frames tail) =
    begins_complete file content size begins
    ∙ ap (λ (p : Place). read_on (begin_up_to (suc (amount p)) None p content) (λ q. given (record { track = q.0; segment = size; place = q.1 }))) (begun_there size)
    ∙ ap (λ z. read_on z (λ q. given (record { track = q.0; segment = size; place = q.1 }))) begun in
    let long_all = length-append (top_text (seek_top finish)) (top_text (info_top head finish)) in
    let parts : n ≡ length (top_text (seek_top finish)) + (length (top_text (info_top head finish)) + (length track + (length rest + spare))) = omega (arith, long_is, tops_long head finish, ap length (tops_are head finish []), length-append tops [], length-append (top_text (seek_top finish)) (top_text (info_top head finish) ++ []), length-append (top_text (info_top head finish)) []) in
    let four : suc (n + 0 + 0) ≡ suc (suc (suc (suc (n - 3)))) = omega (arith, long_is) in
    record {
      opens = rw opened refl;
      tick = tick_begins file content size begins
          ∙ ap (λ (p : Place). scale_up_to (suc (amount p)) 0 p content) (begun_there size)
          ∙ ap (λ k. scale_up_to k 0 (at e n 0 Absent) content) four
          ∙ ap (λ z. scale_up_to (suc (suc (suc (suc (n - 3))))) 0 (at e n 0 Absent) z) (tops_are head finish (track ++ rest))
          ∙ ap (λ k. scale_up_to (suc (suc (suc (suc (n - 3))))) 0 (at e k 0 Absent) (top_text (seek_top finish) ++ (top_text (info_top head finish) ++ (track ++ rest)))) parts
          ∙ ticks_there head finish details e spare (n - 3) frame frames tail is;
    }

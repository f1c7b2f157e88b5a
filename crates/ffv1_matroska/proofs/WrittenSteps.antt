-- The elements of a Segment that is written, one after the other, each as the step that it is.
use Rattle.std.proofs.Common.{◌≡◌, ◌⊎◌, ◌≤◌, ◌<◌, ◌+◌, ◌-◌, ◌^◌, ◌==◌, ◌∙◌, ◌++◌, ℕ, List, [], ◌∷◌, Bool, true, false, Option, Some, None, Ok, length, refl, ap, arith, inl, inr, append_assoc, length-append}
use Rattle.std.proofs.lemmas.Bool.{lt-ltb}
use Rattle.std.specs.Int.{bytes_high_first, bytes_low_first}
use Rattle.ffv1_reads.specs.Head.{frame_limit}
use Rattle.ffv1_reads.specs.Reads.{read_on}
use Rattle.ffv1_reads.proofs.WantedBytes.{taken_complete}
use Rattle.ffv1_sum.specs.Sum.{crc_of, number_of as low_number, turned}
use Rattle.ffv1_ebml.specs.Elements.{crc_ident, first_read}
use Rattle.ffv1_ebml.specs.Spelled.{IsIdent, SaysSize, ident_bytes, long, short}
use Rattle.ffv1_ebml.specs.Sums.{summed}
use Rattle.ffv1_ebml.specs.Vints.{IsVint, length_of, number_of}
use Rattle.ffv1_ebml.specs.declared.sum.Sum.{Sum}
use Rattle.ffv1_ebml.specs.declared.sum.Sum.TheVariants.{Absent, Begins, Awaits}
use Rattle.ffv1_ebml.proofs.ContentTold.{content_good}
use Rattle.ffv1_ebml.proofs.Numbers.{length_high}
use Rattle.ffv1_ebml.proofs.SpelledLaws.{ident_spelled, long_spelled, number_high, short_spelled}
use Rattle.ffv1_matroska.specs.Elements.{IsOwn}
use Rattle.ffv1_matroska.specs.Internal.{bytes_of}
use Rattle.ffv1_matroska.specs.Places.{cluster_at, frame_at, step_to, summed_at, timed_to}
use Rattle.ffv1_matroska.specs.Segments.{child_by, cluster, cluster_child, cluster_read, cluster_rest, first_child, header_read, is_beside, is_outside, is_section, known_child, other_read, outside_idents, segment_child, segment_read, segment_rest, simple_block, step_read, timestamp_read}
use Rattle.ffv1_matroska.specs.WrittenIdents.{cues, timestamp}
use Rattle.ffv1_matroska.specs.Written.{block_header, checked, cluster_content, cluster_element, crc_element, long_element}
use Rattle.ffv1_matroska.specs.declared.place.Place.{Place}
use Rattle.ffv1_matroska.specs.declared.track.TrackNumbers.{TrackNumbers}
use Rattle.ffv1_matroska.proofs.BlockLaws.{own_complete}
use Rattle.ffv1_matroska.proofs.HeaderLaws.{IsHeader, header_inside}
use Rattle.ffv1_matroska.proofs.PartLaws.{header_is_read}
use Rattle.ffv1_matroska.proofs.PieceLaws.{IsPast, by_past, header_some, past_summed}
use Rattle.ffv1_matroska.proofs.SpelledLengths.{long_long}
use Rattle.ffv1_matroska.proofs.WrittenBytes.{AreBytes}
use Rattle.ffv1_matroska.proofs.WrittenChecks.{checked_told, crc_is_ident}
use Rattle.ffv1_matroska.proofs.WrittenClusters.{written_numbers}
use Rattle.ffv1_matroska.proofs.WrittenLengths.{cluster_long}

-- in no BlockGroup, and in no Cluster of unknown size
abbrev pub at : Bool → ℕ → ℕ → Sum → Place
at e segment cluster sum = record { segment = segment; endless = e; loose = false; cluster = cluster; group = 0; sum = sum }

-- ---- headers

-- an element of the Segment
segment_step : (track : TrackNumbers) (e : Bool) (s : Sum) (ident size : List ℕ) (known : Option ℕ) (m : ℕ) (rest : List ℕ) → IsVint ident → length ident ≤ 4 → SaysSize size known →
    step_read track (at e (length (ident ++ size) + (bytes_of known + m)) 0 s) ((ident ++ size) ++ rest) ≡ segment_child track (number_of ident) (at e m 0 Absent) known rest
unfolding step_read segment_read header_read
segment_step track e s ident size known m rest named few sized =
    let n = length (ident ++ size) + (bytes_of known + m) in
    ap (λ z. read_on z (segment_rest track (at e n 0 s))) (header_is_read (at e m 0 s) false ident size known m rest named few sized)

-- an element of a Cluster
child_step : (track : TrackNumbers) (base : Place) (ident size : List ℕ) (k m : ℕ) (s : Sum) (rest : List ℕ) → IsVint ident → length ident ≤ 4 → SaysSize size (Some k) → is_outside (number_of ident) ≡ false →
    step_read track (cluster_at base (length (ident ++ size) + (k + m)) s) ((ident ++ size) ++ rest) ≡ child_by track (number_of ident) k (cluster_at base m (summed s (ident ++ size))) (summed s (ident ++ size)) rest
unfolding step_read cluster_read known_child
child_step track base ident size k m s rest named few sized inside =
    let head = ident ++ size in
    let n = length head + (k + m) in
    let some : 0 < n = omega (arith, header_some ident size [] named, length-append head []) in
    let header : IsHeader n ident size (Some k) = record { named = named; few = few; sized = sized; fits = omega arith } in
    let left : n - length head - k ≡ m = omega arith in
    rw (lt-ltb 0 n some) (
    ap (λ z. read_on z (cluster_rest track (cluster_at base n s))) (header_inside is_outside n s ident size rest (Some k) header inside)
    ∙ ap (λ j. child_by track (number_of ident) k (cluster_at base j (summed s head)) (summed s head) rest) left)

-- the same of an element that is spelled
child_spelled : (track : TrackNumbers) (e : Bool) (o m ident : ℕ) (size content rest : List ℕ) (s : Sum) → IsIdent ident → SaysSize size (Some (length content)) → is_outside ident ≡ false →
    step_read track (at e o (length ((ident_bytes ident ++ size) ++ content) + m) s) (((ident_bytes ident ++ size) ++ content) ++ rest)
    ≡ child_by track ident (length content) (at e o m (summed s (ident_bytes ident ++ size))) (summed s (ident_bytes ident ++ size)) (content ++ rest)
child_spelled track e o m ident size content rest s is says inside =
    let p = ident_spelled ident is in
    let head = ident_bytes ident ++ size in
    let long_is : length (head ++ content) + m ≡ length head + (length content + m) = omega (arith, length-append head content) in
    let sum = summed s head in
    ap (λ k. step_read track (at e o k s) ((head ++ content) ++ rest)) long_is
    ∙ ap (step_read track (at e o (length head + (length content + m)) s)) (append_assoc head content rest)
    ∙ child_step track (at e o 0 s) (ident_bytes ident) size (length content) m s (content ++ rest) p.is p.few says (ap is_outside p.number ∙ inside)
    ∙ ap (λ k. child_by track k (length content) (at e o m sum) sum (content ++ rest)) p.number

-- ---- elements of a Cluster

crc_outside : is_outside crc_ident ≡ false
unfolding outside_idents
crc_outside = refl

crc_child : (track : TrackNumbers) (place : Place) (bytes rest : List ℕ) → length bytes ≡ 4 → 0 < place.cluster →
    first_child track crc_ident 4 place (bytes ++ rest) ≡ Ok (Some (step_to (summed_at place (Awaits (low_number bytes) turned))), rest)
unfolding first_child
crc_child track place bytes rest four some = rw (taken_complete 4 bytes rest four, lt-ltb 0 place.cluster some) refl

-- its CRC-32
pub crc_step : (track : TrackNumbers) (e : Bool) (o : ℕ) (content rest : List ℕ) → 0 < length content →
    step_read track (at e o (length (checked content)) Begins) (checked content ++ rest) ≡ Ok (Some (step_to (at e o (length content) (Awaits (low_number (bytes_low_first 0 4 (crc_of content))) turned))), content ++ rest)
unfolding crc_element
crc_step track e o content rest some =
    let low = bytes_low_first 0 4 (crc_of content) in
    let head = ident_bytes crc_ident ++ short 4 in
    let long_is : length ((head ++ low) ++ content) ≡ length (head ++ low) + length content = length-append (head ++ low) content in
    ap (λ k. step_read track (at e o k Begins) (((head ++ low) ++ content) ++ rest)) long_is
    ∙ ap (step_read track (at e o (length (head ++ low) + length content) Begins)) (append_assoc (head ++ low) content rest)
    ∙ child_spelled track e o (length content) crc_ident (short 4) low (content ++ rest) Begins crc_is_ident (short_spelled 4 (omega arith)) crc_outside
    ∙ crc_child track (at e o (length content) Begins) low (content ++ rest) refl some

time_is : IsIdent timestamp
time_is = inl (omega arith, omega arith)

block_is : IsIdent simple_block
block_is = inl (omega arith, omega arith)

time_outside : is_outside timestamp ≡ false
unfolding outside_idents
time_outside = refl

block_outside : is_outside simple_block ≡ false
unfolding outside_idents
block_outside = refl

time_child : (track : TrackNumbers) (place : Place) (bytes rest : List ℕ) → length bytes ≡ 8 → 0 < place.cluster →
    cluster_child track timestamp 8 place (bytes ++ rest) ≡ Ok (Some (timed_to (number_of bytes) (summed_at place (summed place.sum bytes))), rest)
unfolding cluster_child is_beside timestamp_read
time_child track place bytes rest eight some = rw (taken_complete 8 bytes rest eight, lt-ltb 0 place.cluster some) refl

-- the SimpleBlock of a frame
abbrev pub block_of : List ℕ → List ℕ
block_of frame = long_element simple_block (block_header ++ frame)

pub block_some : (frame : List ℕ) → 0 < length (block_of frame)
block_some frame = omega (arith, long_long simple_block (block_header ++ frame))

-- its Timestamp
pub time_step : (track : TrackNumbers) (e : Bool) (o number : ℕ) (frame rest : List ℕ) (s : Sum) → IsPast s → number < 2 ^ 64 →
    step_read track (at e o (length (cluster_content number frame)) s) (cluster_content number frame ++ rest) ≡ Ok (Some (timed_to number (at e o (length (block_of frame)) (summed (summed s (ident_bytes timestamp ++ short 8)) (bytes_high_first 8 number)))), block_of frame ++ rest)
unfolding cluster_content
time_step track e o number frame rest s past small =
    let high = bytes_high_first 8 number in
    let head = ident_bytes timestamp ++ short 8 in
    let block = block_of frame in
    let sum = summed s head in
    let eight : length high ≡ 8 = length_high 8 number in
    let long_is : length ((head ++ high) ++ block) ≡ length (head ++ high) + length block = length-append (head ++ high) block in
    let says : SaysSize (short 8) (Some (length high)) = rw eight (short_spelled 8 (omega arith)) in
    let same : number_of high ≡ number = number_high 8 number ∙ (omega (arith, small)) in
    ap (λ k. step_read track (at e o k s) (((head ++ high) ++ block) ++ rest)) long_is
    ∙ ap (step_read track (at e o (length (head ++ high) + length block) s)) (append_assoc (head ++ high) block rest)
    ∙ child_spelled track e o (length block) timestamp (short 8) high (block ++ rest) s time_is says time_outside
    ∙ ap (λ r. r (high ++ (block ++ rest))) (by_past track timestamp (length high) (at e o (length block) sum) sum (past_summed s head past))
    ∙ ap (λ k. cluster_child track timestamp k (at e o (length block) sum) (high ++ (block ++ rest))) eight
    ∙ time_child track (at e o (length block) sum) high (block ++ rest) eight (block_some frame)
    ∙ ap (λ k. Ok (Some (timed_to k (at e o (length block) (summed sum high))), block ++ rest)) same

one_is : IsVint (129 ∷ [])
unfolding length_of
one_is = (omega arith, refl)

own_is : (duration : ℕ) (frame : List ℕ) → 0 < length frame → length frame ≤ frame_limit → IsOwn (written_numbers duration) (129 ∷ []) (0 ∷ 0 ∷ []) 128 frame
own_is duration frame some few = record { own = (one_is, omega arith, refl); timed = refl; unlaced = refl; some = some; short = few }

block_child : (duration : ℕ) (place : Place) (frame rest : List ℕ) → 0 < length frame → length frame ≤ frame_limit →
    cluster_child (written_numbers duration) simple_block (length (block_header ++ frame)) place ((block_header ++ frame) ++ rest) ≡ Ok (Some (frame_at (Some 0) (length frame) (summed_at place (summed place.sum block_header))), frame ++ rest)
unfolding cluster_child
block_child duration place frame rest some few = own_complete (written_numbers duration) place (129 ∷ []) (0 ∷ 0 ∷ []) 128 frame rest (own_is duration frame some few)

-- its SimpleBlock, up to the frame
pub block_step : (duration : ℕ) (e : Bool) (o : ℕ) (frame rest : List ℕ) (s : Sum) → IsPast s → 0 < length frame → length frame ≤ frame_limit →
    (sum : Sum) × (step_read (written_numbers duration) (at e o (length (block_of frame)) s) (block_of frame ++ rest) ≡ Ok (Some (frame_at (Some 0) (length frame) (at e o 0 sum)), frame ++ rest))
block_step duration e o frame rest s past some few =
    let track = written_numbers duration in
    let body = block_header ++ frame in
    let head = ident_bytes simple_block ++ long (length body) in
    let sum = summed s head in
    let small : length body < 2 ^ 56 - 1 = omega (arith, length-append block_header frame, few) in
    let none : length (block_of frame) ≡ length (block_of frame) + 0 = omega arith in (
      summed sum block_header,
      ap (λ k. step_read track (at e o k s) (block_of frame ++ rest)) none
          ∙ child_spelled track e o 0 simple_block (long (length body)) body rest s block_is (long_spelled (length body) small) block_outside
          ∙ ap (λ r. r (body ++ rest)) (by_past track simple_block (length body) (at e o 0 sum) sum (past_summed s head past))
          ∙ block_child duration (at e o 0 sum) frame rest some few,
    )

-- ---- elements of the Segment

cluster_is : IsIdent cluster
cluster_is = inr (inr (inr (omega arith, omega arith)))

cues_is : IsIdent cues
cues_is = inr (inr (inr (omega arith, omega arith)))

-- an element of the Segment that is spelled
top_spelled : (track : TrackNumbers) (e : Bool) (m ident : ℕ) (content rest : List ℕ) (s : Sum) → IsIdent ident → length content < 2 ^ 56 - 1 →
    step_read track (at e (length (long_element ident content) + m) 0 s) (long_element ident content ++ rest) ≡ segment_child track ident (at e m 0 Absent) (Some (length content)) (content ++ rest)
top_spelled track e m ident content rest s is small =
    let p = ident_spelled ident is in
    let size = long (length content) in
    let head = ident_bytes ident ++ size in
    let long_is : length (head ++ content) + m ≡ length head + (length content + m) = omega (arith, length-append head content) in
    ap (λ k. step_read track (at e k 0 s) ((head ++ content) ++ rest)) long_is
    ∙ ap (step_read track (at e (length head + (length content + m)) 0 s)) (append_assoc head content rest)
    ∙ segment_step track e s (ident_bytes ident) size (Some (length content)) m (content ++ rest) p.is p.few (long_spelled (length content) small)
    ∙ ap (λ k. segment_child track k (at e m 0 Absent) (Some (length content)) (content ++ rest)) p.number

cluster_there : (track : TrackNumbers) (e : Bool) (m n : ℕ) (text : List ℕ) → segment_child track cluster (at e m 0 Absent) (Some n) text ≡ Ok (Some (step_to (at e m n Begins)), text)
unfolding segment_child
cluster_there track e m n text = refl

pub content_small : (number : ℕ) (frame : List ℕ) → length frame ≤ frame_limit → length (checked (cluster_content number frame)) < 2 ^ 56 - 1
unfolding cluster_element
content_small number frame few = omega (arith, few, cluster_long number frame, long_long cluster (checked (cluster_content number frame)))

-- the header of a Cluster
pub cluster_step : (track : TrackNumbers) (e : Bool) (m number : ℕ) (frame rest : List ℕ) (s : Sum) → length frame ≤ frame_limit →
    step_read track (at e (length (cluster_element number frame) + m) 0 s) (cluster_element number frame ++ rest) ≡ Ok (Some (step_to (at e m (length (checked (cluster_content number frame))) Begins)), checked (cluster_content number frame) ++ rest)
unfolding cluster_element
cluster_step track e m number frame rest s few =
    let content = checked (cluster_content number frame) in
    top_spelled track e m cluster content rest s cluster_is (content_small number frame few)
    ∙ cluster_there track e m (length content) (content ++ rest)

cues_there : (track : TrackNumbers) (e : Bool) (m : ℕ) (content rest : List ℕ) → AreBytes content → segment_child track cues (at e m 0 Absent) (Some (length (checked content))) (checked content ++ rest) ≡ Ok (Some (step_to (at e m 0 Absent)), rest)
unfolding segment_child other_read is_section
cues_there track e m content rest bytes = rw (content_good (checked content) rest (checked_told content bytes)) refl

-- Cues
pub cues_step : (track : TrackNumbers) (e : Bool) (m : ℕ) (content rest : List ℕ) (s : Sum) → AreBytes content → length (checked content) < 2 ^ 56 - 1 →
    step_read track (at e (length (long_element cues (checked content)) + m) 0 s) (long_element cues (checked content) ++ rest) ≡ Ok (Some (step_to (at e m 0 Absent)), rest)
cues_step track e m content rest s bytes small =
    top_spelled track e m cues (checked content) rest s cues_is small
    ∙ cues_there track e m content rest bytes

-- the end
pub end_step : (track : TrackNumbers) (e : Bool) (m : ℕ) (s : Sum) → (m ≡ 0) ⊎ (e ≡ true) → step_read track (at e m 0 s) [] ≡ Ok (None, [])
unfolding step_read segment_read header_read first_read
end_step track e m s (inl none) = rw none refl
end_step track e m s (inr endless) = on_left (m == 0) refl
  where
    on_left : (b : Bool) → (m == 0) ≡ b → step_read track (at e m 0 s) [] ≡ Ok (None, [])
    on_left true is = rw is refl
    on_left false is = rw (is, endless) refl

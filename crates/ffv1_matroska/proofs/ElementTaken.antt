-- How many bytes of its parents an element takes.
use Rattle.ffv1_ebml.proofs.OutsideLaws.{in_read}
use Rattle.std.proofs.Common.{◌≡◌, ◌+◌, ◌-◌, ◌≤◌, ◌==◌, ◌&&◌, ℕ, suc, zero, List, [], ◌∷◌, Option, Some, None, Ok, true, nat_lt, length, slice_index, refl, sym, arith, Bool}
use Rattle.std.proofs.lemmas.Bool.{eqb-true}
use Rattle.std.proofs.lemmas.Bool.Decides.{nat_tests}
use Rattle.std.proofs.lemmas.List.{length-append}
use Rattle.ffv1_reads.specs.declared.fault.FileFault.TheVariants as fault
use Rattle.ffv1_reads.specs.Reads.{Kept, Looked, given, passed, refused, taken, wanted, ◌>>=◌}
use Rattle.ffv1_reads.proofs.Taking.{Any, Takes, takes_given, takes_if, takes_passed, takes_refused, takes_same, takes_then, takes_wanted}
use Rattle.ffv1_sum.specs.Sum.{number_of as low_number, turned}
use Rattle.ffv1_ebml.specs.Elements.{content_judged, content_passed, data_read, element_in, element_judged, element_or_end, element_read, element_rest, first_read, is_crc, stated_judged, sum_judged}
use Rattle.ffv1_ebml.specs.Sums.{is_met, kept_summed, passed_summed, taken_summed}
use Rattle.ffv1_ebml.specs.Vints.{number_of, size_of, vint_read}
use Rattle.ffv1_ebml.specs.declared.element.Data.{Data}
use Rattle.ffv1_ebml.specs.declared.element.Element.{Element}
use Rattle.ffv1_ebml.specs.declared.sum.Sum.{Sum}
use Rattle.ffv1_ebml.specs.declared.sum.Sum.TheVariants.{Absent, Begins, Awaits}
use Rattle.ffv1_ebml.proofs.VintLaws.{vint_sound}
use Rattle.ffv1_matroska.specs.WrittenIdents.{timestamp}
use Rattle.ffv1_matroska.specs.Blocks.{block_read, block_rest, fields_read, frame_judged, is_unknown, lacing_of, passed_on, time_of}
use Rattle.ffv1_matroska.specs.Internal.{bytes_of}
use Rattle.ffv1_matroska.specs.Offsets.{element_taken, frame_taken, step_taken}
use Rattle.ffv1_matroska.specs.Places.{amount, closed, cluster_at, group_at, is_sound, segment_at, step_to, summed_at, timed_to}
use Rattle.ffv1_matroska.specs.Segments.{block, block_group, child_by, cluster, cluster_child, cluster_read, cluster_rest, crc_read, first_child, group_child, group_read, group_rest, header_read, is_filler, is_of_cluster, is_outside, is_section, known_child, other_read, segment_child, segment_read, segment_rest, simple_block, step_read, timestamp_read}
use Rattle.ffv1_matroska.specs.declared.place.Place.{Place}
use Rattle.ffv1_matroska.specs.declared.place.Step.{Step}
use Rattle.ffv1_reads.specs.Head.{frame_limit}
use Rattle.ffv1_matroska.specs.Segments.{block_sought, is_beside, sought_child}
use Rattle.ffv1_matroska.specs.declared.track.TrackNumbers.{TrackNumbers}

-- a variable-size integer
vint_takes : (most left : ℕ) → Takes (λ (i : List ℕ). length i ≤ left) left (λ i. left - length i) (vint_read most left)
vint_takes most left = record { only = λ text rest i h. (let v = vint_sound most left text (i, rest) h in (v.fits, rw v.text_is (omega (arith, v.fits, length-append i rest)))) }

-- the header of an element
judged_takes : (left ident : ℕ) (size : Option ℕ) → Takes Any left (λ (e : Element). bytes_of e.size + e.left) (element_judged left ident size)
judged_takes left ident None = takes_given _ tt (omega arith)
judged_takes left ident (Some n) =
    takes_if (nat_lt left n) (refused fault.Truncated) _ (λ _. takes_refused fault.Truncated) (λ fits. takes_given _ tt (grind (arith, nat_tests, fits)))

pub element_takes : (left : ℕ) (sum : Sum) → Takes Any left (λ (p : Element × Sum). bytes_of p.0.size + p.0.left) (element_read left sum)
unfolding element_in
element_takes left sum =
    takes_then (vint_read 4 left) (element_rest left sum) (vint_takes 4 left) (λ ident few.
    takes_then (vint_read 8 (left - length ident)) _ (vint_takes 8 (left - length ident)) (λ size small.
    takes_then (element_judged (left - length ident - length size) (number_of ident) (size_of size)) _ (judged_takes (left - length ident - length size) (number_of ident) (size_of size)) (λ e _. takes_given _ tt refl)))

pub inside_takes : (outside : ℕ → Bool) (left : ℕ) (sum : Sum) → Takes Any left (λ (p : Element × Sum). bytes_of p.0.size + p.0.left) (element_in outside left sum)
inside_takes outside left sum = record { only = λ text rest p h. (element_takes left sum).only text rest p (in_read outside left sum text (p, rest) h).0 }

-- content that is passed
sum_takes : (sum : Sum) → Takes Any 0 (λ _. 0) (sum_judged sum)
sum_takes sum = takes_if (is_met sum) (given tt) (refused fault.Checksum) (λ _. takes_given tt tt refl) (λ _. takes_refused fault.Checksum)

passed_takes : (n more : ℕ) (sum : Sum) → Takes Any (n + more) (λ _. more) (passed_summed n sum)
passed_takes n more sum = takes_then (taken n) _ (takes_wanted Looked n more) (λ bytes _. takes_given _ tt refl)

judged_content : (e : Element) (size : Option ℕ) → e.size ≡ size → Takes Any (bytes_of size + e.left) (λ _. 0) (content_judged e size)
judged_content e None is = takes_refused fault.BadElement
judged_content e (Some n) is =
    takes_if (is_crc e.ident n) _ _
    (λ crc.
    (let four : n ≡ 4 = crc_size e.ident n crc in
    takes_then (taken 4) (stated_judged e.left) (takes_same _ _ (taken 4) (omega (arith, four)) (takes_wanted Looked 4 e.left)) (λ stated _.
    takes_then (passed_summed e.left (Awaits (low_number stated) turned)) sum_judged (takes_same _ _ _ (omega arith) (passed_takes e.left 0 (Awaits (low_number stated) turned))) (λ s _. sum_takes s))))
    (λ _. takes_same _ _ (passed (n + e.left)) (omega arith) (takes_passed (n + e.left) 0))
  where
    crc_size : (ident n : ℕ) → is_crc ident n ≡ true → n ≡ 4
    crc_size ident n is = grind (arith, nat_tests, is)

pub content_takes : (n : ℕ) → Takes Any n (λ _. 0) (content_passed n)
unfolding content_passed
content_takes n =
    takes_if (n == 0) (given tt) _ (λ none. takes_given tt tt (sym (eqb-true n 0 none)))
    (λ _. takes_then (element_read n Absent) _ (element_takes n Absent) (λ p _. judged_content p.0 p.0.size refl))

-- what is left after a step, with the frame that it comes to
abbrev pub left_after : Place → Option Step → ℕ
left_after place None = amount place
left_after place (Some s) = bytes_of s.frame + amount s.place

closed_takes : (place now : Place) → Takes Any (amount now) (left_after place) (closed (Some (step_to now)) now)
closed_takes place now = takes_if (is_sound now) (given (Some (step_to now))) (refused fault.Checksum) (λ _. takes_given _ tt (omega arith)) (λ _. takes_refused fault.Checksum)

on_takes : (place : Place) (size : ℕ) (now : Place) → Takes Any (size + amount now) (left_after place) (passed_on size now)
unfolding passed_on
on_takes place size now = takes_then (passed_summed size now.sum) _ (passed_takes size (amount now) now.sum) (λ sum _. closed_takes place (summed_at now sum))

timestamp_takes : (place : Place) (size : ℕ) (now : Place) → Takes Any (size + amount now) (left_after place) (timestamp_read size now)
unfolding timestamp_read
timestamp_takes place size now =
    takes_then (taken_summed size now.sum) _ (takes_then {after = λ _. amount now} (taken size) _ (takes_wanted Looked size (amount now)) (λ bytes _. takes_given {P = Any} _ tt refl)) (λ p _. timed_takes (number_of p.0) (summed_at now p.1))
  where
    timed_takes : (time : ℕ) (next : Place) → Takes Any (amount next) (left_after place) (closed (Some (timed_to time next)) next)
    timed_takes time next = takes_if (is_sound next) (given (Some (timed_to time next))) (refused fault.Checksum) (λ _. takes_given _ tt (omega arith)) (λ _. takes_refused fault.Checksum)

-- a block
frame_takes : (place : Place) (time flags size : ℕ) (now : Place) → Takes Any (size + amount now) (left_after place) (frame_judged time flags size now)
frame_takes place time flags size now =
    takes_if (lacing_of flags == 0) _ (refused fault.Laced)
    (λ _. takes_if (nat_lt frame_limit size) (refused fault.ChunkTooLong) _ (λ _. takes_refused fault.ChunkTooLong)
    (λ _. takes_if (size == 0) (refused fault.EmptyFrame) _ (λ _. takes_refused fault.EmptyFrame) (λ _. takes_given _ tt refl)))
    (λ _. takes_refused fault.Laced)

fields_takes : (place : Place) (left : ℕ) (now : Place) → Takes Any (left + amount now) (left_after place) (fields_read left now)
unfolding fields_read
fields_takes place left now =
    takes_if (nat_lt left 3) (refused fault.Truncated) _ (λ _. takes_refused fault.Truncated) (λ fits.
    (let three : 3 ≤ left = grind (arith, nat_tests, fits) in
    takes_then (taken_summed 3 now.sum) _ (takes_then {after = λ _. left - 3 + amount now} (taken 3) _ (takes_same _ _ (taken 3) (omega (arith, three)) (takes_wanted Looked 3 (left - 3 + amount now))) (λ bytes _. takes_given {P = Any} _ tt refl)) (λ p _. frame_takes place (time_of p.0) (slice_index p.0 2) (left - 3) (summed_at now p.1))))

pub data_takes : (left more : ℕ) (sum : Sum) → Takes Any (left + more) (λ (p : Data × Sum). p.0.left + more) (data_read left sum)
data_takes left more sum = takes_then (vint_read 8 left) _ (vint_more 8 left more) (λ bytes few. takes_given _ tt (omega (arith, few)))
  where
    vint_more : (most left more : ℕ) → Takes (λ (i : List ℕ). length i ≤ left) (left + more) (λ i. left + more - length i) (vint_read most left)
    vint_more most left more = record { only = λ text rest i h. (let v = vint_sound most left text (i, rest) h in (v.fits, rw v.text_is (omega (arith, v.fits, length-append i rest)))) }

block_takes : (place : Place) (track : TrackNumbers) (size : ℕ) (now : Place) → Takes Any (size + amount now) (left_after place) (block_read track size now)
unfolding block_read
block_takes place track size now =
    takes_then (data_read size now.sum) (block_rest track now) (data_takes size (amount now) now.sum) (λ p _.
    takes_if (p.0.value == track.number) _ _ (λ _. fields_takes place p.0.left (summed_at now p.1))
    (λ _. takes_if (is_unknown track.known p.0.value) (refused fault.BadElement) _ (λ _. takes_refused fault.BadElement) (λ _. on_takes place p.0.left (summed_at now p.1))))

-- an element of a BlockGroup
header_more : (place : Place) → Takes Any place.group (λ (p : Element × Sum). bytes_of p.0.size + p.0.left) (element_read place.group place.sum) →
    Takes Any (amount place) (λ (p : Element × Sum). bytes_of p.0.size + amount (group_at place p.0.left p.1)) (element_read place.group place.sum)
header_more place h = record { only = λ text rest p is. (tt, omega (arith, (h.only text rest p is).1)) }

group_takes : (track : TrackNumbers) (place : Place) → Takes Any (amount place) (left_after place) (group_read track place)
unfolding group_read group_child
group_takes track place =
    takes_then (element_read place.group place.sum) (group_rest track place) (header_more place (element_takes place.group place.sum)) (λ p _. child p.0.ident (group_at place p.0.left p.1) p.0.size)
  where
    child : (ident : ℕ) (now : Place) (size : Option ℕ) → Takes Any (bytes_of size + amount now) (left_after place) (group_child track ident now size)
    child ident now None = takes_refused fault.BadElement
    child ident now (Some n) = takes_if (ident == block) _ _ (λ _. block_takes place track n now) (λ _. on_takes place n now)

-- a BlockGroup up to its first Block
sought_takes : (place : Place) (most : ℕ) (track : TrackNumbers) (now : Place) → Takes Any (amount now) (left_after place) (block_sought most track now)
unfolding block_sought
sought_takes place zero track now = takes_refused fault.BadElement
sought_takes place (suc most) track now =
    takes_if (now.group == 0) _ _ (λ _. takes_refused fault.BadElement) (λ _. takes_then (element_read now.group now.sum) _ (header_more now (element_takes now.group now.sum)) (λ p _. child p.0.ident (group_at now p.0.left p.1) p.0.size (sought_takes place most track)))
  where
    child : (ident : ℕ) (here : Place) (size : Option ℕ) → ((p : Place) → Takes Any (amount p) (left_after place) (block_sought most track p)) → Takes Any (bytes_of size + amount here) (left_after place) (sought_child (block_sought most track) track ident here size)
    child ident here None again = takes_refused fault.BadElement
    child ident here (Some n) again = takes_if (ident == block) _ _ (λ _. block_takes place track n here) (λ _. takes_then (passed_summed n here.sum) _ (passed_takes n (amount here) here.sum) (λ sum _. again (summed_at here sum)))

-- an element of a Cluster
child_takes : (place : Place) (track : TrackNumbers) (ident size : ℕ) (now : Place) → now.group ≡ 0 → Takes Any (size + amount now) (left_after place) (cluster_child track ident size now)
unfolding cluster_child
child_takes place track ident size now none =
    takes_if (ident == simple_block) _ _ (λ _. block_takes place track size now)
    (λ _. takes_if (ident == block_group) _ _
    (λ _. takes_same _ _ (block_sought size track (group_at now size now.sum)) (omega (arith, none)) (sought_takes place size track (group_at now size now.sum)))
    (λ _. takes_if (is_beside ident size) _ _ (λ _. takes_if (ident == timestamp) _ _ (λ _. timestamp_takes place size now) (λ _. on_takes place size now)) (λ _. takes_refused fault.BadElement)))

cluster_takes : (track : TrackNumbers) (place : Place) → place.group ≡ 0 → Takes Any (amount place) (left_after place) (cluster_read track place)
unfolding cluster_read known_child first_child
cluster_takes track place none =
    takes_then (element_in is_outside place.cluster place.sum) (cluster_rest track place) (more (inside_takes is_outside place.cluster place.sum)) (λ p _. child p.0.ident (cluster_at place p.0.left p.1) p.0.size refl)
  where
    more : Takes Any place.cluster (λ (p : Element × Sum). bytes_of p.0.size + p.0.left) (element_in is_outside place.cluster place.sum) →
        Takes Any (amount place) (λ (p : Element × Sum). bytes_of p.0.size + amount (cluster_at place p.0.left p.1)) (element_in is_outside place.cluster place.sum)
    more h = record { only = λ text rest p is. (tt, omega (arith, none, (h.only text rest p is).1)) }

    crc_size : (ident n : ℕ) → is_crc ident n ≡ true → n ≡ 4
    crc_size ident n is = grind (arith, nat_tests, is)

    by_sum : (ident size : ℕ) (now : Place) (s : Sum) → now.group ≡ 0 → Takes Any (size + amount now) (left_after place) (child_by track ident size now s)
    by_sum ident size now Begins empty =
        takes_if (is_crc ident size) (crc_read now) (cluster_child track ident size (summed_at now Absent))
        (λ crc.
        (let four : size ≡ 4 = crc_size ident size crc in
        takes_then (taken 4) _ (takes_same _ _ (taken 4) (omega (arith, four)) (takes_wanted Looked 4 (amount now))) (λ bytes _. closed_takes place (summed_at now (Awaits (low_number bytes) turned)))))
        (λ _. child_takes place track ident size (summed_at now Absent) empty)
    by_sum ident size now Absent empty = child_takes place track ident size now empty
    by_sum ident size now (Awaits stated so_far) empty = child_takes place track ident size now empty

    child : (ident : ℕ) (now : Place) (size : Option ℕ) → now.group ≡ 0 → Takes Any (bytes_of size + amount now) (left_after place) (known_child track ident now size)
    child ident now None empty = takes_refused fault.BadElement
    child ident now (Some n) empty = by_sum ident n now now.sum empty

-- an element of a Segment
abbrev pub left_behind : Place → Option Element → ℕ
left_behind place None = place.segment
left_behind place (Some e) = bytes_of e.size + e.left

pub header_takes : (place : Place) → Takes Any place.segment (left_behind place) (header_read place)
unfolding header_read first_read
header_takes place =
    takes_if (place.segment == 0) _ _ (λ _. takes_given None tt refl)
    (λ _. takes_if place.endless _ _ (λ _. takes_if (place.segment == 0) _ _ (λ _. takes_refused fault.Truncated) (λ _. record { only = or_end })) (λ _. some))
  where
    some : Takes Any place.segment (left_behind place) (element_read place.segment Absent >>= λ p. given (Some p.0))
    some = takes_then (element_read place.segment Absent) _ (element_takes place.segment Absent) (λ p _. takes_given (Some p.0) tt refl)

    or_end : (text rest : List ℕ) (x : Option Element) → element_or_end place.segment text ≡ Ok (x, rest) → Unit {0} × (length text + left_behind place x ≡ length rest + place.segment)
    or_end [] rest x h = (takes_given {P = Any} {after = left_behind place} None tt refl).only [] rest x h
    or_end (b ∷ bs) rest x h = some.only (b ∷ bs) rest x h

segment_takes : (track : TrackNumbers) (place : Place) → place.group ≡ 0 → place.cluster ≡ 0 → Takes Any (amount place) (left_after place) (segment_read track place)
unfolding segment_read segment_child other_read
segment_takes track place group none = takes_then (header_read place) (segment_rest track place) (more (header_takes place)) (λ o _. on_header o)
  where
    after_header : Option Element → ℕ
    after_header None = amount place
    after_header (Some e) = bytes_of e.size + amount (segment_at place place.loose e.left)

    more : Takes Any place.segment (left_behind place) (header_read place) → Takes Any (amount place) after_header (header_read place)
    more h = record { only = λ text rest o is. (tt, on_element o text rest (h.only text rest o is).1) }
      where
        on_element : (o : Option Element) (text rest : List ℕ) → length text + left_behind place o ≡ length rest + place.segment → length text + after_header o ≡ length rest + amount place
        on_element None text rest same = omega (arith, same)
        on_element (Some e) text rest same = omega (arith, same, group, none)

    child : (ident : ℕ) (now : Place) (size : Option ℕ) → now.group ≡ 0 → now.cluster ≡ 0 → Takes Any (bytes_of size + amount now) (left_after place) (segment_child track ident now size)
    child ident now None empty nothing = takes_if (ident == cluster) _ (refused fault.BadElement) (λ _. takes_given _ tt (omega (arith, empty, nothing))) (λ _. takes_refused fault.BadElement)
    child ident now (Some n) empty nothing =
        takes_if (ident == cluster) _ _ (λ _. takes_given _ tt (omega (arith, empty, nothing)))
        (λ _. takes_if (now.loose && is_of_cluster ident) _ _ (λ _. child_takes place track ident n now empty)
        (λ _. takes_if (is_section ident) _ _
        (λ _. takes_then (content_passed n) _ (content_more n (amount now)) (λ _ _. takes_given _ tt (omega (arith, empty, nothing))))
        (λ _. takes_if (is_filler ident) _ (refused fault.BadElement) (λ _. on_takes place n now) (λ _. takes_refused fault.BadElement))))
      where
        content_more : (n m : ℕ) → Takes Any (n + m) (λ _. m) (content_passed n)
        content_more n m = record { only = λ text rest u is. (tt, omega (arith, ((content_takes n).only text rest u is).1)) }

    on_header : (o : Option Element) → Takes Any (after_header o) (left_after place) (segment_rest track place o)
    on_header None = takes_given None tt refl
    on_header (Some e) = child e.ident (segment_at place place.loose e.left) e.size refl refl

step_takes : (track : TrackNumbers) (place : Place) → Takes Any (amount place) (left_after place) (step_read track place)
unfolding step_read
step_takes track place =
    takes_if (nat_lt 0 place.group) _ _ (λ _. group_takes track place)
    (λ group. (let none : place.group ≡ 0 = grind (arith, nat_tests, group) in
    takes_if (nat_lt 0 place.cluster) _ _ (λ _. cluster_takes track place none)
    (λ cluster. (let empty : place.cluster ≡ 0 = grind (arith, nat_tests, cluster) in segment_takes track place none empty))))

-- an element takes the bytes that its parents have less of after it
pub element_taken_takes : (track : TrackNumbers) (place : Place) → Takes Any (amount place) amount (element_taken track place)
unfolding element_taken
element_taken_takes track place = takes_then (step_read track place) (step_taken place) (step_takes track place) (λ o _. on_step o)
  where
    on_frame : (now : Place) (frame : Option ℕ) → Takes Any (bytes_of frame + amount now) amount (frame_taken now frame)
    on_frame now None = takes_given now tt (omega arith)
    on_frame now (Some size) =
        takes_then (kept_summed size now.sum) _ (takes_then {after = λ _. amount now} (wanted Kept size) _ (takes_wanted Kept size (amount now)) (λ bytes _. takes_given {P = Any} _ tt refl))
        (λ p _. takes_if (is_sound (summed_at now p.1)) _ (refused fault.Checksum) (λ _. takes_given (summed_at now p.1) tt refl) (λ _. takes_refused fault.Checksum))

    on_step : (o : Option Step) → Takes Any (left_after place o) amount (step_taken place o)
    on_step None = takes_given place tt refl
    on_step (Some s) = on_frame s.place s.frame

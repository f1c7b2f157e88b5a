-- A step does not change whether the Segment's size is known.
use Rattle.std.proofs.Common.{◌≡◌, ◌-◌, ◌<◌, ◌==◌, ◌&&◌, ◌∙◌, ℕ, suc, zero, inl, inr, sym, List, Ok, [], ◌∷◌, Option, Some, None, Bool, true, false, nat_lt, slice_index, refl}
use Rattle.ffv1_reads.specs.declared.fault.FileFault.TheVariants as fault
use Rattle.ffv1_reads.specs.Reads.{given, refused, taken}
use Rattle.ffv1_sum.specs.Sum.{number_of as low_number, turned}
use Rattle.ffv1_ebml.specs.Elements.{content_passed, data_read, element_read, is_crc, element_in}
use Rattle.ffv1_ebml.specs.Sums.{kept_summed, passed_summed, taken_summed}
use Rattle.ffv1_ebml.specs.declared.element.Data.{Data}
use Rattle.ffv1_ebml.specs.declared.element.Element.{Element}
use Rattle.ffv1_ebml.specs.declared.sum.Sum.{Sum}
use Rattle.ffv1_ebml.specs.declared.sum.Sum.TheVariants.{Absent, Begins, Awaits}
use Rattle.ffv1_ebml.specs.Vints.{number_of}
use Rattle.ffv1_matroska.specs.WrittenIdents.{timestamp}
use Rattle.ffv1_matroska.specs.Blocks.{block_read, block_rest, fields_read, frame_judged, is_unknown, lacing_of, passed_on, time_of}
use Rattle.ffv1_matroska.specs.Offsets.{element_taken, frame_taken, step_taken}
use Rattle.ffv1_matroska.specs.Places.{amount, closed, cluster_at, cluster_entered, frame_at, group_at, is_sound, segment_at, step_to, summed_at, timed_to}
use Rattle.ffv1_matroska.specs.Segments.{beside_read, block, block_group, child_by, cluster, cluster_child, cluster_read, cluster_rest, crc_read, first_child, group_child, group_read, group_rest, header_read, is_filler, is_of_cluster, is_outside, is_section, known_child, other_read, segment_child, segment_read, segment_rest, simple_block, step_read, timestamp_read}
use Rattle.ffv1_matroska.specs.declared.place.Place.{Place}
use Rattle.ffv1_matroska.specs.declared.place.Step.{Step}
use Rattle.ffv1_matroska.proofs.StepBounds.{Gives, err_is_no_ok, Lessens, gives_any, gives_given, gives_if, gives_refused, gives_then, step_less}
use Rattle.ffv1_matroska.proofs.FrameTurns.{Turn, kept_by, step_kept, turn_read}
use Rattle.ffv1_reads.specs.Head.{frame_limit}
use Rattle.ffv1_matroska.specs.Segments.{block_sought, is_beside}
use Rattle.ffv1_matroska.proofs.SoughtBlocks.{Sought, sought_cases}
use Rattle.ffv1_matroska.specs.declared.track.TrackNumbers.{TrackNumbers}

-- the size of the Segment is known, or it is not
abbrev Stays : Bool → Option Step → Type 0
Stays e None = Unit {0}
Stays e (Some s) = s.place.endless ≡ e

closed_stays : (e : Bool) (step : Option Step) (place : Place) → Stays e step → Gives (Stays e) (closed step place)
closed_stays e step place h = gives_if (Stays e) (is_sound place) (given step) (refused fault.Checksum) (gives_given (Stays e) step h) (gives_refused (Stays e) fault.Checksum)

passed_stays : (size : ℕ) (place : Place) → Gives (Stays place.endless) (passed_on size place)
unfolding passed_on
passed_stays size place = gives_any (Stays place.endless) (passed_summed size place.sum) _ (λ sum. closed_stays place.endless (Some (step_to (summed_at place sum))) (summed_at place sum) refl)

timestamp_stays : (size : ℕ) (place : Place) → Gives (Stays place.endless) (timestamp_read size place)
unfolding timestamp_read
timestamp_stays size place = gives_any {X = List ℕ × Sum} (Stays place.endless) (taken_summed size place.sum) _ (λ p. closed_stays place.endless (Some (timed_to (number_of p.0) (summed_at place p.1))) (summed_at place p.1) refl)

beside_stays : (ident size : ℕ) (place : Place) → Gives (Stays place.endless) (beside_read ident size place)
beside_stays ident size place = gives_if (Stays place.endless) (ident == timestamp) (timestamp_read size place) (passed_on size place) (timestamp_stays size place) (passed_stays size place)

block_stays : (track : TrackNumbers) (size : ℕ) (place : Place) → Gives (Stays place.endless) (block_read track size place)
unfolding block_read fields_read
block_stays track size place = gives_any {X = Data × Sum} P (data_read size place.sum) (block_rest track place) (λ p. gives_if P (p.0.value == track.number) (fields_read p.0.left (summed_at place p.1)) _ (fields p.0.left p.1) (gives_if P (is_unknown track.known p.0.value) (refused fault.BadElement) (passed_on p.0.left (summed_at place p.1)) (gives_refused P fault.BadElement) (passed_stays p.0.left (summed_at place p.1))))
  where
    P : Option Step → Type 0
    P = Stays place.endless

    judged : (time flags size : ℕ) (s : Sum) → Gives P (frame_judged time flags size (summed_at place s))
    judged time flags size s =
        gives_if P (lacing_of flags == 0) _ (refused fault.Laced)
        (gives_if P (nat_lt frame_limit size) (refused fault.ChunkTooLong) _ (gives_refused P fault.ChunkTooLong)
        (gives_if P (size == 0) (refused fault.EmptyFrame) _ (gives_refused P fault.EmptyFrame) (gives_given P (Some (frame_at (Some time) size (summed_at place s))) refl)))
        (gives_refused P fault.Laced)

    fields : (left : ℕ) (s : Sum) → Gives P (fields_read left (summed_at place s))
    fields left s =
        gives_if P (nat_lt left 3) (refused fault.Truncated) _ (gives_refused P fault.Truncated)
        (gives_any P (taken_summed 3 s) (λ p. frame_judged (time_of p.0) (slice_index p.0 2) (left - 3) (summed_at (summed_at place s) p.1)) (λ p. judged (time_of p.0) (slice_index p.0 2) (left - 3) p.1))

group_stays : (track : TrackNumbers) (place : Place) → Gives (Stays place.endless) (group_read track place)
unfolding group_read group_child
group_stays track place = gives_any P (element_read place.group place.sum) (group_rest track place) (λ p. child p.0.ident (group_at place p.0.left p.1) p.0.size)
  where
    P : Option Step → Type 0
    P = Stays place.endless

    child : (ident : ℕ) (now : Place) (size : Option ℕ) → Gives (Stays now.endless) (group_child track ident now size)
    child ident now None = gives_refused (Stays now.endless) fault.BadElement
    child ident now (Some n) = gives_if (Stays now.endless) (ident == block) (block_read track n now) (passed_on n now) (block_stays track n now) (passed_stays n now)

-- a BlockGroup up to its first Block
sought_stays : (most : ℕ) (track : TrackNumbers) (e : Bool) (place : Place) → place.endless ≡ e → Gives (Stays e) (block_sought most track place)
unfolding block_sought
sought_stays zero track e place same = gives_refused (Stays e) fault.BadElement
sought_stays (suc most) track e place same = record { only = λ text rest x h. on_case text rest x h (sought_cases most track place text) (sought_stays most track e) }
  where
    stays : (x : Option Step) → Stays place.endless x → Stays e x
    stays None h = tt
    stays (Some s) h = h ∙ same

    on_case : (text rest : List ℕ) (x : Option Step) → block_sought (suc most) track place text ≡ Ok (x, rest) → Sought most track place text → ((p : Place) → p.endless ≡ e → Gives (Stays e) (block_sought most track p)) → Stays e x
    on_case text rest x h (inl (why, is)) again = absurd (err_is_no_ok why (x, rest) (sym is ∙ h))
    on_case text rest x h (inr (inl (some, is))) again = stays x ((group_stays track place).only text rest x (sym is ∙ h))
    on_case text rest x h (inr (inr (now, more, some, read, is))) again =
        (again now ((group_stays track place).only text more (Some (step_to now)) read ∙ same)).only more rest x (sym is ∙ h)

child_stays : (track : TrackNumbers) (ident size : ℕ) (place : Place) → Gives (Stays place.endless) (cluster_child track ident size place)
unfolding cluster_child
child_stays track ident size place =
    gives_if (Stays place.endless) (ident == simple_block) (block_read track size place) _ (block_stays track size place)
    (gives_if (Stays place.endless) (ident == block_group) _ _ (sought_stays size track place.endless (group_at place size place.sum) refl)
    (gives_if (Stays place.endless) (is_beside ident size) (beside_read ident size place) _ (beside_stays ident size place) (gives_refused (Stays place.endless) fault.BadElement)))

cluster_stays : (track : TrackNumbers) (place : Place) → Gives (Stays place.endless) (cluster_read track place)
unfolding cluster_read known_child first_child
cluster_stays track place = gives_any (Stays place.endless) (element_in is_outside place.cluster place.sum) (cluster_rest track place) (λ p. child p.0.ident (cluster_at place p.0.left p.1) p.0.size)
  where
    by_sum : (ident size : ℕ) (now : Place) (s : Sum) → Gives (Stays now.endless) (child_by track ident size now s)
    by_sum ident size now Begins =
        gives_if (Stays now.endless) (is_crc ident size) (crc_read now) (cluster_child track ident size (summed_at now Absent))
        (gives_any (Stays now.endless) (taken 4) _ (λ bytes. closed_stays now.endless (Some (step_to (summed_at now (Awaits (low_number bytes) turned)))) (summed_at now (Awaits (low_number bytes) turned)) refl))
        (child_stays track ident size (summed_at now Absent))
    by_sum ident size now Absent = child_stays track ident size now
    by_sum ident size now (Awaits stated so_far) = child_stays track ident size now

    child : (ident : ℕ) (now : Place) (size : Option ℕ) → Gives (Stays now.endless) (known_child track ident now size)
    child ident now None = gives_refused (Stays now.endless) fault.BadElement
    child ident now (Some n) = by_sum ident n now now.sum

segment_stays : (track : TrackNumbers) (place : Place) → Gives (Stays place.endless) (segment_read track place)
unfolding segment_read segment_child other_read
segment_stays track place = gives_any (Stays place.endless) (header_read place) (segment_rest track place) on_header
  where
    child : (ident : ℕ) (now : Place) (size : Option ℕ) → Gives (Stays now.endless) (segment_child track ident now size)
    child ident now None = gives_if (Stays now.endless) (ident == cluster) _ (refused fault.BadElement) (gives_given (Stays now.endless) (Some (step_to (segment_at now true now.segment))) refl) (gives_refused (Stays now.endless) fault.BadElement)
    child ident now (Some n) =
        gives_if (Stays now.endless) (ident == cluster) _ _ (gives_given (Stays now.endless) (Some (step_to (cluster_entered now n))) refl)
        (gives_if (Stays now.endless) (now.loose && is_of_cluster ident) (cluster_child track ident n now) (other_read ident n now) (child_stays track ident n now)
        (gives_if (Stays now.endless) (is_section ident) _ _ (gives_any (Stays now.endless) (content_passed n) _ (λ _. gives_given (Stays now.endless) (Some (step_to (segment_at now false now.segment))) refl))
        (gives_if (Stays now.endless) (is_filler ident) (passed_on n now) (refused fault.BadElement) (passed_stays n now) (gives_refused (Stays now.endless) fault.BadElement))))

    on_header : (o : Option Element) → Gives (Stays place.endless) (segment_rest track place o)
    on_header None = gives_given (Stays place.endless) None tt
    on_header (Some e) = child e.ident (segment_at place place.loose e.left) e.size

step_stays : (track : TrackNumbers) (place : Place) → Gives (Stays place.endless) (step_read track place)
unfolding step_read
step_stays track place = gives_if (Stays place.endless) (nat_lt 0 place.group) (group_read track place) _ (group_stays track place) (gives_if (Stays place.endless) (nat_lt 0 place.cluster) (cluster_read track place) (segment_read track place) (cluster_stays track place) (segment_stays track place))

-- nor does an element, with its frame
pub element_stays : (track : TrackNumbers) (place : Place) → Gives (λ (to : Place). to.endless ≡ place.endless) (element_taken track place)
unfolding element_taken
element_stays track place = gives_then (Stays place.endless) P (step_read track place) (step_taken place) (step_stays track place) on_step
  where
    P : Place → Type 0
    P to = to.endless ≡ place.endless

    on_frame : (f : Option ℕ) (p : Place) → p.endless ≡ place.endless → Gives P (frame_taken p f)
    on_frame None p h = gives_given P p h
    on_frame (Some size) p h = gives_any P (kept_summed size p.sum) _ (λ q. gives_if P (is_sound (summed_at p q.1)) _ _ (gives_given P (summed_at p q.1) h) (gives_refused P fault.Checksum))

    on_step : (o : Option Step) → Stays place.endless o → Gives P (step_taken place o)
    on_step None h = gives_given P place refl
    on_step (Some s) h = on_frame s.frame s.place h

-- nor does a turn, which leaves less
abbrev pub TurnLessens : Bool → ℕ → Turn → Type 0
TurnLessens e n None = Unit {0}
TurnLessens e n (Some p) = (p.1.endless ≡ e) × (amount p.1 < n)

abbrev Both : Bool → ℕ → Option Step → Type 0
Both e n None = Unit {0}
Both e n (Some s) = (s.place.endless ≡ e) × (amount s.place < n)

kept_both : (e : Bool) (n : ℕ) (o : Option Step) → Both e n o → Gives (TurnLessens e n) (step_kept o)
kept_both e n None h = gives_given (TurnLessens e n) None tt
kept_both e n (Some s) h = on_frame s.frame s.place h
  where
    on_frame : (f : Option ℕ) (p : Place) → (p.endless ≡ e) × (amount p < n) → Gives (TurnLessens e n) (kept_by f p)
    on_frame None p h = gives_given (TurnLessens e n) (Some ([], p)) h
    on_frame (Some size) p h = gives_any (TurnLessens e n) (kept_summed size p.sum) _ (λ q. gives_if (TurnLessens e n) (is_sound (summed_at p q.1)) _ _ (gives_given (TurnLessens e n) (Some (q.0 ∷ [], summed_at p q.1)) h) (gives_refused (TurnLessens e n) fault.Checksum))

pub turn_less : (track : TrackNumbers) (place : Place) → Gives (TurnLessens place.endless (amount place)) (turn_read track place)
turn_less track place = gives_then (Both place.endless (amount place)) (TurnLessens place.endless (amount place)) (step_read track place) step_kept (record { only = λ text rest o h. both o ((step_stays track place).only text rest o h) ((step_less track place).only text rest o h) }) (kept_both place.endless (amount place))
  where
    both : (o : Option Step) → Stays place.endless o → Lessens (amount place) o → Both place.endless (amount place) o
    both None h k = tt
    both (Some s) h k = (h, k)

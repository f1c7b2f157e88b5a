-- Where no step comes: in no Cluster and in no BlockGroup, at the end of the Segment or of the input.
use Rattle.std.proofs.Common.{◌≡◌, ◌-◌, ◌==◌, ◌&&◌, ◌∙◌, ℕ, suc, zero, inl, inr, sym, ap, List, [], ◌∷◌, ◌++◌, Result, Ok, Err, Option, Some, None, Bool, true, false, nat_lt, slice_index, refl, arith}
use Rattle.std.proofs.lemmas.Bool.Decides.{nat_tests}
use Rattle.ffv1_reads.specs.declared.fault.FileFault.TheVariants as fault
use Rattle.ffv1_reads.specs.Reads.{Met, Short, Stop, given, refused, taken, ◌>>=◌}
use Rattle.ffv1_reads.specs.Offsets.{Leads, ReadsWhole}
use Rattle.ffv1_reads.proofs.OffsetLaws.{reads_take}
use Rattle.ffv1_reads.proofs.Results.{ok_is, read_on_ok}
use Rattle.ffv1_reads.proofs.Taking.{Any, Takes}
use Rattle.ffv1_sum.specs.Sum.{number_of as low_number, turned}
use Rattle.ffv1_ebml.specs.Elements.{content_passed, data_read, element_in, element_read, is_crc}
use Rattle.ffv1_ebml.specs.Sums.{passed_summed, taken_summed}
use Rattle.ffv1_ebml.specs.declared.element.Data.{Data}
use Rattle.ffv1_ebml.specs.declared.element.Element.{Element}
use Rattle.ffv1_ebml.specs.declared.sum.Sum.{Sum}
use Rattle.ffv1_ebml.specs.declared.sum.Sum.TheVariants.{Absent, Begins, Awaits}
use Rattle.ffv1_ebml.specs.Vints.{number_of}
use Rattle.ffv1_matroska.specs.WrittenIdents.{timestamp}
use Rattle.ffv1_matroska.specs.Blocks.{block_read, block_rest, fields_read, frame_judged, is_unknown, lacing_of, passed_on, time_of}
use Rattle.ffv1_matroska.specs.Cues.{cued_behind, cued_taken}
use Rattle.ffv1_matroska.specs.Late.{again_read, opened_again, opened_with, reopened, segment_reopened, track_read}
use Rattle.ffv1_matroska.specs.Offsets.{element_taken}
use Rattle.ffv1_matroska.specs.Opened.{Opened, begin_from, begin_up_to, begun_at, ebml_read, element_or_begun, in_cluster, open_read, segment_opened, tracks_or_passed}
use Rattle.ffv1_matroska.specs.Opening.{segment_begun, segment_entered}
use Rattle.ffv1_matroska.specs.Tracks.{Track}
use Rattle.ffv1_matroska.specs.Places.{amount, closed, cluster_at, cluster_entered, ended, frame_at, group_at, is_sound, segment_at, step_to, summed_at, timed_to}
use Rattle.ffv1_matroska.specs.Segments.{beside_read, block, block_group, block_sought, child_by, cluster, cluster_child, cluster_read, cluster_rest, crc_read, first_child, group_child, group_read, group_rest, header_read, is_beside, is_filler, is_of_cluster, is_outside, is_section, known_child, other_read, segment_child, segment_read, segment_rest, simple_block, step_read, timestamp_read}
use Rattle.ffv1_matroska.specs.declared.place.Place.{Place}
use Rattle.ffv1_matroska.specs.declared.place.Step.{Step}
use Rattle.ffv1_matroska.specs.declared.track.TrackNumbers.{TrackNumbers}
use Rattle.ffv1_matroska.proofs.ElementTaken.{element_taken_takes}
use Rattle.ffv1_matroska.proofs.EndlessSteps.{element_stays}
use Rattle.ffv1_matroska.proofs.FileLaws.{HasEnded}
use Rattle.ffv1_matroska.proofs.ReadSegments.{headed_sound}
use Rattle.ffv1_matroska.proofs.SoughtBlocks.{Sought, sought_cases}
use Rattle.ffv1_matroska.proofs.StepBounds.{Gives, err_is_no_ok, gives_any, gives_given, gives_if, gives_refused, gives_then}
use Rattle.ffv1_reads.specs.Head.{frame_limit}

-- a step comes
abbrev Comes : Option Step → Type 0
Comes None = ⊥
Comes (Some s) = Unit {0}

closed_comes : (s : Step) (place : Place) → Gives Comes (closed (Some s) place)
closed_comes s place = gives_if Comes (is_sound place) (given (Some s)) (refused fault.Checksum) (gives_given Comes (Some s) tt) (gives_refused Comes fault.Checksum)

passed_comes : (size : ℕ) (place : Place) → Gives Comes (passed_on size place)
unfolding passed_on
passed_comes size place = gives_any Comes (passed_summed size place.sum) _ (λ sum. closed_comes (step_to (summed_at place sum)) (summed_at place sum))

timestamp_comes : (size : ℕ) (place : Place) → Gives Comes (timestamp_read size place)
unfolding timestamp_read
timestamp_comes size place = gives_any {X = List ℕ × Sum} Comes (taken_summed size place.sum) _ (λ p. closed_comes (timed_to (number_of p.0) (summed_at place p.1)) (summed_at place p.1))

beside_comes : (ident size : ℕ) (place : Place) → Gives Comes (beside_read ident size place)
beside_comes ident size place = gives_if Comes (ident == timestamp) (timestamp_read size place) (passed_on size place) (timestamp_comes size place) (passed_comes size place)

block_comes : (track : TrackNumbers) (size : ℕ) (place : Place) → Gives Comes (block_read track size place)
unfolding block_read fields_read
block_comes track size place = gives_any {X = Data × Sum} Comes (data_read size place.sum) (block_rest track place) (λ p. gives_if Comes (p.0.value == track.number) (fields_read p.0.left (summed_at place p.1)) _ (fields p.0.left p.1) (gives_if Comes (is_unknown track.known p.0.value) (refused fault.BadElement) (passed_on p.0.left (summed_at place p.1)) (gives_refused Comes fault.BadElement) (passed_comes p.0.left (summed_at place p.1))))
  where
    judged : (time flags size : ℕ) (s : Sum) → Gives Comes (frame_judged time flags size (summed_at place s))
    judged time flags size s =
        gives_if Comes (lacing_of flags == 0) _ (refused fault.Laced)
        (gives_if Comes (nat_lt frame_limit size) (refused fault.ChunkTooLong) _ (gives_refused Comes fault.ChunkTooLong)
        (gives_if Comes (size == 0) (refused fault.EmptyFrame) _ (gives_refused Comes fault.EmptyFrame) (gives_given Comes (Some (frame_at (Some time) size (summed_at place s))) tt)))
        (gives_refused Comes fault.Laced)

    fields : (left : ℕ) (s : Sum) → Gives Comes (fields_read left (summed_at place s))
    fields left s =
        gives_if Comes (nat_lt left 3) (refused fault.Truncated) _ (gives_refused Comes fault.Truncated)
        (gives_any Comes (taken_summed 3 s) (λ p. frame_judged (time_of p.0) (slice_index p.0 2) (left - 3) (summed_at (summed_at place s) p.1)) (λ p. judged (time_of p.0) (slice_index p.0 2) (left - 3) p.1))

group_comes : (track : TrackNumbers) (place : Place) → Gives Comes (group_read track place)
unfolding group_read group_child
group_comes track place = gives_any Comes (element_read place.group place.sum) (group_rest track place) (λ p. child p.0.ident (group_at place p.0.left p.1) p.0.size)
  where
    child : (ident : ℕ) (now : Place) (size : Option ℕ) → Gives Comes (group_child track ident now size)
    child ident now None = gives_refused Comes fault.BadElement
    child ident now (Some n) = gives_if Comes (ident == block) (block_read track n now) (passed_on n now) (block_comes track n now) (passed_comes n now)

sought_comes : (most : ℕ) (track : TrackNumbers) (place : Place) → Gives Comes (block_sought most track place)
unfolding block_sought
sought_comes zero track place = gives_refused Comes fault.BadElement
sought_comes (suc most) track place = record { only = λ text rest x h. on_case text rest x h (sought_cases most track place text) (sought_comes most track) }
  where
    on_case : (text rest : List ℕ) (x : Option Step) → block_sought (suc most) track place text ≡ Ok (x, rest) → Sought most track place text → ((p : Place) → Gives Comes (block_sought most track p)) → Comes x
    on_case text rest x h (inl (why, is)) again = absurd (err_is_no_ok why (x, rest) (sym is ∙ h))
    on_case text rest x h (inr (inl (some, is))) again = (group_comes track place).only text rest x (sym is ∙ h)
    on_case text rest x h (inr (inr (now, more, some, read, is))) again = (again now).only more rest x (sym is ∙ h)

child_comes : (track : TrackNumbers) (ident size : ℕ) (place : Place) → Gives Comes (cluster_child track ident size place)
unfolding cluster_child
child_comes track ident size place =
    gives_if Comes (ident == simple_block) (block_read track size place) _ (block_comes track size place)
    (gives_if Comes (ident == block_group) _ _ (sought_comes size track (group_at place size place.sum))
    (gives_if Comes (is_beside ident size) (beside_read ident size place) _ (beside_comes ident size place) (gives_refused Comes fault.BadElement)))

cluster_comes : (track : TrackNumbers) (place : Place) → Gives Comes (cluster_read track place)
unfolding cluster_read known_child first_child
cluster_comes track place = gives_any Comes (element_in is_outside place.cluster place.sum) (cluster_rest track place) (λ p. child p.0.ident (cluster_at place p.0.left p.1) p.0.size)
  where
    by_sum : (ident size : ℕ) (now : Place) (s : Sum) → Gives Comes (child_by track ident size now s)
    by_sum ident size now Begins =
        gives_if Comes (is_crc ident size) (crc_read now) (cluster_child track ident size (summed_at now Absent))
        (gives_any Comes (taken 4) _ (λ bytes. closed_comes (step_to (summed_at now (Awaits (low_number bytes) turned))) (summed_at now (Awaits (low_number bytes) turned))))
        (child_comes track ident size (summed_at now Absent))
    by_sum ident size now Absent = child_comes track ident size now
    by_sum ident size now (Awaits stated so_far) = child_comes track ident size now

    child : (ident : ℕ) (now : Place) (size : Option ℕ) → Gives Comes (known_child track ident now size)
    child ident now None = gives_refused Comes fault.BadElement
    child ident now (Some n) = by_sum ident n now now.sum

-- an element of a Segment
element_comes : (track : TrackNumbers) (ident : ℕ) (now : Place) (size : Option ℕ) → Gives Comes (segment_child track ident now size)
unfolding segment_child other_read
element_comes track ident now None = gives_if Comes (ident == cluster) _ (refused fault.BadElement) (gives_given Comes (Some (step_to (segment_at now true now.segment))) tt) (gives_refused Comes fault.BadElement)
element_comes track ident now (Some n) =
    gives_if Comes (ident == cluster) _ _ (gives_given Comes (Some (step_to (cluster_entered now n))) tt)
    (gives_if Comes (now.loose && is_of_cluster ident) (cluster_child track ident n now) (other_read ident n now) (child_comes track ident n now)
    (gives_if Comes (is_section ident) _ _ (gives_any Comes (content_passed n) _ (λ _. gives_given Comes (Some (step_to (segment_at now false now.segment))) tt))
    (gives_if Comes (is_filler ident) (passed_on n now) (refused fault.BadElement) (passed_comes n now) (gives_refused Comes fault.BadElement))))

-- the last one was read
pub record IsLast (place : Place) (text rest : List ℕ) : Type 0 where
  pub group : place.group ≡ 0
  pub cluster : place.cluster ≡ 0
  pub header : header_read place text ≡ Ok (None, rest)

pub step_last : (track : TrackNumbers) (place : Place) (text rest : List ℕ) → step_read track place text ≡ Ok (None, rest) → IsLast place text rest
unfolding step_read segment_read
step_last track place text rest h = on_tests (nat_lt 0 place.group) (nat_lt 0 place.cluster) refl refl
  where
    on_header : place.group ≡ 0 → place.cluster ≡ 0 → (o : Option Element) (more : List ℕ) → header_read place text ≡ Ok (o, more) → segment_rest track place o more ≡ Ok (None, rest) → IsLast place text rest
    on_header group none None more read k = record { group = group; cluster = none; header = read ∙ ap (λ z. Ok (None, z)) (ap (λ (z : Option Step × List ℕ). z.1) (ok_is (None, more) (None, rest) k)) }
    on_header group none (Some e) more read k = absurd ((element_comes track e.ident (segment_at place place.loose e.left) e.size).only more rest None k)

    on_tests : (g c : Bool) → nat_lt 0 place.group ≡ g → nat_lt 0 place.cluster ≡ c → IsLast place text rest
    on_tests true c s t = absurd ((group_comes track place).only text rest None (rw s at h))
    on_tests false true s t = absurd ((cluster_comes track place).only text rest None (rw (s, t) at h))
    on_tests false false s t =
        let first = read_on_ok (header_read place text) (segment_rest track place) (None, rest) (rw (s, t) at h) in
        let group : place.group ≡ 0 = grind (arith, nat_tests, s) in
        let cluster : place.cluster ≡ 0 = grind (arith, nat_tests, t) in
        on_header group cluster first.0.0 first.0.1 first.1 first.2

-- its header has no bytes
pub last_nothing : (place : Place) (text rest : List ℕ) → IsLast place text rest → text ≡ rest
unfolding header_read
last_nothing place text rest h = (headed_sound place false place.segment text None rest h.header).0

-- if the size of the Segment is known, nothing of that is left
pub last_empty : (place : Place) (text rest : List ℕ) → place.endless ≡ false → IsLast place text rest → amount place ≡ 0
unfolding header_read
last_empty place text rest sized h = on_end (headed_sound place false place.segment text None rest h.header).1
  where
    on_end : HasEnded place place.segment rest → amount place ≡ 0
    on_end (inl none) = omega (arith, none, h.group, h.cluster)
    on_end (inr (some, over, endless)) = absurd (cc (sym sized ∙ endless))

-- elements, whether Cues are told or not
pub cued_element : (track : TrackNumbers) (from next : Place × Bool) (text rest : List ℕ) → cued_taken track from text ≡ Ok (next, rest) → element_taken track from.0 text ≡ Ok (next.0, rest)
unfolding cued_taken
cued_element track from next text rest h =
    let first = read_on_ok (element_taken track from.0 text) (λ place. given (place, cued_behind from.0 text from.1)) (next, rest) h in
    let all = ok_is ((first.0.0, cued_behind from.0 text from.1), first.0.1) (next, rest) first.2 in
    let place : first.0.0 ≡ next.0 = ap (λ (z : (Place × Bool) × List ℕ). z.0.0) all in
    let left : first.0.1 ≡ rest = ap (λ (z : (Place × Bool) × List ℕ). z.1) all in
    first.1 ∙ ap (λ z. Ok (z, first.0.1)) place ∙ ap (λ z. Ok (next.0, z)) left

abbrev cued_amount : Place × Bool → ℕ
cued_amount from = amount from.0

cued_takes : (track : TrackNumbers) (from : Place × Bool) → Takes Any (cued_amount from) cued_amount (cued_taken track from)
cued_takes track from = record { only = λ text rest next h. (element_taken_takes track from.0).only text rest next.0 (cued_element track from next text rest h) }

leads_stay : (track : TrackNumbers) (from : Place × Bool) (elements : List (List ℕ)) (to : Place × Bool) → Leads (cued_taken track) from elements to → to.0.endless ≡ from.0.endless
leads_stay track from [] to same = ap (λ (z : Place × Bool). z.0.endless) same
leads_stay track from (b ∷ bs) to (next, one, others) = leads_stay track next bs to others ∙ (element_stays track from.0).only (b ++ []) [] next.0 (cued_element track from next (b ++ []) [] (one []))

-- a Segment whose size is known is read to its last byte
pub read_to_end : (track : TrackNumbers) (from to : Place × Bool) (text near rest : List ℕ) (count : ℕ) → from.0.endless ≡ false → ReadsWhole (cued_taken track) from (Some text) (Some near) to count → IsLast to.0 near rest → count ≡ amount from.0
read_to_end track from to text near rest count sized h last =
    let none = last_empty to.0 near rest (leads_stay track from h.elements to h.leads ∙ sized) last in
    omega (arith, none, reads_take cued_amount (cued_takes track) h)

-- the place where the frames of such a Segment begin
abbrev Sized : Track × Place → Type 0
Sized p = p.1.endless ≡ false

track_begins : (found : Option Track) (place : Place) → place.endless ≡ false → Gives Sized (begun_at found place)
unfolding begun_at
track_begins None place sized = gives_refused Sized fault.NoTracks
track_begins (Some track) place sized = gives_given Sized (track, place) sized

begins_sized : (most : ℕ) (found : Option Track) (place : Place) → place.endless ≡ false → Gives Sized (begin_up_to most found place)
unfolding begin_up_to
begins_sized zero found place sized = gives_refused Sized fault.NoTracks
begins_sized (suc most) found place sized = gives_any Sized (header_read place) (element_or_begun (begin_up_to most) found place) (λ o. on_header o (begins_sized most))
  where
    in_sized : (left : ℕ) (size : Option ℕ) → (in_cluster (segment_at place false left) size).endless ≡ false
    in_sized left None = sized
    in_sized left (Some n) = sized

    on_header : (o : Option Element) → ((found : Option Track) (p : Place) → p.endless ≡ false → Gives Sized (begin_up_to most found p)) → Gives Sized (element_or_begun (begin_up_to most) found place o)
    on_header None again = track_begins found ended refl
    on_header (Some e) again =
        gives_if Sized (e.ident == cluster) _ _ (track_begins found (in_cluster (segment_at place false e.left) e.size) (in_sized e.left e.size))
        (gives_any Sized (tracks_or_passed found e.ident e.size) _ (λ now. again now (segment_at place false e.left) sized))

abbrev pub SizedOpened : Opened → Type 0
SizedOpened o = (size : ℕ) → o.segment ≡ Some size → o.place.endless ≡ false

-- a Segment of this size, if Tracks were before or not
segment_sized : (found : Option Track) (size : Option ℕ) → Gives SizedOpened (begin_from found (segment_begun size) >>= λ p. given (record { track = p.0; segment = size; place = p.1 }))
segment_sized found None = gives_any SizedOpened (begin_from found (segment_begun None)) _ (λ p. gives_given SizedOpened (record { track = p.0; segment = None; place = p.1 }) (λ size is. absurd (cc)))
segment_sized found (Some n) = gives_then Sized SizedOpened (begin_from found (segment_begun (Some n))) _ (begins_sized (suc (amount (segment_begun (Some n)))) found (segment_begun (Some n)) refl) (λ p sized. gives_given SizedOpened (record { track = p.0; segment = Some n; place = p.1 }) (λ size is. sized))

opened_sized : Gives SizedOpened open_read
unfolding open_read
opened_sized = gives_any SizedOpened ebml_read _ (λ _. gives_any SizedOpened segment_entered segment_opened (segment_sized None))

reopened_sized : (track : Track) → Gives SizedOpened (reopened track)
unfolding reopened
reopened_sized track = gives_any SizedOpened ebml_read _ (λ _. gives_any SizedOpened segment_entered (segment_reopened track) (segment_sized (Some track)))

-- wherever its Tracks stand
pub again_sized : Gives SizedOpened again_read
unfolding again_read
again_sized = record { only = λ text rest o h. on_open text rest o (open_read text) refl h }
  where
    on_track : (text rest : List ℕ) (o : Opened) (z : Result (Track × List ℕ) Stop) → opened_with text z ≡ Ok (o, rest) → SizedOpened o
    on_track text rest o (Ok p) h = (reopened_sized p.0).only text rest o h
    on_track text rest o (Err why) h = absurd (err_is_no_ok why (o, rest) h)

    on_open : (text rest : List ℕ) (o : Opened) (z : Result (Opened × List ℕ) Stop) → open_read text ≡ z → opened_again text z ≡ Ok (o, rest) → SizedOpened o
    on_open text rest o (Ok p) is h = opened_sized.only text rest o (is ∙ h)
    on_open text rest o (Err (Short w)) is h = absurd (err_is_no_ok (Short w) (o, rest) h)
    on_open text rest o (Err (Met fault.NoTracks left)) is h = on_track text rest o (track_read text) h
    on_open text rest o (Err (Met f left)) is h = absurd (err_is_no_ok (Met f left) (o, rest) h)

-- Turns are made of the ways in which readings are joined, and meet no fault: each is a value.
use Rattle.std.proofs.Common.{◌≡◌, ◌∙◌, ◌+◌, ℕ, suc, zero, nat_lt, Bool, true, false, if◌then◌else◌, List, [], ◌∷◌, length, slice_index, take, drop, Option, Some, None, Result, Ok, Err, refl, sym, ap}
use Rattle.ffv1_reads.specs.declared.fault.FileFault.{FileFault}
use Rattle.ffv1_reads.specs.Reads.{Looked, Met, Reading, Short, Stop, given, passed, taken, ◌>>=◌}
use Rattle.ffv1_reads.proofs.WantedBytes.{taken_complete}
use Rattle.ffv1_reads.proofs.Made.{Closes, Gives, Grammar, Has, Made, Refuses, Takes, any, made_closing, made_given, made_if, made_meets, made_passed, made_same, made_then, made_wanted, reads}
use Rattle.ffv1_sum.specs.Sum.{number_of as low_number, turned}
use Rattle.ffv1_ebml.specs.Elements.{none_outside}
use Rattle.ffv1_ebml.specs.Tried.{header_named, header_sized, header_tried, outcome, size_tried, tried}
use Rattle.ffv1_ebml.specs.Vints.{size_of, vint_read}
use Rattle.ffv1_ebml.specs.declared.sum.Sum.{Sum}
use Rattle.ffv1_ebml.specs.declared.sum.Sum.TheVariants.{Absent, Begins, Awaits}
use Rattle.ffv1_ebml.specs.declared.tried.Header.{Header}
use Rattle.ffv1_ebml.specs.declared.tried.Header.TheVariants.{Broken, Outside, Whole}
use Rattle.ffv1_ebml.proofs.MadeElements.{of_passed_summed, of_vint}
use Rattle.ffv1_matroska.specs.Internal.{bytes_of}
use Rattle.ffv1_matroska.specs.Turns.{block_named, block_turn, byte_matched, child_turn, cluster_headed, cluster_turn, crc_turn, element_turn, fields_turn, first_turn, found_sized, found_turn, group_headed, group_turn, grouped_turn, named_sized, named_turn, numbered_turn, open_at, open_turn, outer_turn, passed_turn, plain_section, scanned, scanned_on, section_headed, section_turn, seek_found, seek_turn, segment_named, segment_turn, sized_turn, some_turn, summed_section, turn_by, turn_or_end, turn_read}
use Rattle.ffv1_matroska.specs.declared.course.Pending.{Pending}
use Rattle.ffv1_matroska.specs.declared.course.Pending.TheVariants as pending
use Rattle.ffv1_matroska.specs.declared.course.Turn.{Turn}
use Rattle.ffv1_matroska.specs.declared.place.Place.{Place}
use Rattle.ffv1_matroska.specs.declared.track.TrackNumbers.{TrackNumbers}

-- no fault
abbrev pub no_fault : FileFault → Bool
no_fault f = false

-- ---- a reading of which a fault is a value

tried_grammar : {X : Type 0} → Grammar X → Grammar (Result X FileFault)
tried_grammar (Gives x) = Gives (Ok x)
tried_grammar (Refuses f) = Gives (Err f)
tried_grammar (Takes w n next) = Takes w n (λ bytes. tried_grammar (next bytes))
tried_grammar (Closes end more) = Closes (tried_grammar end) (tried_grammar more)

if_outcome : {X : Type 0} (b : Bool) (why : Stop) (whole : Result (X × List ℕ) Stop) (both : Result (Result X FileFault × List ℕ) Stop) → outcome {X = X} (Err why) ≡ Err why → both ≡ outcome whole → (if b then Err why else both) ≡ outcome (if b then Err why else whole)
if_outcome true why whole both short h = sym short
if_outcome false why whole both short h = h

reads_tried : {X : Type 0} (g : Grammar X) (text : List ℕ) → reads (tried_grammar g) text ≡ outcome (reads g text)
unfolding tried_grammar
reads_tried (Gives x) text = refl
reads_tried (Refuses f) text = refl
reads_tried (Takes w n next) text = if_outcome (nat_lt (length text) n) (Short w) (reads (next (take n text)) (drop n text)) _ refl (reads_tried (next (take n text)) (drop n text))
reads_tried (Closes end more) [] = reads_tried end []
reads_tried (Closes end more) (b ∷ bs) = reads_tried more (b ∷ bs)

has_tried : (own : FileFault → Bool) (ends : Bool) {X : Type 0} (g : Grammar X) → Has own ends g → Has no_fault ends (tried_grammar g)
unfolding tried_grammar
has_tried own ends (Gives x) h = tt
has_tried own ends (Refuses f) h = tt
has_tried own ends (Takes w n next) h = λ bytes. has_tried own ends (next bytes) (h bytes)
has_tried own ends (Closes end more) h = (h.0, has_tried own ends end h.1, has_tried own ends more h.2)

made_tried : {own : FileFault → Bool} {ends : Bool} {X : Type 0} (r : Reading X) → Made own ends r → Made no_fault ends (tried r)
made_tried {own = own} {ends = ends} r made = record {
  grammar = tried_grammar made.grammar;
  same = λ text. ap outcome (made.same text) ∙ sym (reads_tried made.grammar text);
  has = has_tried own ends made.grammar made.has;
}

ruleset made = (made_if, made_then, made_wanted, made_given, made_passed)

of_tried : {ends : Bool} (most left : ℕ) → Made no_fault ends (tried (vint_read most left))
of_tried most left = made_tried (vint_read most left) (of_vint {own = any} (record { truncated = refl; bad = refl; checksum = refl }) most left)

of_sized : {ends : Bool} (ident left : ℕ) (sum : Sum) (size : Result (List ℕ) FileFault) → Made no_fault ends (header_sized ident left sum size)
of_sized ident left sum (Ok size) = made_given _
of_sized ident left sum (Err f) = made_given _

of_size : {ends : Bool} (ident left : ℕ) (sum : Sum) → Made no_fault ends (size_tried ident left sum)
unfolding size_tried
of_size ident left sum = made_then _ _ (of_tried 8 left) (λ size. of_sized ident left sum size)

of_named : {ends : Bool} (outside : ℕ → Bool) (left : ℕ) (sum : Sum) (ident : Result (List ℕ) FileFault) → Made no_fault ends (header_named outside left sum ident)
of_named outside left sum (Ok ident) = search (made, of_size) depth 12
of_named outside left sum (Err f) = made_given _

of_header : {ends : Bool} (outside : ℕ → Bool) (left : ℕ) (sum : Sum) → Made no_fault ends (header_tried outside left sum)
unfolding header_tried
of_header outside left sum = made_then _ _ (of_tried 4 left) (λ ident. of_named outside left sum ident)

-- ---- blocks, Clusters and BlockGroups

of_passed : {ends : Bool} (size : ℕ) (next : Pending) (place : Place) → Made no_fault ends (passed_turn size next place)
unfolding passed_turn
of_passed size next place = made_then _ _ (of_passed_summed size place.sum) (λ sum. made_given _)

of_fields : {ends : Bool} (left : ℕ) (place : Place) → Made no_fault ends (fields_turn left place)
unfolding fields_turn
of_fields left place = search made depth 14

of_numbered : {ends : Bool} (track : TrackNumbers) (number left : ℕ) (place : Place) → Made no_fault ends (numbered_turn track number left place)
unfolding numbered_turn
of_numbered track number left place = search (made, of_fields, of_passed) depth 14

of_block_named : {ends : Bool} (track : TrackNumbers) (size : ℕ) (place : Place) (number : Result (List ℕ) FileFault) → Made no_fault ends (block_named track size place number)
of_block_named track size place (Ok number) = of_numbered _ _ _ _
of_block_named track size place (Err f) = made_given _

of_block : {ends : Bool} (track : TrackNumbers) (size : ℕ) (place : Place) → Made no_fault ends (block_turn track size place)
unfolding block_turn
of_block track size place = made_then _ _ (of_tried 8 size) (λ number. of_block_named track size place number)

of_child : {ends : Bool} (track : TrackNumbers) (ident size : ℕ) (place : Place) → Made no_fault ends (child_turn track ident size place)
unfolding child_turn
of_child track ident size place = search (made, of_block, of_passed) depth 14

of_crc : {ends : Bool} (place : Place) → Made no_fault ends (crc_turn place)
unfolding crc_turn
of_crc place = search made depth 14

of_first : {ends : Bool} (track : TrackNumbers) (ident size : ℕ) (place : Place) → Made no_fault ends (first_turn track ident size place)
unfolding first_turn
of_first track ident size place = search (made, of_crc, of_child) depth 14

of_turn_by : {ends : Bool} (track : TrackNumbers) (ident size : ℕ) (place : Place) (sum : Sum) → Made no_fault ends (turn_by track ident size place sum)
of_turn_by track ident size place Begins = of_first track ident size place
of_turn_by track ident size place Absent = of_child track ident size place
of_turn_by track ident size place (Awaits stated so_far) = of_child track ident size place

of_cluster_headed : {ends : Bool} (track : TrackNumbers) (place : Place) (h : Header) → Made no_fault ends (cluster_headed track place h)
of_cluster_headed track place (Whole ident size left sum) = of_turn_by _ _ _ _ _
of_cluster_headed track place (Outside ident left) = made_given _
of_cluster_headed track place (Broken f left) = made_given _

of_cluster : {ends : Bool} (track : TrackNumbers) (place : Place) → Made no_fault ends (cluster_turn track place)
unfolding cluster_turn
of_cluster track place = made_then _ _ (of_header _ place.cluster place.sum) (λ h. of_cluster_headed track place h)

of_group_headed : {ends : Bool} (track : TrackNumbers) (next : Pending) (place : Place) (h : Header) → Made no_fault ends (group_headed track next place h)
of_group_headed track next place (Whole ident size left sum) = search (made, of_block, of_passed) depth 14
of_group_headed track next place (Outside ident left) = made_given _
of_group_headed track next place (Broken f left) = made_given _

of_group : {ends : Bool} (track : TrackNumbers) (next : Pending) (place : Place) → Made no_fault ends (group_turn track next place)
unfolding group_turn
of_group track next place = made_then _ _ (of_header none_outside place.group place.sum) (λ h. of_group_headed track next place h)

of_grouped : {ends : Bool} (track : TrackNumbers) (place : Place) → Made no_fault ends (grouped_turn track place)
unfolding grouped_turn
of_grouped track place = search (made, of_group) depth 14

-- ---- the Segment

of_summed_section : {ends : Bool} (left : ℕ) (place : Place) → Made no_fault ends (summed_section left place)
unfolding summed_section
of_summed_section left place = made_then (taken 4) _ (made_wanted _ 4) (λ stated. made_then _ _ (of_passed_summed left (Awaits (low_number stated) turned)) (λ sum. made_given _))

of_plain_section : {ends : Bool} (size left : ℕ) (place : Place) → Made no_fault ends (plain_section size left place)
unfolding plain_section
of_plain_section size left place = made_then (passed size) _ (made_passed size) (λ done. made_then (passed left) _ (made_passed left) (λ all. made_given _))

of_section_headed : {ends : Bool} (place : Place) (h : Header) → Made no_fault ends (section_headed place h)
of_section_headed place (Whole ident size left sum) = search (made, of_summed_section, of_plain_section) depth 14
of_section_headed place (Outside ident left) = made_given _
of_section_headed place (Broken f left) = made_given _

of_section : {ends : Bool} (size : ℕ) (place : Place) → Made no_fault ends (section_turn size place)
unfolding section_turn
of_section size place = made_if _ _ _ (made_given _) (made_then _ _ (of_header none_outside size Absent) (λ h. of_section_headed place h))

of_outer : {ends : Bool} (track : TrackNumbers) (ident : ℕ) (place : Place) (size : Option ℕ) → Made no_fault ends (outer_turn track ident place size)
unfolding outer_turn
of_outer track ident place None = made_given _
of_outer track ident place (Some size) = search (made, of_child, of_section, of_passed) depth 14

of_sized_turn : {ends : Bool} (track : TrackNumbers) (ident header : ℕ) (place : Place) (size : Option ℕ) → Made no_fault ends (sized_turn track ident header place size)
of_sized_turn track ident header place size = made_if _ _ _ (made_given _) (of_outer _ _ _ _)

of_named_sized : {ends : Bool} (track : TrackNumbers) (ident count : ℕ) (place : Place) (size : Result (List ℕ) FileFault) → Made no_fault ends (named_sized track ident count place size)
of_named_sized track ident count place (Ok size) = of_sized_turn track ident (count + length size) place (size_of size)
of_named_sized track ident count place (Err f) = made_given _

of_named_turn : {ends : Bool} (track : TrackNumbers) (ident count : ℕ) (place : Place) → Made no_fault ends (named_turn track ident count place)
unfolding named_turn
of_named_turn track ident count place = made_then _ _ (of_tried 8 8) (λ size. of_named_sized track ident count place size)

of_segment_named : {ends : Bool} (track : TrackNumbers) (place : Place) (ident : Result (List ℕ) FileFault) → Made no_fault ends (segment_named track place ident)
of_segment_named track place (Ok ident) = of_named_turn _ _ _ _
of_segment_named track place (Err f) = made_given _

of_segment : {ends : Bool} (track : TrackNumbers) (place : Place) → Made no_fault ends (segment_turn track place)
unfolding segment_turn
of_segment track place = made_then _ _ (of_tried 4 4) (λ ident. of_segment_named track place ident)

of_some : {ends : Bool} (r : Reading Turn) → Made no_fault ends r → Made no_fault ends (some_turn r)
of_some r made = made_then r _ made (λ turn. made_given _)

of_turn_or_end : (track : TrackNumbers) (place : Place) → Made no_fault true (turn_or_end track place)
of_turn_or_end track place = made_closing (turn_or_end track place) (given None) (some_turn (segment_turn track place)) refl refl (λ b bs. refl) (made_given None) (of_some (segment_turn track place) (of_segment track place))

of_open : (track : TrackNumbers) (place : Place) → Made no_fault true (open_turn track place)
unfolding open_turn
of_open track place = made_if _ _ _ (made_given None) (made_if _ _ _ (of_turn_or_end track place) (of_some _ (of_segment track place)))

-- ---- the next Cluster

scanned_byte : ℕ → ℕ → Reading (Option ℕ)
scanned_byte left matched = taken 1 >>= λ bytes. scanned_on (scanned left) (byte_matched matched (slice_index bytes 0)) left

scanned_more : (left matched b : ℕ) (bs : List ℕ) → scanned (suc left) matched (b ∷ bs) ≡ scanned_byte left matched (b ∷ bs)
unfolding scanned scanned_byte
scanned_more left matched b bs =
    let front = taken_complete 1 (b ∷ []) bs refl in
    rw front refl

of_scanned : (left matched : ℕ) → Made no_fault true (scanned left matched)
unfolding scanned scanned_byte
of_scanned zero matched = made_same (scanned zero matched) (given None) (λ text. refl) (made_given None)
of_scanned (suc left) matched =
    let on = made_then (taken 1) (λ bytes. scanned_on (scanned left) (byte_matched matched (slice_index bytes 0)) left) (made_wanted Looked 1) (λ bytes. made_if _ _ _ (made_given _) (of_scanned left _)) in
    made_closing (scanned (suc left) matched) (given None) (scanned_byte left matched) refl refl (λ b bs. scanned_more left matched b bs) (made_given None) on

of_found_sized : {ends : Bool} (place : Place) (left : ℕ) (size : Result (List ℕ) FileFault) → Made no_fault ends (found_sized place left size)
of_found_sized place left (Ok size) = made_given _
of_found_sized place left (Err f) = made_given _

of_found : {ends : Bool} (place : Place) (left : ℕ) → Made no_fault ends (found_turn place left)
unfolding found_turn
of_found place left = made_then _ _ (of_tried 8 left) (λ size. of_found_sized place left size)

of_seek_found : (place : Place) (o : Option ℕ) → Made no_fault true (seek_found place o)
of_seek_found place None = made_given None
of_seek_found place (Some left) = of_some _ (of_found place left)

of_seek : (place : Place) → Made no_fault true (seek_turn place)
unfolding seek_turn
of_seek place = made_then _ _ (of_scanned place.segment 0) (λ o. of_seek_found place o)

-- ---- a turn

of_element : (track : TrackNumbers) (place : Place) → Made no_fault true (element_turn track place)
unfolding element_turn
of_element track place = made_if _ _ _ (made_if _ _ _ (of_some _ (of_group track pending.Nothing place)) (made_if _ _ _ (of_some _ (of_cluster track place)) (of_open track place))) (made_given _)

of_turn : (track : TrackNumbers) (next : Pending) (place : Place) → Made no_fault true (turn_read track next place)
unfolding turn_read
of_turn track pending.Nothing place = of_element track place
of_turn track pending.Grouped place = of_some _ (of_grouped track place)
of_turn track (pending.Passing count) place = of_some _ (of_passed count pending.Nothing place)
of_turn track pending.Seeking place = of_seek place
of_turn track (pending.Named ident) place = of_some _ (of_named_turn track ident 0 place)
of_turn track (pending.Headed ident size) place = of_some _ (of_outer track ident (open_at (bytes_of size) place) size)

pub turn_meets_none : (track : TrackNumbers) (next : Pending) (place : Place) (text rest : List ℕ) (f : FileFault) → turn_read track next place text ≡ Err (Met f rest) → ⊥
turn_meets_none track next place text rest f is = let own : false ≡ true = made_meets (of_turn track next place) text rest f is in absurd (cc)

-- Elements of a Segment in damaged bytes. Each is a turn, of which a fault is a value: it is told,
-- and reading goes on after it. A turn reads what a step of plain reading does, up to its fault.
use Rattle.std.specs.Prelude.{ℕ, ◌+◌, ◌-◌, ◌==◌, ◌||◌, ◌&&◌, suc, zero, Bool, true, false}
use Rattle.std.specs.Prelude.{if◌then◌else◌, nat_lt, List, [], ◌∷◌, length, slice_index}
use Rattle.std.specs.Prelude.{Option, Some, None, Result, Ok, Err}
use Rattle.ffv1_reads.specs.Offsets.{offset_after}
use Rattle.ffv1_reads.specs.Head.{frame_limit}
use Rattle.ffv1_reads.specs.Reads.{Reading, given, passed, taken, ◌>>=◌}
use Rattle.ffv1_reads.specs.declared.fault.FileFault.{FileFault}
use Rattle.ffv1_reads.specs.declared.fault.FileFault.TheVariants as fault
use Rattle.ffv1_sum.specs.Sum.{number_of as low_number, turned}
use Rattle.ffv1_ebml.specs.Elements.{is_crc, none_outside}
use Rattle.ffv1_ebml.specs.Sums.{is_met, passed_summed, summed, taken_summed}
use Rattle.ffv1_ebml.specs.Tried.{header_tried, tried}
use Rattle.ffv1_ebml.specs.Vints.{data_of, number_of, size_of, vint_read, vint_rest}
use Rattle.ffv1_ebml.specs.declared.sum.Sum.{Sum}
use Rattle.ffv1_ebml.specs.declared.sum.Sum.TheVariants.{Absent, Begins, Awaits}
use Rattle.ffv1_ebml.specs.declared.tried.Header.{Header}
use Rattle.ffv1_ebml.specs.declared.tried.Header.TheVariants.{Broken, Outside, Whole}
use Rattle.ffv1_matroska.specs.Blocks.{is_unknown, lacing_of}
use Rattle.ffv1_matroska.specs.Internal.{bytes_of}
use Rattle.ffv1_matroska.specs.Places.{cluster_at, cluster_entered, group_at, is_sound}
use Rattle.ffv1_matroska.specs.Places.{segment_at, summed_at}
use Rattle.ffv1_matroska.specs.Segments.{block, block_group, cluster, is_beside, is_filler}
use Rattle.ffv1_matroska.specs.Segments.{is_of_cluster, is_outside, is_section, simple_block}
use Rattle.ffv1_matroska.specs.declared.course.Pending.{Pending}
use Rattle.ffv1_matroska.specs.declared.course.Pending.TheVariants as pending
use Rattle.ffv1_matroska.specs.declared.course.Turn.{Turn}
use Rattle.ffv1_matroska.specs.declared.course.Turn.TheVariants.{Frame, On, Told}
use Rattle.ffv1_matroska.specs.declared.place.Place.{Place}
use Rattle.ffv1_matroska.specs.declared.track.TrackNumbers.{TrackNumbers}

-- the bytes that the Segment has left from a place on, with so many before that, as 8 bytes say
-- them
abbrev pub segment_left : ℕ → Place → ℕ
segment_left more place =
    offset_after (offset_after (offset_after place.segment place.cluster) place.group) more

-- a fault after which the next Cluster is sought, so many bytes before a place
abbrev pub lost : FileFault → ℕ → Place → Turn
lost f more place = Told f pending.Seeking (segment_at place false (segment_left more place))

-- so many bytes are passed
unfoldable pub passed_turn : ℕ → Pending → Place → Reading Turn
passed_turn size next place =
    passed_summed size place.sum >>= λ sum. given (On next (summed_at place sum))

-- ---- blocks

-- a frame of so many bytes, after these flags; if it is refused, its bytes are passed
abbrev pub frame_turn : ℕ → ℕ → Place → Turn
frame_turn flags size place =
    if lacing_of flags == 0
    then (if nat_lt frame_limit size then Told fault.ChunkTooLong (pending.Passing size) place
    else if size == 0 then Told fault.EmptyFrame (pending.Passing size) place
    else Frame size place)
    else Told fault.Laced (pending.Passing size) place

-- after the track number
unfoldable pub fields_turn : ℕ → Place → Reading Turn
fields_turn left place =
    if nat_lt left 3 then given (lost fault.Truncated left place)
    else (taken_summed 3 place.sum >>= λ p.
    given (frame_turn (slice_index p.0 2) (left - 3) (summed_at place p.1)))

-- of another track the rest is passed; if no track has the number, the block is told first
unfoldable pub numbered_turn : TrackNumbers → ℕ → ℕ → Place → Reading Turn
numbered_turn track number left place =
    if number == track.number then fields_turn left place
    else if is_unknown track.known number
    then given (Told fault.BadElement (pending.Passing left) place)
    else passed_turn left pending.Nothing place

abbrev pub block_named : TrackNumbers → ℕ → Place → Result (List ℕ) FileFault → Reading Turn
block_named track size place (Err f) = given (lost f (size - 1) place)
block_named track size place (Ok number) =
    numbered_turn track (data_of number) (size - length number)
    (summed_at place (summed place.sum number))

-- a block of so many bytes, up to its frame, before a place
unfoldable pub block_turn : TrackNumbers → ℕ → Place → Reading Turn
block_turn track size place = tried (vint_read 8 size) >>= block_named track size place

-- ---- Clusters and BlockGroups

-- an element of a Cluster, of so many bytes, after its header, before a place; any other is told,
-- and passed
unfoldable pub child_turn : TrackNumbers → ℕ → ℕ → Place → Reading Turn
child_turn track ident size place =
    if ident == simple_block then block_turn track size place
    else if ident == block_group
    then given (On pending.Grouped (group_at place size place.sum))
    else if is_beside ident size then passed_turn size pending.Nothing place
    else given (Told fault.BadElement (pending.Passing size) place)

-- the CRC-32 of a Cluster
unfoldable pub crc_turn : Place → Reading Turn
crc_turn place = taken 4 >>= λ bytes.
    given (On pending.Nothing (summed_at place (Awaits (low_number bytes) turned)))

unfoldable pub first_turn : TrackNumbers → ℕ → ℕ → Place → Reading Turn
first_turn track ident size place =
    if is_crc ident size then crc_turn place
    else child_turn track ident size (summed_at place Absent)

abbrev pub turn_by : TrackNumbers → ℕ → ℕ → Place → Sum → Reading Turn
turn_by track ident size place Begins = first_turn track ident size place
turn_by track ident size place Absent = child_turn track ident size place
turn_by track ident size place (Awaits stated so_far) = child_turn track ident size place

-- an ID of one that stands only outside of a Cluster: its element is one of the Segment
abbrev pub cluster_headed : TrackNumbers → Place → Header → Reading Turn
cluster_headed track place (Whole ident size left sum) =
    turn_by track ident size (cluster_at place left sum) sum
cluster_headed track place (Outside ident left) =
    given (Told fault.BadElement (pending.Named ident)
    (segment_at place false (segment_left left (cluster_at place 0 Absent))))
cluster_headed track place (Broken f left) = given (lost f left (cluster_at place 0 Absent))

unfoldable pub cluster_turn : TrackNumbers → Place → Reading Turn
cluster_turn track place =
    header_tried is_outside place.cluster place.sum >>= cluster_headed track place

-- an element of a BlockGroup; after one that is no Block this is pending
abbrev pub group_headed : TrackNumbers → Pending → Place → Header → Reading Turn
group_headed track next place (Whole ident size left sum) =
    if ident == block then block_turn track size (group_at place left sum)
    else passed_turn size next (group_at place left sum)
group_headed track next place (Outside ident left) =
    given (lost fault.BadElement left (group_at place 0 Absent))
group_headed track next place (Broken f left) = given (lost f left (group_at place 0 Absent))

unfoldable pub group_turn : TrackNumbers → Pending → Place → Reading Turn
group_turn track next place =
    header_tried none_outside place.group place.sum >>= group_headed track next place

-- ---- the Segment

-- an element whose CRC-32 is judged was read
abbrev pub section_end : Place → Sum → Turn
section_end place sum =
    if is_met sum then On pending.Nothing place else Told fault.Checksum pending.Nothing place

-- so many bytes after its CRC-32; or all of the content, if it has none
unfoldable pub summed_section : ℕ → Place → Reading Turn
summed_section left place =
    taken 4 >>= λ stated. (passed_summed left (Awaits (low_number stated) turned) >>= λ sum.
    given (section_end place sum))

unfoldable pub plain_section : ℕ → ℕ → Place → Reading Turn
plain_section size left place =
    passed size >>= λ _. (passed left >>= λ _. given (On pending.Nothing place))

-- its content, after the header of its first element
abbrev pub section_headed : Place → Header → Reading Turn
section_headed place (Whole ident size left sum) =
    if is_crc ident size then summed_section left place else plain_section size left place
section_headed place (Outside ident left) = given (lost fault.BadElement left place)
section_headed place (Broken f left) = given (lost f left place)

unfoldable pub section_turn : ℕ → Place → Reading Turn
section_turn size place =
    if size == 0 then given (On pending.Nothing place)
    else (header_tried none_outside size Absent >>= section_headed place)

-- an element of the Segment, after its header, before a place
unfoldable pub outer_turn : TrackNumbers → ℕ → Place → Option ℕ → Reading Turn
outer_turn track ident place None =
    given (if ident == cluster then On pending.Nothing (segment_at place true place.segment)
    else lost fault.BadElement 0 place)
outer_turn track ident place (Some size) =
    if ident == cluster then given (On pending.Nothing (cluster_entered place size))
    else if place.loose && is_of_cluster ident then child_turn track ident size place
    else if is_section ident then section_turn size (segment_at place false place.segment)
    else if is_filler ident then passed_turn size pending.Nothing place
    else given (lost fault.BadElement size place)

-- an element with a header of so many bytes passes a Segment that has so many left
abbrev pub passes_segment : ℕ → ℕ → Option ℕ → Bool
passes_segment left header size = nat_lt left header || nat_lt (left - header) (bytes_of size)

-- one that does is told, and its header kept, since it is read again
abbrev pub sized_turn : TrackNumbers → ℕ → ℕ → Place → Option ℕ → Reading Turn
sized_turn track ident header place size =
    if passes_segment place.segment header size
    then given (Told fault.Truncated (pending.Headed ident size)
    (segment_at place place.loose (place.segment - header)))
    else outer_turn track ident
    (segment_at place place.loose (place.segment - header - bytes_of size)) size

-- a size at fault; if the Segment ends before it, that is the fault
abbrev pub named_sized : TrackNumbers → ℕ → ℕ → Place → Result (List ℕ) FileFault → Reading Turn
named_sized track ident count place (Err f) =
    given (Told (if nat_lt count place.segment then f else fault.Truncated) pending.Seeking
    (segment_at place false (place.segment - count - 1)))
named_sized track ident count place (Ok size) =
    sized_turn track ident (count + length size) place (size_of size)

-- an element of the Segment whose ID was read, so many bytes after a place
unfoldable pub named_turn : TrackNumbers → ℕ → ℕ → Place → Reading Turn
named_turn track ident count place =
    tried (vint_read 8 8) >>= named_sized track ident count place

abbrev pub segment_named : TrackNumbers → Place → Result (List ℕ) FileFault → Reading Turn
segment_named track place (Err f) =
    given (Told f pending.Seeking (segment_at place false (place.segment - 1)))
segment_named track place (Ok ident) = named_turn track (number_of ident) (length ident) place

unfoldable pub segment_turn : TrackNumbers → Place → Reading Turn
segment_turn track place = tried (vint_read 4 4) >>= segment_named track place

-- after its first byte
abbrev pub turn_after : TrackNumbers → ℕ → Place → Reading Turn
turn_after track first place =
    tried (vint_rest 4 4 (first ∷ [])) >>= segment_named track place

-- a turn
abbrev pub some_turn : Reading Turn → Reading (Option Turn)
some_turn reading = reading >>= λ turn. given (Some turn)

abbrev pub turn_of : Result Turn FileFault → Result (Option Turn) FileFault
turn_of (Ok turn) = Ok (Some turn)
turn_of (Err f) = Err f

-- of a Segment whose size is unknown: none at the end of the input
abbrev pub turn_or_end : TrackNumbers → Place → Reading (Option Turn)
turn_or_end track place [] = Ok (None, [])
turn_or_end track place (b ∷ bs) = some_turn (segment_turn track place) (b ∷ bs)

unfoldable pub open_turn : TrackNumbers → Place → Reading (Option Turn)
open_turn track place =
    if place.segment == 0 then given None
    else if place.endless then turn_or_end track place
    else some_turn (segment_turn track place)

-- ---- the next Cluster

-- how many bytes of its ID, 1F 43 B6 75, the last bytes are, after one more. Only the first of them
-- is 1F
abbrev pub byte_matched : ℕ → ℕ → ℕ
byte_matched matched byte =
    if byte == 0x1F then 1
    else if (matched == 1) && (byte == 0x43) then 2
    else if (matched == 2) && (byte == 0xB6) then 3
    else if (matched == 3) && (byte == 0x75) then 4
    else 0

abbrev pub scanned_on : (ℕ → Reading (Option ℕ)) → ℕ → ℕ → Reading (Option ℕ)
scanned_on on matched left = if matched == 4 then given (Some left) else on matched

-- up to the end of the next ID of a Cluster, of which so many bytes were there: how many of so many
-- bytes are left after that; none if they, or the input, end before
unfoldable pub scanned : ℕ → ℕ → Reading (Option ℕ)
scanned zero matched text = Ok (None, text)
scanned (suc left) matched [] = Ok (None, [])
scanned (suc left) matched (b ∷ bs) =
    scanned_on (scanned left) (byte_matched matched b) left bs

-- a Cluster that was found; if it passes the Segment, another one is sought
abbrev pub cluster_found : Place → ℕ → Option ℕ → Turn
cluster_found place left None = On pending.Nothing (segment_at place true left)
cluster_found place left (Some size) =
    if nat_lt left size then On pending.Seeking (segment_at place false left)
    else On pending.Nothing (cluster_entered (segment_at place false (left - size)) size)

abbrev pub found_sized : Place → ℕ → Result (List ℕ) FileFault → Reading Turn
found_sized place left (Err f) =
    given (On pending.Seeking (segment_at place false (left - 1)))
found_sized place left (Ok size) = given (cluster_found place (left - length size) (size_of size))

unfoldable pub found_turn : Place → ℕ → Reading Turn
found_turn place left = tried (vint_read 8 left) >>= found_sized place left

abbrev pub seek_found : Place → Option ℕ → Reading (Option Turn)
seek_found place None = given None
seek_found place (Some left) = some_turn (found_turn place left)

unfoldable pub seek_turn : Place → Reading (Option Turn)
seek_turn place = scanned place.segment 0 >>= seek_found place

-- ---- a turn, by what is pending

-- the Segment counts as open, before content of so many bytes
abbrev pub open_at : ℕ → Place → Place
open_at size place =
    record {
      segment = 72057594037927935 - size;
      endless = true;
      loose = place.loose;
      cluster = 0;
      group = 0;
      sum = Absent;
    }

-- the next element; a Cluster that was read to its end, and whose CRC-32 is not the sum, is told
-- first
unfoldable pub element_turn : TrackNumbers → Place → Reading (Option Turn)
element_turn track place =
    if is_sound place
    then (if nat_lt 0 place.group then some_turn (group_turn track pending.Nothing place)
    else if nat_lt 0 place.cluster then some_turn (cluster_turn track place)
    else open_turn track place)
    else given (Some (Told fault.Checksum pending.Nothing (summed_at place Absent)))

-- an element of a BlockGroup that has had no Block; if it ends so, that is told
unfoldable pub grouped_turn : TrackNumbers → Place → Reading Turn
grouped_turn track place =
    if place.group == 0 then given (lost fault.BadElement 0 place)
    else group_turn track pending.Grouped place

unfoldable pub turn_read : TrackNumbers → Pending → Place → Reading (Option Turn)
turn_read track pending.Nothing place = element_turn track place
turn_read track pending.Grouped place = some_turn (grouped_turn track place)
turn_read track (pending.Passing count) place =
    some_turn (passed_turn count pending.Nothing place)
turn_read track pending.Seeking place = seek_turn place
turn_read track (pending.Named ident) place = some_turn (named_turn track ident 0 place)
turn_read track (pending.Headed ident size) place =
    some_turn (outer_turn track ident (open_at (bytes_of size) place) size)

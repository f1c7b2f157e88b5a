-- Elements of a Segment (RFC 9559, 5.1), of a Cluster (5.1.3) and of a BlockGroup (5.1.3.5): each
-- is a step, up to the next element, or up to a frame.
use Rattle.std.specs.Prelude.{ℕ, suc, zero, ◌==◌, ◌||◌, ◌&&◌, Bool, true, false, if◌then◌else◌}
use Rattle.std.specs.Prelude.{nat_le, nat_lt}
use Rattle.std.specs.Prelude.{Option, Some, None, List, [], ◌∷◌}
use Rattle.ffv1_reads.specs.Reads.{Reading, given, refused, taken, ◌>>=◌}
use Rattle.ffv1_reads.specs.declared.fault.FileFault.TheVariants as fault
use Rattle.ffv1_sum.specs.Sum.{number_of as low_number, turned}
use Rattle.ffv1_ebml.specs.Elements.{content_passed, crc_ident, element_in, element_read}
use Rattle.ffv1_ebml.specs.Elements.{first_read, is_among, is_crc}
use Rattle.ffv1_ebml.specs.Sums.{passed_summed, taken_summed}
use Rattle.ffv1_ebml.specs.Vints.{number_of}
use Rattle.ffv1_ebml.specs.declared.element.Element.{Element}
use Rattle.ffv1_ebml.specs.declared.sum.Sum.{Sum}
use Rattle.ffv1_ebml.specs.declared.sum.Sum.TheVariants.{Absent, Begins, Awaits}
use Rattle.ffv1_matroska.specs.Blocks.{block_read, passed_on}
use Rattle.ffv1_matroska.specs.Places.{closed, cluster_at, cluster_entered, group_at, segment_at}
use Rattle.ffv1_matroska.specs.Places.{step_to, summed_at, timed_to}
use Rattle.ffv1_matroska.specs.WrittenIdents.{timestamp}
use Rattle.ffv1_matroska.specs.declared.place.Place.{Place}
use Rattle.ffv1_matroska.specs.declared.place.Step.{Step}
use Rattle.ffv1_matroska.specs.declared.track.TrackNumbers.{TrackNumbers}

-- the IDs of Cluster, and of what holds frames
abbrev pub cluster : ℕ
cluster = 0x1F43B675

abbrev pub simple_block : ℕ
simple_block = 0xA3

abbrev pub block_group : ℕ
block_group = 0xA0

abbrev pub block : ℕ
block = 0xA1

-- an element of a Segment whose CRC-32 is judged: SeekHead, Info, Tracks, Cues, Attachments,
-- Chapters or Tags
unfoldable pub is_section : ℕ → Bool
is_section ident =
    ident == 0x114D9B74 || ident == 0x1549A966 || ident == 0x1654AE6B || ident == 0x1C53BB6B
    || ident == 0x1941A469 || ident == 0x1043A770 || ident == 0x1254C367

-- one that may stand anywhere (RFC 8794, 11.3): Void or CRC-32
unfoldable pub is_filler : ℕ → Bool
is_filler ident = ident == 0xEC || ident == crc_ident

-- one of a Cluster, as which it stands after the header of one of unknown size: SimpleBlock,
-- BlockGroup, Timestamp, Position, PrevSize, SilentTracks or EncryptedBlock
unfoldable pub is_of_cluster : ℕ → Bool
is_of_cluster ident =
    ident == simple_block || ident == block_group || ident == 0xE7 || ident == 0xA7 || ident == 0xAB
    || ident == 0x5854 || ident == 0xAF

-- an element of a BlockGroup, after its header; its size must be known
unfoldable pub group_child : TrackNumbers → ℕ → Place → Option ℕ → Reading (Option Step)
group_child track ident place None = refused fault.BadElement
group_child track ident place (Some size) =
    if ident == block then block_read track size place else passed_on size place

abbrev pub group_rest : TrackNumbers → Place → Element × Sum → Reading (Option Step)
group_rest track place p = group_child track p.0.ident (group_at place p.0.left p.1) p.0.size

unfoldable pub group_read : TrackNumbers → Place → Reading (Option Step)
group_read track place = element_read place.group place.sum >>= group_rest track place

-- an element of a BlockGroup up to its first Block, after its header: that Block is read up to its
-- frame; any other is passed, and then it goes on
abbrev pub sought_child : (Place → Reading (Option Step)) → TrackNumbers → ℕ → Place → Option ℕ →
    Reading (Option Step)
sought_child on track ident place None = refused fault.BadElement
sought_child on track ident place (Some size) =
    if ident == block then block_read track size place
    else (passed_summed size place.sum >>= λ sum. on (summed_at place sum))

abbrev pub sought_rest : (Place → Reading (Option Step)) → TrackNumbers → Place → Element × Sum →
    Reading (Option Step)
sought_rest on track place p =
    sought_child on track p.0.ident (group_at place p.0.left p.1) p.0.size

-- the first Block of a BlockGroup, which has one, among at most so many elements
unfoldable pub block_sought : ℕ → TrackNumbers → Place → Reading (Option Step)
block_sought zero track place = refused fault.BadElement
block_sought (suc most) track place =
    if place.group == 0 then refused fault.BadElement
    else (element_read place.group place.sum >>= sought_rest (block_sought most track) track place)

-- what a Cluster has beside blocks: Timestamp, Position or PrevSize, which is a number and has at
-- most 8 bytes; SilentTracks, EncryptedBlock, Void or CRC-32
unfoldable pub is_beside : ℕ → ℕ → Bool
is_beside ident size =
    if ident == 0xE7 || ident == 0xA7 || ident == 0xAB then nat_le size 8
    else ident == 0x5854 || ident == 0xAF || is_filler ident

-- a Timestamp (5.1.3.1) is a number, which is told; all else that a Cluster has beside blocks is
-- passed
unfoldable pub timestamp_read : ℕ → Place → Reading (Option Step)
timestamp_read size place = taken_summed size place.sum >>= λ p.
    closed (Some (timed_to (number_of p.0) (summed_at place p.1))) (summed_at place p.1)

abbrev pub beside_read : ℕ → ℕ → Place → Reading (Option Step)
beside_read ident size place =
    if ident == timestamp then timestamp_read size place else passed_on size place

-- an element of a Cluster, of so many bytes, after its header, and a BlockGroup up to its first
-- Block: any other may not stand there
unfoldable pub cluster_child : TrackNumbers → ℕ → ℕ → Place → Reading (Option Step)
cluster_child track ident size place =
    if ident == simple_block then block_read track size place
    else if ident == block_group
    then block_sought size track (group_at place size place.sum)
    else if is_beside ident size then beside_read ident size place
    else refused fault.BadElement

-- the CRC-32 of a Cluster: the sum of all that comes after it, low end first (RFC 8794, 11.3.1)
abbrev pub crc_read : Place → Reading (Option Step)
crc_read place = taken 4 >>= λ bytes.
    closed (Some (step_to (summed_at place (Awaits (low_number bytes) turned))))
    (summed_at place (Awaits (low_number bytes) turned))

-- the first element of a Cluster may be its CRC-32; if it is another one, there is none
unfoldable pub first_child : TrackNumbers → ℕ → ℕ → Place → Reading (Option Step)
first_child track ident size place =
    if is_crc ident size then crc_read place
    else cluster_child track ident size (summed_at place Absent)

abbrev pub child_by : TrackNumbers → ℕ → ℕ → Place → Sum → Reading (Option Step)
child_by track ident size place Begins = first_child track ident size place
child_by track ident size place Absent = cluster_child track ident size place
child_by track ident size place (Awaits stated so_far) = cluster_child track ident size place

unfoldable pub known_child : TrackNumbers → ℕ → Place → Option ℕ → Reading (Option Step)
known_child track ident place None = refused fault.BadElement
known_child track ident place (Some size) = child_by track ident size place place.sum

abbrev pub cluster_rest : TrackNumbers → Place → Element × Sum → Reading (Option Step)
cluster_rest track place p = known_child track p.0.ident (cluster_at place p.0.left p.1) p.0.size

-- the IDs of elements that stand only outside of Clusters: those of a Segment, which are SeekHead,
-- Info, Tracks, Cues, Attachments, Chapters, Tags and Cluster; and EBML and Segment
unfoldable pub outside_idents : List ℕ
outside_idents =
    0x114D9B74 ∷ 0x1549A966 ∷ 0x1654AE6B ∷ 0x1C53BB6B ∷ 0x1941A469 ∷ 0x1043A770 ∷ 0x1254C367
    ∷ 0x1F43B675 ∷ 0x1A45DFA3 ∷ 0x18538067 ∷ []

-- if one of these elements begins in a Cluster, the Cluster says more bytes than it has; so the
-- element is refused before its size is looked at
abbrev pub is_outside : ℕ → Bool
is_outside ident = is_among outside_idents ident

unfoldable pub cluster_read : TrackNumbers → Place → Reading (Option Step)
cluster_read track place =
    element_in is_outside place.cluster place.sum >>= cluster_rest track place

-- an element of a Segment that holds no frames, after its header: passed, with its CRC-32 judged
-- if it has one; any other may not stand there
unfoldable pub other_read : ℕ → ℕ → Place → Reading (Option Step)
other_read ident size place =
    if is_section ident
    then (content_passed size >>= λ _.
    given (Some (step_to (segment_at place false place.segment))))
    else if is_filler ident then passed_on size place
    else refused fault.BadElement

-- the header of a Cluster of unknown size is passed alone: its elements are then read as those of
-- the Segment. No other element may have an unknown size
unfoldable pub segment_child : TrackNumbers → ℕ → Place → Option ℕ → Reading (Option Step)
segment_child track ident place None =
    if ident == cluster then given (Some (step_to (segment_at place true place.segment)))
    else refused fault.BadElement
segment_child track ident place (Some size) =
    if ident == cluster then given (Some (step_to (cluster_entered place size)))
    else if place.loose && is_of_cluster ident then cluster_child track ident size place
    else other_read ident size place

-- the header of the next element of a Segment; none at its end, which is the end of the input if
-- its size is unknown
unfoldable pub header_read : Place → Reading (Option Element)
header_read place =
    if place.segment == 0 then given None
    else if place.endless then first_read place.segment
    else (element_read place.segment Absent >>= λ p. given (Some p.0))

abbrev pub segment_rest : TrackNumbers → Place → Option Element → Reading (Option Step)
segment_rest track place None = given None
segment_rest track place (Some e) =
    segment_child track e.ident (segment_at place place.loose e.left) e.size

unfoldable pub segment_read : TrackNumbers → Place → Reading (Option Step)
segment_read track place = header_read place >>= segment_rest track place

-- the next step, in the innermost that has bytes left; none at the end of the Segment
unfoldable pub step_read : TrackNumbers → Place → Reading (Option Step)
step_read track place =
    if nat_lt 0 place.group then group_read track place
    else if nat_lt 0 place.cluster then cluster_read track place
    else segment_read track place

-- Blocks (RFC 9559, 5.1.3.4, 5.1.3.5.1 and 10): a track number, two bytes of time, flags, and a
-- frame, if there is no lacing.
use Rattle.std.specs.Prelude.{ℕ, ◌-◌, ◌/◌, ◌%◌, ◌^◌, ◌<◌, ◌≤◌, ◌==◌, Bool, if◌then◌else◌, nat_le}
use Rattle.std.specs.Prelude.{nat_lt, slice_index, List, take, Option, Some, IfSome}
use Rattle.ffv1_reads.specs.Reads.{Reading, given, refused, ◌>>=◌}
use Rattle.ffv1_reads.specs.declared.fault.FileFault.TheVariants as fault
use Rattle.ffv1_ebml.specs.Elements.{data_read}
use Rattle.ffv1_ebml.specs.Sums.{passed_summed, taken_summed}
use Rattle.ffv1_ebml.specs.Vints.{number_of}
use Rattle.ffv1_ebml.specs.declared.element.Data.{Data}
use Rattle.ffv1_ebml.specs.declared.sum.Sum.{Sum}
use Rattle.ffv1_matroska.specs.Places.{closed, frame_at, step_to, summed_at}
use Rattle.ffv1_matroska.specs.declared.place.Place.{Place}
use Rattle.ffv1_matroska.specs.declared.place.Step.{Step}
use Rattle.ffv1_reads.specs.Head.{frame_limit}
use Rattle.ffv1_matroska.specs.declared.track.TrackNumbers.{TrackNumbers}

-- a frame that is read has from one byte on, up to the limit
abbrev pub IsFrameSize : ℕ → Type 0
IsFrameSize size = (0 < size) × (size ≤ frame_limit)

-- so has the frame of a step, if it has one
abbrev pub HasFrameSize : Option Step → Type 0
HasFrameSize step = IfSome step (λ s. IfSome s.frame IsFrameSize)

-- so many bytes are passed
unfoldable pub passed_on : ℕ → Place → Reading (Option Step)
passed_on size place = passed_summed size place.sum >>= λ sum.
    closed (Some (step_to (summed_at place sum))) (summed_at place sum)

-- the two bits of lacing (10.1, 10.2)
abbrev pub lacing_of : ℕ → ℕ
lacing_of flags = flags / 2 % 4

-- the first two of these bytes, which are time, as a number of 16 bits (10.1, 10.2)
abbrev pub time_of : List ℕ → ℕ
time_of fields = number_of (take 2 fields)

-- a frame's size is judged before its bytes are read
abbrev pub frame_judged : ℕ → ℕ → ℕ → Place → Reading (Option Step)
frame_judged time flags size place =
    if lacing_of flags == 0
    then (if nat_lt frame_limit size then refused fault.ChunkTooLong
    else if size == 0 then refused fault.EmptyFrame
    else given (Some (frame_at (Some time) size place)))
    else refused fault.Laced

-- after the track number: two bytes of time, which are told, and flags
unfoldable pub fields_read : ℕ → Place → Reading (Option Step)
fields_read left place =
    if nat_lt left 3 then refused fault.Truncated
    else (taken_summed 3 place.sum >>= λ p.
    frame_judged (time_of p.0) (slice_index p.0 2) (left - 3) (summed_at place p.1))

-- the bit that stands for a track's number: the one that it counts up to 127; for all greater ones
-- that of 0, which is the number of no track (5.1.4.1.1)
abbrev pub bit_of : ℕ → ℕ
bit_of number = if nat_le number 127 then number else 0

-- no track has this number; if it is above 127, none has one above that
unfoldable pub is_unknown : ℕ → ℕ → Bool
is_unknown known number = known / 2 ^ bit_of number % 2 == 0

-- a block of another track is passed; if no track has its number, it is refused after that
abbrev pub block_rest : TrackNumbers → Place → Data × Sum → Reading (Option Step)
block_rest track place p =
    if p.0.value == track.number then fields_read p.0.left (summed_at place p.1)
    else if is_unknown track.known p.0.value then refused fault.BadElement
    else passed_on p.0.left (summed_at place p.1)

-- a block of so many bytes, up to its frame
unfoldable pub block_read : TrackNumbers → ℕ → Place → Reading (Option Step)
block_read track size place = data_read size place.sum >>= block_rest track place

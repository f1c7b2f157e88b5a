-- What comes of the header of a chunk in a file that may be damaged, and of the own name of a list.
use Rattle.std.specs.Prelude.{ℕ, ◌+◌, ◌-◌, ◌++◌, ◌==◌, ◌&&◌, Bool, true, false, if◌then◌else◌}
use Rattle.std.specs.Prelude.{nat_le, nat_lt, List, drop, codes, Option, Some}
use Rattle.std.specs.Prelude.{None}
use Rattle.byteorder.specs.Endian.{little_number}
use Rattle.ffv1_reads.specs.Reads.{Reading, given, passed, refused, taken, ◌>>=◌}
use Rattle.ffv1_reads.specs.declared.fault.FileFault.{FileFault}
use Rattle.ffv1_reads.specs.declared.fault.FileFault.TheVariants as fault
use Rattle.ffv1_avi.specs.declared.came.Came.{Came}
use Rattle.ffv1_avi.specs.declared.came.Came.TheVariants as came
use Rattle.ffv1_avi.specs.declared.came.Header.{Header}
use Rattle.ffv1_avi.specs.declared.came.Header.TheVariants as header
use Rattle.ffv1_avi.specs.declared.chunk.Entry.{Entry}
use Rattle.ffv1_avi.specs.declared.course.Pending.TheVariants as pending
use Rattle.ffv1_avi.specs.declared.course.Turn.{Turn}
use Rattle.ffv1_avi.specs.declared.course.Turn.TheVariants.{Frame, On}
use Rattle.ffv1_avi.specs.declared.place.Open.TheVariants.{OpenMovi, OpenRiff}
use Rattle.ffv1_avi.specs.declared.place.Place.{Place}
use Rattle.ffv1_avi.specs.Names.{bars, is_barred, is_frame, least_bytes, most_bytes, rule_of}
use Rattle.ffv1_avi.specs.Offsets.{movi_left, riff_left}
use Rattle.ffv1_avi.specs.Opens.{Step}
use Rattle.ffv1_avi.specs.Padding.{padded}
use Rattle.ffv1_avi.specs.Places.{frame_at, is_open, movi_at, open_at, open_frame_at, riff_at}
use Rattle.ffv1_avi.specs.Turns.{count_to, fault_turn}
use Rattle.ffv1_avi.specs.Walk.{entry_of, is_known, is_name, size_in}

abbrev pub at_fault : FileFault → Header
at_fault f = header.Whole (came.Fault f)

-- what is read after it
abbrev pub came_read : Came → Reading (Option Step)
came_read (came.Fault f) = refused f
came_read (came.Frame size next) = given (Some (Some size, next))
came_read (came.Pass count next) = passed count >>= λ _. given (Some (None, next))

-- what comes of the chunk, of which these bytes were read
abbrev pub came_turn : Place → Came → List ℕ → Reading (Option Turn)
came_turn place (came.Fault f) bytes = given (Some (fault_turn place f bytes))
came_turn place (came.Frame size next) bytes = given (Some (Frame 8 size next))
came_turn place (came.Pass count next) bytes =
    passed count >>= λ _. given (Some (On (count_to place next) pending.Nothing next))

-- ---- a chunk of movi, after which that has so many bytes left; or the input, but for the last one
-- that is read

abbrev pub movi_next : Place → ℕ → Place
movi_next place left =
    if nat_lt 0 place.movi then movi_left place left else open_at place OpenMovi (left + 1) 0

abbrev pub frame_next : Place → ℕ → Place
frame_next place left =
    if nat_lt 0 place.movi then frame_at place left else open_frame_at place (left + 1)

abbrev pub framed_header : Place → Entry → Came
framed_header place e =
    if nat_lt (most_bytes place.names) e.size then came.Fault fault.ChunkTooLong
    else if nat_lt e.size (least_bytes place.names) then came.Fault fault.EmptyFrame
    else came.Frame e.size (frame_next place e.left)

abbrev pub movi_entry : Place → Entry → Header
movi_entry place e =
    if is_barred place.names e.name then header.Whole (came.Fault fault.NotAvi)
    else if is_frame place.names e.name then header.Whole (framed_header place e)
    else if is_name e.name (codes "LIST")
    then header.Named (movi_next place e.left) (movi_next place e.left) e.size
    else header.Whole (came.Pass (padded e.size) (movi_next place e.left))

abbrev pub movi_header : Place → ℕ → List ℕ → ℕ → Header
movi_header place left name size =
    if bars place.names name then header.Whole (came.Fault fault.NotAvi)
    else if nat_lt left (8 + padded size) then header.Whole (came.Fault fault.Truncated)
    else if is_name name (codes "LIST") && nat_lt size 4
    then header.Whole (came.Fault fault.NotAvi)
    else movi_entry place (entry_of left name (size_in (rule_of place.names) name size))

-- a list of movi, by its own name
abbrev pub movi_own : Place → List ℕ → Came
movi_own next own =
    if is_name own (codes "rec ") then came.Pass 0 next else came.Fault fault.NotAvi

-- ---- a chunk of RIFF

abbrev pub riff_next : Place → ℕ → Place
riff_next place left =
    if is_open place.open_in then open_at place OpenRiff (left + 1) 0 else riff_left place left

-- a list movi in it
abbrev pub movi_enters : Place → Entry → Place
movi_enters place e =
    if is_open place.open_in then open_at place OpenRiff (e.left + 1) (e.size - 4)
    else movi_at place (e.size - 4, e.left)

abbrev pub riff_entry : Place → Entry → Header
riff_entry place e =
    if is_name e.name (codes "LIST")
    then header.Named (movi_enters place e) (riff_next place e.left) e.size
    else if is_frame place.names e.name then header.Whole (came.Fault fault.NotAvi)
    else header.Whole (came.Pass (padded e.size) (riff_next place e.left))

-- a list movi without size, in an RIFF without size
abbrev pub sizeless_header : Place → ℕ → Header
sizeless_header place left =
    if nat_lt left 12 then header.Whole (came.Fault fault.Truncated)
    else header.Named (open_at place OpenMovi (left - 11) 0) place 0

abbrev pub sized_header : Place → ℕ → List ℕ → ℕ → Header
sized_header place left name size =
    if nat_lt left (8 + padded size) then header.Whole (came.Fault fault.Truncated)
    else if is_name name (codes "LIST") && nat_lt size 4
    then header.Whole (came.Fault fault.NotAvi)
    else riff_entry place (entry_of left name size)

-- whether a chunk is one
abbrev pub is_unsized : Place → List ℕ → ℕ → Bool
is_unsized place name size =
    if is_open place.open_in
    then (if is_name name (codes "LIST") then (if is_known size then false else true) else false)
    else false

abbrev pub riff_header : Place → ℕ → List ℕ → ℕ → Header
riff_header place left name size =
    if is_unsized place name size then sizeless_header place left
    else sized_header place left name size

-- a list of RIFF, by its own name
abbrev pub riff_own : Place → Place → ℕ → List ℕ → Came
riff_own enters next size own =
    if is_name own (codes "movi") then came.Pass 0 enters
    else if size == 0 then came.Fault fault.NotAvi
    else came.Pass (padded size - 4) next

-- ---- a header, or a list by its own name

abbrev pub own_came : Bool → Place → Place → ℕ → List ℕ → Came
own_came true enters next size own = movi_own next own
own_came false enters next size own = riff_own enters next size own

abbrev pub header_read : Bool → Header → Reading (Option Step)
header_read in_movi (header.Whole c) = came_read c
header_read in_movi (header.Named enters next size) =
    taken 4 >>= λ own. came_read (own_came in_movi enters next size own)

abbrev pub header_turn : Bool → Place → Header → List ℕ → Reading (Option Turn)
header_turn in_movi place (header.Whole c) head = came_turn place c head
header_turn in_movi place (header.Named enters next size) head =
    taken 4 >>= λ own. came_turn place (own_came in_movi enters next size own) (head ++ own)

-- ---- where an RIFF may begin

abbrev pub open_came : Place → Came
open_came place =
    if nat_lt 12 place.input then came.Pass 0 (open_at place OpenRiff (place.input - 12) 0)
    else came.Fault fault.Truncated

-- an RIFF of a size after the first one
abbrev pub sized_came : Place → ℕ → Came
sized_came place size =
    if nat_le 4 size
    then (if nat_lt (8 + size) place.input then came.Pass 0 (riff_at place size)
    else came.Fault fault.Truncated)
    else came.Fault fault.NotAvi

-- its size and its form, after its name; behind one without size no size is looked at
abbrev pub riff_came : Place → List ℕ → Came
riff_came place bytes =
    if is_name (drop 4 bytes) (codes "AVIX")
    then (if is_open place.open_in then open_came place
    else if is_known (little_number 4 bytes) then sized_came place (little_number 4 bytes)
    else open_came place)
    else came.Fault fault.Another

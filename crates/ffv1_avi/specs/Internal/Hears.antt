-- The chunks of a file that may be damaged, header by header, as the reader reads them.
use Rattle.std.specs.Prelude.{ℕ, ◌-◌, ◌++◌, ◌==◌, Bool, true, false, if◌then◌else◌}
use Rattle.std.specs.Prelude.{nat_lt, List, [], take, drop, codes, Option, Some, None}
use Rattle.byteorder.specs.Endian.{little_number}
use Rattle.ffv1_reads.specs.Behind.{begins_file}
use Rattle.ffv1_reads.specs.Reads.{Reading, given, taken, ◌>>=◌}
use Rattle.ffv1_reads.specs.declared.fault.FileFault.TheVariants as fault
use Rattle.ffv1_avi.specs.declared.came.Header.{Header}
use Rattle.ffv1_avi.specs.declared.course.Turn.{Turn}
use Rattle.ffv1_avi.specs.declared.place.Place.{Place}
use Rattle.ffv1_avi.specs.Internal.Came.{came_turn, header_turn, movi_header, riff_came}
use Rattle.ffv1_avi.specs.Internal.Came.{riff_header}
use Rattle.ffv1_avi.specs.Opens.{goes_on, named_or_end, or_end, taken_or_end}
use Rattle.ffv1_avi.specs.Places.{is_open}
use Rattle.ffv1_avi.specs.Turns.{fault_turn}
use Rattle.ffv1_avi.specs.Walk.{is_name}

-- a header in movi, or in RIFF, that has so many bytes left
abbrev pub header_of : Bool → Place → ℕ → List ℕ → Header
header_of true place left head =
    movi_header place left (take 4 head) (little_number 4 (drop 4 head))
header_of false place left head =
    riff_header place left (take 4 head) (little_number 4 (drop 4 head))

-- the next chunk there
unfoldable pub sized_turn : Bool → Place → ℕ → Reading (Option Turn)
sized_turn in_movi place left =
    if nat_lt left 8 then given (Some (fault_turn place fault.Truncated []))
    else (taken 8 >>= λ head. header_turn in_movi place (header_of in_movi place left head) head)

-- a chunk in an RIFF or a movi without size, after its name
unfoldable pub named_turn : Place → List ℕ → Reading (Option Turn)
named_turn place name =
    taken 4 >>= λ size. header_turn (goes_on place.open_in name) place
    (header_of (goes_on place.open_in name) place (place.input - 1) (name ++ size)) (name ++ size)

-- an RIFF there, after its name
unfoldable pub further_turn : Place → List ℕ → Reading (Option Turn)
further_turn place name =
    taken 8 >>= λ more. came_turn place (riff_came place more) (name ++ more)

abbrev pub open_named_turn : Place → List ℕ → Reading (Option Turn)
open_named_turn place name =
    if is_name name (codes "RIFF") then further_turn place name else named_turn place name

unfoldable pub open_turn : Place → Reading (Option Turn)
open_turn place = named_or_end place.owed >>= or_end (open_named_turn place)

-- where an RIFF may begin, after the last one: its name, its size and its form
abbrev pub entered_turn : Place → List ℕ → Reading (Option Turn)
entered_turn place name =
    taken_or_end 8 place.owed >>= or_end (λ more.
    came_turn place (riff_came place more) (name ++ more))

abbrev pub begun_named_turn : Place → List ℕ → Reading (Option Turn)
begun_named_turn place name =
    if is_name name (codes "RIFF") then entered_turn place name
    else if begins_file name then given (Some (fault_turn place fault.Another name))
    else if place.owed == 0 then given None
    else given (Some (fault_turn place fault.Truncated name))

unfoldable pub begun_turn : Place → Reading (Option Turn)
begun_turn place = taken_or_end 4 place.owed >>= or_end (begun_named_turn place)

-- the next chunk
unfoldable pub heard_turn : Place → Reading (Option Turn)
heard_turn place =
    if nat_lt 0 place.movi then sized_turn true place place.movi
    else if place.input == 0 then given None
    else if is_open place.open_in then open_turn place
    else if nat_lt 0 place.riff then sized_turn false place place.riff
    else begun_turn place

-- The chunks of a movi, and those of an RIFF or a movi whose size is not known: such an RIFF ends
-- with the input, such a movi with the input, or where an index or an RIFF begins.
use Rattle.std.specs.Prelude.{ℕ, ◌+◌, ◌++◌, ◌-◌, ◌==◌, ◌&&◌, Bool, true, false, if◌then◌else◌}
use Rattle.std.specs.Prelude.{nat_lt, List, [], length, drop, codes, Option, Some, None, Ok}
use Rattle.byteorder.specs.Endian.{little_number}
use Rattle.ffv1_reads.specs.declared.fault.FileFault.TheVariants as fault
use Rattle.ffv1_avi.specs.declared.chunk.Entry.{Entry}
use Rattle.ffv1_avi.specs.declared.place.Extent.TheVariants.{EveryRiff}
use Rattle.ffv1_avi.specs.declared.place.Names.{Names}
use Rattle.ffv1_avi.specs.declared.place.Open.{Open}
use Rattle.ffv1_avi.specs.declared.place.Open.TheVariants.{Sized, OpenRiff, OpenMovi}
use Rattle.ffv1_avi.specs.declared.place.Place.{Place}
use Rattle.ffv1_avi.specs.Names.{is_barred, is_frame, least_bytes, most_bytes, riff_rule, rule_of}
use Rattle.ffv1_avi.specs.Padding.{content, padded}
use Rattle.ffv1_avi.specs.Places.{open_at, open_frame_at}
use Rattle.ffv1_avi.specs.Streams.{skipped}
use Rattle.ffv1_avi.specs.Walk.{Rule, Visit, entry_judged, is_name, is_sizeless, plain}
use Rattle.ffv1_avi.specs.Walk.{sizeless_judged}
use Rattle.ffv1_reads.specs.Reads.{Looked, Reading, given, passed, refused, taken, ◌>>=◌}

-- a frame's size is judged before its bytes are read
abbrev pub frame_judged : ℕ → ℕ → ℕ → ℕ → Reading (Unit {0} × Option (ℕ × ℕ))
frame_judged least most size left =
    if nat_lt most size then refused fault.ChunkTooLong
    else if nat_lt size least then refused fault.EmptyFrame
    else given (tt, Some (size, left))

-- a list of movi, by its own name: the chunks of a list `rec ` are those of movi
abbrev pub list_opened : List ℕ → Reading (Unit {0} × Option (ℕ × ℕ))
list_opened own =
    if is_name own (codes "rec ") then given (tt, None) else refused fault.NotAvi

abbrev pub list_entered : ℕ → Reading (Unit {0} × Option (ℕ × ℕ))
list_entered size = content Looked size >>= list_opened

-- a chunk of movi: one that may not stand there is refused
unfoldable pub visit_movi : Names → Visit (Unit {0}) (ℕ × ℕ)
visit_movi names s e =
    if is_barred names e.name then refused fault.NotAvi
    else if is_frame names e.name
    then frame_judged (least_bytes names) (most_bytes names) e.size e.left
    else if is_name e.name (codes "LIST") then list_entered e.size
    else skipped s e.size

-- what is left of a list of which its own name has been read, if it says nothing here
abbrev pub list_skipped : {S Y : Type 0} → S → ℕ → Reading (S × Option Y)
list_skipped s size = passed (padded size - 4) >>= λ _. given (s, None)

-- a list of RIFF after a movi, by its own name
abbrev pub riff_list : ℕ → ℕ → List ℕ → Reading (Unit {0} × Option (ℕ × ℕ))
riff_list left size own =
    if is_name own (codes "movi") then given (tt, Some (size - 4, left)) else list_skipped tt size

-- a chunk of RIFF after a movi, where no frame may come
unfoldable pub visit_riff : Names → Visit (Unit {0}) (ℕ × ℕ)
visit_riff names s e =
    if is_name e.name (codes "LIST") then (taken 4 >>= riff_list e.left e.size)
    else if is_frame names e.name then refused fault.NotAvi
    else skipped s e.size

-- so many bytes; or the end of the input, if no frame is owed and fewer are left
unfoldable pub taken_or_end : ℕ → ℕ → Reading (Option (List ℕ))
taken_or_end n owes text =
    if nat_lt (length text) n && owes == 0 then Ok (None, [])
    else (taken n >>= λ bytes. given (Some bytes)) text

-- what is made of them; nothing more at the end
abbrev pub or_end : {X : Type 0} → (List ℕ → Reading (Option X)) → Option (List ℕ) →
    Reading (Option X)
or_end next None = given None
or_end next (Some bytes) = next bytes

-- one without size, of which twelve bytes were read
abbrev pub open_riff : Place → Reading (Option Place)
open_riff place =
    if nat_lt 12 place.input then given (Some (open_at place OpenRiff (place.input - 12) 0))
    else refused fault.Truncated

-- a step in an RIFF or a movi whose size is not known: to a frame of so many bytes and the place
-- after it; or without one to the place after a chunk
abbrev pub Step : Type 0
Step = Option ℕ × Place

-- after a chunk of movi: with so many bytes of the input left, but for the last one that is read
abbrev pub open_framed : Place → ℕ → Option (ℕ × ℕ) → Reading (Option Step)
open_framed place left None = given (Some (None, open_at place OpenMovi (left + 1) 0))
open_framed place left (Some p) = given (Some (Some p.0, open_frame_at place (p.1 + 1)))

abbrev pub open_in_movi : Place → Option Entry → Reading (Option Step)
open_in_movi place None = given None
open_in_movi place (Some e) =
    visit_movi place.names tt e >>= λ p. open_framed place e.left p.1

-- a list without size in an RIFF without size, by its own name: movi alone has none
abbrev pub sizeless_opened : Place → ℕ → List ℕ → Reading (Option Step)
sizeless_opened place left own =
    if is_name own (codes "movi") then given (Some (None, open_at place OpenMovi (left - 3) 0))
    else refused fault.NotAvi

abbrev pub sizeless_read : Place → ℕ → Reading (Option Step)
sizeless_read place left = taken 4 >>= sizeless_opened place left

-- after another chunk of that RIFF, or in a movi of so many bytes
abbrev pub open_passed : Place → ℕ → Option (ℕ × ℕ) → Place
open_passed place left None = open_at place OpenRiff (left + 1) 0
open_passed place left (Some p) = open_at place OpenRiff (left + 1) p.0

abbrev pub open_in_riff : Place → Option Entry → Reading (Option Step)
open_in_riff place None = given None
open_in_riff place (Some e) =
    visit_riff place.names tt e >>= λ p. given (Some (None, open_passed place e.left p.1))

abbrev pub sizeless_in_riff : Place → Option Entry → Reading (Option Step)
sizeless_in_riff place None = given None
sizeless_in_riff place (Some e) = sizeless_read place e.left

-- the size of a chunk after its name
unfoldable pub size_read : Reading ℕ
size_read = taken 4 >>= λ size. given (little_number 4 size)

-- it has to fit in the bytes that are read at most, before the last one
abbrev pub open_entry : Rule → Place → List ℕ → ℕ → Reading (Option Entry)
open_entry rule place name size = entry_judged rule (place.input - 1) name size

-- whether a movi without size goes on with a chunk of this name: an index is the RIFF's
abbrev pub goes_on : Open → List ℕ → Bool
goes_on Sized name = false
goes_on OpenRiff name = false
goes_on OpenMovi name = if is_name name (codes "idx1") then false else true

-- a chunk of a movi without size, after its name
abbrev pub movi_chunk : Place → List ℕ → Reading (Option Step)
movi_chunk place name = size_read >>= λ size.
    (open_entry (rule_of place.names) place name size >>= open_in_movi place)

-- and one of such an RIFF
abbrev pub riff_chunk : Place → List ℕ → Reading (Option Step)
riff_chunk place name = size_read >>= λ size.
    (if is_sizeless (riff_rule EveryRiff) name size
    then (sizeless_judged (place.input - 1) name >>= sizeless_in_riff place)
    else (open_entry plain place name size >>= open_in_riff place))

-- an RIFF after one without size, whose own size is not looked at
abbrev pub no_frame : Option Place → Reading (Option Step)
no_frame None = given None
no_frame (Some next) = given (Some (None, next))

abbrev pub open_judged : Place → List ℕ → Reading (Option Step)
open_judged place bytes =
    if is_name (drop 4 bytes) (codes "AVIX") then (open_riff place >>= no_frame)
    else refused fault.Another

abbrev pub further_riff : Place → Reading (Option Step)
further_riff place = taken 8 >>= open_judged place

unfoldable pub open_named : Place → List ℕ → Reading (Option Step)
open_named place name =
    if is_name name (codes "RIFF") then further_riff place
    else if goes_on place.open_in name then movi_chunk place name
    else riff_chunk place name

-- a name; or the end of the input, if no frame is owed and no byte of a name is there
abbrev pub rest_named : Option (List ℕ) → Reading (Option (List ℕ))
rest_named None = given None
rest_named (Some first) = taken 3 >>= λ more. given (Some (first ++ more))

abbrev pub named_or_end : ℕ → Reading (Option (List ℕ))
named_or_end owes = taken_or_end 1 owes >>= rest_named

-- the next chunk of an RIFF or a movi without size; none at the end of the input
unfoldable pub open_found : Place → Reading (Option Step)
open_found place =
    if place.input == 0 then given None
    else (named_or_end place.owed >>= or_end (open_named place))

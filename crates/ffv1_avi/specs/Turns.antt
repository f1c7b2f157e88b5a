-- The chunks of a file that may be damaged, from its first movi on. Each is a turn: it is read as
-- plain reading reads it, but a fault is a value, with the bytes of the chunk that were read.
-- Behind a fault the next chunk of frames is sought, and no size of an RIFF or a movi is trusted.
use Rattle.std.specs.Prelude.{ℕ, ◌+◌, ◌-◌, ◌==◌, ◌||◌, ◌&&◌, ◌++◌, suc, zero, Bool, true, false}
use Rattle.std.specs.Prelude.{if◌then◌else◌, nat_le, nat_lt, List, [], length, take, drop, min}
use Rattle.std.specs.Prelude.{replicate}
use Rattle.std.specs.Prelude.{codes, Option, Some, None, Result, Ok, Err}
use Rattle.byteorder.specs.Endian.{little_number}
use Rattle.ffv1_reads.specs.Reads.{Met, Reading, Short, Stop, given, passed, ◌>>=◌}
use Rattle.ffv1_reads.specs.declared.fault.FileFault.{FileFault}
use Rattle.ffv1_reads.specs.declared.fault.FileFault.TheVariants as fault
use Rattle.ffv1_avi.specs.declared.chunk.Entry.{Entry}
use Rattle.ffv1_avi.specs.declared.course.Pending.{Pending}
use Rattle.ffv1_avi.specs.declared.course.Pending.TheVariants as pending
use Rattle.ffv1_avi.specs.declared.course.Turn.{Turn}
use Rattle.ffv1_avi.specs.declared.course.Turn.TheVariants.{Frame, On, Told}
use Rattle.ffv1_avi.specs.declared.place.Names.{Names}
use Rattle.ffv1_avi.specs.declared.place.Open.{Open}
use Rattle.ffv1_avi.specs.declared.place.Open.TheVariants.{Sized, OpenRiff, OpenMovi}
use Rattle.ffv1_avi.specs.declared.place.Place.{Place}
use Rattle.ffv1_avi.specs.Files.{riff_begun}
use Rattle.ffv1_avi.specs.Names.{is_frame, is_index, most_bytes, rule_of}
use Rattle.ffv1_avi.specs.Offsets.{movi_left, riff_left}
use Rattle.ffv1_avi.specs.Opens.{Step, no_frame, open_found, visit_movi, visit_riff}
use Rattle.ffv1_avi.specs.Padding.{padded}
use Rattle.ffv1_avi.specs.Places.{amount, ended, frame_at, is_open, most_input, movi_at}
use Rattle.ffv1_avi.specs.Walk.{entry_in, entry_read, is_name}

-- ---- a chunk, as plain reading reads it

-- after a chunk of movi: a frame comes, or none
abbrev pub movi_step : Place → ℕ → Option (ℕ × ℕ) → Step
movi_step place left None = (None, movi_left place left)
movi_step place left (Some p) = (Some p.0, frame_at place p.1)

-- after a chunk of RIFF: a movi is entered, or none
abbrev pub riff_place : Place → ℕ → Option (ℕ × ℕ) → Place
riff_place place left None = riff_left place left
riff_place place left (Some p) = movi_at place p

abbrev pub riff_step : Place → Option Entry → Reading (Option Step)
riff_step place (Some e) =
    visit_riff place.names tt e >>= λ p. given (Some (None, riff_place place e.left p.1))
riff_step place None = riff_begun place >>= no_frame

abbrev pub beyond_step : Open → Place → Reading (Option Step)
beyond_step Sized place = entry_read place.riff >>= riff_step place
beyond_step OpenRiff place = open_found place
beyond_step OpenMovi place = open_found place

abbrev pub chunk_step : Place → Option Entry → Reading (Option Step)
chunk_step place (Some e) =
    visit_movi place.names tt e >>= λ p. given (Some (movi_step place e.left p.1))
chunk_step place None =
    if place.input == 0 then given None else beyond_step place.open_in place

-- the next chunk, up to its bytes if it is a frame; none at the end
unfoldable pub step_read : Place → Reading (Option Step)
step_read place = entry_in (rule_of place.names) place.movi >>= chunk_step place

-- ---- a fault as a value

-- what a reading gives, or the fault that the bytes have, with those of them that were read
abbrev pub heard_in : {X : Type 0} → List ℕ → Result (X × List ℕ) Stop →
    Result (Result X (FileFault × List ℕ) × List ℕ) Stop
heard_in text (Ok p) = Ok (Ok p.0, p.1)
heard_in text (Err (Met f rest)) = Ok (Err (f, take (length text - length rest) text), rest)
heard_in text (Err (Short w)) = Err (Short w)

abbrev pub heard : {X : Type 0} → Reading X → Reading (Result X (FileFault × List ℕ))
heard reading = λ text. heard_in text (reading text)

-- these bytes begin with the header of a chunk of frames
abbrev pub begins_frame : Names → List ℕ → Bool
begins_frame names bytes =
    if nat_lt (length bytes) 8 then false else is_frame names (take 4 bytes)

-- how many of the bytes that were read of a chunk at fault are not looked at again: of a frame the
-- first one; and of more than 8 all but the last 8, since `LIST` and `RIFF` begin no name of a
-- frame
abbrev pub passed_of : Names → List ℕ → ℕ
passed_of names bytes =
    if begins_frame names bytes then 1 + (length bytes - 9) else length bytes - 8

-- at most 8 bytes, with zeros before them, with which no name begins
abbrev pub window_of : List ℕ → List ℕ
window_of bytes = take (8 - length bytes) (replicate 8 0) ++ bytes

-- in these bytes, and in those after them, the next chunk of frames is sought
abbrev pub seeks_in : List ℕ → Pending
seeks_in bytes = pending.Seeking (window_of bytes)

-- in a movi whose size is not known, where no frame is owed
abbrev pub lost_at : Place → Place
lost_at place =
    record {
      input = most_input;
      riff = 0;
      movi = 0;
      names = place.names;
      owed = 0;
      open_in = OpenMovi;
    }

abbrev pub lost : Place → FileFault → List ℕ → Turn
lost place f bytes =
    Told f (length bytes) (seeks_in (drop (passed_of place.names bytes) bytes)) (lost_at place)

-- after so many bytes of an RIFF, where no frame is owed
abbrev pub passed_at : Place → ℕ → Place
passed_at place count =
    record {
      input = place.input - (if is_open place.open_in then count else 0);
      riff = place.riff - count;
      movi = 0;
      names = place.names;
      owed = 0;
      open_in = place.open_in;
    }

-- a frame in RIFF is told, and passed by its size
abbrev pub stray : Place → ℕ → Turn
stray place size =
    Told fault.NotAvi 8 (pending.Passing (padded size) false) (passed_at place (8 + padded size))

-- a fault of a chunk of which these bytes were read: another file ends the frames
abbrev pub fault_turn : Place → FileFault → List ℕ → Turn
fault_turn place fault.Another bytes = Told fault.Another (length bytes) pending.Nothing ended
fault_turn place fault.NotAvi bytes =
    if begins_frame place.names bytes then stray place (little_number 4 (drop 4 bytes))
    else lost place fault.NotAvi bytes
fault_turn place f bytes = lost place f bytes

-- how many bytes lead from a place to one without a frame: of a list movi that is entered its
-- header and its own name
abbrev pub count_to : Place → Place → ℕ
count_to from to =
    if from.movi == 0 && nat_lt 0 to.movi then 12 else min (amount from - amount to) most_input

abbrev pub step_turn : Place → Option Step → Option Turn
step_turn place None = None
step_turn place (Some (None, next)) = Some (On (count_to place next) pending.Nothing next)
step_turn place (Some (Some size, next)) = Some (Frame 8 size next)

abbrev pub chunk_of : Place → Result (Option Step) (FileFault × List ℕ) → Option Turn
chunk_of place (Ok step) = step_turn place step
chunk_of place (Err p) = Some (fault_turn place p.0 p.1)

-- the next chunk
unfoldable pub chunk_turn : Place → Reading (Option Turn)
chunk_turn place = heard (step_read place) >>= λ r. given (chunk_of place r)

-- ---- the next chunk of frames

-- a header of frames that have bytes, and not too many
abbrev pub begins_sized : Names → List ℕ → Bool
begins_sized names head =
    is_frame names (take 4 head) && (nat_le 1 (little_number 4 (drop 4 head))
    && nat_le (little_number 4 (drop 4 head)) (most_bytes names))

-- the header of an index: its bytes name frames
abbrev pub begins_index : List ℕ → Bool
begins_index head = is_name (take 4 head) (codes "idx1") || is_index (take 4 head)

-- how many bytes come before a header that was found, whether it is one of frames, and the size
-- that it says
abbrev pub Found : Type 0
Found = ℕ × Bool × ℕ

abbrev pub found_in : Names → ℕ → List ℕ → Found
found_in names count head = (count, begins_sized names head, little_number 4 (drop 4 head))

-- the first header of frames, or of an index, that begins at one of the next so many bytes, after
-- so many that were passed; none if the bytes end before
unfoldable pub sought_from : ℕ → Names → ℕ → Reading (Option Found)
sought_from zero names count text = Ok (None, drop 8 text)
sought_from (suc most) names count text =
    if nat_lt (length text) 8 then Ok (None, [])
    else if begins_sized names (take 8 text) || begins_index (take 8 text)
    then Ok (Some (found_in names count (take 8 text)), drop 8 text)
    else sought_from most names (count + 1) (drop 1 text)

-- no file has so many bytes
abbrev pub sought : Names → Reading (Option Found)
sought names = sought_from most_input names 0

-- a frame comes next; or an index is passed, and the search goes on
abbrev pub found_turn : Place → Option Found → Option Turn
found_turn place None = None
found_turn place (Some (count, true, size)) = Some (Frame count size place)
found_turn place (Some (count, false, size)) =
    Some (On count (pending.Passing (padded size) true) place)

unfoldable pub seek_turn : List ℕ → Place → Reading (Option Turn)
seek_turn window place text =
    (sought place.names >>= λ found. given (found_turn place found)) (window ++ text)

-- ---- a turn, by what is pending

abbrev pub seeks_on : Bool → Pending
seeks_on true = seeks_in []
seeks_on false = pending.Nothing

abbrev pub passed_turn : ℕ → Bool → Place → Reading (Option Turn)
passed_turn count seeks place =
    passed count >>= λ _. given (Some (On count (seeks_on seeks) place))

unfoldable pub turn_read : Pending → Place → Reading (Option Turn)
turn_read pending.Nothing place = chunk_turn place
turn_read (pending.Passing count seeks) place = passed_turn count seeks place
turn_read (pending.Seeking window) place = seek_turn window place

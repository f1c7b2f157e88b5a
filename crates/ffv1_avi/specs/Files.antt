-- Reading a file: its head up to the first movi, and the frames, one after the other.
use Rattle.std.specs.Prelude.{ℕ, suc, zero, ◌+◌, ◌-◌, ◌%◌, ◌==◌, ◌&&◌, Bool}
use Rattle.std.specs.Prelude.{min, if◌then◌else◌, nat_lt, nat_le, List, [], ◌∷◌, take, drop}
use Rattle.std.specs.Prelude.{codes, Option, Some, None, false, true, ◌^◌}
use Rattle.byteorder.specs.Endian.{little_number}
use Rattle.ffv1_reads.specs.declared.fault.FileFault.TheVariants as fault
use Rattle.ffv1_avi.specs.declared.place.Extent.{Extent}
use Rattle.ffv1_avi.specs.declared.place.Extent.TheVariants.{FirstMovi, EveryRiff}
use Rattle.ffv1_avi.specs.declared.place.Names.{Names}
use Rattle.ffv1_avi.specs.declared.place.Names.TheVariants.{Closed}
use Rattle.ffv1_avi.specs.declared.place.Open.{Open}
use Rattle.ffv1_avi.specs.declared.place.Open.TheVariants.{Sized, OpenRiff, OpenMovi}
use Rattle.ffv1_avi.specs.declared.place.Place.{Place}
use Rattle.ffv1_reads.specs.Behind.{begins_file}
use Rattle.ffv1_reads.specs.Head.{Head}
use Rattle.ffv1_avi.specs.Places.{amount, extent_of, first_open, first_place, frame_at, movi_at}
use Rattle.ffv1_avi.specs.Places.{riff_at, unsized}
use Rattle.ffv1_reads.specs.Reads.{Kept, Reading, given, refused, taken, passed}
use Rattle.ffv1_avi.specs.Names.{riff_rule, rule_of}
use Rattle.ffv1_avi.specs.Opens.{Step, list_skipped, open_found, open_riff, or_end, taken_or_end}
use Rattle.ffv1_avi.specs.Opens.{visit_movi, visit_riff}
use Rattle.ffv1_avi.specs.Padding.{padded, content}
use Rattle.ffv1_reads.specs.Reads.{◌>>=◌}
use Rattle.ffv1_avi.specs.Walk.{Visit, is_known, is_name, walk, walk_in}
use Rattle.ffv1_avi.specs.Streams.{begins_video, skipped, stream_read}

-- what is known before the first movi: how many streams came that do not count, the head of the one
-- that does, how many frames the file has, how many streams came in all, up to 100, and how many
-- after the one that counts begin as FFV1 video
pub record Headers : Type 0 where
  pub passed : ℕ
  pub head : Option Head
  pub frames : Option ℕ
  pub streams : ℕ
  pub others : ℕ

abbrev pub no_headers : Headers
no_headers = record { passed = 0; head = None; frames = None; streams = 0; others = 0 }

-- a stream that was read, which counts if it is FFV1 video
abbrev pub stream_known : Headers → Option Head → Headers
stream_known k None =
    record {
      passed = k.passed + 1;
      head = None;
      frames = k.frames;
      streams = k.streams;
      others = k.others;
    }
stream_known k (Some head) =
    record {
      passed = k.passed;
      head = Some head;
      frames = k.frames;
      streams = k.streams;
      others = k.others;
    }

-- how many streams there are with one more, if two digits name it
abbrev pub one_more : Extent → ℕ → ℕ
one_more FirstMovi streams = streams
one_more EveryRiff streams = min (streams + 1) 100

-- the same, and a stream came; the streams are counted if every RIFF is read
abbrev pub stream_came : Extent → Headers → Headers
stream_came extent k =
    record {
      passed = k.passed;
      head = k.head;
      frames = k.frames;
      streams = one_more extent k.streams;
      others = k.others;
    }

-- a further stream that begins as FFV1 video is counted; in 8 bytes
abbrev pub with_other : Headers → Bool → Headers
with_other k video =
    record {
      passed = k.passed;
      head = k.head;
      frames = k.frames;
      streams = k.streams;
      others = if video then min (k.others + 1) (2 ^ 64 - 1) else k.others;
    }

-- a further stream is passed; if it has so many bytes, the first 100 after its own name are looked
-- at
unfoldable pub other_read : ℕ → Reading Bool
other_read size =
    if nat_lt size 104 then (passed (padded size - 4) >>= λ _. given false)
    else (taken 100 >>= λ bytes.
    (passed (padded size - 104) >>= λ _. given (begins_video bytes)))

-- it is looked at if every RIFF is read
abbrev pub other_visited : Extent → Headers → ℕ → Reading (Headers × Option ⊥)
other_visited FirstMovi k size = list_skipped k size
other_visited EveryRiff k size = other_read size >>= λ video. given (with_other k video, None)

-- a stream is read while none counts, and its number has two digits
abbrev pub stream_visited : Extent → Headers → ℕ → Option Head → Reading (Headers × Option ⊥)
stream_visited extent k size None =
    if nat_lt k.passed 100
    then (stream_read extent (size - 4) >>= λ found.
    (passed (size % 2) >>= λ _. given (stream_known k found, None)))
    else list_skipped k size
stream_visited extent k size (Some head) = other_visited extent k size

-- the first number of dmlh, of the first one that has it
abbrev pub total_read : ℕ → Option ℕ → Reading (Option ℕ × Option ⊥)
total_read size None =
    if nat_lt size 4 then skipped None size
    else (taken 4 >>= λ bytes.
    (passed (padded size - 4) >>= λ _. given (Some (little_number 4 bytes), None)))
total_read size (Some frames) = skipped (Some frames) size

-- a chunk of the list odml
unfoldable pub visit_extended : Visit (Option ℕ) ⊥
visit_extended frames e =
    if is_name e.name (codes "dmlh") then total_read e.size frames else skipped frames e.size

-- the list odml, of which its own name has been read, with its padding
unfoldable pub extended_read : Option ℕ → ℕ → Reading (Option ℕ)
extended_read frames size =
    walk visit_extended (size - 4) frames >>= λ p. (passed (size % 2) >>= λ _. given p.0)

-- it is looked at if every RIFF is read
abbrev pub extended_visited : Extent → Headers → ℕ → Reading (Headers × Option ⊥)
extended_visited FirstMovi k size = list_skipped k size
extended_visited EveryRiff k size =
    extended_read k.frames size >>= λ frames.
    given (
      record {
        passed = k.passed;
        head = k.head;
        frames = frames;
        streams = k.streams;
        others = k.others;
      },
      None,
    )

-- a list of hdrl, by its own name
abbrev pub header_named : Extent → Headers → ℕ → List ℕ → Reading (Headers × Option ⊥)
header_named extent k size own =
    if is_name own (codes "strl") then stream_visited extent (stream_came extent k) size k.head
    else if is_name own (codes "odml") then extended_visited extent k size
    else list_skipped k size

abbrev pub header_list : Extent → Headers → ℕ → Reading (Headers × Option ⊥)
header_list extent k size = taken 4 >>= header_named extent k size

-- a chunk of the list hdrl
unfoldable pub visit_header : Extent → Visit Headers ⊥
visit_header extent k e =
    if is_name e.name (codes "LIST") then header_list extent k e.size
    else skipped k e.size

-- the list hdrl, of which its own name has been read, with its padding
unfoldable pub header_read : Extent → Headers → ℕ → Reading Headers
header_read extent k size =
    walk (visit_header extent) (size - 4) k >>= λ p. (passed (size % 2) >>= λ _. given p.0)

-- no total owes no frame
abbrev pub owed : Option ℕ → ℕ
owed None = 0
owed (Some frames) = frames

-- the first movi wants a head before it
abbrev pub movi_reached : Extent → Headers → ℕ → ℕ → Option Head →
    Reading (Headers × Option (Head × Place))
movi_reached extent k left size None = refused fault.NoFfv1
movi_reached extent k left size (Some head) =
    given (
      k,
      Some (
        head,
        first_place extent left (size - 4) (Closed k.passed k.streams) (owed k.frames),
      ),
    )

-- the same, if its size is not known
abbrev pub open_movi_reached : Headers → Option Head → Reading (Headers × Option (Head × Place))
open_movi_reached k None = refused fault.NoFfv1
open_movi_reached k (Some head) =
    given (k, Some (head, first_open (Closed k.passed k.streams) (owed k.frames)))

-- a list of RIFF without size, by its own name: movi alone has none
abbrev pub sizeless_visited : Headers → List ℕ → Reading (Headers × Option (Head × Place))
sizeless_visited k own =
    if is_name own (codes "movi") then open_movi_reached k k.head else refused fault.NotAvi

-- another one
abbrev pub list_named : Extent → Headers → ℕ → ℕ → List ℕ →
    Reading (Headers × Option (Head × Place))
list_named extent k left size own =
    if is_name own (codes "hdrl") then (header_read extent k size >>= λ found. given (found, None))
    else if is_name own (codes "movi") then movi_reached extent k left size k.head
    else list_skipped k size

-- a list of RIFF, by its own name
abbrev pub list_visited : Extent → Headers → ℕ → ℕ → List ℕ →
    Reading (Headers × Option (Head × Place))
list_visited extent k left size own =
    if size == 0 then sizeless_visited k own else list_named extent k left size own

-- a chunk of RIFF, before its first movi
unfoldable pub visit_top : Extent → Visit Headers (Head × Place)
visit_top extent k e =
    if is_name e.name (codes "LIST") then (taken 4 >>= list_visited extent k e.left e.size)
    else skipped k e.size

-- the first RIFF, of this size, has room for its form; if every RIFF is read, its size may not be
-- known
abbrev pub has_form : Extent → ℕ → Bool
has_form FirstMovi size = nat_le 4 size
has_form EveryRiff size = if size == 0 then true else nat_le 4 size

-- how many bytes it has after that: as many as four bytes can say, if its size is not known
abbrev pub room_in : Extent → ℕ → ℕ
room_in FirstMovi size = size - 4
room_in EveryRiff size = if size == 0 then 4294967291 else size - 4

-- where the first movi stands in it: an RIFF without size ends with the input
abbrev pub place_in : Extent → ℕ → Place → Place
place_in FirstMovi size place = place
place_in EveryRiff size place = if is_known size then place else unsized place.open_in place

-- the head, and where the first movi stands, in an RIFF of this size
abbrev pub opened : Extent → ℕ → Option (Head × Place) → Reading (Head × Place)
opened extent size None = refused fault.NotAvi
opened extent size (Some p) = given (p.0, place_in extent size p.1)

-- the chunks of an RIFF of this size, up to the first movi
unfoldable pub top_read : Extent → ℕ → Reading (Head × Place)
top_read extent size =
    walk_in (riff_rule extent) (visit_top extent) (room_in extent size) no_headers
    >>= λ p. opened extent size p.1

-- the first twelve bytes of a file
abbrev pub begins : Extent → List ℕ → Bool
begins extent bytes =
    (is_name (take 4 bytes) (codes "RIFF") && is_name (drop 8 bytes) (codes "AVI "))
    && has_form extent (little_number 4 (drop 4 bytes))

-- a file up to the first movi: the head, and where that stands
unfoldable pub open_read : Extent → Reading (Head × Place)
open_read extent = taken 12 >>= λ bytes.
    if begins extent bytes then top_read extent (little_number 4 (drop 4 bytes))
    else refused fault.NotAvi

-- how many streams after the one that counts begin as FFV1 video, of a file that is read up to its
-- first movi
abbrev pub others_of : ℕ → Option (Head × Place) → Reading ℕ
others_of others None = refused fault.NotAvi
others_of others (Some p) = given others

unfoldable pub top_others : Extent → ℕ → Reading ℕ
top_others extent size =
    walk_in (riff_rule extent) (visit_top extent) (room_in extent size) no_headers
    >>= λ p. others_of p.0.others p.1

unfoldable pub others_read : Extent → Reading ℕ
others_read extent = taken 12 >>= λ bytes.
    if begins extent bytes then top_others extent (little_number 4 (drop 4 bytes))
    else refused fault.NotAvi

-- the size of the next frame, and what movi has left after it, if it has so many bytes left;
-- none at its end
unfoldable pub movi_found : Names → ℕ → Reading (Option (ℕ × ℕ))
movi_found names left =
    walk_in (rule_of names) (visit_movi names) left tt >>= λ p. given p.1

-- the bytes of the next movi, and what RIFF has left after it, if it has so many bytes left;
-- none at its end
unfoldable pub movi_sought : Names → ℕ → Reading (Option (ℕ × ℕ))
movi_sought names left = walk (visit_riff names) left tt >>= λ p. given p.1

-- an RIFF after the first, of this size
abbrev pub riff_of_size : Place → ℕ → Reading (Option Place)
riff_of_size place size =
    if nat_le 4 size
    then (if nat_lt (8 + size) place.input
    then given (Some (riff_at place size)) else refused fault.Truncated)
    else refused fault.NotAvi

-- the size and the form of an RIFF after the first; one of another form begins another file
abbrev pub riff_judged : Place → List ℕ → Reading (Option Place)
riff_judged place bytes =
    if is_name (drop 4 bytes) (codes "AVIX")
    then (if is_known (little_number 4 bytes) then riff_of_size place (little_number 4 bytes)
    else open_riff place)
    else refused fault.Another

abbrev pub riff_entered : Place → Reading (Option Place)
riff_entered place = taken_or_end 8 place.owed >>= or_end (riff_judged place)

-- after four bytes: an RIFF, or another file; with other bytes the frames end, if none is owed
abbrev pub riff_named : Place → List ℕ → Reading (Option Place)
riff_named place name =
    if is_name name (codes "RIFF") then riff_entered place
    else if begins_file name then refused fault.Another
    else if place.owed == 0 then given None
    else refused fault.Truncated

-- the next RIFF; none at the end of the input, or of the frames
unfoldable pub riff_begun : Place → Reading (Option Place)
riff_begun place = taken_or_end 4 place.owed >>= or_end (riff_named place)

-- the next movi of RIFF, or else the next RIFF
abbrev pub movi_or_riff : Place → Option (ℕ × ℕ) → Reading (Option Place)
movi_or_riff place None = riff_begun place
movi_or_riff place (Some p) = given (Some (movi_at place p))

-- where frames are looked for next after the end of a movi; nowhere at the end
abbrev pub moved_by : Extent → Place → Reading (Option Place)
moved_by FirstMovi place = given None
moved_by EveryRiff place = movi_sought place.names place.riff >>= movi_or_riff place

unfoldable pub moved : Place → Reading (Option Place)
moved place = moved_by (extent_of place) place

-- the frame that was found in movi; or else the first one after it
abbrev pub sought_on : (Place → Reading (Option (ℕ × Place))) → Option Place →
    Reading (Option (ℕ × Place))
sought_on on None = given None
sought_on on (Some place) = on place

abbrev pub stepped : (Place → Reading (Option (ℕ × Place))) → Option Step →
    Reading (Option (ℕ × Place))
stepped on None = given None
stepped on (Some (None, next)) = on next
stepped on (Some (Some size, next)) = given (Some (size, next))

-- what comes after a movi, by what has no size
abbrev pub beyond : Open → (Place → Reading (Option (ℕ × Place))) → Place →
    Reading (Option (ℕ × Place))
beyond Sized on place = moved place >>= sought_on on
beyond OpenRiff on place = open_found place >>= stepped on
beyond OpenMovi on place = open_found place >>= stepped on

abbrev pub found_or_on : (Place → Reading (Option (ℕ × Place))) → Place → Option (ℕ × ℕ) →
    Reading (Option (ℕ × Place))
found_or_on on place None = beyond place.open_in on place
found_or_on on place (Some p) = given (Some (p.0, frame_at place p.1))

-- the next frame, in at most so many lists movi and RIFF
unfoldable pub frame_found_up_to : ℕ → Place → Reading (Option (ℕ × Place))
frame_found_up_to zero place = given None
frame_found_up_to (suc most) place =
    movi_found place.names place.movi >>= found_or_on (frame_found_up_to most) place

-- the next frame's size, and the place after its header; none at the end
unfoldable pub frame_found : Place → Reading (Option (ℕ × Place))
frame_found place = frame_found_up_to (amount place) place

-- a frame that was found
abbrev pub found_read : Option (ℕ × Place) → Reading (Option (List ℕ × Place))
found_read None = given None
found_read (Some p) = content Kept p.0 >>= λ bytes. given (Some (bytes, p.1))

-- the next frame, and the place after it
abbrev pub frame_read : Place → Reading (Option (List ℕ × Place))
frame_read place = frame_found place >>= found_read

-- the frames, one after the other
abbrev pub more_frames : (Place → Reading (List (List ℕ))) → Option (List ℕ × Place) →
    Reading (List (List ℕ))
more_frames on None = given []
more_frames on (Some p) = on p.1 >>= λ frames. given (p.0 ∷ frames)

unfoldable pub frames_up_to : ℕ → Place → Reading (List (List ℕ))
frames_up_to zero place = given []
frames_up_to (suc most) place = frame_read place >>= more_frames (frames_up_to most)

-- all frames from a position on
abbrev pub frames_read : Place → Reading (List (List ℕ))
frames_read place = frames_up_to (amount place) place

-- a whole file: its head and its frames
abbrev pub file_read : Extent → Reading (Head × List (List ℕ))
file_read extent =
    open_read extent >>= λ p. (frames_read p.1 >>= λ frames. given (p.0, frames))

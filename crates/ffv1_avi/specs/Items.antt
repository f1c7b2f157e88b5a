-- What a file that may be damaged gives, one by one: its frames, and its faults, each with the
-- number of bytes before the chunk at fault. All bytes have items.
use Rattle.std.specs.Prelude.{ℕ, ◌^◌, ◌-◌, ◌||◌, ◌&&◌, not, suc, zero, Bool, true, false}
use Rattle.std.specs.Prelude.{if◌then◌else◌, nat_lt, List, []}
use Rattle.std.specs.Prelude.{length, take, drop, Option, Some, None, Result, Ok, Err}
use Rattle.ffv1_reads.specs.Offsets.{offset_after}
use Rattle.ffv1_reads.specs.Items.{Given, GivesFrame, Tells}
use Rattle.ffv1_reads.specs.Reads.{Reading, Stop}
use Rattle.ffv1_reads.specs.declared.fault.FileFault.TheVariants as fault
use Rattle.ffv1_avi.specs.Padding.{padded}
use Rattle.ffv1_avi.specs.Places.{ended, is_open}
use Rattle.ffv1_avi.specs.Readers.{Standing}
use Rattle.ffv1_avi.specs.Turns.{lost_at, turn_read}
use Rattle.ffv1_avi.specs.declared.course.Course.{Course}
use Rattle.ffv1_avi.specs.declared.course.Pending.{Pending}
use Rattle.ffv1_avi.specs.declared.course.Pending.TheVariants as pending
use Rattle.ffv1_avi.specs.declared.course.Turn.{Turn}
use Rattle.ffv1_avi.specs.declared.course.Turn.TheVariants.{Frame, On, Told}
use Rattle.ffv1_reads.specs.declared.item.Item.{Item}
use Rattle.ffv1_reads.specs.declared.item.Item.TheVariants as item
use Rattle.ffv1_avi.specs.declared.place.Place.{Place}

-- the number of bytes before the chunk that comes next, or that what comes next is of
abbrev pub begun_by : Course → Pending → ℕ
begun_by c pending.Nothing = c.at
begun_by c (pending.Passing count seeks) = c.begun
begun_by c (pending.Seeking window) = c.begun

-- before one of which the header was read, after so many bytes
abbrev pub headed_by : Course → ℕ → ℕ
headed_by c count = offset_after c.at count - 8

-- once a fault was told after which frames are sought, no size of a movi is trusted
abbrev pub is_seeking : Pending → Bool
is_seeking pending.Nothing = false
is_seeking (pending.Passing count seeks) = false
is_seeking (pending.Seeking window) = true

abbrev pub trusted : Bool → Place → Place
trusted is_lost place = if is_lost && nat_lt 0 place.movi then lost_at place else place

-- whether the last RIFF or movi has no size, if the sizes are still trusted; else whether it had
-- none before
abbrev pub left_open : Course → Bool
left_open c = c.open_ended || (not c.lost && is_open c.place.open_in)

-- so many bytes further
abbrev pub moved : Course → ℕ → Pending → Place → Course
moved c count next place = record {
  place = trusted c.lost place;
  pending = next;
  lost = c.lost || is_seeking next;
  begun = begun_by c c.pending;
  at = offset_after c.at count;
  open_ended = c.open_ended;
  after = c.after;
}

-- after a fault that is told
abbrev pub told_on : Course → ℕ → Pending → Place → Course
told_on c count next place = record (moved c count next place) { open_ended = left_open c }

-- from where a reader stands
abbrev pub course_at : Standing → Course
course_at r = record {
  place = r.place;
  pending = pending.Nothing;
  lost = false;
  begun = r.offset;
  at = r.offset;
  open_ended = false;
  after = None;
}

-- where nothing more comes
abbrev pub ended_course : Course
ended_course = record {
  place = ended;
  pending = pending.Nothing;
  lost = false;
  begun = 0;
  at = 0;
  open_ended = false;
  after = None;
}

-- after the end of the input, or of the frames
abbrev pub over : Course → Course
over c = record {
  place = ended;
  pending = pending.Nothing;
  lost = false;
  begun = begun_by c c.pending;
  at = c.at;
  open_ended = left_open c;
  after = c.after;
}

-- where the input has ended in a turn: while frames are sought nothing is told
abbrev pub end_given : Course → Pending → Option (Given × Course)
end_given c pending.Nothing = Some (Tells fault.Truncated (begun_by c c.pending), over c)
end_given c (pending.Passing count true) = None
end_given c (pending.Passing count false) =
    Some (Tells fault.Truncated (begun_by c c.pending), over c)
end_given c (pending.Seeking window) = None

-- after a frame of so many bytes, with its padding, of which the header was read after so many
abbrev pub framed : Course → ℕ → ℕ → Place → Course
framed c count size place = record {
  place = place;
  pending = pending.Nothing;
  lost = c.lost;
  begun = headed_by c count;
  at = offset_after c.at (offset_after count (padded size));
  open_ended = c.open_ended;
  after = c.after;
}

-- it comes next, if it is there
abbrev pub frame_given : Course → ℕ → ℕ → Place → Reading (Option (Given × Course))
frame_given c count size place text =
    if nat_lt (length text) (padded size)
    then Ok (Some (Tells fault.Truncated (headed_by c count), over c), [])
    else Ok (
      Some (GivesFrame (take size text), framed c count size place),
      drop (padded size) text,
    )

abbrev pub turn_given : (Course → Reading (Option (Given × Course))) → Course → Turn →
    Reading (Option (Given × Course))
turn_given on c (Frame count size place) text = frame_given c count size place text
turn_given on c (On count next place) text = on (moved c count next place) text
turn_given on c (Told f count next place) text =
    Ok (Some (Tells f (begun_by c c.pending), told_on c count next place), text)

abbrev pub item_after : (Course → Reading (Option (Given × Course))) → Course →
    Result (Option Turn × List ℕ) Stop → Result (Option (Given × Course) × List ℕ) Stop
item_after on c (Err why) = Ok (end_given c c.pending, [])
item_after on c (Ok (None, rest)) = Ok (None, rest)
item_after on c (Ok (Some turn, rest)) = turn_given on c turn rest

-- the next item, in at most so many turns
unfoldable pub item_up_to : ℕ → Course → Reading (Option (Given × Course))
item_up_to zero c text = Ok (None, text)
item_up_to (suc most) c text = item_after (item_up_to most) c (turn_read c.pending c.place text)

-- the next item, and where reading goes on; none at the end. Each turn takes a byte or tells a
-- fault, and no file has so many bytes
unfoldable pub item_read : Course → Reading (Option (Given × Course))
item_read c = item_up_to (2 ^ 64 - 1) c

-- what is answered where the input has ended in a turn
abbrev pub end_item : Course → Pending → Item
end_item c pending.Nothing = item.Told fault.Truncated (begun_by c c.pending)
end_item c (pending.Passing count true) = item.End
end_item c (pending.Passing count false) = item.Told fault.Truncated (begun_by c c.pending)
end_item c (pending.Seeking window) = item.End

-- ---- where nothing more comes

-- whether bytes stand where an RIFF may begin
abbrev pub stands : Pending → Place → List ℕ → Bool
stands pending.Nothing place text = nat_lt 0 place.input && nat_lt 0 (length text)
stands (pending.Passing count seeks) place text = false
stands (pending.Seeking window) place text = false

-- where other bytes stand after the end, if that is here
abbrev pub over_at : Course → Bool → Course
over_at c true = record (over c) { after = Some c.at }
over_at c false = over c

abbrev pub ended_after : (Course → List ℕ → Course) → Course → Bool →
    Result (Option Turn × List ℕ) Stop → Course
ended_after on c some (Err why) = over c
ended_after on c some (Ok (None, rest)) = over_at c some
ended_after on c some (Ok (Some (Frame count size place), rest)) = over c
ended_after on c some (Ok (Some (On count next place), rest)) = on (moved c count next place) rest
ended_after on c some (Ok (Some (Told f count next place), rest)) = over c

-- the course where there is no further item, in at most so many turns
unfoldable pub ended_up_to : ℕ → Course → List ℕ → Course
ended_up_to zero c text = over c
ended_up_to (suc most) c text =
    ended_after (ended_up_to most) c (stands c.pending c.place text)
    (turn_read c.pending c.place text)

unfoldable pub ended_by : Course → List ℕ → Course
ended_by c text = ended_up_to (2 ^ 64 - 1) c text

-- What a file that may be damaged gives, one by one: its frames, and its faults, each with the
-- number of bytes before the element at fault. All bytes have items.
use Rattle.std.specs.Prelude.{ℕ, ◌+◌, ◌-◌, ◌^◌, suc, zero, if◌then◌else◌}
use Rattle.std.specs.Prelude.{nat_lt, List, []}
use Rattle.std.specs.Prelude.{length, take, drop, Option, Some, None, Result, Ok, Err}
use Rattle.ffv1_reads.specs.Items.{Given, GivesFrame, Tells}
use Rattle.ffv1_reads.specs.Offsets.{offset_after}
use Rattle.ffv1_reads.specs.Reads.{Reading, Stop}
use Rattle.ffv1_reads.specs.declared.fault.FileFault.TheVariants as fault
use Rattle.ffv1_reads.specs.declared.item.Item.{Item}
use Rattle.ffv1_reads.specs.declared.item.Item.TheVariants as item
use Rattle.ffv1_ebml.specs.Sums.{summed}
use Rattle.ffv1_matroska.specs.Places.{amount, ended, is_sound, summed_at}
use Rattle.ffv1_matroska.specs.Readers.{Standing}
use Rattle.ffv1_matroska.specs.Turns.{open_at, turn_read}
use Rattle.ffv1_matroska.specs.declared.course.Course.{Course}
use Rattle.ffv1_matroska.specs.declared.course.Pending.{Pending}
use Rattle.ffv1_matroska.specs.declared.course.Pending.TheVariants as pending
use Rattle.ffv1_matroska.specs.declared.course.Turn.{Turn}
use Rattle.ffv1_matroska.specs.declared.course.Turn.TheVariants.{Frame, On, Told}
use Rattle.ffv1_matroska.specs.declared.place.Place.{Place}
use Rattle.ffv1_matroska.specs.declared.track.TrackNumbers.{TrackNumbers}

-- the number of bytes before the element that comes next, or that what comes next is of
abbrev pub begun_by : Course → Place → Pending → ℕ
begun_by c place pending.Nothing = if is_sound place then c.at else c.begun
begun_by c place p = c.begun

-- a number of bytes that no turn from here passes
abbrev pub weight : Place → Pending → ℕ
weight place (pending.Passing count) = amount place + count
weight place (pending.Headed ident size) = amount (open_at 0 place)
weight place p = amount place

-- the number of bytes that are left where a turn has come
abbrev pub left_by : Place → Pending → ℕ
left_by place (pending.Passing count) = amount place + count
left_by place p = amount place

-- after so many bytes at most, of which so many are left
abbrev pub moved_to : Course → ℕ → Pending → Place → Course
moved_to c before next place = record {
  place = place;
  pending = next;
  begun = begun_by c c.place c.pending;
  at = offset_after c.at (before - left_by place next);
}

abbrev pub moved : Course → Pending → Place → Course
moved c next place = moved_to c (weight c.place c.pending) next place

-- from where a reader stands
abbrev pub course_at : Standing → Course
course_at r = record {
  place = r.place;
  pending = pending.Nothing;
  begun = r.offset;
  at = r.offset;
}

-- where nothing more comes
abbrev pub ended_course : Course
ended_course = record { place = ended; pending = pending.Nothing; begun = 0; at = 0 }

-- after the end of the input, or of the Segment
abbrev pub over : Course → Course
over c = record {
  place = ended;
  pending = pending.Nothing;
  begun = begun_by c c.place c.pending;
  at = c.at;
}

-- the input has ended inside an element
abbrev pub told_end : Course → Result (Option (Given × Course) × List ℕ) Stop
told_end c = Ok (Some (Tells fault.Truncated (begun_by c c.place c.pending), over c), [])

-- where it has ended in a turn; of a Cluster that is sought nothing is told
abbrev pub end_given : Pending → Course → Option (Given × Course)
end_given pending.Seeking c = None
end_given p c = Some (Tells fault.Truncated (begun_by c c.place c.pending), over c)

-- a frame that comes next, if it is there
abbrev pub frame_given : Course → ℕ → Place → Reading (Option (Given × Course))
frame_given c size place text =
    if nat_lt (length text) size then told_end c
    else Ok (
      Some (
        GivesFrame (take size text),
        moved c pending.Nothing (summed_at place (summed place.sum (take size text))),
      ),
      drop size text,
    )

abbrev pub turn_given : (Course → Reading (Option (Given × Course))) → Course → Turn →
    Reading (Option (Given × Course))
turn_given on c (Frame size place) text = frame_given c size place text
turn_given on c (On next place) text = on (moved c next place) text
turn_given on c (Told f next place) text =
    Ok (Some (Tells f (begun_by c c.place c.pending), moved c next place), text)

abbrev pub item_after : (Course → Reading (Option (Given × Course))) → Course →
    Result (Option Turn × List ℕ) Stop → Result (Option (Given × Course) × List ℕ) Stop
item_after on c (Err why) = Ok (end_given c.pending c, [])
item_after on c (Ok (None, rest)) = Ok (None, rest)
item_after on c (Ok (Some turn, rest)) = turn_given on c turn rest

-- the next item, in at most so many turns
unfoldable pub item_up_to : ℕ → TrackNumbers → Course → Reading (Option (Given × Course))
item_up_to zero track c text = Ok (None, text)
item_up_to (suc most) track c text =
    item_after (item_up_to most track) c (turn_read track c.pending c.place text)

-- the next item, and where reading goes on; none at the end. Each turn takes a byte or tells a
-- fault, and no file has so many bytes
unfoldable pub item_read : TrackNumbers → Course → Reading (Option (Given × Course))
item_read track c = item_up_to (2 ^ 64 - 1) track c

-- what is answered where the input has ended in a turn
abbrev pub end_item : Pending → Course → Item
end_item pending.Seeking c = item.End
end_item p c = item.Told fault.Truncated (begun_by c c.place c.pending)

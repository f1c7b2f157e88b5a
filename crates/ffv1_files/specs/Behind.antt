-- What stands after the end of a file, and what its end leaves to be noted.
use Rattle.std.specs.Prelude.{◌≡◌, ℕ, Bool, true, false, if◌then◌else◌, Option, Some, None, Result}
use Rattle.std.specs.Prelude.{List, ⊤}
use Rattle.ffv1_wire.specs.Passage.{Passage}
use Rattle.ffv1_reads.specs.Offsets.{offset_after}
use Rattle.ffv1_reads.specs.Reads.{Reading, given, ◌>>=◌}
use Rattle.ffv1_reads.specs.declared.fault.FileFault.{FileFault}
use Rattle.ffv1_reads.specs.declared.fault.FileFault.TheVariants as fault
use Rattle.ffv1_avi.specs.Behind as avi
use Rattle.ffv1_avi.specs.Readers as avi_reader
use Rattle.ffv1_matroska.specs.Cues.{CuedNext}
use Rattle.ffv1_matroska.specs.Places as matroska
use Rattle.ffv1_matroska.specs.Readers.{is_open, segment_behind}
use Rattle.ffv1_files.specs.Answers.{Endings}
use Rattle.ffv1_files.specs.Places.{InAvi, InMatroska, Place}
use Rattle.ffv1_files.specs.Readers.{Standing}
use Rattle.ffv1_files.specs.declared.course.Course.{Course}
use Rattle.ffv1_files.specs.declared.course.Course.TheVariants as course
use Rattle.ffv1_files.specs.declared.notes.Notes.{Notes}

-- a Segment whose frame of this number comes too early or too late, or none does, with so many
-- further tracks of FFV1 video, of this size, with Cues after its last Cluster or without, ends
-- after so many bytes of the file; others stand there or not
abbrev pub noted : Option ℕ → ℕ → Option ℕ → Bool → ℕ → Bool → Notes
noted times others segment cued end some =
    record {
      is_open = is_open segment cued;
      others = others;
      times = times;
      repeated = 0;
      after = if some then Some end else None;
    }

-- what stands after the end, as notes, with what is noted of times of a Segment; after an AVI it
-- was looked at before, and so many of its frames had no bytes, so many further streams begin as
-- FFV1 video, and an RIFF or a movi there has no size or each has one
unfoldable pub notes_told : Option ℕ → Place → ℕ → Bool → Option ℕ → ℕ → ℕ → Bool → Reading Notes
notes_told times (InAvi place) end cued after repeated others open_ended =
    given (record {
      is_open = open_ended;
      others = others;
      times = None;
      repeated = repeated;
      after = after;
    })
notes_told times (InMatroska segment track place) end cued after repeated others open_ended =
    segment_behind segment >>= λ some. given (noted times track.others segment cued end some)

-- the same, if nothing is noted of times
unfoldable pub notes_read : Place → ℕ → Bool → Option ℕ → ℕ → ℕ → Bool → Reading Notes
notes_read place end cued after repeated others open_ended =
    notes_told None place end cued after repeated others open_ended

abbrev pub notes_of : Standing → Reading Notes
notes_of r =
    notes_told r.times.off r.place r.end r.cued r.after r.repeated r.others r.open_ended

-- the same where Cues came after the last Cluster, or did not, as the items of the file say; then
-- times are not looked at. Of an AVI of which every RIFF is read the course says where other bytes
-- stand, how many of its frames had no bytes, and whether an RIFF or a movi has no size
abbrev pub items_noted : Standing → Course → Bool → Reading Notes
items_noted r (course.Avi c repeated) cued =
    notes_read r.place r.end cued c.after repeated r.others c.open_ended
items_noted r course.Plain cued =
    notes_read r.place r.end cued r.after r.repeated r.others r.open_ended
items_noted r (course.Matroska c) cued =
    notes_read r.place r.end cued r.after r.repeated r.others r.open_ended

-- what is noted of an AVI: by its reader whether such a size ends it, how many further streams
-- begin as FFV1 video, how many of its frames had no bytes, and where other bytes stand; but what a
-- course says of that, if every RIFF is read by it
abbrev pub avi_noted : Bool → ℕ → ℕ → Option ℕ → Course → Notes
avi_noted open_ended others repeated after (course.Avi c count) = record {
  is_open = c.open_ended;
  others = others;
  times = None;
  repeated = count;
  after = c.after;
}
avi_noted open_ended others repeated after course.Plain = record {
  is_open = open_ended;
  others = others;
  times = None;
  repeated = repeated;
  after = after;
}
avi_noted open_ended others repeated after (course.Matroska c) = record {
  is_open = open_ended;
  others = others;
  times = None;
  repeated = repeated;
  after = after;
}

-- the end of the input may be any answer
abbrev pub any_value : {X : Type 0} → Endings X
any_value = record { values = λ x. ⊤; faults = λ f. ⊥ }

-- the Segment ends where all that it has left was read
abbrev pub ends_there : Place → ℕ → ℕ → Type 0
ends_there (InAvi place) offset end = ⊤
ends_there (InMatroska segment track place) offset end =
    end ≡ offset_after offset (matroska.amount place)

abbrev pub EndsThere : Standing → Type 0
EndsThere r = ends_there r.place r.offset r.end

-- it stays where it is
abbrev pub end_stays : Place → ℕ → ℕ → Type 0
end_stays (InAvi place) before after = ⊤
end_stays (InMatroska segment track place) before after = after ≡ before

abbrev pub EndStays : Standing → Standing → Type 0
EndStays old new = end_stays old.place old.end new.end

-- the faults of a look at what stands after a file
abbrev pub is_behind_fault : Place → FileFault → Bool
is_behind_fault (InAvi place) f = false
is_behind_fault (InMatroska segment track place) fault.Read = true
is_behind_fault (InMatroska segment track place) fault.Another = true
is_behind_fault (InMatroska segment track place) f = false

-- whether Cues came after the last Cluster, after a call for a frame
abbrev pub cued_after : Place → Bool → Passage → Result Bool FileFault → Place → Bool → Type 0
cued_after (InMatroska size track from) before p result (InMatroska segment numbers to) after =
    CuedNext track (from, before) p result (to, after)
cued_after from before p result to after = ⊤

abbrev pub CuedAfter : Standing → Passage → Result Bool FileFault → Standing → Type 0
CuedAfter old p result new = cued_after old.place old.cued p result new.place new.cued

-- where bytes stand after the last RIFF of an AVI, after a call for a frame
abbrev pub behind_after : Place → ℕ → Option ℕ → Passage → Result Bool FileFault → Option ℕ →
    Type 0
behind_after (InAvi from) before was p result after = avi.BehindAfter from before was p result after
behind_after (InMatroska size track from) before was p result after = after ≡ was

abbrev pub BehindAfter : Standing → Passage → Result Bool FileFault → Standing → Type 0
BehindAfter old p result new = behind_after old.place old.offset old.after p result new.after

-- whether an RIFF or a movi without size ends an AVI, after a call for a frame
abbrev pub open_after : Place → ℕ → Bool → Passage → Result Bool FileFault → Option ℕ → Bool →
    Type 0
open_after (InAvi from) before was p result after open_ended =
    avi.OpenAfter from before was p result after open_ended
open_after (InMatroska size track from) before was p result after open_ended = open_ended ≡ was

abbrev pub OpenAfter : Standing → Passage → Result Bool FileFault → Standing → Type 0
OpenAfter old p result new =
    open_after old.place old.offset old.open_ended p result new.after new.open_ended

-- how many frames of an AVI had no bytes, after a call for one; no frame of a Segment has none
abbrev pub repeated_after : Place → Result Bool FileFault → List ℕ → ℕ → ℕ
repeated_after (InAvi place) result bytes repeated =
    avi_reader.repeated_after result bytes repeated
repeated_after (InMatroska segment track place) result bytes repeated = repeated

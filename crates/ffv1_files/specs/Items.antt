-- What a file that may be damaged gives, of either container. An AVI of which the first movi alone
-- is read gives its frames, as it is read plainly, and its first fault ends them.
use Rattle.std.specs.Prelude.{◌≡◌, ℕ, Bool, true, false, List, [], Option, Some, None, Result}
use Rattle.std.specs.Prelude.{Ok, Err}
use Rattle.ffv1_wire.specs.Failures.{one_more}
use Rattle.ffv1_wire.specs.Passage.{Passage}
use Rattle.ffv1_reads.specs.Items.{Given, GivesFrame, Tells}
use Rattle.ffv1_reads.specs.Known.{Known}
use Rattle.ffv1_reads.specs.Reads.{Reading, given, ◌>>=◌}
use Rattle.ffv1_reads.specs.declared.fault.FileFault.{FileFault}
use Rattle.ffv1_reads.specs.declared.fault.FileFault.TheVariants as fault
use Rattle.ffv1_reads.specs.declared.item.Item.{Item}
use Rattle.ffv1_reads.specs.declared.item.Item.TheVariants as item
use Rattle.ffv1_avi.specs.Damaged.{plain_at}
use Rattle.ffv1_avi.specs.Files as avi
use Rattle.ffv1_avi.specs.Items as avi_items
use Rattle.ffv1_avi.specs.Places.{extent_of}
use Rattle.ffv1_avi.specs.Readers as avi_reader
use Rattle.ffv1_avi.specs.declared.course.Course.{Course as AviCourse}
use Rattle.ffv1_avi.specs.declared.place.Extent.{Extent}
use Rattle.ffv1_avi.specs.declared.place.Extent.TheVariants.{FirstMovi, EveryRiff}
use Rattle.ffv1_avi.specs.declared.place.Place.{Place as AviPlace}
use Rattle.ffv1_matroska.specs.CuedItems as cued
use Rattle.ffv1_matroska.specs.Items as matroska
use Rattle.ffv1_matroska.specs.declared.course.Course.{Course as MatroskaCourse}
use Rattle.ffv1_matroska.specs.declared.course.Pending.TheVariants as pending
use Rattle.ffv1_files.specs.Answers.{ReadsAs, SoFar, StopsReading}
use Rattle.ffv1_files.specs.Endings.{avi_endings}
use Rattle.ffv1_files.specs.Places.{InAvi, InMatroska, Place}
use Rattle.ffv1_files.specs.Readers.{Standing}
use Rattle.ffv1_files.specs.declared.course.Course.{Course}
use Rattle.ffv1_files.specs.declared.course.Course.TheVariants as course

-- an item, and where reading goes on; none at the end
abbrev pub Next : Type 0
Next = Option (Given × Place × Course)

-- a frame, as plain reading gives it
abbrev pub plain_item : Option (List ℕ × AviPlace) → Next
plain_item None = None
plain_item (Some p) = Some (GivesFrame p.0, InAvi p.1, course.Plain)

-- how many frames had no bytes, after one more item
abbrev pub repeated_by : Given → ℕ → ℕ
repeated_by (GivesFrame bytes) repeated = avi_reader.with_repeated bytes repeated
repeated_by (Tells f offset) repeated = repeated

-- the same, after an answer
abbrev pub repeated_in : Result Item FileFault → List ℕ → ℕ → ℕ
repeated_in (Ok item.Frame) bytes repeated = avi_reader.with_repeated bytes repeated
repeated_in (Ok (item.Told f offset)) bytes repeated = repeated
repeated_in (Ok item.End) bytes repeated = repeated
repeated_in (Err f) bytes repeated = repeated

abbrev pub avi_item : Place → ℕ → Option (Given × AviCourse) → Next
avi_item place repeated None = None
avi_item place repeated (Some p) =
    Some (p.0, place, course.Avi p.1 (repeated_by p.0 repeated))

abbrev pub matroska_item : Place → Option (Given × MatroskaCourse) → Next
matroska_item place None = None
matroska_item place (Some p) = Some (p.0, place, course.Matroska p.1)

-- the next item of a file, by the course; none by one of another container
unfoldable pub item_read : Place → Course → Reading Next
item_read (InAvi place) course.Plain = avi.frame_read place >>= λ o. given (plain_item o)
item_read (InAvi place) (course.Avi c repeated) =
    avi_items.item_read c >>= λ o. given (avi_item (InAvi place) repeated o)
item_read (InMatroska segment track place) (course.Matroska c) =
    matroska.item_read track c >>= λ o. given (matroska_item (InMatroska segment track place) o)
item_read place c = given None

-- whether Cues came after the last Cluster, after the next item or the end; an AVI has none
unfoldable pub cued_item : Place → Course → Bool → List ℕ → Bool
cued_item (InMatroska segment track place) (course.Matroska c) was text =
    cued.cued_item track c was text
cued_item place c was text = was

-- the course once the frames of an AVI have ended: it says where other bytes stand, and whether an
-- RIFF or a movi has no size
unfoldable pub course_ended : Course → List ℕ → Course
course_ended (course.Avi c repeated) text = course.Avi (avi_items.ended_by c text) repeated
course_ended c text = c

-- where it goes on in an AVI
abbrev pub avi_course : Extent → AviPlace → ℕ → Course
avi_course FirstMovi place offset = course.Plain
avi_course EveryRiff place offset = course.Avi (plain_at place offset offset) 0

-- where it goes on from where a reader stands
abbrev pub course_by : Place → ℕ → Course
course_by (InAvi place) offset = avi_course (extent_of place) place offset
course_by (InMatroska segment track place) offset = course.Matroska (record {
  place = place;
  pending = pending.Nothing;
  begun = offset;
  at = offset;
})

abbrev pub course_of : Standing → Course
course_of r = course_by r.place r.offset

-- what a call that answers so has given
abbrev pub item_of : Item → List ℕ → Place → Course → Next
item_of item.Frame bytes place c = Some (GivesFrame bytes, place, c)
item_of (item.Told f offset) bytes place c = Some (Tells f offset, place, c)
item_of item.End bytes place c = None

-- some of the bytes were read, and by themselves they have an item, or none
abbrev pub ItemSoFar : Reading Next → List ℕ → List ℕ → Type 0
ItemSoFar reading text rest = (x : Next) × SoFar reading (Ok (x, [])) text rest

-- why none is given: a read failed, which was counted, or memory was refused for a frame, in both
-- when more bytes were wanted
abbrev pub StopsCourse : Reading Next → Passage → FileFault → Type 0
StopsCourse reading p fault.Read =
    (p.after ≡ one_more p.before) × Known p.old p.new (ItemSoFar reading)
StopsCourse reading p fault.OutOfMemory =
    (p.after ≡ p.before) × Known p.old p.new (ItemSoFar reading)
StopsCourse reading p f = ⊥

-- the same; of an AVI of which the first movi alone is read, as plain reading stops
abbrev pub StopsItem : Place → Course → Reading Next → Passage → FileFault → Type 0
StopsItem (InAvi place) course.Plain reading p f =
    StopsReading (avi_endings (extent_of place)) reading p f
StopsItem place c reading p f = StopsCourse reading p f

-- the answer of a call
abbrev pub ItemAnswers : Place → Course → Passage → Result Item FileFault → List ℕ → Place →
    Course → Type 0
ItemAnswers from old p (Ok i) bytes place c =
    ReadsAs (item_read from old) p (item_of i bytes place c)
ItemAnswers from old p (Err f) bytes place c = StopsItem from old (item_read from old) p f

-- of an AVI of which the first movi alone is read: a frame, or none
abbrev pub plain_answer : Result Bool FileFault → Result Item FileFault
plain_answer (Ok true) = Ok item.Frame
plain_answer (Ok false) = Ok item.End
plain_answer (Err f) = Err f

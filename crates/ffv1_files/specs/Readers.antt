-- A reader of a file.
use Rattle.std.specs.Prelude.{◌≡◌, ◌||◌, Bool, true, false, List, ℕ, Option, Some, None, Result, Ok}
use Rattle.std.specs.Prelude.{Err}
use Rattle.ffv1_reads.specs.Head.{Head}
use Rattle.ffv1_reads.specs.declared.fault.FileFault.{FileFault}
use Rattle.ffv1_avi.specs.Places.{extent_of}
use Rattle.ffv1_avi.specs.Readers as avi
use Rattle.ffv1_matroska.specs.Readers as matroska
use Rattle.ffv1_matroska.specs.Times.{times_begun}
use Rattle.ffv1_matroska.specs.declared.times.Times.{Times}
use Rattle.ffv1_files.specs.declared.container.Scope.{Scope}
use Rattle.ffv1_files.specs.declared.container.Scope.TheVariants as scope
use Rattle.ffv1_files.specs.declared.reader.Inner.{Inner}
use Rattle.ffv1_files.specs.declared.reader.Inner.TheVariants as inner
use Rattle.ffv1_files.specs.Places.{InAvi, InMatroska, Place}

-- the head of its file, where it stands in that, how many bytes come before, the fault that it has
-- met, for how many bytes its record has room; of a Segment how many bytes come before its end, and
-- whether Cues came after the last Cluster so far; of an AVI, after its end, how many bytes come
-- before others that stand after its last RIFF, how many frames so far had no bytes, how many
-- further streams begin as FFV1 video, and, after its end, whether an RIFF or a movi there has no
-- size; and of a Segment what is known of when frames come
pub record Standing : Type 0 where
  pub head : Head
  pub place : Place
  pub offset : ℕ
  pub fault : Option FileFault
  pub room : ℕ
  pub end : ℕ
  pub cued : Bool
  pub after : Option ℕ
  pub repeated : ℕ
  pub others : ℕ
  pub times : Times
  pub open_ended : Bool

abbrev pub opened_at : Standing → Head × Place
opened_at r = (r.head, r.place)

-- how many further tracks of its file, or streams of an AVI if its reader counts so many, are FFV1
-- video
abbrev pub others_at : Place → ℕ → ℕ
others_at (InAvi place) others = others
others_at (InMatroska segment track place) others = track.others

-- what a call that answers so has read: a frame, with the place after it; none at the end
abbrev pub next_of : Bool → List ℕ → Place → Option (List ℕ × Place)
next_of true bytes place = Some (bytes, place)
next_of false bytes place = None

-- where a reader stands after a call: in the same file, and with the fault that it answered
abbrev pub StandsAfter : Standing → Result Bool FileFault → Standing → Type 0
StandsAfter old (Ok more) new = (old.fault ≡ None) × (new.fault ≡ None) × (new.head ≡ old.head)
StandsAfter old (Err f) new =
    (new.fault ≡ Some f) × (new.head ≡ old.head) × (new.place ≡ old.place)

-- what is left if no frame was read to its end: a beginning of the one that was found, or nothing
abbrev pub Leaves : Place → Option (List ℕ) → List ℕ → Type 0
Leaves (InAvi place) old bytes = avi.Leaves place old bytes
Leaves (InMatroska segment track place) old bytes = matroska.Leaves track place old bytes

-- the faults that opening has, whatever the file
abbrev pub is_opening_fault : Scope → FileFault → Bool
is_opening_fault scope.FirstMovi f = avi.is_opening_fault f
is_opening_fault scope.Whole f = avi.is_opening_fault f || matroska.is_opening_fault f

-- and those that reading a frame has
abbrev pub is_frame_fault : Place → FileFault → Bool
is_frame_fault (InAvi place) f = avi.is_frame_fault (extent_of place) f
is_frame_fault (InMatroska segment track place) f = matroska.is_frame_fault f

-- by the reader of its container
abbrev pub standing_of : {A : Type 0} → Inner A → Standing
standing_of (inner.Avi r) = record {
  head = r.head;
  place = InAvi r.place;
  offset = r.offset;
  fault = r.fault;
  room = r.room;
  end = 0;
  cued = false;
  after = r.after;
  repeated = r.repeated;
  others = r.others;
  times = times_begun 0;
  open_ended = r.open_ended;
}
standing_of (inner.Matroska r) = record {
  head = r.track.head;
  place = InMatroska r.segment r.track.numbers r.place;
  offset = r.offset;
  fault = r.fault;
  room = r.room;
  end = r.end;
  cued = r.cued;
  after = None;
  repeated = 0;
  others = 0;
  times = r.times;
  open_ended = false;
}

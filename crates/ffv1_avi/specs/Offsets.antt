-- Where in a file a fault is: in the chunk, of those one after the other, that could not be read.
-- Of a list movi the chunk is its header and its own name, since its chunks come next; the same
-- holds of an RIFF. If a frame that `dmlh` says is not there, or another file stands after the
-- last RIFF, the fault is where the next RIFF would begin.
use Rattle.std.specs.Prelude.{◌≡◌, ℕ, ◌+◌, ◌-◌, ◌^◌, ◌==◌, min, Bool, true, false, if◌then◌else◌}
use Rattle.std.specs.Prelude.{List, drop, Option, Some, None, Result, Ok, Err}
use Rattle.byteorder.specs.Endian.{little_number}
use Rattle.ffv1_wire.specs.Passage.{Passage}
use Rattle.ffv1_reads.specs.Head.{Head}
use Rattle.ffv1_reads.specs.Offsets.{ReadsWhole, StopsAfter, offset_after}
use Rattle.ffv1_reads.specs.Reads.{Kept, Reading, given, refused, taken, ◌>>=◌}
use Rattle.ffv1_reads.specs.declared.fault.FileFault.{FileFault}
use Rattle.ffv1_reads.specs.declared.fault.FileFault.TheVariants as fault
use Rattle.ffv1_avi.specs.declared.chunk.Entry.{Entry}
use Rattle.ffv1_avi.specs.declared.place.Extent.{Extent}
use Rattle.ffv1_avi.specs.declared.place.Open.{Open}
use Rattle.ffv1_avi.specs.declared.place.Open.TheVariants.{Sized, OpenRiff, OpenMovi}
use Rattle.ffv1_avi.specs.declared.place.Place.{Place}
use Rattle.ffv1_avi.specs.Files.{Headers, begins, no_headers, place_in}
use Rattle.ffv1_avi.specs.Opens.{Step, open_found}
use Rattle.ffv1_avi.specs.Files.{riff_begun, room_in, visit_top}
use Rattle.ffv1_avi.specs.Opens.{visit_riff}
use Rattle.ffv1_avi.specs.Opens.{visit_movi}
use Rattle.ffv1_avi.specs.Padding.{content}
use Rattle.ffv1_avi.specs.Places.{ended, frame_at, movi_at}
use Rattle.ffv1_avi.specs.Readers.{Standing}
use Rattle.ffv1_avi.specs.Names.{riff_rule, rule_of}
use Rattle.ffv1_avi.specs.Walk.{entry_in, entry_read}

-- after a chunk of movi that is no frame of the stream
abbrev pub movi_left : Place → ℕ → Place
movi_left place left =
    record {
      input = place.input;
      riff = place.riff;
      movi = left;
      names = place.names;
      owed = place.owed;
      open_in = place.open_in;
    }

-- after a chunk of RIFF that is no movi
abbrev pub riff_left : Place → ℕ → Place
riff_left place left =
    record {
      input = place.input;
      riff = left;
      movi = 0;
      names = place.names;
      owed = place.owed;
      open_in = place.open_in;
    }

-- a frame, with its bytes and their padding, if the chunk is one
abbrev pub frame_taken : Place → ℕ → Option (ℕ × ℕ) → Reading Place
frame_taken place left None = given (movi_left place left)
frame_taken place left (Some p) = content Kept p.0 >>= λ bytes. given (frame_at place p.1)

-- a list movi is entered
abbrev pub movi_entered : Place → ℕ → Option (ℕ × ℕ) → Reading Place
movi_entered place left None = given (riff_left place left)
movi_entered place left (Some p) = given (movi_at place p)

-- the next RIFF is entered; with other bytes after the last one the frames end
abbrev pub riff_next : Option Place → Reading Place
riff_next None = given ended
riff_next (Some next) = given next

-- after movi a chunk of RIFF, of which a list movi is entered; or the beginning of the next RIFF
abbrev pub riff_taken : Place → Option Entry → Reading Place
riff_taken place (Some e) = visit_riff place.names tt e >>= λ p. movi_entered place e.left p.1
riff_taken place None = riff_begun place >>= riff_next

-- what is taken of an RIFF or a movi whose size is not known: a frame with its bytes and their
-- padding, or another chunk; at the end of the input nothing
abbrev pub open_taken : Option Step → Reading Place
open_taken None = given ended
open_taken (Some (None, next)) = given next
open_taken (Some (Some size, next)) = content Kept size >>= λ bytes. given next

-- after movi, by what has no size
abbrev pub beyond_taken : Open → Place → Reading Place
beyond_taken Sized place = entry_read place.riff >>= riff_taken place
beyond_taken OpenRiff place = open_found place >>= open_taken
beyond_taken OpenMovi place = open_found place >>= open_taken

abbrev pub movi_taken : Place → Option Entry → Reading Place
movi_taken place (Some e) = visit_movi place.names tt e >>= λ p. frame_taken place e.left p.1
movi_taken place None =
    if place.input == 0 then given place else beyond_taken place.open_in place

-- a chunk from its first byte on, from the first movi on: one of movi, with its frame; if that
-- has none left, one of RIFF. At the end nothing is read
unfoldable pub chunk_taken : Place → Reading Place
chunk_taken place = entry_in (rule_of place.names) place.movi >>= movi_taken place

-- an offset counts so many bytes more, as far as 8 bytes hold it
abbrev pub Counts : ℕ → ℕ → ℕ → Type 0
Counts before after count =
    (n : ℕ) → before ≡ min n (2 ^ 64 - 1) → after ≡ min (n + count) (2 ^ 64 - 1)

-- a call that was refused says where the chunk begins that could not be read
abbrev pub StopsIn : {S : Type 0} → (S → Reading S) → S → Passage → FileFault → ℕ → ℕ → Type 0
StopsIn {S = S} chunk from p f before after =
    (to : S) × (count : ℕ) × StopsAfter chunk from p f to count × Counts before after count

-- whole chunks were read up to a position
abbrev pub ReadsTo : {S : Type 0} → (S → Reading S) → S → Option (List ℕ) → Option (List ℕ) → S →
    ℕ → ℕ → Type 0
ReadsTo chunk from old new to before after =
    (count : ℕ) × ReadsWhole chunk from old new to count × Counts before after count

-- the same from the first movi on
abbrev pub StopsAt : Place → Passage → FileFault → ℕ → ℕ → Type 0
StopsAt place p f before after = StopsIn chunk_taken place p f before after

abbrev pub ReadsUpTo : Place → Option (List ℕ) → Option (List ℕ) → Place → ℕ → ℕ → Type 0
ReadsUpTo place old new to before after = ReadsTo chunk_taken place old new to before after

-- the offset after a call for a frame: after the chunk of the frame that it gives; after a fault,
-- where the chunk begins that could not be read
abbrev pub OffsetAfter : Standing → Passage → Result Bool FileFault → Standing → Type 0
OffsetAfter old p (Ok true) new =
    ReadsUpTo old.place p.old p.new new.place old.offset new.offset
OffsetAfter old p (Ok false) new = new.offset ≡ old.offset
OffsetAfter old p (Err f) new = StopsAt old.place p f old.offset new.offset

-- where a reader stands before the frames: before the file; in its first RIFF, that has so many
-- bytes left, of the size that it says, with what is known so far; or in the first movi
pub data Spot : Type 0 where
  Start : Spot
  InRiff : ℕ → Headers → ℕ → Spot
  BeforeFrames : Head → Place → Spot

-- RIFF of a size begins
abbrev pub riff_at_size : Extent → ℕ → Spot
riff_at_size extent size = InRiff size no_headers (room_in extent size)

abbrev pub riff_begins : Extent → List ℕ → Reading Spot
riff_begins extent bytes =
    if begins extent bytes then given (riff_at_size extent (little_number 4 (drop 4 bytes)))
    else refused fault.NotAvi

-- after a chunk of RIFF with so many bytes after it; or in movi
abbrev pub top_left : Extent → ℕ → ℕ → Headers × Option (Head × Place) → Reading Spot
top_left extent size left (found, None) = given (InRiff size found left)
top_left extent size left (found, Some p) = given (BeforeFrames p.0 (place_in extent size p.1))

abbrev pub top_taken : Extent → ℕ → Headers → Option Entry → Reading Spot
top_taken extent size found None = refused fault.NotAvi
top_taken extent size found (Some e) =
    visit_top extent found e >>= top_left extent size e.left

-- a chunk from its first byte on, before the frames: the first twelve bytes of the file; and a
-- chunk of RIFF, the list hdrl with all that it has; of movi the header and its own name. If RIFF
-- ends before any movi, the fault is at its end. Before the frames nothing is read
unfoldable pub spot_taken : Extent → Spot → Reading Spot
spot_taken extent Start = taken 12 >>= riff_begins extent
spot_taken extent (InRiff size found left) =
    entry_in (riff_rule extent) left >>= top_taken extent size found
spot_taken extent (BeforeFrames head place) = given (BeforeFrames head place)

-- the offset after opening: of the first frame's chunk, which begins after movi's own name; after a
-- fault, where the chunk begins that could not be read
abbrev pub OffsetOpened : Extent → Passage → Result Standing FileFault → ℕ → Type 0
OffsetOpened extent p (Ok r) offset =
    (count : ℕ)
    × ReadsWhole (spot_taken extent) Start p.old p.new (BeforeFrames r.head r.place) count
    × (r.offset ≡ offset_after 0 count)
OffsetOpened extent p (Err f) offset =
    (to : Spot) × (count : ℕ) × StopsAfter (spot_taken extent) Start p f to count
    × (offset ≡ offset_after 0 count)

-- Where a reader stands.
use Rattle.std.specs.Prelude.{◌≡◌, ℕ, ◌≤◌, Bool, true, false, not, List, [], take, Option, Some}
use Rattle.std.specs.Prelude.{None, Result, Ok, Err, ⊤, ◌⊎◌}
use Rattle.ffv1_reads.specs.Behind.{behind_read}
use Rattle.ffv1_reads.specs.Offsets.{offset_after}
use Rattle.ffv1_reads.specs.Reads.{Reading, given}
use Rattle.ffv1_reads.specs.declared.fault.FileFault.{FileFault}
use Rattle.ffv1_reads.specs.declared.fault.FileFault.TheVariants as fault
use Rattle.ffv1_matroska.specs.Files.{frame_found}
use Rattle.ffv1_matroska.specs.Opened.{Opened}
use Rattle.ffv1_matroska.specs.Places.{amount, ended}
use Rattle.ffv1_matroska.specs.Tracks.{Track}
use Rattle.ffv1_matroska.specs.declared.place.Place.{Place}
use Rattle.ffv1_matroska.specs.declared.times.Times.{Times}
use Rattle.ffv1_matroska.specs.declared.track.TrackNumbers.{TrackNumbers}

-- the track that is read, the size of the Segment, the place in that, the fault that it has met,
-- for how many bytes its record has room, the bytes before that place, those before the end of the
-- Segment, whether Cues came after the last Cluster before that place, and what is known there of
-- when frames come
pub record Standing : Type 0 where
  pub track : Track
  pub segment : Option ℕ
  pub place : Place
  pub fault : Option FileFault
  pub room : ℕ
  pub offset : ℕ
  pub end : ℕ
  pub cued : Bool
  pub times : Times

-- what is known of its file, and where it stands
abbrev pub opened_at : Standing → Opened
opened_at r = record { track = r.track; segment = r.segment; place = r.place }

-- the Segment ends where all that it has left was read
abbrev pub EndsThere : Standing → Type 0
EndsThere r = r.end ≡ offset_after r.offset (amount r.place)

-- nothing says that the Segment is whole: it has no size, and no Cues came after its last Cluster
unfoldable pub is_open : Option ℕ → Bool → Bool
is_open (Some size) cued = false
is_open None cued = not cued

-- whether any bytes stand behind a Segment of this size, and no other file: behind one that has no
-- size nothing can
unfoldable pub segment_behind : Option ℕ → Reading Bool
segment_behind None = given false
segment_behind (Some size) = behind_read

-- a file that ends before its frames begin
abbrev pub HasEnded : Opened → Type 0
HasEnded o = o.place ≡ ended

-- a frame, with the place after it
abbrev pub next_with : List ℕ → Option Place → Option (List ℕ × Place)
next_with bytes None = None
next_with bytes (Some place) = Some (bytes, place)

-- what is left if no frame was read to its end: a beginning of the one that was found, or
-- nothing
abbrev pub Leaves : TrackNumbers → Place → Option (List ℕ) → List ℕ → Type 0
Leaves track place None bytes = ⊤
Leaves track place (Some text) bytes =
    (bytes ≡ [])
    ⊎ ((size : ℕ) × (after : Place) × (rest : List ℕ)
    × (frame_found track place text ≡ Ok (Some (size, after), rest))
    × (k : ℕ) × (k ≤ size) × (bytes ≡ take k rest))

-- what a call that answers so has read: a frame, with the place after it; none at the end
abbrev pub next_of : Bool → List ℕ → Place → Option (List ℕ × Place)
next_of true bytes place = Some (bytes, place)
next_of false bytes place = None

-- where a reader stands after a call: in the same file, and with the fault that it answered
abbrev pub StandsAfter : Standing → Result Bool FileFault → Standing → Type 0
StandsAfter old (Ok more) new =
    (old.fault ≡ None) × (new.fault ≡ None) × (new.track ≡ old.track)
    × (new.segment ≡ old.segment)
StandsAfter old (Err f) new =
    (new.fault ≡ Some f) × (new.track ≡ old.track) × (new.segment ≡ old.segment)
    × (new.place ≡ old.place)

-- the faults that opening has, whatever the file
abbrev pub is_opening_fault : FileFault → Bool
is_opening_fault fault.OutOfMemory = true
is_opening_fault fault.NoFfv1 = true
is_opening_fault fault.Truncated = true
is_opening_fault fault.ChunkTooLong = true
is_opening_fault fault.Read = true
is_opening_fault fault.NotMatroska = true
is_opening_fault fault.BadElement = true
is_opening_fault fault.NoTracks = true
is_opening_fault fault.Encoded = true
is_opening_fault fault.Checksum = true
is_opening_fault f = false

-- and those that reading a frame has
abbrev pub is_frame_fault : FileFault → Bool
is_frame_fault fault.OutOfMemory = true
is_frame_fault fault.Truncated = true
is_frame_fault fault.ChunkTooLong = true
is_frame_fault fault.EmptyFrame = true
is_frame_fault fault.Read = true
is_frame_fault fault.BadElement = true
is_frame_fault fault.Laced = true
is_frame_fault fault.Checksum = true
is_frame_fault f = false

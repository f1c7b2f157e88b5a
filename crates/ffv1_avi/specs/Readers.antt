-- Where a reader stands.
use Rattle.std.specs.Prelude.{◌≡◌, ℕ, ◌≤◌, ◌+◌, ◌-◌, ◌^◌, ◌==◌, if◌then◌else◌, min, Bool, true}
use Rattle.std.specs.Prelude.{false, List, [], length, take, Option, Some, None}
use Rattle.std.specs.Prelude.{Result, Ok, Err, ⊤, ◌⊎◌}
use Rattle.ffv1_reads.specs.declared.fault.FileFault.{FileFault}
use Rattle.ffv1_reads.specs.declared.fault.FileFault.TheVariants as fault
use Rattle.ffv1_avi.specs.Files.{frame_found, others_read}
use Rattle.ffv1_reads.specs.Reads.{Read}
use Rattle.ffv1_reads.specs.Head.{Head}
use Rattle.ffv1_avi.specs.declared.place.Extent.{Extent}
use Rattle.ffv1_avi.specs.declared.place.Extent.TheVariants.{FirstMovi, EveryRiff}
use Rattle.ffv1_avi.specs.declared.place.Place.{Place}

-- the head of its file, the place in that, the fault that it has met, for how many bytes its record
-- has room, the bytes before that place, after the end the bytes before others that stand after
-- the last RIFF, how many frames so far had no bytes, how many streams after the one that is read
-- begin as FFV1 video, and whether it came to an RIFF or a movi whose size is not known
pub record Standing : Type 0 where
  pub head : Head
  pub place : Place
  pub fault : Option FileFault
  pub room : ℕ
  pub offset : ℕ
  pub after : Option ℕ
  pub repeated : ℕ
  pub others : ℕ
  pub open_ended : Bool

-- how many frames had no bytes, after one more with these; it is held in 8 bytes
abbrev pub with_repeated : List ℕ → ℕ → ℕ
with_repeated bytes repeated =
    if length bytes == 0 then min (repeated + 1) (2 ^ 64 - 1) else repeated

-- after a call that answers so: one more if it gave a frame of none
abbrev pub repeated_after : Result Bool FileFault → List ℕ → ℕ → ℕ
repeated_after (Ok true) bytes repeated = with_repeated bytes repeated
repeated_after (Ok false) bytes repeated = repeated
repeated_after (Err f) bytes repeated = repeated

abbrev pub opened_at : Standing → Head × Place
opened_at r = (r.head, r.place)

-- a frame's size, with what movi has left after it
abbrev pub frame_with : Option ℕ → ℕ → Option (ℕ × ℕ)
frame_with None left = None
frame_with (Some size) left = Some (size, left)

-- a frame, with the place after it
abbrev pub next_with : List ℕ → Option Place → Option (List ℕ × Place)
next_with bytes None = None
next_with bytes (Some place) = Some (bytes, place)

-- what is left if no frame was read to its end: a beginning of the one that was found, or
-- nothing
abbrev pub Leaves : Place → Option (List ℕ) → List ℕ → Type 0
Leaves place None bytes = ⊤
Leaves place (Some text) bytes =
    (bytes ≡ [])
    ⊎ ((size : ℕ) × (after : Place) × (rest : List ℕ)
    × (frame_found place text ≡ Ok (Some (size, after), rest))
    × (k : ℕ) × (k ≤ size) × (bytes ≡ take k rest))

-- what a call that answers so has read: a frame, with the place after it; none at the end
abbrev pub next_of : Bool → List ℕ → Place → Option (List ℕ × Place)
next_of true bytes place = Some (bytes, place)
next_of false bytes place = None

-- where a reader stands after a call: in the same file, and with the fault that it answered
abbrev pub StandsAfter : Standing → Result Bool FileFault → Standing → Type 0
StandsAfter old (Ok more) new = (old.fault ≡ None) × (new.fault ≡ None) × (new.head ≡ old.head)
StandsAfter old (Err f) new =
    (new.fault ≡ Some f) × (new.head ≡ old.head) × (new.place ≡ old.place)

-- the faults that opening has, whatever the file
abbrev pub is_opening_fault : FileFault → Bool
is_opening_fault fault.OutOfMemory = true
is_opening_fault fault.NotAvi = true
is_opening_fault fault.NoFfv1 = true
is_opening_fault fault.Truncated = true
is_opening_fault fault.ChunkTooLong = true
is_opening_fault fault.Read = true
is_opening_fault f = false

-- another file is met only if every RIFF is read
abbrev pub reads_on : Extent → Bool
reads_on FirstMovi = false
reads_on EveryRiff = true

-- and those that reading a frame has
abbrev pub is_frame_fault : Extent → FileFault → Bool
is_frame_fault extent fault.OutOfMemory = true
is_frame_fault extent fault.NotAvi = true
is_frame_fault extent fault.Truncated = true
is_frame_fault extent fault.ChunkTooLong = true
is_frame_fault extent fault.EmptyFrame = true
is_frame_fault extent fault.Another = reads_on extent
is_frame_fault extent fault.Read = true
is_frame_fault extent f = false

-- how many further streams are told: none if the first movi alone is read, where none is looked at
abbrev pub others_in : Extent → ℕ → ℕ
others_in FirstMovi others = 0
others_in EveryRiff others = others

-- the bytes of a file say so
abbrev pub CountsOthers : Extent → Option (List ℕ) → Option (List ℕ) → ℕ → Type 0
CountsOthers extent old new others =
    (count : ℕ) × Read (others_read extent) old new count × (others ≡ others_in extent count)

-- Where in a file a fault of its own is: how many bytes come before the element or chunk at fault;
-- and the line of that.
use Rattle.std.specs.Prelude.{◌≡◌, ◌⊎◌, ℕ, ◌<◌, ◌&&◌, if◌then◌else◌, Bool, true, List, []}
use Rattle.std.specs.Prelude.{◌++◌, length, take, Option, None, Ok}
use Rattle.std.specs.Io.KnownBytes.{Appends}
use Rattle.ffv1_wire.specs.Failures.{one_more}
use Rattle.ffv1_wire.specs.Passage.{Passage}
use Rattle.ffv1_reads.specs.declared.fault.FileFault.{FileFault}
use Rattle.ffv1_files.specs.declared.container.Scope.{Scope}
use Rattle.ffv1_files.specs.Answers.{StopsReading}
use Rattle.ffv1_files.specs.Behind.{EndStays, EndsThere, any_value, notes_of}
use Rattle.ffv1_files.specs.Files.{frame_read}
use Rattle.ffv1_files.specs.Noted.{NotesReached}
use Rattle.ffv1_files.specs.Offsets.{Reached, StopsAt}
use Rattle.ffv1_files.specs.Places.{container_of}
use Rattle.ffv1_files.specs.Readers.{Standing}
use Rattle.ffv1_reads.specs.Known.{Known}
use Rattle.ffv1_video.specs.declared.fault.Fault.{Fault}
use Rattle.ffv1_video.specs.Faults.{is_file_fault, of_avi}
use Rattle.ffv1_unpack.specs.FrameLines.{offset_line}

-- the line of that offset: it is written if it is asked for, and if the fault is the file's
-- own; with the number of the frame that would come next
abbrev pub located_text : Bool → ℕ → Fault → ℕ → List ℕ
located_text byte i f offset = if byte && is_file_fault f then offset_line i offset else []

-- elements and chunks of as many bytes as the reader's offset says were read whole, its Segment
-- ends where all that it has left was read, and what it will note of the end is that of the file's
-- bytes
pub record Stands (scope : Scope) (text left : Option (List ℕ)) (r : Standing) : Type 0 where
  pub reached : Reached scope text left r
  pub ends : EndsThere r
  pub noted : NotesReached scope text left r

-- a reader stands so, and then the frames end; what comes after them was refused with this fault,
-- at the offset at which they end
pub record StopsBehind (scope : Scope) (p : Passage) (f : FileFault) (offset : ℕ) : Type 0 where
  pub last : Standing
  pub between : Option (List ℕ)
  pub stands : Stands scope p.old between last
  pub behind : Option (List ℕ)
  pub over : Known between behind (λ text rest.
      frame_read last.place text ≡ Ok (None, rest))
  pub reader : Standing
  pub same : container_of reader.place ≡ container_of last.place
  pub stays : EndStays last reader
  pub refused : StopsReading any_value (notes_of reader) (record p { old = behind }) f
  pub offset_is : offset ≡ reader.end

-- if the fault is the file's own, elements and chunks of so many bytes were read whole, and the
-- one that comes next was refused with it, or what comes after them all
abbrev pub LocatedFault : Scope → Passage → Fault → ℕ → Type 0
LocatedFault scope p f offset =
    is_file_fault f ≡ true → (g : FileFault) × (f ≡ of_avi g)
    × (StopsAt scope p g offset ⊎ StopsBehind scope p g offset)

-- after other lines this line was written; or a write failed, which was counted, after a
-- beginning of it
abbrev pub WritesLine : List ℕ → List ℕ → Passage → Type 0
WritesLine lines last p =
    ((p.after ≡ p.before) × Appends p.old p.new (lines ++ last))
    ⊎ ((p.after ≡ one_more p.before) × (k : ℕ) × (k < length last)
    × Appends p.old p.new (lines ++ take k last))

-- after these lines the file is refused, where so many frames come before: the line of that was
-- written, if it is asked for, with the offset at which it stops
pub record WritesLocated (Stops : Fault → ℕ → Type 0) (byte : Bool) (number : ℕ) (lines : List ℕ)
    (f : Fault) (output : Passage) : Type 0 where
  pub offset : ℕ
  pub stops : Stops f offset
  pub writes : WritesLine lines (located_text byte number f offset) output

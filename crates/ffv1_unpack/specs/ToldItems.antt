-- Judging a Matroska file that may be damaged before its first frame: the faults that are told
-- there are the first of its items.
use Rattle.std.specs.Prelude.{◌≡◌, ◌⊎◌, ℕ, Bool, true, false, List, [], ◌∷◌, ◌++◌, length, map}
use Rattle.std.specs.Prelude.{Option}
use Rattle.ffv1_wire.specs.Failures.{one_more}
use Rattle.ffv1_wire.specs.Passage.{Passage}
use Rattle.ffv1_record.specs.Accepted.{Accepted}
use Rattle.ffv1_record.specs.Reading.{IsRefused, ReachesSets}
use Rattle.ffv1_record.specs.declared.fault.RecordFault.{RecordFault}
use Rattle.ffv1_reads.specs.Head.{Head}
use Rattle.ffv1_reads.specs.Known.{Known}
use Rattle.ffv1_reads.specs.declared.fault.FileFault.{FileFault}
use Rattle.ffv1_reads.specs.declared.fault.FileFault.TheVariants as file_fault
use Rattle.ffv1_reads.specs.Items.{Given}
use Rattle.ffv1_matroska.specs.declared.told.ToldFault.{ToldFault}
use Rattle.ffv1_files.specs.Behind.{EndsThere}
use Rattle.ffv1_files.specs.Items.{course_by, course_of}
use Rattle.ffv1_files.specs.Places.{Place}
use Rattle.ffv1_files.specs.Readers.{Standing}
use Rattle.ffv1_files.specs.Salvaged.{EndsTelling, IsSalvaged, StopsTelling, given_told}
use Rattle.ffv1_files.specs.Salvaged.{told_offset}
use Rattle.ffv1_files.specs.declared.notes.Notes.{Notes}
use Rattle.ffv1_video.specs.declared.profile.Profile.{Profile}
use Rattle.ffv1_video.specs.declared.fault.Fault.{Fault}
use Rattle.ffv1_reads.specs.declared.fault.FileFault.TheVariants as file_fault
use Rattle.ffv1_video.specs.declared.fault.Fault.TheVariants as fault
use Rattle.ffv1_video.specs.Faults.{Cause, cause_of, of_avi, of_record}
use Rattle.ffv1_video.specs.Faults.Cause.{Reading, Writing, Memory, Content}
use Rattle.ffv1_video.specs.Output.{Silent, WritesUpTo}
use Rattle.ffv1_video.specs.Profiles.{byte_told, greatest_depth, record_profile}
use Rattle.ffv1_unpack.specs.AllItems.{DoneBy, StopsBy}
use Rattle.ffv1_unpack.specs.Behind.{Looks}
use Rattle.ffv1_unpack.specs.ItemsEnd.{EndLooks}
use Rattle.ffv1_unpack.specs.JudgedItems.{ItemsFrom, ItemsNext, ItemsOver, JudgedItem, ToldAt}
use Rattle.ffv1_unpack.specs.JudgedItems.{told_line}
use Rattle.ffv1_unpack.specs.Located.{WritesLine, located_text}
use Rattle.ffv1_unpack.specs.Opens.{IsReadAgain}
use Rattle.ffv1_unpack.specs.Play.{LacksStream}
use Rattle.ffv1_unpack.specs.Stream.{IsStream, Stream}

-- a file has this head, and these items: faults that are told before its frames, and those from
-- there on; and then this comes
abbrev pub ToldItemsThen : Head → List Given → ItemsNext → List ℕ → List ℕ → Type 0
ToldItemsThen head items Next file rest =
    (told : List Given) × (later : List Given) × (items ≡ told ++ later) × (from : Place)
    × (offset : ℕ) × (behind : List ℕ) × IsSalvaged file behind head from offset told
    × ItemsFrom from (course_by from offset) later Next behind rest

-- it has these, and no further one is read; and this is said of how notes are read of what comes
-- after its end, as of a file that opens plainly
abbrev pub ToldItemsEnd : Head → List Given → (ℕ → Looks) → List ℕ → List ℕ → Type 0
ToldItemsEnd head items Looked file rest =
    (told : List Given) × (later : List Given) × (items ≡ told ++ later) × (r : Standing)
    × (behind : List ℕ) × (left : List ℕ) × IsSalvaged file behind head r.place r.offset told
    × EndsThere r
    × ItemsFrom r.place (course_of r) later (ItemsOver (length later)) behind left
    × EndLooks r behind Looked left rest

-- what is told, as items, if so many bytes come before the first element of the Segment
abbrev pub told_as : ℕ → ToldFault → JudgedItem
told_as start t = ToldAt t.fault (told_offset start t.position)

abbrev pub told_items : ℕ → List ToldFault → List JudgedItem
told_items start faults = map (told_as start) faults

-- and its lines
abbrev pub told_lines : ℕ → List ToldFault → List ℕ
told_lines start [] = []
told_lines start (t ∷ ts) =
    told_line (told_offset start t.position) t.fault ++ told_lines start ts

-- a fault that a file has plainly, and that may be told
abbrev pub is_told : Fault → Bool
is_told (fault.File file_fault.Checksum) = true
is_told (fault.File file_fault.BadElement) = true
is_told f = false

-- a file was opened so, with these faults
pub record ToldOpens (profile : Profile) (input : Passage) (stream : Stream) (start : ℕ)
    (faults : List ToldFault) : Type 0 where
  pub is : IsStream profile stream
  pub from : Place
  pub offset : ℕ
  pub known : Known input.old input.new (λ file rest.
      IsSalvaged file rest stream.head from offset (map (given_told start) faults))
  pub kept : input.after ≡ input.before

-- it has a fault plainly that may be told
abbrev pub HasToldFault : Profile → Passage → Type 0
HasToldFault profile input =
    (left : Option (List ℕ)) × (f : Fault) × (is_told f ≡ true)
    × LacksStream profile input.old left f

-- a file has a fault plainly that may be told, and memory for what is told was refused
abbrev pub LacksTelling : Profile → Passage → Fault → Type 0
LacksTelling profile input f =
    HasToldFault profile input × (f ≡ fault.OutOfMemory) × (input.after ≡ input.before)

-- ---- a file of which something is told, and which is refused before its first frame

-- memory was refused for the sets of a head's record, or for what comes once that is accepted; or
-- it has this fault
abbrev pub HeadLacks : Profile → Head → Fault → Type 0
HeadLacks profile head f =
    ((f ≡ fault.OutOfMemory)
    × (ReachesSets (record_profile profile) (greatest_depth profile) head.config_record
    ⊎ ((a : Accepted) × IsStream profile (record { head = head; accepted = a }))))
    ⊎ ((r : RecordFault) × (f ≡ of_record r) × IsRefused (record_profile profile)
    (greatest_depth profile) head.config_record head.width head.height r)

-- its frames begin, with these faults before, and its record is refused
pub record ToldLacksStream (profile : Profile) (input : Passage) (start : ℕ)
    (faults : List ToldFault) (f : Fault) : Type 0 where
  pub head : Head
  pub from : Place
  pub offset : ℕ
  pub known : Known input.old input.new (λ file rest.
      IsSalvaged file rest head from offset (map (given_told start) faults))
  pub kept : input.after ≡ input.before
  pub lacks : HeadLacks profile head f

-- these are told of it, and then it is refused: the reading that tells is, before its frames, after
-- so many bytes; or its record is
abbrev pub ToldLacks : Profile → Passage → ℕ → List ToldFault → Fault → ℕ → Type 0
ToldLacks profile input start faults f offset =
    ((g : FileFault) × (f ≡ of_avi g) × StopsTelling input start faults g offset)
    ⊎ ToldLacksStream profile input start faults f

-- it has a fault plainly that may be told, these are told, if any, and then this one refuses it
pub record ToldRefused (profile : Profile) (input : Passage) (f : Fault) : Type 0 where
  pub start : ℕ
  pub faults : List ToldFault
  pub plainly : HasToldFault profile input
  pub offset : ℕ
  pub lacks : ToldLacks profile input start faults f offset

-- the lines of what is told were not written whole, or memory for them was refused
abbrev pub LinesFailBy : Passage → ℕ → List ToldFault → Cause → Type 0
LinesFailBy output start faults Writing =
    (output.after ≡ one_more output.before)
    × WritesUpTo output.old output.new 0 (told_lines start faults)
LinesFailBy output start faults Reading = ⊥
LinesFailBy output start faults Memory = Silent output
LinesFailBy output start faults Content = ⊥

-- they were written, and then the line of the byte where it is refused, if that is asked for; the
-- answer is the fault that refuses it. Or they were not
abbrev pub ToldWrites : Bool → Passage → ℕ → List ToldFault → Fault → ℕ → Fault → Type 0
ToldWrites byte output start faults refusal offset f =
    ((f ≡ refusal)
    × WritesLine (told_lines start faults) (located_text byte 0 refusal offset) output)
    ⊎ LinesFailBy output start faults (cause_of f)

-- what was told is written, and then where the file is refused
pub record ToldStops (profile : Profile) (byte : Bool) (input output : Passage) (f : Fault)
    : Type 0 where
  pub refusal : Fault
  pub refused : ToldRefused profile input refusal
  pub writes : ToldWrites byte output refused.start refused.faults refusal refused.offset f

-- ---- a file that is opened, of which something is told

module _ (profile : Profile) (input output : Passage) where
  -- the lines of what is told were not written whole, or memory for them was refused
  abbrev pub ToldFailsBy : Cause → Type 0
  ToldFailsBy why =
      (stream : Stream) × (start : ℕ) × (faults : List ToldFault)
      × ToldOpens profile input stream start faults × LinesFailBy output start faults why

  -- memory for what is told was refused before it was opened, and nothing was written
  abbrev pub AgainLacksBy : Cause → Type 0
  AgainLacksBy Writing = ⊥
  AgainLacksBy Reading = ⊥
  AgainLacksBy Memory = Silent output × (input.after ≡ input.before)
  AgainLacksBy Content = ⊥

module _ (profile : Profile) (place : Bool) (input output : Passage) where
  -- why it is refused then
  abbrev pub AgainFault : Fault → Type 0
  AgainFault f =
      StopsBy ToldItemsThen ToldItemsEnd profile place input output f
      ⊎ ToldFailsBy profile input output (cause_of f)
      ⊎ AgainLacksBy profile input output (cause_of f)

  -- all is told and judged
  abbrev pub AgainDone : Option Fault → Notes → Type 0
  AgainDone first notes =
      HasToldFault profile input
      × DoneBy ToldItemsThen ToldItemsEnd profile place input output first notes

  -- why it is refused; or it is refused before its first frame, after what is told
  abbrev pub AgainStops : Fault → Type 0
  AgainStops f =
      (HasToldFault profile input × AgainFault f)
      ⊎ ToldStops profile (byte_told profile place) input output f

-- that a file lacks Tracks is its fault as it is read again, plainly or with what is told, if its
-- input can begin again; of any other fault this says nothing
abbrev pub IsReadAgainTelling : Profile → Bool → Passage → Fault → Type 0
IsReadAgainTelling profile begins p f =
    IsReadAgain profile begins p f
    ⊎ ((f ≡ of_avi file_fault.NoTracks) × Known p.old p.new (EndsTelling file_fault.NoTracks))

-- a fault that may be told is an answer only if a reading that tells is refused with it; of any
-- other fault this says nothing
abbrev pub IsTried : Passage → Fault → Type 0
IsTried p f =
    is_told f ≡ true → (g : FileFault) × (f ≡ of_avi g) × Known p.old p.new (EndsTelling g)

-- Opening a file: what is known then of its head and its configuration, or why it is refused.
use Rattle.std.specs.Prelude.{◌≡◌, ◌⊎◌, ℕ, Bool, true, false, List, Option, Ok, ⊤}
use Rattle.ffv1_wire.specs.Failures.{one_more}
use Rattle.ffv1_wire.specs.Passage.{Passage}
use Rattle.ffv1_record.specs.Reading.{IsRefused, ReachesSets}
use Rattle.ffv1_record.specs.declared.fault.RecordFault.{RecordFault}
use Rattle.ffv1_files.specs.Places.{Place}
use Rattle.ffv1_files.specs.Again.{AgainFails, AgainWants}
use Rattle.ffv1_files.specs.Files.{once_read, open_read}
use Rattle.ffv1_files.specs.declared.container.Scope.TheVariants.{Whole}
use Rattle.ffv1_reads.specs.Head.{Head}
use Rattle.ffv1_reads.specs.Reads.{Kept}
use Rattle.ffv1_files.specs.Answers.{ReadFails, WantsMore}
use Rattle.ffv1_files.specs.Endings.{opening_endings}
use Rattle.ffv1_reads.specs.Known.{Known}
use Rattle.ffv1_video.specs.declared.profile.Profile.{Profile}
use Rattle.ffv1_video.specs.Profiles.{greatest_depth, record_profile, scope_in}
use Rattle.ffv1_video.specs.declared.fault.Fault.{Fault}
use Rattle.ffv1_reads.specs.declared.fault.FileFault.TheVariants as file_fault
use Rattle.ffv1_video.specs.declared.fault.Fault.TheVariants as fault
use Rattle.ffv1_video.specs.Faults.{Cause, cause_of, is_record_fault}
use Rattle.ffv1_video.specs.Faults.Cause.{Reading, Writing, Memory, Content}
use Rattle.ffv1_unpack.specs.Stream.{IsStream, Stream}
use Rattle.ffv1_unpack.specs.Play.{FaultsRead, LacksStream}

-- if the text is known, it begins with this head, and its frames come from this place
abbrev pub OpensKnown : Profile → Option (List ℕ) → Option (List ℕ) → Head → Place → Type 0
OpensKnown profile old new head place = Known old new (λ file rest.
    open_read (scope_in profile) file ≡ Ok ((head, place), rest))

-- the record of a head has no fault
abbrev pub HasSoundRecord : Profile → Head → Type 0
HasSoundRecord profile head = (r : RecordFault) → IsRefused (record_profile profile)
    (greatest_depth profile) head.config_record head.width head.height r → ⊥

-- if the text is known, it begins with a head whose record has no fault: memory is taken for its
-- sets, from the first one on
pub record OpensRecord (profile : Profile) (old new : Option (List ℕ)) : Type 0 where
  pub head : Head
  pub place : Place
  pub known : OpensKnown profile old new head place
  pub reaches : ReachesSets (record_profile profile) (greatest_depth profile) head.config_record
  pub sound : HasSoundRecord profile head

-- or with one whose record is accepted: the decoder, and the lines of the stream, take memory
pub record OpensAccepted (profile : Profile) (old new : Option (List ℕ)) : Type 0 where
  pub stream : Stream
  pub is : IsStream profile stream
  pub place : Place
  pub known : OpensKnown profile old new stream.head place

-- bytes of the file are kept, of which more were wanted; or so it was when it was read again, since
-- its Tracks stand after its first Cluster
abbrev pub OpeningKeeps : Profile → List ℕ → List ℕ → Type 0
OpeningKeeps profile file rest =
    WantsMore (once_read (scope_in profile)) Kept file rest
    ⊎ ((scope_in profile ≡ Whole) × AgainWants Kept file rest)

-- what memory was refused for: such bytes; the sets of its record; or what comes once that is
-- accepted
abbrev pub OpeningLacks : Profile → Option (List ℕ) → Option (List ℕ) → Type 0
OpeningLacks profile old new =
    Known old new (OpeningKeeps profile)
    ⊎ OpensRecord profile old new ⊎ OpensAccepted profile old new

-- if a read failed, or one when it was read again
abbrev pub OpeningWants : Profile → Option (List ℕ) → Option (List ℕ) → Type 0
OpeningWants profile old new = Known old new (λ file rest.
    ReadFails (opening_endings (scope_in profile)) (once_read (scope_in profile)) file rest
    ⊎ ((scope_in profile ≡ Whole) × AgainFails file rest))

-- why it was not opened, by the cause: a read failed, which was counted; memory was refused; or the
-- file has this fault
abbrev pub LacksOpeningBy : Profile → Passage → Fault → Cause → Type 0
LacksOpeningBy profile p f Reading =
    (p.after ≡ one_more p.before) × OpeningWants profile p.old p.new
LacksOpeningBy profile p f Writing = ⊥
LacksOpeningBy profile p f Memory = (p.after ≡ p.before) × OpeningLacks profile p.old p.new
LacksOpeningBy profile p f Content = (p.after ≡ p.before) × LacksStream profile p.old p.new f

abbrev pub LacksOpening : Profile → Passage → Fault → Type 0
LacksOpening profile p f = LacksOpeningBy profile p f (cause_of f)

-- that a file lacks Tracks is, if its input can begin again, its fault as it is read again, and not
-- that of one reading alone; of any other fault this says nothing
abbrev pub IsReadAgain : Profile → Bool → Passage → Fault → Type 0
IsReadAgain profile begins p (fault.File file_fault.NoTracks) = begins ≡ true → Known p.old p.new
    (λ file rest.
    FaultsRead (open_read (scope_in profile)) file rest (fault.File file_fault.NoTracks))
IsReadAgain profile begins p f = ⊤

-- the faults that opening has, whatever the file: those of its chunks before the first frame, and
-- those of its record
abbrev pub is_opening_fault : Fault → Bool
is_opening_fault fault.OutOfMemory = true
is_opening_fault fault.Read = true
is_opening_fault (fault.Record f) = is_record_fault f
is_opening_fault (fault.File file_fault.NotAvi) = true
is_opening_fault (fault.File file_fault.NoFfv1) = true
is_opening_fault (fault.File file_fault.Truncated) = true
is_opening_fault (fault.File file_fault.ChunkTooLong) = true
is_opening_fault f = false

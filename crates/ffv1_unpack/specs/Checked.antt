-- Checking a file, or a range of its frames: the text of all that is played, and a line after that.
-- Why it is refused is said once for commands, by what is played and what text there is.
use Rattle.std.specs.Prelude.{◌≡◌, ◌⊎◌, ℕ, Bool, List, [], ◌++◌, length, Option, None}
use Rattle.ffv1_range.specs.Counts.{saturated}
use Rattle.ffv1_wire.specs.Failures.{one_more}
use Rattle.ffv1_wire.specs.Passage.{Passage}
use Rattle.ffv1_record.specs.Accepted.{Accepted}
use Rattle.ffv1_record.specs.Configuration.{Configuration}
use Rattle.ffv1_reads.specs.Head.{Head}
use Rattle.ffv1_files.specs.Places.{Place}
use Rattle.ffv1_files.specs.declared.notes.Notes.{Notes}
use Rattle.ffv1_words.specs.declared.order.FrameRange.{FrameRange}
use Rattle.ffv1_video.specs.declared.profile.Profile.{Profile}
use Rattle.ffv1_video.specs.declared.fault.Fault.{Fault}
use Rattle.ffv1_video.specs.declared.fault.Fault.TheVariants as fault
use Rattle.ffv1_video.specs.Faults.{Cause, cause_of}
use Rattle.ffv1_video.specs.Faults.Cause.{Reading, Writing, Memory, Content}
use Rattle.ffv1_unpack.specs.Located.{LocatedFault, WritesLocated}
use Rattle.ffv1_video.specs.Profiles.{byte_told}
use Rattle.ffv1_unpack.specs.Opens.{LacksOpening}
use Rattle.ffv1_video.specs.Output.{WritesUpTo}
use Rattle.ffv1_unpack.specs.Plays.{FileThen, GoesFrom, GoesThen, NextBehind, WritesText}
use Rattle.ffv1_unpack.specs.Ranges.{PassStops, RangeThen, number_in}
use Rattle.ffv1_video.specs.Profiles.{scope_in}
use Rattle.ffv1_unpack.specs.Stream.{IsStream, Stream}
use Rattle.ffv1_video.specs.Output.{Silent}

module _ {X : Type 0} (Is : Accepted → X → Type 0) (payload : X → List ℕ)
    (text : Configuration → List X → List ℕ) (last : List X → List ℕ)
    (Held : Head → List (List ℕ) → (Place → List ℕ → List ℕ → Type 0) → List ℕ → List ℕ → Type 0)
    (most : Option ℕ) (number : ℕ → ℕ) (profile : Profile) (place : Bool)
    (input output : Passage) where
  -- all of at most so many were played, by how a file with this head has payloads
  pub record AllOver (stream : Stream) (xs : List X) : Type 0 where
    pub is : IsStream profile stream
    pub notes : Notes
    pub goes : GoesThen (Is stream.accepted) payload (Held stream.head)
        (text stream.accepted.configuration) input output xs (NextBehind notes most (length xs))
    pub kept : input.after ≡ input.before

  -- the line after it was not written whole
  pub record LastFails : Type 0 where
    pub stream : Stream
    pub xs : List X
    pub over : AllOver stream xs
    pub written : output.after ≡ one_more output.before
    pub writes : WritesUpTo output.old output.new
        (length (text stream.accepted.configuration xs))
        (text stream.accepted.configuration xs ++ last xs)

  -- memory for it was refused
  pub record LastLacks : Type 0 where
    pub stream : Stream
    pub xs : List X
    pub over : AllOver stream xs
    pub wrote : WritesText (Is stream.accepted) payload (Held stream.head)
        (text stream.accepted.configuration) input output xs

  -- there is no frame, and nothing was written
  pub record NoneOver : Type 0 where
    pub stream : Stream
    pub over : AllOver stream []
    pub nothing : Silent output

  -- why there is no such line, by the cause
  abbrev pub LastStopsFrom : Fault → Cause → Type 0
  LastStopsFrom f Writing = LastFails
  LastStopsFrom f Reading = ⊥
  LastStopsFrom f Memory = LastLacks
  LastStopsFrom f Content = (f ≡ fault.NoFrames) × NoneOver

  -- why no further frame was played
  pub record CheckGoes (f : Fault) (why : Cause) : Type 0 where
    pub stream : Stream
    pub is : IsStream profile stream
    pub goes : GoesFrom (Is stream.accepted) payload (Held stream.head)
        (text stream.accepted.configuration) input output number
        (LocatedFault (scope_in profile) input) (byte_told profile place) f why

-- ---- all of a file

module _ {X : Type 0} (Is : Accepted → X → Type 0) (payload : X → List ℕ)
    (text : Configuration → List X → List ℕ) (last : List X → List ℕ) (profile : Profile)
    (place : Bool) (input output : Passage) where
  abbrev pub LastStopsBy : Fault → Cause → Type 0
  LastStopsBy = LastStopsFrom Is payload text last (FileThen profile) None saturated profile place
      input output

  -- why it is refused: the file was not opened; or it has no further frame that is played; or the
  -- line after all frames is not there
  abbrev pub CheckedStops : Fault → Type 0
  CheckedStops f =
      (WritesLocated (LocatedFault (scope_in profile) input) (byte_told profile place) 0 [] f output
      × LacksOpening profile input f)
      ⊎ CheckGoes Is payload text last (FileThen profile) None saturated profile place input output
      f (cause_of f)
      ⊎ LastStopsBy f (cause_of f)

-- ---- the frames of a range

-- why none of them is read, if the line of where the file is refused is written: it was not opened;
-- or it has fewer frames than come before the range
abbrev pub LacksRange : Profile → Bool → ℕ → Passage → Passage → Fault → Type 0
LacksRange profile byte first input output f =
    (WritesLocated (LocatedFault (scope_in profile) input) byte 0 [] f output
    × LacksOpening profile input f)
    ⊎ ((passed : ℕ)
    × WritesLocated (LocatedFault (scope_in profile) input) byte passed [] f output
    × PassStops profile first input passed f)

module _ {X : Type 0} (Is : Accepted → X → Type 0) (payload : X → List ℕ)
    (text : Configuration → List X → List ℕ) (last : List X → List ℕ) (profile : Profile)
    (place : Bool) (range : FrameRange) (input output : Passage) where
  -- why they are refused: none is read; or there is no further one that is played; or the line
  -- after them is not there
  abbrev pub CheckedRangeStops : Fault → Type 0
  CheckedRangeStops f =
      LacksRange profile (byte_told profile place) range.first input output f
      ⊎ CheckGoes Is payload text last (RangeThen profile range.first) range.count
      (number_in range) profile place input output f (cause_of f)
      ⊎ LastStopsFrom Is payload text last (RangeThen profile range.first) range.count
      (number_in range) profile place input output f (cause_of f)

-- Playing some frames of a file that come one after the other: those before them are read and not
-- decoded, and those after them are not read.
use Rattle.std.specs.Prelude.{◌≡◌, ◌⊎◌, ℕ, ◌+◌, ◌<◌, List, [], ◌++◌, length, None, true}
use Rattle.std.specs.Io.KnownBytes.{Appends}
use Rattle.ffv1_range.specs.Counts.{saturated}
use Rattle.ffv1_wire.specs.Failures.{one_more}
use Rattle.ffv1_wire.specs.Passage.{Passage}
use Rattle.ffv1_files.specs.Places.{Place}
use Rattle.ffv1_files.specs.declared.notes.Notes.{Notes}
use Rattle.ffv1_reads.specs.Head.{Head}
use Rattle.ffv1_reads.specs.Known.{Known}
use Rattle.ffv1_words.specs.declared.order.FrameRange.{FrameRange}
use Rattle.ffv1_video.specs.declared.profile.Profile.{Profile}
use Rattle.ffv1_video.specs.declared.fault.Fault.{Fault}
use Rattle.ffv1_video.specs.declared.fault.Fault.TheVariants as fault
use Rattle.ffv1_video.specs.Faults.{Cause, cause_of}
use Rattle.ffv1_video.specs.Faults.Cause.{Reading, Writing, Memory, Content}
use Rattle.ffv1_video.specs.Output.{Silent}
use Rattle.ffv1_unpack.specs.Behind.{NotedIn}
use Rattle.ffv1_unpack.specs.Opens.{LacksOpening}
use Rattle.ffv1_unpack.specs.Play.{Played}
use Rattle.ffv1_unpack.specs.Plays.{AtMost, FileThen, FramesThen, NextBehind, NextHasFault}
use Rattle.ffv1_unpack.specs.Plays.{NextIsPayload, NextOver, NextPayloadLacks, NextReadFails}
use Rattle.ffv1_unpack.specs.Plays.{NotedAfter}
use Rattle.ffv1_unpack.specs.Plays.{StreamGoes, has_more}
use Rattle.ffv1_unpack.specs.Stream.{Frame, IsStream, Stream, bytes_or, carried_after, last_bytes}
use Rattle.ffv1_unpack.specs.Stream.{payloads, shown_by}

-- all frames
abbrev pub all_frames : FrameRange
all_frames = record { first = 0; count = None }

-- the number of a frame of a range, by how many of the range come before it
abbrev pub number_in : FrameRange → ℕ → ℕ
number_in range n = saturated (range.first + n)

-- a file has this head, then so many payloads, then these; and then comes a position where this
-- holds of what is left before and after
abbrev pub RangeThen : Profile → ℕ → Head → List (List ℕ) →
    (Place → List ℕ → List ℕ → Type 0) → List ℕ → List ℕ → Type 0
RangeThen profile first head held Next file rest =
    (before : List (List ℕ)) × (length before ≡ first)
    × FileThen profile head (before ++ held) Next file rest

-- a file has this head, then so many payloads, of which the last one that has bytes is carried
-- over; then come payloads that show these, and then a position where this holds of what is left
-- before and after
abbrev pub PartThen : Profile → ℕ → List ℕ → Head → List (List ℕ) →
    (Place → List ℕ → List ℕ → Type 0) → List ℕ → List ℕ → Type 0
PartThen profile first carried head held Next file rest =
    (before : List (List ℕ)) × (length before ≡ first) × (carried ≡ last_bytes before)
    × (own : List (List ℕ)) × (held ≡ shown_by carried own)
    × FileThen profile head (before ++ own) Next file rest

-- after payloads that show these comes one that shows this
abbrev pub NextShows : List ℕ → List (List ℕ) → List ℕ → Place → List ℕ → List ℕ → Type 0
NextShows carried before payload to at rest =
    (own : List ℕ) × (payload ≡ bytes_or own (carried_after carried before))
    × NextIsPayload own to at rest

-- ---- a range that is not reached

module _ (profile : Profile) (first : ℕ) (input : Passage) (passed : ℕ) where
  -- the file has so many frames, fewer than come before the range; and then this stands
  pub record PassedThen (Next : Place → List ℕ → List ℕ → Type 0) : Type 0 where
    pub stream : Stream
    pub is : IsStream profile stream
    pub before : List (List ℕ)
    pub counted : length before ≡ passed
    pub few : passed < first
    pub has : Known input.old input.new (FileThen profile stream.head before Next)

  -- by the cause: a read of the next frame failed, which was counted; memory was refused for its
  -- payload; the file has this fault, or no further frame
  abbrev pub PassStopsBy : Fault → Cause → Type 0
  PassStopsBy f Reading = (input.after ≡ one_more input.before) × PassedThen NextReadFails
  PassStopsBy f Writing = ⊥
  PassStopsBy f Memory = (input.after ≡ input.before) × PassedThen NextPayloadLacks
  PassStopsBy f Content = (input.after ≡ input.before)
      × (PassedThen (NextHasFault f)
      ⊎ ((f ≡ fault.NoFrames) × (notes : Notes) × PassedThen (NextOver notes)))

  abbrev pub PassStops : Fault → Type 0
  PassStops f = PassStopsBy f (cause_of f)

-- ---- by what text the frames of a stream have

module _ (profile : Profile) (range : FrameRange) (text : Stream → List Frame → List ℕ)
    (input output : Passage) where
  -- the frames of the range, at least one, were decoded, and their text was written; if there are
  -- as many as it names, nothing after them was read; else this is noted of the end, and it is what
  -- is noted of the bytes of the file
  pub record PlaysRange (notes : Notes) : Type 0 where
    pub stream : Stream
    pub frames : List Frame
    pub some : 0 < length frames
    pub few : AtMost range.count (length frames)
    pub played : Played profile stream frames
    pub reads : Known input.old input.new (RangeThen profile range.first stream.head
        (payloads frames) (NextBehind notes range.count (length frames)))
    pub noted : NotedAfter notes range.count (length frames)
    pub of_file : has_more range.count (length frames) ≡ true → NotedIn profile input notes
    pub kept : input.after ≡ input.before
    pub written : output.after ≡ output.before
    pub writes : Appends output.old output.new (text stream frames)

  -- there is no frame of the range
  pub record RangeNone : Type 0 where
    pub stream : Stream
    pub is : IsStream profile stream
    pub notes : Notes
    pub none : FramesThen (RangeThen profile range.first stream.head) stream.accepted
        (text stream) input output [] (NextBehind notes range.count 0)
    pub kept : input.after ≡ input.before

  -- why it is refused: the file was not opened, or the range was not reached, and nothing was
  -- written; or no further text is; or there is no frame
  abbrev pub RangeStops : Fault → Type 0
  RangeStops f =
      (Silent output × (LacksOpening profile input f
      ⊎ ((passed : ℕ) × PassStops profile range.first input passed f)))
      ⊎ StreamGoes profile text input output (RangeThen profile range.first) f (cause_of f)
      ⊎ ((f ≡ fault.NoFrames) × RangeNone)

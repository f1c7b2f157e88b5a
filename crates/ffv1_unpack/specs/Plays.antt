-- Playing a file: reading and decoding its frames one after the other, and writing text of them at
-- once. How far that goes, and why it goes no further, is said once for commands, by what is
-- played, how a file has payloads and what text there is.
use Rattle.std.specs.Prelude.{◌≡◌, ◌⊎◌, ℕ, ◌<◌, ◌≤◌, Bool, true, false, List, [], length, map, Some}
use Rattle.std.specs.Prelude.{None, Ok, Option, nat_lt, ⊤}
use Rattle.std.specs.Io.KnownBytes.{Appends}
use Rattle.ffv1_range.specs.Counts.{saturated}
use Rattle.ffv1_wire.specs.Failures.{one_more}
use Rattle.ffv1_wire.specs.Passage.{Passage}
use Rattle.ffv1_record.specs.Accepted.{Accepted}
use Rattle.ffv1_files.specs.Answers.{ReadFails, WantsMore}
use Rattle.ffv1_files.specs.Files.{frame_read, open_read}
use Rattle.ffv1_files.specs.Endings.{endings_from}
use Rattle.ffv1_files.specs.Behind.{any_value}
use Rattle.ffv1_files.specs.Places.{Place}
use Rattle.ffv1_files.specs.declared.notes.Notes.{Notes}
use Rattle.ffv1_reads.specs.Head.{Head}
use Rattle.ffv1_reads.specs.Known.{Known}
use Rattle.ffv1_reads.specs.Reads.{Kept}
use Rattle.ffv1_video.specs.declared.profile.Profile.{Profile}
use Rattle.ffv1_video.specs.declared.fault.Fault.{Fault}
use Rattle.ffv1_video.specs.Faults.{Cause, cause_of}
use Rattle.ffv1_video.specs.Faults.Cause.{Reading, Writing, Memory, Content}
use Rattle.ffv1_unpack.specs.Located.{WritesLocated}
use Rattle.ffv1_unpack.specs.Opens.{LacksOpening}
use Rattle.ffv1_files.specs.Noted.{no_notes}
use Rattle.ffv1_unpack.specs.Behind.{EndsAt, EndsThen, IsNoted, Looks, NotedIn}
use Rattle.ffv1_unpack.specs.Play.{End, EndsWith, FaultsRead, IsFaulty, Played}
use Rattle.ffv1_unpack.specs.Play.End.{File, Payload, Over}
use Rattle.ffv1_video.specs.Output.{WritesUpTo}
use Rattle.ffv1_unpack.specs.Play.{but_last}
use Rattle.ffv1_video.specs.Profiles.{scope_in}
use Rattle.ffv1_unpack.specs.Stream.{AreAll, Frame, HoldsPayloads, IsFrame, IsStream}
use Rattle.ffv1_unpack.specs.Stream.{ReadsFrames, Stream, frame_payload, payloads}
use Rattle.ffv1_video.specs.Output.{Silent}

-- ---- payloads, and what comes after them

-- from this place of a file this text begins with these payloads; and then comes a position where
-- this stands of what is left before and after
abbrev pub HasThen : Place → List (List ℕ) → (Place → List ℕ → List ℕ → Type 0) → List ℕ →
    List ℕ → Type 0
HasThen from held Next text rest =
    (to : Place) × (at : List ℕ) × ReadsFrames from text held to at × Next to at rest

-- a file has this head and these payloads; and then comes a position where this holds of what is
-- left before and after
abbrev pub FileThen : Profile → Head → List (List ℕ) → (Place → List ℕ → List ℕ → Type 0) →
    List ℕ → List ℕ → Type 0
FileThen profile head held Next file rest =
    (from : Place) × (behind : List ℕ)
    × (open_read (scope_in profile) file ≡ Ok ((head, from), behind))
    × HasThen from held Next behind rest

-- there is no further frame; the next one has this fault of the file; a read of it failed
abbrev pub FramesEnd : Place → List ℕ → List ℕ → Type 0
FramesEnd to at rest = frame_read to at ≡ Ok (None, rest)

abbrev pub FrameHasFault : Fault → Place → List ℕ → List ℕ → Type 0
FrameHasFault f to at rest = FaultsRead (frame_read to) at rest f

abbrev pub FrameReadFails : Place → List ℕ → List ℕ → Type 0
FrameReadFails to at rest = ReadFails (endings_from to) (frame_read to) at rest

-- what comes after the end has this fault; a read of it failed
abbrev pub BehindHasFault : Fault → Looks
BehindHasFault f reading text rest = FaultsRead reading text rest f

abbrev pub BehindReadFails : Looks
BehindReadFails = ReadFails any_value

-- nothing more was read; there is no further frame, and this is noted of the end; the file has this
-- fault, in the next frame or after the end; a read of either failed; memory was refused for the
-- next payload, of which more bytes were wanted; it is this one
abbrev pub NextStays : Place → List ℕ → List ℕ → Type 0
NextStays to at rest = rest ≡ at

abbrev pub NextOver : Notes → Place → List ℕ → List ℕ → Type 0
NextOver notes = EndsThen (IsNoted notes)

abbrev pub NextHasFault : Fault → Place → List ℕ → List ℕ → Type 0
NextHasFault f to at rest =
    FrameHasFault f to at rest ⊎ EndsThen (BehindHasFault f) to at rest

abbrev pub NextReadFails : Place → List ℕ → List ℕ → Type 0
NextReadFails to at rest = FrameReadFails to at rest ⊎ EndsThen BehindReadFails to at rest

abbrev pub NextPayloadLacks : Place → List ℕ → List ℕ → Type 0
NextPayloadLacks to at rest = WantsMore (frame_read to) Kept at rest

abbrev pub NextIsPayload : List ℕ → Place → List ℕ → List ℕ → Type 0
NextIsPayload payload to at rest =
    (after : Place) × (frame_read to at ≡ Ok (Some (payload, after), rest))

-- it ends so
abbrev pub NextEnds : End → Place → List ℕ → List ℕ → Type 0
NextEnds (File f) = NextHasFault f
NextEnds (Payload payload f tally) = NextIsPayload payload
NextEnds (Over notes) = NextOver notes

-- ---- at most so many

-- whether one more may come after so many
abbrev pub has_more : Option ℕ → ℕ → Bool
has_more None n = true
has_more (Some most) n = nat_lt n most

-- so many are not too many
abbrev pub AtMost : Option ℕ → ℕ → Type 0
AtMost None n = ⊤
AtMost (Some most) n = n ≤ most

-- after so many comes this: if one more may come, there is none, and this is noted of the end; else
-- nothing more was read
abbrev pub NextBehindBy : Notes → Bool → Place → List ℕ → List ℕ → Type 0
NextBehindBy notes true = NextOver notes
NextBehindBy notes false = NextStays

abbrev pub NextBehind : Notes → Option ℕ → ℕ → Place → List ℕ → List ℕ → Type 0
NextBehind notes most n = NextBehindBy notes (has_more most n)

-- nothing is noted of an end that was not read
abbrev pub NotedAfter : Notes → Option ℕ → ℕ → Type 0
NotedAfter notes most n = has_more most n ≡ false → notes ≡ no_notes

-- ---- what is played, frames or payloads that are judged: by what each is, and its payload

module _ {X : Type 0} (Is : X → Type 0) (payload : X → List ℕ) where
  -- memory was refused for the next payload, or for the text of one that comes next
  abbrev pub NextLacks : Place → List ℕ → List ℕ → Type 0
  NextLacks to at rest =
      NextPayloadLacks to at rest ⊎ ((x : X) × Is x × NextIsPayload (payload x) to at rest)

-- all of them, by how a file has payloads, and what text they have
module _ {X : Type 0} (Is : X → Type 0) (payload : X → List ℕ)
    (Has : List (List ℕ) → (Place → List ℕ → List ℕ → Type 0) → List ℕ → List ℕ → Type 0)
    (text : List X → List ℕ) (input output : Passage) where
  -- the file has these, and then this stands
  pub record GoesThen (xs : List X) (Next : Place → List ℕ → List ℕ → Type 0) : Type 0 where
    pub are : AreAll Is xs
    pub has : Known input.old input.new (Has (map payload xs) Next)

  -- the text of these was written
  pub record WritesText (xs : List X) : Type 0 where
    pub written : output.after ≡ output.before
    pub writes : Appends output.old output.new (text xs)

  pub record PlaysThen (xs : List X) (Next : Place → List ℕ → List ℕ → Type 0) : Type 0 where
    pub goes : GoesThen xs Next
    pub wrote : WritesText xs

  -- the text of the last one was not written whole
  pub record TextFails (xs : List X) : Type 0 where
    pub goes : GoesThen xs NextStays
    pub kept : input.after ≡ input.before
    pub written : output.after ≡ one_more output.before
    pub writes : WritesUpTo output.old output.new (length (text (but_last xs))) (text xs)

  -- after these the file is refused at that offset, and the line of that was written, with the
  -- number of the one that would come next, by how many came before
  abbrev pub RefusedFrom : (ℕ → ℕ) → (Fault → ℕ → Type 0) → Bool → List X → Fault → Type 0
  RefusedFrom number Stops byte xs f =
      WritesLocated Stops byte (number (length xs)) (text xs) f output

  -- why it goes no further, if that line is written, by the cause: a write failed, which was
  -- counted; a read of the next one failed, which was counted; memory was refused; or the file has
  -- this fault
  abbrev pub GoesFrom : (ℕ → ℕ) → (Fault → ℕ → Type 0) → Bool → Fault → Cause → Type 0
  GoesFrom number Stops byte f Writing = (xs : List X) × TextFails xs
  GoesFrom number Stops byte f Reading =
      (xs : List X) × RefusedFrom number Stops byte xs f × (input.after ≡ one_more input.before)
      × GoesThen xs NextReadFails
  GoesFrom number Stops byte f Memory =
      (xs : List X) × (input.after ≡ input.before) × PlaysThen xs (NextLacks Is payload)
  GoesFrom number Stops byte f Content =
      (xs : List X) × RefusedFrom number Stops byte xs f × (input.after ≡ input.before)
      × GoesThen xs (NextHasFault f)

  -- the same where the first one has the number 0
  abbrev pub RefusedAfter : (Fault → ℕ → Type 0) → Bool → List X → Fault → Type 0
  RefusedAfter = RefusedFrom saturated

  abbrev pub GoesBy : (Fault → ℕ → Type 0) → Bool → Fault → Cause → Type 0
  GoesBy = GoesFrom saturated

-- frames, if no such line is written
module _ (Has : List (List ℕ) → (Place → List ℕ → List ℕ → Type 0) → List ℕ → List ℕ → Type 0)
    (a : Accepted) (text : List Frame → List ℕ) (input output : Passage) where
  abbrev pub FramesThen : List Frame → (Place → List ℕ → List ℕ → Type 0) → Type 0
  FramesThen frames Next =
      PlaysThen (IsFrame a) frame_payload Has text input output frames Next

  -- the file or the payload after them has this fault, or there are none
  pub record PlayEnds (f : Fault) : Type 0 where
    pub frames : List Frame
    pub end : End
    pub plays : FramesThen frames (NextEnds end)
    pub faulty : IsFaulty a end
    pub is : EndsWith frames end f

  -- why no further text is written, by the cause: a write failed, which was counted; a read of the
  -- next frame failed, which was counted; memory was refused, after them or before the first one
  -- for what keeps a picture; or the file ends so
  abbrev pub PlayStopsBy : Fault → Cause → Type 0
  PlayStopsBy f Writing =
      (frames : List Frame) × TextFails (IsFrame a) frame_payload Has text input output frames
  PlayStopsBy f Reading =
      (input.after ≡ one_more input.before)
      × (frames : List Frame) × FramesThen frames NextReadFails
  PlayStopsBy f Memory =
      (input.after ≡ input.before)
      × (((frames : List Frame) × FramesThen frames (NextLacks (IsFrame a) frame_payload))
      ⊎ FramesThen [] NextStays)
  PlayStopsBy f Content = (input.after ≡ input.before) × PlayEnds f

  abbrev pub PlayStops : Fault → Type 0
  PlayStops f = PlayStopsBy f (cause_of f)

-- ---- a whole file

-- a file was read to its end, with this head and these payloads; and then these notes were read of
-- what comes after it
abbrev pub HoldsNoted : Profile → Notes → Head → List (List ℕ) → List ℕ → List ℕ → Type 0
HoldsNoted profile notes head held file rest =
    (behind : List ℕ) × HoldsPayloads profile file behind head held
    × FileThen profile head held (EndsAt (IsNoted notes) behind) file rest

-- if the file is known, it was read so, with the payloads of these frames
abbrev pub ReadsFile : Profile → Notes → Option (List ℕ) → Option (List ℕ) → Stream → List Frame →
    Type 0
ReadsFile profile notes old new s frames =
    Known old new (HoldsNoted profile notes s.head (payloads frames))

-- by what text the frames of a stream have

module _ (profile : Profile) (text : Stream → List Frame → List ℕ) (input output : Passage) where
  -- all frames of the file, at least one, were decoded, their text was written, and this is noted
  -- of the end; it is what is noted of the bytes of the file
  pub record PlaysFile (notes : Notes) : Type 0 where
    pub stream : Stream
    pub frames : List Frame
    pub some : 0 < length frames
    pub played : Played profile stream frames
    pub reads : ReadsFile profile notes input.old input.new stream frames
    pub of_file : NotedIn profile input notes
    pub kept : input.after ≡ input.before
    pub written : output.after ≡ output.before
    pub writes : Appends output.old output.new (text stream frames)

  -- why no further text is written, by how a file with this head has payloads
  pub record StreamGoes
      (Held : Head → List (List ℕ) → (Place → List ℕ → List ℕ → Type 0) → List ℕ → List ℕ → Type 0)
      (f : Fault) (why : Cause) : Type 0 where
    pub stream : Stream
    pub is : IsStream profile stream
    pub stops : PlayStopsBy (Held stream.head) stream.accepted (text stream) input output f why

  -- why it is refused: it was not opened, and nothing was written; or no further text is
  abbrev pub FileStops : Fault → Type 0
  FileStops f =
      (Silent output × LacksOpening profile input f)
      ⊎ StreamGoes (FileThen profile) f (cause_of f)

-- What `show` writes, and why it is refused.
use Rattle.std.specs.Prelude.{◌≡◌, ◌⊎◌, ℕ, Bool, true, false, ◌||◌, List, ◌++◌, Option}
use Rattle.std.specs.Io.KnownBytes.{Appends}
use Rattle.ffv1_wire.specs.Failures.{one_more}
use Rattle.ffv1_wire.specs.Passage.{Passage}
use Rattle.ffv1_wire.specs.Writes.{AppendsBeginning}
use Rattle.ffv1_files.specs.Places.{Place, container_of}
use Rattle.ffv1_files.specs.declared.container.Container.{Container}
use Rattle.ffv1_files.specs.declared.notes.Notes.{Notes}
use Rattle.ffv1_reads.specs.Head.{Head}
use Rattle.ffv1_video.specs.declared.profile.Profile.{Profile}
use Rattle.ffv1_video.specs.declared.fault.Fault.{Fault}
use Rattle.ffv1_video.specs.declared.fault.Fault.TheVariants as fault
use Rattle.ffv1_unpack.specs.declared.frame_line.FrameLine.TheVariants as line
use Rattle.ffv1_files.specs.Noted.{no_notes, streams_reached}
use Rattle.ffv1_files.specs.Readers.{others_at}
use Rattle.ffv1_reads.specs.Known.{Known}
use Rattle.ffv1_unpack.specs.Behind.{NotedIn}
use Rattle.ffv1_unpack.specs.Containers.{is_profile_fault}
use Rattle.ffv1_video.specs.Faults.{Cause, cause_of}
use Rattle.ffv1_video.specs.Faults.Cause.{Writing}
use Rattle.ffv1_unpack.specs.FrameLines.{frame_lines}
use Rattle.ffv1_unpack.specs.Opens.{LacksOpeningBy, OpensKnown, is_opening_fault}
use Rattle.ffv1_unpack.specs.Play.{Played}
use Rattle.ffv1_unpack.specs.Plays.{FileThen, PlayStops, ReadsFile}
use Rattle.ffv1_unpack.specs.Stream.{Frame, IsStream, Stream}
use Rattle.ffv1_unpack.specs.StreamLines.{show_text}
use Rattle.ffv1_unpack.specs.Told.{is_telling_fault}
use Rattle.ffv1_video.specs.Output.{Silent}
use Rattle.ffv1_video.specs.Profiles.{scope_in}

-- the lines of a stream, and after them what each frame cost
abbrev pub cost_text : Container → ℕ → Stream → List Frame → List ℕ
cost_text container others s frames =
    show_text container others s ++ frame_lines line.Cost s.accepted.configuration frames

-- if the file is known, so many further streams of an AVI are counted
abbrev pub CountsStreams : Profile → Option (List ℕ) → Option (List ℕ) → Place → ℕ → Type 0
CountsStreams profile old rest place counted =
    Known old rest (λ file left. streams_reached (scope_in profile) place counted file)

-- if the file is known, its frames come from this place, in its container, beside so many streams
pub record ComesFrom (profile : Profile) (old : Option (List ℕ)) (head : Head) : Type 0 where
  pub place : Place
  pub rest : Option (List ℕ)
  pub opens : OpensKnown profile old rest head place
  pub counted : ℕ
  pub counts : CountsStreams profile old rest place counted

module _ (profile : Profile) (input output : Passage) where
  -- the file begins with the head of a stream, and the lines of that were written
  pub record ShowsStream : Type 0 where
    pub stream : Stream
    pub is : IsStream profile stream
    pub place : Place
    pub opens : OpensKnown profile input.old input.new stream.head place
    pub counted : ℕ
    pub counts : CountsStreams profile input.old input.new place counted
    pub kept : input.after ≡ input.before
    pub written : output.after ≡ output.before
    pub writes : Appends output.old output.new
        (show_text (container_of place) (others_at place counted) stream)

  -- all frames of the file were decoded, and what each cost was written after those lines; this is
  -- noted of the end, and it is what is noted of the bytes of the file
  pub record ShowsCosts (notes : Notes) : Type 0 where
    pub stream : Stream
    pub frames : List Frame
    pub played : Played profile stream frames
    pub reads : ReadsFile profile notes input.old input.new stream frames
    pub of_file : NotedIn profile input notes
    pub kept : input.after ≡ input.before
    pub written : output.after ≡ output.before
    pub comes : ComesFrom profile input.old stream.head
    pub writes : Appends output.old output.new
        (cost_text (container_of comes.place) (others_at comes.place comes.counted) stream
        frames)

  -- by whether the costs are asked for, and by what is noted of the end: nothing, if it is not read
  abbrev pub ShowDone : Bool → Notes → Type 0
  ShowDone false notes = ShowsStream × (notes ≡ no_notes)
  ShowDone true notes = ShowsCosts notes

  -- the lines of the stream were not written whole
  pub record StreamFails : Type 0 where
    pub stream : Stream
    pub is : IsStream profile stream
    pub place : Place
    pub opens : OpensKnown profile input.old input.new stream.head place
    pub counted : ℕ
    pub counts : CountsStreams profile input.old input.new place counted
    pub kept : input.after ≡ input.before
    pub written : output.after ≡ one_more output.before
    pub writes : AppendsBeginning output.old output.new
        (show_text (container_of place) (others_at place counted) stream)

  -- why the lines of the stream were not written: a write failed, which was counted; or the file
  -- was not opened, or memory for them was refused, and nothing was written
  abbrev pub StreamStopsBy : Fault → Cause → Type 0
  StreamStopsBy f Writing = StreamFails
  StreamStopsBy f why = Silent output × LacksOpeningBy profile input f why

  -- why what the frames cost is not written further, after the lines of the stream; a file without
  -- frames is no fault
  pub record CostStops (f : Fault) : Type 0 where
    pub stream : Stream
    pub is : IsStream profile stream
    pub comes : ComesFrom profile input.old stream.head
    pub some : f ≡ fault.NoFrames → ⊥
    pub stops : PlayStops (FileThen profile stream.head) stream.accepted
        (cost_text (container_of comes.place) (others_at comes.place comes.counted) stream)
        input output f

  -- why it is refused, by whether the costs are asked for
  abbrev pub ShowStops : Bool → Fault → Type 0
  ShowStops false f = StreamStopsBy f (cause_of f)
  ShowStops true f = StreamStopsBy f (cause_of f) ⊎ CostStops f

abbrev pub is_write : Fault → Bool
is_write fault.Write = true
is_write f = false

-- the faults that it has, by whether the costs are asked for
abbrev pub is_show_fault : Bool → Fault → Bool
is_show_fault false f = is_opening_fault f || is_write f
is_show_fault true f = is_opening_fault f || is_telling_fault f

-- with those of the containers that the profile reads
abbrev pub IsShowFault : Profile → Bool → Fault → Type 0
IsShowFault profile cost f =
    (is_show_fault cost f ≡ true) ⊎ (is_profile_fault profile f ≡ true)

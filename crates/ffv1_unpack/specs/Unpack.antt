-- What `unpack` writes, and why it is refused.
use Rattle.std.specs.Prelude.{◌≡◌, ◌⊎◌, ℕ, ◌<◌, true, List, [], length, Option, None}
use Rattle.std.specs.Io.KnownBytes.{Appends}
use Rattle.ffv1_range.specs.Counts.{saturated}
use Rattle.ffv1_wire.specs.Passage.{Passage}
use Rattle.ffv1_reads.specs.Head.{Head}
use Rattle.ffv1_reads.specs.Known.{Known}
use Rattle.ffv1_files.specs.Places.{Place}
use Rattle.ffv1_files.specs.declared.notes.Notes.{Notes}
use Rattle.ffv1_words.specs.declared.order.FrameRange.{FrameRange}
use Rattle.ffv1_video.specs.declared.profile.Profile.{Profile}
use Rattle.ffv1_video.specs.declared.fault.Fault.{Fault}
use Rattle.ffv1_video.specs.declared.fault.Fault.TheVariants as fault
use Rattle.ffv1_video.specs.Faults.{cause_of}
use Rattle.ffv1_unpack.specs.Behind.{NotedIn}
use Rattle.ffv1_unpack.specs.Containers.{is_profile_fault}
use Rattle.ffv1_unpack.specs.Opens.{LacksOpening, is_opening_fault}
use Rattle.ffv1_unpack.specs.Stream.{Frame, IsStream, Stream, payloads, shown_frames}
use Rattle.ffv1_unpack.specs.Play.{Played}
use Rattle.ffv1_unpack.specs.Plays.{AtMost, FileThen, NextBehind, NextIsPayload, NextStays}
use Rattle.ffv1_unpack.specs.Plays.{NotedAfter, ReadsFile, has_more}
use Rattle.ffv1_unpack.specs.Ranges.{NextShows, PartThen, PassStops}
use Rattle.ffv1_unpack.specs.Told.{is_telling_fault}
use Rattle.ffv1_video.specs.Output.{Silent}
use Rattle.ffv1_unpack.specs.Unpacked.{AreAlike, HasText, LacksText, shown_text}
use Rattle.ffv1_unpack.specs.Unpacking.{UnpackingStopsIn, UnpacksMost}

-- the file is opened, and its pictures have no text
pub record LacksTextIn (profile : Profile) (p : Passage) (f : Fault) : Type 0 where
  pub stream : Stream
  pub is : IsStream profile stream
  pub has : Known p.old p.new (FileThen profile stream.head [] NextStays)
  pub kept : p.after ≡ p.before
  pub lacks : LacksText stream f

-- why a file is not opened for that: as any is not, or it has no text
abbrev pub LacksUnpacking : Profile → Passage → Fault → Type 0
LacksUnpacking profile p f = LacksOpening profile p f ⊎ LacksTextIn profile p f

module _ (profile : Profile) (input output : Passage) where
  -- all frames of the file, at least one, were decoded, and the text of them was written, each of
  -- no bytes as the one before it; this is noted of the end, and it is what is noted of the bytes
  -- of the file
  pub record UnpackDone (count : ℕ) (notes : Notes) : Type 0 where
    pub stream : Stream
    pub frames : List Frame
    pub some : 0 < length frames
    pub counted : count ≡ saturated (length frames)
    pub text : HasText stream
    pub played : Played profile stream frames
    pub alike : AreAlike stream (shown_frames frames)
    pub reads : ReadsFile profile notes input.old input.new stream frames
    pub of_file : NotedIn profile input notes
    pub kept : input.after ≡ input.before
    pub written : output.after ≡ output.before
    pub writes : Appends output.old output.new (shown_text stream frames)

  module _
      (Held : Head → List (List ℕ) → (Place → List ℕ → List ℕ → Type 0) → List ℕ → List ℕ → Type 0)
    where
      -- there is no frame, by how a file with this head has payloads, and of at most so many
      pub record UnpackNone (most : Option ℕ) : Type 0 where
        pub stream : Stream
        pub is : IsStream profile stream
        pub text : HasText stream
        pub notes : Notes
        pub all : UnpacksMost (Held stream.head) stream input output notes most []

      -- why no further picture is written, by how a payload comes after those of frames
      pub record UnpackGoes (Comes : List (List ℕ) → List ℕ → Place → List ℕ → List ℕ → Type 0)
          (f : Fault) : Type 0 where
        pub stream : Stream
        pub is : IsStream profile stream
        pub text : HasText stream
        pub stops : UnpackingStopsIn (Held stream.head) stream input output Comes f (cause_of f)

  -- why it is refused: the file is not opened for that, and nothing was written; or no further
  -- picture is written; or there is none
  abbrev pub UnpackStops : Fault → Type 0
  UnpackStops f =
      (Silent output × LacksUnpacking profile input f)
      ⊎ UnpackGoes (FileThen profile) (λ before. NextIsPayload) f
      ⊎ ((f ≡ fault.NoFrames) × UnpackNone (FileThen profile) None)

-- ---- the frames of a range

module _ (profile : Profile) (range : FrameRange) (input output : Passage) where
  -- they were decoded, at least one, of which a first one of no bytes shows the last payload before
  -- that has bytes, and the text of them was written; this is noted of the end, if it was read, and
  -- it is what is noted of the bytes of the file
  pub record UnpackRangeDone (count : ℕ) (notes : Notes) : Type 0 where
    pub stream : Stream
    pub frames : List Frame
    pub some : 0 < length frames
    pub few : AtMost range.count (length frames)
    pub counted : count ≡ saturated (length frames)
    pub text : HasText stream
    pub played : Played profile stream frames
    pub alike : AreAlike stream (shown_frames frames)
    pub carried : List ℕ
    pub reads : Known input.old input.new (PartThen profile range.first carried stream.head
        (payloads frames) (NextBehind notes range.count (length frames)))
    pub noted : NotedAfter notes range.count (length frames)
    pub of_file : has_more range.count (length frames) ≡ true → NotedIn profile input notes
    pub kept : input.after ≡ input.before
    pub written : output.after ≡ output.before
    pub writes : Appends output.old output.new (shown_text stream frames)

  -- why they are refused: the file is not opened for that, or the range is not reached, and nothing
  -- was written; or no further picture is written; or there is none
  abbrev pub UnpackRangeStops : Fault → Type 0
  UnpackRangeStops f =
      (Silent output × (LacksUnpacking profile input f
      ⊎ ((passed : ℕ) × PassStops profile range.first input passed f)))
      ⊎ ((carried : List ℕ) × UnpackGoes profile input output
      (PartThen profile range.first carried) (NextShows carried) f)
      ⊎ ((f ≡ fault.NoFrames) × (carried : List ℕ)
      × UnpackNone profile input output (PartThen profile range.first carried) range.count)

-- the faults that unpacking has, whatever the file: those of opening it, of reading and decoding
-- its frames and of writing, and its own four
abbrev pub IsUnpackFault : Fault → Type 0
IsUnpackFault f =
    (is_opening_fault f ≡ true) ⊎ (is_telling_fault f ≡ true) ⊎ (f ≡ fault.NoFrames)
    ⊎ (f ≡ fault.FormatChanged) ⊎ (f ≡ fault.NoY4mName) ⊎ (f ≡ fault.NoPpm)

-- with those of the containers that the profile reads
abbrev pub IsUnpackFaultIn : Profile → Fault → Type 0
IsUnpackFaultIn profile f = IsUnpackFault f ⊎ (is_profile_fault profile f ≡ true)

-- What `stream_info` writes of a file, a group of facts after the other, and why it stops.
use Rattle.std.specs.Prelude.{◌≡◌, ◌⊎◌, ℕ, Bool, true, false, List, [], ◌∷◌, ◌++◌, length}
use Rattle.std.specs.Prelude.{Option, Some, None}
use Rattle.std.specs.Io.KnownBytes.{Appends}
use Rattle.ffv1_range.specs.Counts.{saturated}
use Rattle.ffv1_range.specs.declared.tally.Tally.{Tally}
use Rattle.ffv1_wire.specs.Failures.{one_more}
use Rattle.ffv1_wire.specs.Passage.{Passage}
use Rattle.ffv1_record.specs.Accepted.{Accepted}
use Rattle.ffv1_record.specs.Reading.{IsRefused, ReachesSets}
use Rattle.ffv1_record.specs.declared.fault.RecordFault.{RecordFault}
use Rattle.ffv1_record.specs.declared.fault.RecordFault.TheVariants as record_fault
use Rattle.ffv1_frame.specs.SliceList.{Said}
use Rattle.ffv1_frame.specs.declared.fault.FrameFault.{FrameFault}
use Rattle.ffv1_files.specs.Places.{Place}
use Rattle.ffv1_files.specs.declared.notes.Notes.{Notes}
use Rattle.ffv1_reads.specs.Head.{Head}
use Rattle.ffv1_reads.specs.Known.{Known}
use Rattle.ffv1_video.specs.Faults.{Cause, cause_of, of_codec, of_record}
use Rattle.ffv1_video.specs.Faults.Cause.{Reading, Writing, Memory, Content}
use Rattle.ffv1_video.specs.Output.{Silent, WritesUpTo}
use Rattle.ffv1_video.specs.Profiles.{greatest_depth, record_profile}
use Rattle.ffv1_video.specs.declared.fault.Fault.{Fault}
use Rattle.ffv1_video.specs.declared.fault.Fault.TheVariants as fault
use Rattle.ffv1_video.specs.declared.profile.Profile.{Profile}
use Rattle.ffv1_outline.specs.declared.facts.Form.{Form}
use Rattle.ffv1_unpack.specs.Opens.{HasSoundRecord, OpeningKeeps, OpeningWants, OpensKnown}
use Rattle.ffv1_unpack.specs.Play.{FaultsOpening}
use Rattle.ffv1_unpack.specs.Behind.{EndsThen, IsNoted, Looks}
use Rattle.ffv1_unpack.specs.Plays.{AtMost, FileThen, NextHasFault, NextIsPayload}
use Rattle.ffv1_unpack.specs.Plays.{NextPayloadLacks, NextReadFails, NextStays, has_more}
use Rattle.ffv1_unpack.specs.Show.{IsShowFault}
use Rattle.ffv1_unpack.specs.Stream.{Again, Coded, Frame, IsFrame, IsRefusedPayload, IsStream}
use Rattle.ffv1_unpack.specs.Stream.{Stream, frame_payload}
use Rattle.ffv1_info.specs.StreamFacts.{counted_facts, head_facts, picture_facts, record_facts}

-- ---- what is written

-- so much was written, and no write failed
pub record Wrote (text : List ℕ) (p : Passage) : Type 0 where
  pub written : p.after ≡ p.before
  pub writes : Appends p.old p.new text

-- after this text a group of facts was not written whole: a write failed, which was counted, or
-- memory for the group was refused, and nothing of it was written
abbrev pub GroupStops : List ℕ → List ℕ → Passage → Fault → Type 0
GroupStops text facts p f =
    ((f ≡ fault.Write) × (p.after ≡ one_more p.before)
    × WritesUpTo p.old p.new (length text) (text ++ facts))
    ⊎ ((f ≡ fault.OutOfMemory) × Wrote text p)

-- the facts of a stream: those of its file's head, and those of its record
abbrev pub stream_facts : Form → Stream → List ℕ
stream_facts form s = head_facts form s.head ++ record_facts form s.accepted.configuration

-- those of its first picture; a first frame that repeats another has none
abbrev pub said_of : Option Frame → Option Said
said_of None = None
said_of (Some (Coded f)) = Some f.said
said_of (Some Again) = None

abbrev pub first_facts : Form → Stream → Option Frame → List ℕ
first_facts form s first = picture_facts form s.accepted.configuration.width
    s.accepted.configuration.height (said_of first)

-- after a text that was written before
abbrev pub with_first : Form → Stream → List ℕ → Option Frame → List ℕ
with_first form s text first = text ++ first_facts form s first

-- and if frames are counted how many they are
abbrev pub with_count : Bool → Form → Stream → List ℕ → Option Frame → ℕ → List ℕ
with_count false form s text first n = with_first form s text first
with_count true form s text first n =
    with_first form s text first ++ counted_facts form s.head (saturated n)

-- ---- which frames are read

-- the first of these payloads is that of this frame; there are none if there is no frame
abbrev pub BeginsWith : Accepted → Option Frame → List (List ℕ) → Type 0
BeginsWith a None held = held ≡ []
BeginsWith a (Some f) held =
    IsFrame a f × (others : List (List ℕ)) × (held ≡ frame_payload f ∷ others)

-- how many are read: the first, or all of them
abbrev pub most_read : Bool → Option ℕ
most_read false = Some 1
most_read true = None

-- there is no further frame, and no fault behind the end: something is noted of it, or nothing
abbrev pub IsLookedAt : Looks
IsLookedAt reading text rest = (notes : Notes) × IsNoted notes reading text rest

abbrev pub FramesOver : Place → List ℕ → List ℕ → Type 0
FramesOver = EndsThen IsLookedAt

-- what comes after so many of at most so many: if one more may come, there is none; else nothing
-- more was read
abbrev pub EndsBehindBy : Bool → Place → List ℕ → List ℕ → Type 0
EndsBehindBy true = FramesOver
EndsBehindBy false = NextStays

abbrev pub EndsBehind : Option ℕ → ℕ → Place → List ℕ → List ℕ → Type 0
EndsBehind most n = EndsBehindBy (has_more most n)

-- by how a file has payloads
module _ (Has : List (List ℕ) → (Place → List ℕ → List ℕ → Type 0) → List ℕ → List ℕ → Type 0)
    (input : Passage) where
  -- at most so many payloads were read, and the first one was decoded, of this frame; if one more
  -- may come, there is none, else nothing more was read
  pub record ReadsMost (a : Accepted) (most : Option ℕ) (first : Option Frame) : Type 0 where
    pub held : List (List ℕ)
    pub begins : BeginsWith a first held
    pub few : AtMost most (length held)
    pub has : Known input.old input.new (Has held (EndsBehind most (length held)))
    pub kept : input.after ≡ input.before

  -- why the file is not read on after these payloads, by the cause: a read of the next frame, or
  -- behind the end, failed, which was counted; memory was refused for its payload; or the file has
  -- this fault there
  abbrev pub EndsBy : List (List ℕ) → Fault → Cause → Type 0
  EndsBy held f Reading =
      (input.after ≡ one_more input.before) × Known input.old input.new (Has held NextReadFails)
  EndsBy held f Writing = ⊥
  EndsBy held f Memory =
      (input.after ≡ input.before) × Known input.old input.new (Has held NextPayloadLacks)
  EndsBy held f Content =
      (input.after ≡ input.before) × Known input.old input.new (Has held (NextHasFault f))

  -- a decoder was refused its memory, and no frame was read
  pub record NoDecoder (f : Fault) : Type 0 where
    pub is : f ≡ fault.OutOfMemory
    pub has : Known input.old input.new (Has [] NextStays)
    pub kept : input.after ≡ input.before

  -- the first payload has its first fault
  pub record FirstFaults (a : Accepted) (f : Fault) : Type 0 where
    pub payload : List ℕ
    pub fault : FrameFault
    pub tally : Tally
    pub has : Known input.old input.new (Has [] (NextIsPayload payload))
    pub faulty : IsRefusedPayload a payload fault tally
    pub is : f ≡ of_codec fault.fault
    pub kept : input.after ≡ input.before

  -- why there is no first picture
  abbrev pub FirstStops : Accepted → Fault → Type 0
  FirstStops a f = NoDecoder f ⊎ FirstFaults a f ⊎ EndsBy [] f (cause_of f)

-- ---- the facts of frames, after a text that was written before

module _ (Has : List (List ℕ) → (Place → List ℕ → List ℕ → Type 0) → List ℕ → List ℕ → Type 0)
    (form : Form) (s : Stream) (text : List ℕ) (input output : Passage) where
  -- all facts of frames were written
  pub record FramesDone (count : Bool) : Type 0 where
    pub first : Option Frame
    pub reads : ReadsMost Has input s.accepted (most_read count) first
    pub wrote : Wrote (with_count count form s text first (length reads.held)) output

  -- those of the first picture were not
  pub record PictureStops (f : Fault) : Type 0 where
    pub first : Option Frame
    pub reads : ReadsMost Has input s.accepted (Some 1) first
    pub stops : GroupStops text (first_facts form s first) output f

  -- they were, and the frames after the first are not read to their end
  pub record CountStops (f : Fault) : Type 0 where
    pub first : Option Frame
    pub held : List (List ℕ)
    pub begins : BeginsWith s.accepted first held
    pub ends : EndsBy Has input held f (cause_of f)
    pub wrote : Wrote (with_first form s text first) output

  -- they are, and how many they are was not written whole
  pub record CountedStops (f : Fault) : Type 0 where
    pub first : Option Frame
    pub reads : ReadsMost Has input s.accepted None first
    pub stops : GroupStops (with_first form s text first)
        (counted_facts form s.head (saturated (length reads.held))) output f

  -- why they are not written to their end, by whether frames are counted
  abbrev pub FramesStop : Bool → Fault → Type 0
  FramesStop false f = (Wrote text output × FirstStops Has input s.accepted f) ⊎ PictureStops f
  FramesStop true f =
      (Wrote text output × FirstStops Has input s.accepted f) ⊎ PictureStops f
      ⊎ CountStops f ⊎ CountedStops f

-- ---- a whole file

-- why it has no head, by the cause: a read failed, which was counted; memory was refused for bytes
-- that are kept, of which more were wanted; or the file has this fault before its frames
abbrev pub LacksHeadBy : Profile → Passage → Fault → Cause → Type 0
LacksHeadBy profile p f Reading =
    (p.after ≡ one_more p.before) × OpeningWants profile p.old p.new
LacksHeadBy profile p f Writing = ⊥
LacksHeadBy profile p f Memory =
    (p.after ≡ p.before) × Known p.old p.new (OpeningKeeps profile)
LacksHeadBy profile p f Content = (p.after ≡ p.before)
    × Known p.old p.new (λ file rest. FaultsOpening profile file rest f)

abbrev pub LacksHead : Profile → Passage → Fault → Type 0
LacksHead profile p f = LacksHeadBy profile p f (cause_of f)

-- the file was read up to its frames, and has this head
pub record HasHead (profile : Profile) (input : Passage) (head : Head) : Type 0 where
  pub place : Place
  pub known : OpensKnown profile input.old input.new head place
  pub kept : input.after ≡ input.before

-- why the record of a head is not accepted: memory was refused for its sets, or it has this fault
abbrev pub LacksRecord : Profile → Head → Fault → Type 0
LacksRecord profile head f = (r : RecordFault) × (f ≡ of_record r)
    × (((r ≡ record_fault.OutOfMemory)
    × ReachesSets (record_profile profile) (greatest_depth profile) head.config_record
    × HasSoundRecord profile head)
    ⊎ IsRefused (record_profile profile) (greatest_depth profile) head.config_record head.width
    head.height r)

module _ (profile : Profile) (form : Form) (count : Bool) (input output : Passage) where
  -- all facts were written: of the head, the record, the first picture, and if frames are counted
  -- of how many they are
  pub record StreamInfoDone : Type 0 where
    pub stream : Stream
    pub is : IsStream profile stream
    pub done : FramesDone (FileThen profile stream.head) form stream (stream_facts form stream)
        input output count

  -- those of the head were not written whole
  pub record HeadStops (f : Fault) : Type 0 where
    pub head : Head
    pub has : HasHead profile input head
    pub stops : GroupStops [] (head_facts form head) output f

  -- they were, and the record is not accepted
  pub record RecordStops (f : Fault) : Type 0 where
    pub head : Head
    pub has : HasHead profile input head
    pub lacks : LacksRecord profile head f
    pub wrote : Wrote (head_facts form head) output

  -- it is, and its facts were not written whole
  pub record StreamStops (f : Fault) : Type 0 where
    pub stream : Stream
    pub is : IsStream profile stream
    pub has : HasHead profile input stream.head
    pub stops : GroupStops (head_facts form stream.head)
        (record_facts form stream.accepted.configuration) output f

  -- they were, and those of frames are not written to their end
  pub record FramesLack (f : Fault) : Type 0 where
    pub stream : Stream
    pub is : IsStream profile stream
    pub stops : FramesStop (FileThen profile stream.head) form stream (stream_facts form stream)
        input output count f

  -- why it stops: there is no head, and nothing was written; or one of those
  abbrev pub StreamInfoStops : Fault → Type 0
  StreamInfoStops f =
      (Silent output × LacksHead profile input f)
      ⊎ HeadStops f ⊎ RecordStops f ⊎ StreamStops f ⊎ FramesLack f

-- the faults that it has are those of `show` with the costs of frames
abbrev pub IsStreamInfoFault : Profile → Fault → Type 0
IsStreamInfoFault profile f = IsShowFault profile true f

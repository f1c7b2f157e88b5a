-- Judging what a file gives, and writing the pictures and the lines of that: what a step of it
-- answers.
use Rattle.std.specs.Prelude.{◌≡◌, ◌⊎◌, ℕ, Bool, true, false, List, [], ◌∷◌, ◌++◌, Option, Some}
use Rattle.std.specs.Prelude.{None, Result, Ok, Err, length, ⊤}
use Rattle.std.specs.Io.KnownBytes.{Appends}
use Rattle.ffv1_wire.specs.Failures.{one_more}
use Rattle.ffv1_wire.specs.Passage.{Passage}
use Rattle.ffv1_wire.specs.Runs.{Line}
use Rattle.ffv1_wire.specs.Writes.{AppendsBeginning}
use Rattle.ffv1_record.specs.Accepted.{Accepted}
use Rattle.ffv1_codec.specs.Frame.{CodesPicture}
use Rattle.ffv1_codec.specs.Outcome.{OffersLine}
use Rattle.ffv1_codec.specs.Picture.{Planes}
use Rattle.ffv1_codec.specs.SliceList.{Said}
use Rattle.ffv1_reads.specs.Known.{Known}
use Rattle.ffv1_files.specs.declared.course.Course.{Course}
use Rattle.ffv1_files.specs.Items.{item_read}
use Rattle.ffv1_files.specs.Places.{Place}
use Rattle.ffv1_y4m.specs.Sink.{PpmSink}
use Rattle.ffv1_y4m.specs.declared.head.VideoHead.{VideoHead}
use Rattle.ffv1_codec.specs.Kept.{Kept}
use Rattle.ffv1_video.specs.KeptLines.{IsKeptFor}
use Rattle.ffv1_video.specs.Output.{Silent, WritesUpTo}
use Rattle.ffv1_video.specs.declared.fault.Fault.{Fault}
use Rattle.ffv1_video.specs.declared.fault.Fault.TheVariants as fault
use Rattle.ffv1_video.specs.Faults.{Cause, cause_of}
use Rattle.ffv1_video.specs.Faults.Cause.{Reading, Writing, Memory, Content}
use Rattle.ffv1_unpack.specs.declared.judging.JudgedCounts.{JudgedCounts}
use Rattle.ffv1_unpack.specs.Internal.ImagesOut.{IsSinkFor}
use Rattle.ffv1_unpack.specs.Internal.PicturesOut.{Begun, begun_behind, head_saying, said_in}
use Rattle.ffv1_unpack.specs.Internal.PicturesOut.{text_behind, writer_behind}
use Rattle.ffv1_unpack.specs.Internal.Told.{WritesFrame}
use Rattle.ffv1_unpack.specs.Judged.{IsJudged, Judged, payload_of}
use Rattle.ffv1_unpack.specs.JudgedItems.{IsJudgedItem, JudgedItem, OfFrame, given_as}
use Rattle.ffv1_unpack.specs.Salvaged.{changed_text, good_frames, line_for}
use Rattle.ffv1_unpack.specs.Salvaged.{picture_for, said_of, shown}
use Rattle.ffv1_unpack.specs.Stream.{CodedFrame, Stream, last_of}
use Rattle.ffv1_unpack.specs.UnpackAll.{AreSalvageCounts, FaultNext, LacksNext, ReadFailsNext}
use Rattle.ffv1_unpack.specs.Unpacked.{is_ppm_stream, rows_by, text_of, video_of}

-- ---- one picture

-- if this payload codes a picture, these are its planes, and this is what it says
pub record HoldsPicture (a : Accepted) (payload : List ℕ) (said : Said) (planes : Planes)
    : Type 0 where
  pub only : (others : Planes) (other : Said) → CodesPicture a payload others other →
      (said ≡ other) × (planes ≡ others)

-- if it is remembered what the picture says that is kept, that picture is this payload's
abbrev pub FitsKept : Accepted → List ℕ → Option Said → Planes → Type 0
FitsKept a payload None planes = ⊤
FitsKept a payload (Some said) planes = HoldsPicture a payload said planes

-- what writing it answers in a text of YUV4MPEG2 that has begun so, and what is begun after it: it
-- is written under the header that stands, and before the first one the header that it says; or a
-- write failed, which was counted, after a beginning of it
abbrev pub begun_with : ℕ → VideoHead → Begun → Said → Begun
begun_with depth h None said = Some (said, writer_behind depth h said)
begun_with depth h (Some t) said = Some t

abbrev pub ContinuesText : ℕ → VideoHead → Begun → Said → Planes → Passage → Begun →
    Result (Unit {0}) Fault → Type 0
ContinuesText depth h begun said planes p after (Ok done) =
    (p.after ≡ p.before) × Appends p.old p.new (text_behind depth h (said_in begun) said planes)
    × (after ≡ begun_with depth h begun said)
ContinuesText depth h begun said planes p after (Err f) =
    (f ≡ fault.Write) × (p.after ≡ one_more p.before)
    × AppendsBeginning p.old p.new (text_behind depth h (said_in begun) said planes)

-- a text that has the pictures of these frames, and is ready for the next one
pub record IsTextOf (depth : ℕ) (h : VideoHead) (begun : Begun) (kept : Kept) (s : Stream)
    (fs : List CodedFrame) : Type 0 where
  pub plain : is_ppm_stream s ≡ false
  pub deep : depth ≡ s.accepted.configuration.depth
  pub heads : (said : Said) → head_saying h said ≡ video_of s said
  pub keeps : IsKeptFor s.accepted kept
  pub is : begun ≡ begun_behind s.accepted.configuration.depth h fs

-- a sink of images that has taken those of these frames, and is ready for the next one
pub record IsImagesOf {W : Type 0} (sink : PpmSink W) (s : Stream) (fs : List CodedFrame)
    : Type 0 where
  pub colours : is_ppm_stream s ≡ true
  pub takes : IsSinkFor s.accepted.configuration sink

-- the text of these, after those, was not written whole: a beginning of it; or of an image the rows
-- before one that a line was to bring, and of that a beginning
abbrev pub CutBy : Bool → Stream → List CodedFrame → List CodedFrame → Passage → Type 0
CutBy false s fs gs p =
    (piece : List ℕ) × (text_of s (fs ++ gs) ≡ text_of s fs ++ piece)
    × AppendsBeginning p.old p.new piece
CutBy true s fs gs p =
    (f : CodedFrame) × (gs ≡ f ∷ []) × (ls : List Line) × (next : Line)
    × OffersLine s.accepted f.payload ls next
    × WritesUpTo p.old p.new (length (rows_by true s ls)) (rows_by true s (ls ++ (next ∷ [])))

-- what writing the pictures of these frames, after those, answers: it is ready for the next one,
-- and their text is written; or a write failed, which was counted, after a beginning of it
abbrev pub PutsPictures : {P : Type 0} → (Stream → List CodedFrame → P → Type 0) → Stream →
    List CodedFrame → List CodedFrame → Passage → P → Result (Unit {0}) Fault → Type 0
PutsPictures ready s fs gs p new (Ok done) =
    ready s (fs ++ gs) new × (p.after ≡ p.before)
    × (piece : List ℕ) × (text_of s (fs ++ gs) ≡ text_of s fs ++ piece)
    × Appends p.old p.new piece
PutsPictures ready s fs gs p new (Err f) =
    (f ≡ fault.Write) × (p.after ≡ one_more p.before) × CutBy (is_ppm_stream s) s fs gs p

-- ---- what is known after items

-- how many there were, what the first good frame says, and the payload of the last good one
pub record StandsAfter (s : Stream) (before : List JudgedItem) (counts : JudgedCounts)
    (header : Option Said) (payload : List ℕ) : Type 0 where
  pub counted : AreSalvageCounts (is_ppm_stream s) counts before
  pub first : header ≡ said_of (good_frames before)
  pub last : (f : CodedFrame) → last_of (good_frames before) ≡ Some f → payload ≡ f.payload

-- ---- one frame, of this payload

-- the line of a frame that may say something else than the header: it was written; or not
abbrev pub ChangeTold : ℕ → Bool → Passage → Result (Unit {0}) Fault → Type 0
ChangeTold i changed p answer = WritesFrame (changed_text i changed) p answer

module _ (s : Stream) (before : List JudgedItem) (payload : List ℕ) (lines : Passage) where
  -- it is judged so
  pub record JudgesPayload (j : Judged) : Type 0 where
    pub is : IsJudged s.accepted j
    pub of : payload_of j ≡ payload

  -- its line was written; or it was not
  abbrev pub FrameTold : JudgedCounts → Option Said → List ℕ → Result (Unit {0}) Fault → Type 0
  FrameTold counts header last (Ok done) =
      (j : Judged) × JudgesPayload j × (lines.after ≡ lines.before)
      × Appends lines.old lines.new (line_for (is_ppm_stream s) before (OfFrame j))
      × StandsAfter s (before ++ (OfFrame j ∷ [])) counts header last
  FrameTold counts header last (Err f) =
      (j : Judged) × JudgesPayload j
      × WritesFrame (line_for (is_ppm_stream s) before (OfFrame j)) lines (Err f)

-- the lines and the pictures of an item: they were written, and the next one can be; or they were
-- not
module _ {P : Type 0} (ready : Stream → List CodedFrame → P → Type 0) (s : Stream)
    (before : List JudgedItem) (lines output : Passage) (new : P) where
  abbrev pub ItemShown : JudgedItem → Result (Unit {0}) Fault → Type 0
  ItemShown x (Ok done) =
      (lines.after ≡ lines.before)
      × Appends lines.old lines.new (line_for (is_ppm_stream s) before x)
      × PutsPictures ready s (shown before) (picture_for before x) output new (Ok done)
  ItemShown x (Err f) =
      (WritesFrame (line_for (is_ppm_stream s) before x) lines (Err f) × Silent output)
      ⊎ ((lines.after ≡ lines.before)
      × Appends lines.old lines.new (line_for (is_ppm_stream s) before x)
      × PutsPictures ready s (shown before) (picture_for before x) output new (Err f))

  -- of a frame of this payload
  abbrev pub FrameSalvaged : List ℕ → JudgedCounts → Option Said → List ℕ →
      Result (Unit {0}) Fault → Type 0
  FrameSalvaged payload counts header last (Ok done) =
      (j : Judged) × JudgesPayload s before payload lines j × ItemShown (OfFrame j) (Ok done)
      × StandsAfter s (before ++ (OfFrame j ∷ [])) counts header last
  FrameSalvaged payload counts header last (Err f) =
      (j : Judged) × JudgesPayload s before payload lines j × ItemShown (OfFrame j) (Err f)

-- ---- one item

-- why none comes, by the cause
abbrev pub NoneGivenBy : Place → Course → Passage → Fault → Cause → Type 0
NoneGivenBy from c p f Reading =
    (p.after ≡ one_more p.before) × Known p.old p.new (ReadFailsNext from c)
NoneGivenBy from c p f Writing = ⊥
NoneGivenBy from c p f Memory = (p.after ≡ p.before) × Known p.old p.new (LacksNext from c)
NoneGivenBy from c p f Content = (p.after ≡ p.before) × Known p.old p.new (FaultNext f from c)

-- from this place and this course on, up to others
module _ (s : Stream) (from to : Place) (c d : Course) (input : Passage) where
  -- this one comes
  pub record SalvageComes (x : JudgedItem) : Type 0 where
    pub is : IsJudgedItem s.accepted x
    pub kept : input.after ≡ input.before
    pub next : Known input.old input.new (λ text rest.
        item_read from c text ≡ Ok (Some (given_as x, to, d), rest))

  module _ {P : Type 0} (ready : Stream → List CodedFrame → P → Type 0) (before : List JudgedItem)
      (lines output : Passage) (new : P) where
    -- what salvaging it answers
    abbrev pub ItemSalvaged : JudgedCounts → Option Said → List ℕ → Result Bool Fault → Type 0
    ItemSalvaged counts header last (Ok true) =
        (x : JudgedItem) × SalvageComes x × ItemShown ready s before lines output new x (Ok tt)
        × StandsAfter s (before ++ (x ∷ [])) counts header last
    ItemSalvaged counts header last (Ok false) =
        (input.after ≡ input.before)
        × Known input.old input.new (λ text rest. item_read from c text ≡ Ok (None, rest))
        × Silent lines × Silent output × StandsAfter s before counts header last
    ItemSalvaged counts header last (Err f) =
        (NoneGivenBy from c input f (cause_of f) × Silent lines × Silent output)
        ⊎ ((x : JudgedItem) × SalvageComes x
        × ItemShown ready s before lines output new x (Err f))

-- The lines of the pictures of a text, one after the other.
use Rattle.std.specs.Prelude.{◌≡◌, ◌⊎◌, ℕ, ◌++◌, Bool, true, false, List, []}
use Rattle.std.specs.Prelude.{◌∷◌, length, None, Some, Result, Ok, Err}
use Rattle.std.specs.Io.KnownBytes.{Appends}
use Rattle.ffv1_wire.specs.Failures.{one_more}
use Rattle.ffv1_wire.specs.Passage.{Passage}
use Rattle.ffv1_wire.specs.Writes.{AppendsBeginning}
use Rattle.ffv1_codec.specs.Picture.{Planes}
use Rattle.ffv1_reads.specs.Known.{Known}
use Rattle.ffv1_y4m.specs.declared.fault.Fault.{Fault as Y4mFault}
use Rattle.ffv1_video.specs.declared.fault.Fault.{Fault}
use Rattle.ffv1_reads.specs.declared.fault.FileFault.TheVariants as file_fault
use Rattle.ffv1_video.specs.declared.fault.Fault.TheVariants as fault
use Rattle.ffv1_pack.specs.Internal.Encoding.{AllKnown, PicturesKnown, ReadsOne}
use Rattle.ffv1_video.specs.Faults.{Cause, cause_of, of_y4m}
use Rattle.ffv1_video.specs.Faults.Cause.{Reading, Writing, Memory, Content}
use Rattle.ffv1_video.specs.Md5Text.{md5_text}
use Rattle.ffv1_video.specs.Md5Text.{next_md5}
use Rattle.ffv1_video.specs.Output.{WritesUpTo}
use Rattle.ffv1_video.specs.Output.{Silent}
use Rattle.ffv1_video.specs.Video.{ReadsPictures, at_first}
use Rattle.ffv1_video.specs.Video.{picture_next}
use Rattle.ffv1_pack.specs.VideoReads.{PictureLacks}
use Rattle.ffv1_pack.specs.Internal.VideoReads.{NextRead, NextRefusedBy}
use Rattle.ffv1_pack.specs.VideoReads.{PictureWants}
use Rattle.ffv1_pack.specs.Internal.VideoReads.{StopsKnown, VideoReading}
use Rattle.ffv1_pack.specs.TextMd5.{most_pictures}

-- ---- the next picture

-- the text of the picture with this number
abbrev pub picture_md5 : VideoReading → ℕ → Planes → List ℕ
picture_md5 r number planes = next_md5 r.ppm r.head.depth r.head.head number planes

module _ (r : VideoReading) (number : ℕ) (input output : Passage) where
  -- why its line was not written, by the cause: a write failed, which was counted; a read failed,
  -- which was counted; memory was refused, for the picture or for its line; or the text has a fault
  abbrev pub LineStopsBy : Cause → Fault → Type 0
  LineStopsBy Writing f =
      (planes : Planes) × (s : VideoReading) × NextRead input r (Some planes) s
      × (output.after ≡ one_more output.before)
      × AppendsBeginning output.old output.new (picture_md5 r number planes)
  LineStopsBy Reading f = Silent output × NextRefusedBy Reading input r f
  LineStopsBy Memory f = Silent output × (NextRefusedBy Memory input r f ⊎ ReadsOne input r)
  LineStopsBy Content f =
      Silent output × (input.after ≡ input.before) × StopsKnown input.old input.new r f

  -- its line was written; there is none; or why it was not
  abbrev pub WritesLine : VideoReading → Result Bool Fault → Type 0
  WritesLine s (Ok true) =
      (planes : Planes) × NextRead input r (Some planes) s × (output.after ≡ output.before)
      × Appends output.old output.new (picture_md5 r number planes)
  WritesLine s (Ok false) = NextRead input r None s × Silent output
  WritesLine s (Err f) = LineStopsBy (cause_of f) f

-- why there is no further line: the next picture has a fault, or it has no number
abbrev pub EndsLines : ℕ → VideoReading → Fault → List Planes → List ℕ → List ℕ → Type 0
EndsLines most r f pictures left rest =
    ((g : Y4mFault) × (picture_next r.ppm r.most r.head (at_first pictures) left ≡ Err (g, rest))
    × (f ≡ of_y4m g))
    ⊎ ((length pictures ≡ most) × (left ≡ rest) × (f ≡ fault.File file_fault.TooLarge))

-- the text of pictures with this head
abbrev pub lines_of : VideoReading → List Planes → List ℕ
lines_of r pictures = md5_text r.ppm r.head.depth r.head.head pictures

module _ (r : VideoReading) (input output : Passage) where
  -- these are all pictures, and their text was written
  pub record WritesLines (count : ℕ) : Type 0 where
    pub pictures : List Planes
    pub is : count ≡ length pictures
    pub known : AllKnown input.old input.new r pictures
    pub kept : input.after ≡ input.before
    pub written : output.after ≡ output.before
    pub writes : Appends output.old output.new (lines_of r pictures)

  -- the text of these pictures was written, and of the text, if it is known, these pictures were
  -- read, and then so much as this says
  pub record WritesSome (Next : List Planes → List ℕ → List ℕ → Type 0) : Type 0 where
    pub pictures : List Planes
    pub taken : Known input.old input.new (λ text rest.
        (left : List ℕ) × ReadsPictures r.ppm r.most r.head true text pictures left
        × Next pictures left rest)
    pub written : output.after ≡ output.before
    pub writes : Appends output.old output.new (lines_of r pictures)

  -- a write of the line of the last of these pictures failed
  pub record LineFails : Type 0 where
    pub pictures : List Planes
    pub next : Planes
    pub reads : PicturesKnown input.old input.new r (pictures ++ next ∷ [])
    pub kept : input.after ≡ input.before
    pub written : output.after ≡ one_more output.before
    pub writes : WritesUpTo output.old output.new (length (lines_of r pictures))
        (lines_of r (pictures ++ next ∷ []))

  abbrev pub LinesStopBy : ℕ → Cause → Fault → Type 0
  LinesStopBy most Writing f = LineFails
  LinesStopBy most Reading f =
      (input.after ≡ one_more input.before) × WritesSome (PictureWants r.ppm r.most r.head)
  LinesStopBy most Memory f =
      (input.after ≡ input.before) × WritesSome (PictureLacks r.ppm r.most r.head)
  LinesStopBy most Content f =
      (input.after ≡ input.before) × WritesSome (EndsLines most r f)

  abbrev pub LinesStop : Fault → Type 0
  LinesStop f = LinesStopBy most_pictures (cause_of f) f

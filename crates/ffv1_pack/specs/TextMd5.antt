-- What `framemd5_text` writes of the pictures of a text, and why it is refused.
use Rattle.std.specs.Prelude.{◌≡◌, ◌⊎◌, ℕ, ◌<◌, ◌^◌, List, []}
use Rattle.std.specs.Prelude.{length, None, Ok, Err}
use Rattle.std.specs.Io.KnownBytes.{Appends}
use Rattle.ffv1_wire.specs.Failures.{one_more}
use Rattle.ffv1_wire.specs.Passage.{Passage}
use Rattle.ffv1_codec.specs.Picture.{Planes}
use Rattle.ffv1_reads.specs.Known.{Known}
use Rattle.ffv1_y4m.specs.Reads.{Wants}
use Rattle.ffv1_y4m.specs.declared.fault.Fault.{Fault as Y4mFault}
use Rattle.ffv1_video.specs.declared.fault.Fault.{Fault}
use Rattle.ffv1_reads.specs.declared.fault.FileFault.TheVariants as file_fault
use Rattle.ffv1_video.specs.declared.fault.Fault.TheVariants as fault
use Rattle.ffv1_video.specs.Faults.{Cause, cause_of, of_y4m}
use Rattle.ffv1_video.specs.Faults.Cause.{Reading, Writing, Memory, Content}
use Rattle.ffv1_video.specs.Md5Text.{md5_text}
use Rattle.ffv1_pack.specs.PackMatroska.{with_picture}
use Rattle.ffv1_video.specs.Output.{WritesUpTo}
use Rattle.ffv1_video.specs.Output.{Silent}
use Rattle.ffv1_video.specs.Video.{Begins, ReadsVideo, Video, at_first}
use Rattle.ffv1_video.specs.Video.{picture_next, video_head}
use Rattle.ffv1_pack.specs.VideoReads.{LacksKnown, PictureLacks}
use Rattle.ffv1_pack.specs.VideoReads.{PictureWants, Taken}

-- the text of the pictures of a video: those of PPM are red, green and blue
abbrev pub video_md5 : Video → List ℕ
video_md5 v = md5_text v.ppm v.head.depth v.head.head v.pictures

-- ---- all pictures after a head

-- so many pictures have a number
abbrev pub most_pictures : ℕ
most_pictures = 2 ^ 64

-- ---- a text

-- why it ends after the pictures of a video: the next one has a fault; there is no more, and there
-- was none; or there were 2^64
abbrev pub EndsText : ℕ → Video → List ℕ → List ℕ → Fault → Type 0
EndsText most v left rest f =
    ((g : Y4mFault) × (picture_next v.ppm most v.head (at_first v.pictures) left ≡ Err (g, rest))
    × (f ≡ of_y4m g))
    ⊎ ((picture_next v.ppm most v.head (at_first v.pictures) left ≡ Ok (None, rest))
    × (v.pictures ≡ []) × (f ≡ fault.NoFrames))
    ⊎ ((length v.pictures ≡ most_pictures) × (left ≡ rest) × (f ≡ fault.File file_fault.TooLarge))

module _ (most : ℕ) (input output : Passage) where
  -- the video was read, which has a picture, and the text of its pictures was written
  pub record TextDone : Type 0 where
    pub video : Video
    pub reads : ReadsVideo most input.old input.new video
    pub some : 0 < length video.pictures
    pub kept : input.after ≡ input.before
    pub written : output.after ≡ output.before
    pub writes : Appends output.old output.new (video_md5 video)

  -- the text of the pictures of a video was written, and of the text, if it is known, this video
  -- was read, and then so much as this says
  pub record TextSome (Next : Video → List ℕ → List ℕ → Type 0) : Type 0 where
    pub video : Video
    pub taken : Known input.old input.new (λ text rest.
        (left : List ℕ) × Begins most text video left × Next video left rest)
    pub written : output.after ≡ output.before
    pub writes : Appends output.old output.new (video_md5 video)

  -- a write of the line of the next picture failed: of that a beginning was written, and of the
  -- text, if it is known, nothing after that picture was read
  pub record TextFails : Type 0 where
    pub video : Video
    pub next : Planes
    pub reads : Known input.old input.new (λ text rest.
        Begins most text (with_picture video next) rest)
    pub kept : input.after ≡ input.before
    pub written : output.after ≡ one_more output.before
    pub writes : WritesUpTo output.old output.new (length (video_md5 video))
        (video_md5 (with_picture video next))

  -- why it is refused, by the cause: a write that failed, which was counted; a read that failed,
  -- which was counted, if the head wants one more byte, with nothing written, or the picture
  -- after those whose lines are written; memory for that picture or its line; or the first fault of
  -- the text
  abbrev pub TextStopsBy : Fault → Cause → Type 0
  TextStopsBy f Writing = TextFails
  TextStopsBy f Reading =
      (input.after ≡ one_more input.before)
      × ((Silent output × Known input.old input.new (Taken (Wants (video_head most))))
      ⊎ TextSome (λ v. PictureWants v.ppm most v.head v.pictures))
  TextStopsBy f Memory =
      (input.after ≡ input.before)
      × TextSome (λ v. PictureLacks v.ppm most v.head v.pictures)
  TextStopsBy f Content =
      (input.after ≡ input.before)
      × ((Silent output × LacksKnown most input.old input.new f)
      ⊎ TextSome (λ v left rest. EndsText most v left rest f))

  abbrev pub TextStops : Fault → Type 0
  TextStops f = TextStopsBy f (cause_of f)

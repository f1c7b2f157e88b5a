-- What `framemd5` writes, and why it is refused.
use Rattle.std.specs.Prelude.{ℕ, Bool, List, [], ◌∷◌, ◌++◌}
use Rattle.std.proofs.Common.{suc}
use Rattle.ffv1_wire.specs.Passage.{Passage}
use Rattle.ffv1_files.specs.declared.notes.Notes.{Notes}
use Rattle.ffv1_video.specs.declared.profile.Profile.{Profile}
use Rattle.ffv1_video.specs.declared.fault.Fault.{Fault}
use Rattle.ffv1_video.specs.Md5Text.{md5_head, md5_line}
use Rattle.ffv1_video.specs.RawPicture.{raw_bytes}
use Rattle.ffv1_words.specs.declared.order.FrameRange.{FrameRange}
use Rattle.ffv1_unpack.specs.Plays.{FileStops, PlaysFile}
use Rattle.ffv1_unpack.specs.Ranges.{PlaysRange, RangeStops}
use Rattle.ffv1_unpack.specs.Stream.{Again, Coded, Frame, Stream}
use Rattle.ffv1_unpack.specs.Unpacked.{is_ppm_stream, video_of}

-- the lines of frames from a number on: one that repeats another has a number, and no line
abbrev pub md5_rows : Bool → ℕ → ℕ → List Frame → List ℕ
md5_rows rct depth i [] = []
md5_rows rct depth i (Coded f ∷ fs) =
    md5_line i (raw_bytes rct depth f.planes) ++ md5_rows rct depth (suc i) fs
md5_rows rct depth i (Again ∷ fs) = md5_rows rct depth (suc i) fs

-- their text: the head says what the first coded one says; nothing if none is
abbrev pub md5_from : ℕ → Stream → List Frame → List ℕ
md5_from i s [] = []
md5_from i s (Coded f ∷ fs) =
    md5_head (video_of s f.said)
    ++ md5_rows (is_ppm_stream s) s.accepted.configuration.depth i (Coded f ∷ fs)
md5_from i s (Again ∷ fs) = md5_from (suc i) s fs

-- the text of all
abbrev pub frames_md5 : Stream → List Frame → List ℕ
frames_md5 = md5_from 0

-- the text of all frames was written, and this is noted of the end; or why it was not
abbrev pub Md5Done : Profile → Passage → Passage → Notes → Type 0
Md5Done profile input output = PlaysFile profile frames_md5 input output

abbrev pub Md5Stops : Profile → Passage → Passage → Fault → Type 0
Md5Stops profile input output f = FileStops profile frames_md5 input output f

-- the same of the frames of a range
abbrev pub Md5RangeDone : Profile → FrameRange → Passage → Passage → Notes → Type 0
Md5RangeDone profile range input output =
    PlaysRange profile range (md5_from range.first) input output

abbrev pub Md5RangeStops : Profile → FrameRange → Passage → Passage → Fault → Type 0
Md5RangeStops profile range input output f =
    RangeStops profile range (md5_from range.first) input output f

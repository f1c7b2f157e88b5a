-- The text of a frame's MD5, by its number, and what writing it answers.
use Rattle.std.specs.Prelude.{◌≡◌, ℕ, Bool, true, false, not, if◌then◌else◌, List, [], ◌∷◌}
use Rattle.std.specs.Prelude.{◌++◌, Result, Ok, Err}
use Rattle.std.specs.Io.KnownBytes.{Appends}
use Rattle.ffv1_wire.specs.Passage.{Passage}
use Rattle.ffv1_record.specs.Accepted.{Accepted}
use Rattle.ffv1_record.specs.Configuration.{is_rct}
use Rattle.ffv1_y4m.specs.declared.head.VideoHead.{VideoHead}
use Rattle.ffv1_codec.specs.Picture.{Planes}
use Rattle.ffv1_video.specs.Md5Text.{md5_head, md5_line}
use Rattle.ffv1_video.specs.RawPicture.{raw_bytes}
use Rattle.ffv1_unpack.specs.Internal.PicturesOut.{head_saying}
use Rattle.ffv1_files.specs.Places.{Place}
use Rattle.ffv1_files.specs.declared.notes.Notes.{Notes}
use Rattle.ffv1_video.specs.declared.fault.Fault.{Fault}
use Rattle.ffv1_unpack.specs.Internal.Plays.{NextAnswers, PlaysFrame}
use Rattle.ffv1_unpack.specs.Stream.{Again, Coded, Frame}

-- the text of the picture with this number, and of the head before it, if it is the first
abbrev pub headed_md5 : Bool → ℕ → VideoHead → Bool → ℕ → Planes → List ℕ
headed_md5 rct depth h first i planes =
    (if first then md5_head h else []) ++ md5_line i (raw_bytes rct depth planes)

-- that of a frame; one that repeats another has none
abbrev pub frame_md5 : Accepted → VideoHead → Bool → ℕ → Frame → List ℕ
frame_md5 a h first i (Coded f) =
    headed_md5 (is_rct a.configuration.colour) a.configuration.depth (head_saying h f.said) first i
    f.planes
frame_md5 a h first i Again = []

-- whether a coded frame came, after one more
abbrev pub begun_by : Bool → Frame → Bool
begun_by begun (Coded f) = true
begun_by begun Again = begun

-- of all
abbrev pub is_begun : List Frame → Bool
is_begun [] = false
is_begun (Coded f ∷ fs) = true
is_begun (Again ∷ fs) = is_begun fs

-- what writing the line of the next frame answers, by whether the head was written, and is then
module _ (a : Accepted) (h : VideoHead) (begun : Bool) (i : ℕ) (from to : Place)
    (input output : Passage) where
  abbrev pub Md5Answers : Notes → Bool → Result Bool Fault → Type 0
  Md5Answers notes after (Ok true) =
      (frame : Frame) × PlaysFrame a from to input frame × (output.after ≡ output.before)
      × Appends output.old output.new (frame_md5 a h (not begun) i frame)
      × (after ≡ begun_by begun frame)
  Md5Answers notes after (Ok false) =
      NextAnswers a (frame_md5 a h (not begun) i) from to input output notes (Ok false)
      × (after ≡ begun)
  Md5Answers notes after (Err f) =
      NextAnswers a (frame_md5 a h (not begun) i) from to input output notes (Err f)

-- Reading the first frame of a file, and the others: what each call answers.
use Rattle.std.specs.Prelude.{◌≡◌, ℕ, suc, Bool, true, false, List, [], length, Option, Some, None}
use Rattle.std.specs.Prelude.{Result, Ok, Err}
use Rattle.ffv1_wire.specs.Passage.{Passage}
use Rattle.ffv1_record.specs.Accepted.{Accepted}
use Rattle.ffv1_codec.specs.SliceList.{Said}
use Rattle.ffv1_files.specs.Places.{Place}
use Rattle.ffv1_reads.specs.Known.{Known}
use Rattle.ffv1_reads.specs.declared.fault.FileFault.{FileFault}
use Rattle.ffv1_unpack.specs.Internal.Plays.{PlaysFrame}
use Rattle.ffv1_unpack.specs.Internal.Play.{ReadsPayload}
use Rattle.ffv1_unpack.specs.Internal.Told.{StopsFrom}
use Rattle.ffv1_unpack.specs.Plays.{HasThen}
use Rattle.ffv1_unpack.specs.Stream.{Again, Coded, Frame}
use Rattle.ffv1_unpack.specs.declared.player.NextFrame.{NextFrame}
use Rattle.ffv1_unpack.specs.declared.player.NextFrame.TheVariants as next
use Rattle.ffv1_video.specs.Faults.{of_avi}
use Rattle.ffv1_info.specs.StreamInfo.{FramesOver}

-- nothing failed, and from this place of the file there is no frame
pub record ReadsNone (from : Place) (p : Passage) : Type 0 where
  pub kept : p.after ≡ p.before
  pub over : Known p.old p.new (FramesOver from)

-- what reading the next payload answers: it was read, there is none, or why it was not
abbrev pub NextAnswers : Place → Place → List ℕ → Passage → Result Bool FileFault → Type 0
NextAnswers from to payload p (Ok true) = ReadsPayload from to payload p
NextAnswers from to payload p (Ok false) = ReadsNone from p
NextAnswers from to payload p (Err f) = StopsFrom from p (of_avi f)

-- from this place of the file there is no frame, or this one was read up to that place, and decoded
abbrev pub ReadsFirst : Accepted → Place → Place → Passage → Option Frame → Type 0
ReadsFirst a from to p None = ReadsNone from p
ReadsFirst a from to p (Some f) = PlaysFrame a from to p f

-- whether there is one
abbrev pub has_some : {X : Type 0} → Option X → Bool
has_some None = false
has_some (Some x) = true

-- the answer of reading it
abbrev pub next_of : Option Frame → NextFrame Said
next_of None = next.End
next_of (Some Again) = next.Again
next_of (Some (Coded f)) = next.Coded f.said

-- whether that is a frame, and what is said of its picture
abbrev pub is_frame : NextFrame Said → Bool
is_frame next.End = false
is_frame next.Again = true
is_frame (next.Coded info) = true

abbrev pub said_in : NextFrame Said → Option Said
said_in next.End = None
said_in next.Again = None
said_in (next.Coded info) = Some info

-- behind the first frame, if there was one, come these payloads, and then none; else nothing more
-- was read
abbrev pub ReadsOthers : Bool → Place → Passage → List (List ℕ) → Type 0
ReadsOthers false from p others = (others ≡ []) × (p.new ≡ p.old) × (p.after ≡ p.before)
ReadsOthers true from p others =
    (p.after ≡ p.before) × Known p.old p.new (HasThen from others FramesOver)

-- how many frames there are, with those
abbrev pub with_others : Bool → List (List ℕ) → ℕ
with_others false others = 0
with_others true others = suc (length others)

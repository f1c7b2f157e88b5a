-- What a reader of a video knows, and what its calls answer.
use Rattle.std.specs.Prelude.{◌≡◌, ◌≤◌, ℕ, Bool, true, false, List, Option}
use Rattle.std.specs.Prelude.{None, Ok, Err}
use Rattle.ffv1_wire.specs.Failures.{one_more}
use Rattle.ffv1_wire.specs.Passage.{Passage}
use Rattle.ffv1_y4m.specs.Reads.{Took, Wants}
use Rattle.ffv1_y4m.specs.declared.fault.Fault.{Fault as Y4mFault}
use Rattle.ffv1_video.specs.Video.{SaidHead}
use Rattle.ffv1_codec.specs.Picture.{Planes}
use Rattle.ffv1_reads.specs.Known.{Known}
use Rattle.ffv1_video.specs.declared.fault.Fault.{Fault}
use Rattle.ffv1_pack.specs.declared.video.VideoReader.{VideoReader}
use Rattle.ffv1_pack.specs.declared.video.VideoReader.TheVariants as reader
use Rattle.ffv1_video.specs.Faults.{Cause, cause_of, of_y4m}
use Rattle.ffv1_video.specs.Faults.Cause.{Reading, Writing, Memory, Content}
use Rattle.ffv1_video.specs.Video.{is_ppm, picture_next, video_head}
use Rattle.ffv1_pack.specs.VideoReads.{GrowsInNext, IsHeadBy, LacksKnown}

-- whether it is PPM, the greatest depth that headers of later images may say, the head, whether the
-- samples of the first image come next, and the fault that it met
pub record VideoReading : Type 0 where
  pub ppm : Bool
  pub most : ℕ
  pub head : SaidHead
  pub begun : Bool
  pub failed : Option Y4mFault

abbrev pub reading_of : {A : Type 0} → VideoReader A → VideoReading
reading_of (reader.Y4m r) = record {
  ppm = false;
  most = 16;
  head = record { head = r.head; depth = r.depth };
  begun = true;
  failed = r.failed;
}
reading_of (reader.Ppm r) = record {
  ppm = true;
  most = r.most;
  head = record { head = r.head; depth = r.depth };
  begun = r.begun;
  failed = r.failed;
}

abbrev pub IsHeadOf : VideoReading → Type 0
IsHeadOf r = IsHeadBy r.ppm r.head.head

-- if the text is known, it begins with this head; depths up to `most` are read
abbrev pub HeadKnown : ℕ → Option (List ℕ) → Option (List ℕ) → Bool → SaidHead → Type 0
HeadKnown most old new ppm h = Known old new (λ text rest.
    (ppm ≡ is_ppm text) × (video_head most text ≡ Ok (h, rest)))

-- a head was read
pub record HeadRead (most : ℕ) (p : Passage) (r : VideoReading) : Type 0 where
  pub known : HeadKnown most p.old p.new r.ppm r.head
  pub kept : p.after ≡ p.before
  pub fresh : r.failed ≡ None
  pub begun : r.begun ≡ true
  pub deep : r.head.depth ≤ most
  pub later : r.ppm ≡ true → r.most ≡ most

-- why no head was read: a read failed, which was counted, if the head wants one more byte; or
-- the text has a fault
abbrev pub HeadRefusedBy : ℕ → Cause → Passage → Fault → Type 0
HeadRefusedBy most Reading p f = (p.after ≡ one_more p.before) × Took (Wants (video_head most)) p
HeadRefusedBy most Writing p f = ⊥
HeadRefusedBy most Memory p f = ⊥
HeadRefusedBy most Content p f = (p.after ≡ p.before) × LacksKnown most p.old p.new f

abbrev pub HeadRefused : ℕ → Passage → Fault → Type 0
HeadRefused most p f = HeadRefusedBy most (cause_of f) p f

-- if the text is known, so it goes on
abbrev pub NextKnown : Option (List ℕ) → Option (List ℕ) → VideoReading → Option Planes → Type 0
NextKnown old new r picture = Known old new (λ text rest.
    picture_next r.ppm r.most r.head r.begun text ≡ Ok (picture, rest))

-- the next picture was read, or the end was
pub record NextRead (p : Passage) (r : VideoReading) (picture : Option Planes) (s : VideoReading)
    : Type 0 where
  pub known : NextKnown p.old p.new r picture
  pub kept : p.after ≡ p.before
  pub ppm : s.ppm ≡ r.ppm
  pub head : s.head ≡ r.head
  pub failed : s.failed ≡ None
  pub begun : s.ppm ≡ true → s.begun ≡ false
  pub most : s.most ≡ r.most

-- if the text is known, so it goes on, by this fault
abbrev pub StopsKnown : Option (List ℕ) → Option (List ℕ) → VideoReading → Fault → Type 0
StopsKnown old new r f = Known old new (λ text rest.
    (g : Y4mFault) × (picture_next r.ppm r.most r.head r.begun text ≡ Err (g, rest))
    × (f ≡ of_y4m g))

-- why no picture was read: a read failed, which was counted, if the picture wants one more byte;
-- memory was refused, if it grows; or the text has a fault
abbrev pub NextRefusedBy : Cause → Passage → VideoReading → Fault → Type 0
NextRefusedBy Reading p r f =
    (p.after ≡ one_more p.before) × Took (Wants (picture_next r.ppm r.most r.head r.begun)) p
NextRefusedBy Writing p r f = ⊥
NextRefusedBy Memory p r f =
    (p.after ≡ p.before) × Took (GrowsInNext r.ppm r.most r.head r.begun) p
NextRefusedBy Content p r f = (p.after ≡ p.before) × StopsKnown p.old p.new r f

abbrev pub NextRefused : Passage → VideoReading → Fault → Type 0
NextRefused p r f = NextRefusedBy (cause_of f) p r f

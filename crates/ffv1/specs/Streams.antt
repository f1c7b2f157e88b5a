-- What becomes of a file that is read, once it is open: all at the profile `Wide`.
use Rattle.std.specs.Prelude.{◌≡◌, ◌≢◌, ℕ, Bool, true, false, Option, None, Some, Result}
use Rattle.std.specs.Prelude.{List, MatchResult}
use Rattle.ffv1_wire.specs.Passage.{Passage}
use Rattle.ffv1_words.specs.Order.{leaves_out}
use Rattle.ffv1_words.specs.declared.order.FrameRange.{FrameRange}
use Rattle.ffv1_info.specs.Info.{InfoDone, InfoStops}
use Rattle.ffv1_outline.specs.declared.facts.Form.{Form}
use Rattle.ffv1_pack.specs.TextMd5.{TextDone, TextStops}
use Rattle.ffv1_pack.specs.Trial.{TrialDone, TrialRefused}
use Rattle.ffv1_unpack.specs.Check.{CheckRangeDone, CheckRangeStops}
use Rattle.ffv1_unpack.specs.CheckAll.{AllDone, AllStops, CheckAllRangeDone, CheckAllRangeStops}
use Rattle.ffv1_unpack.specs.FrameMd5.{Md5RangeDone, Md5RangeStops}
use Rattle.ffv1_unpack.specs.Show.{ShowDone, ShowStops}
use Rattle.ffv1_video.specs.Profiles.{greatest_depth}
use Rattle.ffv1_video.specs.declared.fault.Fault.{Fault}
use Rattle.ffv1_video.specs.declared.profile.Profile.TheVariants as profile
use Rattle.ffv1_files.specs.declared.notes.Notes.{Notes}
use Rattle.ffv1_orders.specs.Looked.{Outcome, Printed}
use Rattle.ffv1_files.specs.Noted.{no_notes}
use Rattle.ffv1_orders.specs.Statuses.{IsFault}

-- all frames, also those after one that is refused, and the answer is the first fault and what is
-- noted of the file; if none is left out, also what comes after a fault of the file itself
abbrev pub JudgesBy : Bool → Bool → FrameRange → Passage → Passage →
    Result (Option Fault × Notes) Fault → Type 0
JudgesBy false place range input output result = MatchResult result
    (λ answer. AllDone profile.Wide place input output answer.0 answer.1)
    (AllStops profile.Wide place input output)
JudgesBy true place range input output result = MatchResult result
    (λ answer. CheckAllRangeDone profile.Wide place range input output answer.0 answer.1)
    (CheckAllRangeStops profile.Wide place range input output)

-- up to the first frame of the range that is refused; or all of them
abbrev pub Checks : Bool → Bool → FrameRange → Passage → Passage →
    Result (Option Fault × Notes) Fault → Type 0
Checks false place range input output result = MatchResult result
    (λ answer. (answer.0 ≡ None)
    × CheckRangeDone profile.Wide place range input output answer.1)
    (CheckRangeStops profile.Wide place range input output)
Checks true place range input output result =
    JudgesBy (leaves_out range) place range input output result

-- it is shown
pub record Shows (cost : Bool) (input output : Passage) (outcome : Outcome) : Type 0 where
  pub is : MatchResult outcome (ShowDone profile.Wide input output cost)
      (IsFault (ShowStops profile.Wide input output cost))

-- the facts of a file of these bytes, if they are known, are written
pub record Informs (form : Form) (count : Bool) (file : Option (List ℕ)) (output : Passage)
    (outcome : Printed) : Type 0 where
  pub is : MatchResult outcome (λ _. InfoDone profile.Wide form count file output)
      (IsFault (InfoStops profile.Wide form count file output))

-- its first picture is coded and decoded again
pub record Tries (input output : Passage) (outcome : Printed) : Type 0 where
  pub is : MatchResult outcome (λ _. TrialDone input output) (IsFault (TrialRefused input output))

-- the text of the MD5s of its pictures is written; nothing is noted of a text
abbrev pub WritesMd5s : Passage → Passage → Outcome → Type 0
WritesMd5s input output outcome = MatchResult outcome
    (λ notes. (notes ≡ no_notes) × TextDone (greatest_depth profile.Wide) input output)
    (IsFault (TextStops (greatest_depth profile.Wide) input output))

-- the same of frames of a file
abbrev pub WritesFrames : FrameRange → Passage → Passage → Outcome → Type 0
WritesFrames range input output outcome = MatchResult outcome
    (Md5RangeDone profile.Wide range input output)
    (IsFault (Md5RangeStops profile.Wide range input output))

-- the MD5s of its pictures are printed: of a text, if its first byte is `P` or `Y` and none is left
-- out, else of a file
pub record PrintsMd5s (range : FrameRange) (first : Option ℕ) (input output : Passage)
    (outcome : Outcome) : Type 0 where
  pub images : leaves_out range ≡ false → first ≡ Some 80 → WritesMd5s input output outcome
  pub text : leaves_out range ≡ false → first ≡ Some 89 → WritesMd5s input output outcome
  pub file : first ≢ Some 80 → first ≢ Some 89 → WritesFrames range input output outcome
  pub frames : leaves_out range ≡ true → WritesFrames range input output outcome

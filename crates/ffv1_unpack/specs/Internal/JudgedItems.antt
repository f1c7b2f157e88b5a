-- Writing lines of judged items one after the other: what a step of that answers.
use Rattle.std.specs.Prelude.{◌≡◌, ℕ, Bool, true, false, List, length, slice_get}
use Rattle.std.specs.Prelude.{Some, None, Result, Ok, Err}
use Rattle.std.specs.Io.KnownBytes.{Appends}
use Rattle.std.proofs.Common.{suc}
use Rattle.ffv1_range.specs.Counts.{saturated}
use Rattle.ffv1_wire.specs.Failures.{one_more}
use Rattle.ffv1_wire.specs.Passage.{Passage}
use Rattle.ffv1_wire.specs.Writes.{AppendsBeginning}
use Rattle.ffv1_record.specs.Accepted.{Accepted}
use Rattle.ffv1_reads.specs.Known.{Known}
use Rattle.ffv1_files.specs.declared.course.Course.{Course}
use Rattle.ffv1_files.specs.Items.{item_read}
use Rattle.ffv1_files.specs.Places.{Place}
use Rattle.ffv1_video.specs.declared.fault.Fault.{Fault}
use Rattle.ffv1_video.specs.Faults.{Cause, cause_of, of_avi}
use Rattle.ffv1_video.specs.Faults.Cause.{Reading, Writing, Memory, Content}
use Rattle.ffv1_video.specs.Output.{Silent}
use Rattle.ffv1_unpack.specs.declared.judging.JudgedCounts.{JudgedCounts}
use Rattle.ffv1_unpack.specs.Judged.{IsJudged, Judged, judged_line, payload_of, refusal_of}
use Rattle.ffv1_unpack.specs.JudgedItems.{IsJudgedItem, ItemsLack, ItemsWant}
use Rattle.ffv1_unpack.specs.JudgedItems.{JudgedItem, OfFrame, ToldAt, faults_of, frames_of}
use Rattle.ffv1_unpack.specs.JudgedItems.{given_as, item_line}
use Rattle.ffv1_unpack.specs.Internal.Judged.{first_of, one_counted}
use Rattle.ffv1_unpack.specs.Internal.Told.{WritesFrame}

-- ---- how many they are

-- the counts after one more fault that is told
abbrev pub told_counted : JudgedCounts → Fault → JudgedCounts
told_counted c f = record c {
  faults = saturated (suc c.faults);
  first = first_of c.first f;
}

-- and after one more item
abbrev pub item_counted : JudgedCounts → JudgedItem → JudgedCounts
item_counted c (OfFrame j) = one_counted c (refusal_of j)
item_counted c (ToldAt f offset) = told_counted c (of_avi f)

-- so many of these are frames, and so many have a fault, the first one this
pub record AreItemCounts (c : JudgedCounts) (xs : List JudgedItem) : Type 0 where
  pub frames : c.frames ≡ saturated (length (frames_of xs))
  pub faults : c.faults ≡ saturated (length (faults_of xs))
  pub first : c.first ≡ slice_get (faults_of xs) 0

-- ---- one frame, with this number

module _ (place : Bool) (a : Accepted) (i : ℕ) (payload : List ℕ) (output : Passage) where
  -- what judging its payload answers, by the counts before and after
  abbrev pub PayloadAnswers : JudgedCounts → JudgedCounts → Result (Unit {0}) Fault → Type 0
  PayloadAnswers old new (Ok done) =
      (j : Judged) × IsJudged a j × (payload_of j ≡ payload)
      × (output.after ≡ output.before)
      × Appends output.old output.new (judged_line place a.configuration i j)
      × (new ≡ one_counted old (refusal_of j))
  PayloadAnswers old new (Err f) =
      (j : Judged) × IsJudged a j × (payload_of j ≡ payload)
      × WritesFrame (judged_line place a.configuration i j) output (Err f)

-- ---- one item, where the next frame has this number

-- from this place and this course on, up to others
module _ (place : Bool) (a : Accepted) (i : ℕ) (from to : Place) (c d : Course)
    (input output : Passage) where
  -- this one comes
  pub record ItemComes (x : JudgedItem) : Type 0 where
    pub is : IsJudgedItem a x
    pub kept : input.after ≡ input.before
    pub next : Known input.old input.new (λ text rest.
        item_read from c text ≡ Ok (Some (given_as x, to, d), rest))

  -- why there is none, or its lines were not written, by the cause
  abbrev pub ItemFailsBy : Cause → Type 0
  ItemFailsBy Writing =
      (x : JudgedItem) × ItemComes x × (output.after ≡ one_more output.before)
      × AppendsBeginning output.old output.new (item_line place a.configuration i x)
  ItemFailsBy Reading =
      Silent output × (input.after ≡ one_more input.before)
      × Known input.old input.new (ItemsWant from c)
  ItemFailsBy Memory =
      Silent output × (input.after ≡ input.before)
      × Known input.old input.new (ItemsLack a from c)
  ItemFailsBy Content = ⊥

  -- what judging it answers, by the counts before and after
  abbrev pub ItemJudged : JudgedCounts → JudgedCounts → Result Bool Fault → Type 0
  ItemJudged old new (Ok true) =
      (x : JudgedItem) × ItemComes x × (output.after ≡ output.before)
      × Appends output.old output.new (item_line place a.configuration i x)
      × (new ≡ item_counted old x)
  ItemJudged old new (Ok false) =
      (input.after ≡ input.before)
      × Known input.old input.new (λ text rest. item_read from c text ≡ Ok (None, rest))
      × Silent output × (new ≡ old)
  ItemJudged old new (Err f) = ItemFailsBy (cause_of f)

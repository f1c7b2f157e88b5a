-- Looking at what comes after the items of a file: what that answers.
use Rattle.std.specs.Prelude.{◌≡◌, ◌⊎◌, Bool, Result, Ok, Err}
use Rattle.std.specs.Io.KnownBytes.{Appends}
use Rattle.ffv1_wire.specs.Failures.{one_more}
use Rattle.ffv1_wire.specs.Passage.{Passage}
use Rattle.ffv1_wire.specs.Writes.{AppendsBeginning}
use Rattle.ffv1_reads.specs.Known.{Known}
use Rattle.ffv1_reads.specs.declared.fault.FileFault.TheVariants as file_fault
use Rattle.ffv1_files.specs.Answers.{ReadFails, ReadsAs}
use Rattle.ffv1_files.specs.Behind.{any_value, items_noted}
use Rattle.ffv1_files.specs.Noted.{no_notes}
use Rattle.ffv1_files.specs.Readers.{Standing}
use Rattle.ffv1_files.specs.declared.course.Course.{Course}
use Rattle.ffv1_files.specs.declared.notes.Notes.{Notes}
use Rattle.ffv1_video.specs.declared.fault.Fault.{Fault}
use Rattle.ffv1_video.specs.declared.fault.Fault.TheVariants as fault
use Rattle.ffv1_video.specs.Faults.{Cause, cause_of}
use Rattle.ffv1_video.specs.Faults.Cause.{Reading, Writing, Memory, Content}
use Rattle.ffv1_video.specs.Output.{Silent}
use Rattle.ffv1_unpack.specs.ItemsEnd.{BeginsAnother}
use Rattle.ffv1_unpack.specs.JudgedItems.{told_line}
use Rattle.ffv1_unpack.specs.declared.judging.JudgedCounts.{JudgedCounts}
use Rattle.ffv1_unpack.specs.Internal.JudgedItems.{told_counted}

module _ (r : Standing) (c : Course) (cued : Bool) (input output : Passage) where
  -- another file begins there
  pub record AnotherBehind : Type 0 where
    pub kept : input.after ≡ input.before
    pub is : Known input.old input.new (BeginsAnother (items_noted r c cued))

  -- why it is refused, by the cause: the line of another file was not written whole, a read failed,
  -- or memory for that line was refused
  abbrev pub BehindFailsBy : Cause → Type 0
  BehindFailsBy Writing =
      AnotherBehind × (output.after ≡ one_more output.before)
      × AppendsBeginning output.old output.new (told_line r.end file_fault.Another)
  BehindFailsBy Reading =
      Silent output × (input.after ≡ one_more input.before)
      × Known input.old input.new (ReadFails any_value (items_noted r c cued))
  BehindFailsBy Memory = Silent output × AnotherBehind
  BehindFailsBy Content = ⊥

  -- these are the notes; or another file was told, and counted; by the counts before and after
  abbrev pub BehindAnswers : JudgedCounts → JudgedCounts → Result Notes Fault → Type 0
  BehindAnswers old new (Ok notes) =
      (ReadsAs (items_noted r c cued) input notes × Silent output × (new ≡ old))
      ⊎ (AnotherBehind × (notes ≡ no_notes) × (output.after ≡ output.before)
      × Appends output.old output.new (told_line r.end file_fault.Another)
      × (new ≡ told_counted old (fault.File file_fault.Another)))
  BehindAnswers old new (Err f) = BehindFailsBy (cause_of f)

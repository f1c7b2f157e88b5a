-- What a trial writes, and why it is refused.
use Rattle.std.specs.Prelude.{◌≡◌, ℕ, true, List, length, Option}
use Rattle.std.specs.Io.KnownBytes.{Appends}
use Rattle.ffv1_range.specs.Standard.{standard}
use Rattle.ffv1_plane.specs.Quantisation.{small_set}
use Rattle.ffv1_wire.specs.Failures.{one_more}
use Rattle.ffv1_wire.specs.Passage.{Passage}
use Rattle.ffv1_wire.specs.Writes.{AppendsBeginning}
use Rattle.ffv1_video.specs.declared.fault.Fault.{Fault}
use Rattle.ffv1_video.specs.declared.fault.Fault.TheVariants as fault
use Rattle.ffv1_pack.specs.Picture.{Mono, IsMono, ReadsMono, FaultsMono}
use Rattle.ffv1_pack.specs.Plane.{plane_steps, plane_code}
use Rattle.ffv1_pack.specs.Report.{report_of}
use Rattle.ffv1_video.specs.Output.{Silent}

-- the four lines for a picture: its samples, the decisions of its residuals, their code, and that
-- it was decoded to the same
abbrev pub lines_for : Mono → List ℕ
lines_for m = report_of (length m.samples)
    (length (plane_steps small_set m.width m.height m.samples))
    (plane_code standard small_set m.width m.height m.samples) true

-- the lines of the first picture were written, and nothing failed
pub record TrialDone (input output : Passage) : Type 0 where
  pub picture : Mono
  pub mono : IsMono picture
  pub reads : ReadsMono input.old input.new picture
  pub writes : Appends output.old output.new (lines_for picture)
  pub read : input.after ≡ input.before
  pub written : output.after ≡ output.before

-- a beginning of the lines of the first picture was written
pub record TrialCut (text written all : Option (List ℕ)) : Type 0 where
  pub rest : Option (List ℕ)
  pub picture : Mono
  pub mono : IsMono picture
  pub reads : ReadsMono text rest picture
  pub writes : AppendsBeginning written all (lines_for picture)

-- why a trial is refused: a write failed, which was counted, after a beginning of the lines; or a
-- read failed, which was counted; or memory was refused; or the text has this fault,
-- with this left of it
abbrev pub TrialRefused : Passage → Passage → Fault → Type 0
TrialRefused input output fault.Write =
    TrialCut input.old output.old output.new × (output.after ≡ one_more output.before)
    × (input.after ≡ input.before)
TrialRefused input output fault.Read = Silent output × (input.after ≡ one_more input.before)
TrialRefused input output fault.OutOfMemory = Silent output × (input.after ≡ input.before)
TrialRefused input output f =
    Silent output × (input.after ≡ input.before) × FaultsMono input.old input.new f

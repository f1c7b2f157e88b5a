-- A trial whose picture is not read.
use Rattle.ffv1_wire.specs.Passage.{Passage}
use Rattle.ffv1_video.specs.declared.fault.Fault.{Fault}
use Rattle.ffv1_video.specs.declared.fault.Fault.TheVariants as fault
use Rattle.ffv1_pack.specs.Internal.Picture.{RefusesMono}
use Rattle.ffv1_pack.specs.Trial.{TrialRefused}
use Rattle.ffv1_video.specs.Output.{Silent}

pub picture_refused : (input output : Passage) (f : Fault) → RefusesMono input f → Silent output → TrialRefused input output f
picture_refused input output fault.Write h s = absurd h
picture_refused input output fault.Read h s = (s, h)
picture_refused input output fault.OutOfMemory h s = (s, h)
picture_refused input output f h s = (s, h.0, h.1)

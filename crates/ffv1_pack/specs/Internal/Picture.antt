-- Why the picture of a mono text is not read.
use Rattle.std.specs.Prelude.{◌≡◌}
use Rattle.ffv1_wire.specs.Failures.{one_more}
use Rattle.ffv1_wire.specs.Passage.{Passage}
use Rattle.ffv1_video.specs.declared.fault.Fault.{Fault}
use Rattle.ffv1_video.specs.declared.fault.Fault.TheVariants as fault
use Rattle.ffv1_pack.specs.Picture.{FaultsMono}

-- why a picture was not read: a read failed, which was counted; or memory was refused; or the text
-- has this fault
abbrev pub RefusesMono : Passage → Fault → Type 0
RefusesMono p fault.Read = p.after ≡ one_more p.before
RefusesMono p fault.OutOfMemory = p.after ≡ p.before
RefusesMono p fault.Write = ⊥
RefusesMono p f = (p.after ≡ p.before) × FaultsMono p.old p.new f

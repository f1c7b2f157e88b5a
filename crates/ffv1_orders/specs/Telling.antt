-- Why what became of a file is not told.
use Rattle.std.specs.Prelude.{◌≡◌, ◌⊎◌}
use Rattle.ffv1_video.specs.declared.fault.Fault.TheVariants as fault
use Rattle.ffv1_orders.specs.Looked.{unprinted}
use Rattle.ffv1_orders.specs.declared.refusal.Refusal.{Refusal}
use Rattle.ffv1_orders.specs.declared.refusal.Refusal.TheVariants as refusal
use Rattle.ffv1_orders.specs.declared.telling.Telling.{Telling}
use Rattle.ffv1_orders.specs.declared.telling.Telling.TheVariants as telling

-- a line cannot be printed, or memory of it is refused
abbrev pub IsUntold : Refusal → Type 0
IsUntold r = (r ≡ unprinted) ⊎ (r ≡ refusal.Fault fault.OutOfMemory)

-- one line of a file could not be printed, or memory of it was refused
abbrev pub Untold : Telling → Refusal → Type 0
Untold telling.Frames r = ⊥
Untold telling.Line r = r ≡ unprinted
Untold telling.Object r = IsUntold r

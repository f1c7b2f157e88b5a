-- What reading values by rules gives, from one call to the next.
use Rattle.std.specs.Prelude.{ℕ, List, Result, Ok, Err}
use Rattle.ffv1_range.specs.Table.{Table}
use Rattle.ffv1_range.specs.Reading.{Reading}
use Rattle.ffv1_range.specs.Symbols.{Step}
use Rattle.ffv1_range.specs.Follows.{Follows}
use Rattle.ffv1_slice.specs.declared.fault.SliceFault.{SliceFault}
use Rattle.ffv1_slice.specs.Head.{Rule, Meets, Stops, values_steps}

-- values that meet the rules, or the first fault
abbrev pub Given :
    Table → List Rule → ℕ → Reading → List ℕ → Reading → List ℕ → Result (List ℕ) SliceFault →
    Type 0
Given t rules before old states new after (Ok vs) =
    Meets rules before vs × Follows t old states new after (values_steps vs)
Given t rules before old states new after (Err f) =
    (steps : List Step) × Stops rules before f steps × Follows t old states new after steps

pub record Gives (t : Table) (rules : List Rule) (old : Reading) (states : List ℕ) (new : Reading)
    (after : List ℕ) (out : Result (List ℕ) SliceFault) : Type 0 where
  pub gives : (before : ℕ) → Given t rules before old states new after out

-- a result as the list of its values
abbrev pub seen : {Y : Type 0} → (Y → List ℕ) → Result Y SliceFault → Result (List ℕ) SliceFault
seen view (Ok y) = Ok (view y)
seen view (Err f) = Err f

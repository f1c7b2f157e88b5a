-- How much an interval loses.
use Rattle.std.specs.Prelude.{ℕ, ◌+◌, ◌-◌, ◌*◌, ◌≤◌, Bool, true, false, List, [], ◌∷◌, ◌++◌}
use Rattle.ffv1_range.specs.Interval.{Decision}

-- the share of a decision, of 256
abbrev pub weight_of : ℕ → Bool → ℕ
weight_of state true = state
weight_of state false = 256 - state

-- the product of the shares
abbrev pub weight : List Decision → ℕ
weight [] = 1
weight (d ∷ ds) = weight_of d.state d.bit * weight ds

abbrev pub one_if : Bool → ℕ
one_if true = 1
one_if false = 0

-- how many decisions are 1
abbrev pub ones : List Decision → ℕ
ones [] = 0
ones (d ∷ ds) = one_if d.bit + ones ds

-- how many decisions are 0
abbrev pub zeros : List Decision → ℕ
zeros [] = 0
zeros (d ∷ ds) = (1 - one_if d.bit) + zeros ds

-- a state that a table of this floor holds
pub record IsHeld (floor state : ℕ) : Type 0 where
  pub least : floor ≤ state
  pub most : state + floor ≤ 256

-- a list, and a last decision 0 by the state 129
abbrev pub sealed : List Decision → List Decision
sealed ds = ds ++ (record { state = 129; bit = false } ∷ [])

-- each decision has a state that a table of this floor holds
abbrev pub AreHeldBy : ℕ → List Decision → Type 0
AreHeldBy floor [] = Unit {0}
AreHeldBy floor (d ∷ ds) = IsHeld floor d.state × AreHeldBy floor ds

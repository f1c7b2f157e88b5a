-- The state of a slot, from all that was decided before (RFC 9043, 3.8.1.3 and 3.8.1.4).
use Rattle.std.specs.Prelude.{◌≡◌, ℕ, ◌+◌, ◌<◌, ◌≤◌, ◌==◌, ◌⊎◌, Bool, List, [], ◌∷◌, ◌++◌, length}
use Rattle.std.specs.Prelude.{slice_index, map, filter}
use Rattle.ffv1_range.specs.Interval.{Decision}
use Rattle.ffv1_range.specs.Table.{Table, moved}
use Rattle.ffv1_range.specs.Symbols.{Step}

-- what was decided at a slot, in order
abbrev pub bits_at : ℕ → List Step → List Bool
bits_at slot past = map (λ (s : Step). s.bit) (filter (λ (s : Step). s.slot == slot) past)

-- a state that moves along some bits
abbrev pub moved_along : Table → ℕ → List Bool → ℕ
moved_along t state [] = state
moved_along t state (b ∷ bs) = moved_along t (moved t state b) bs

-- the state of a slot: 128, moved once for each earlier decision of the slot
abbrev pub state_of : Table → ℕ → List Step → ℕ
state_of t slot past = moved_along t 128 (bits_at slot past)

-- the decisions of some steps, after those of past
abbrev pub decisions_after : Table → List Step → List Step → List Decision
decisions_after t past [] = []
decisions_after t past (s ∷ ss) =
    record { state = state_of t s.slot past; bit = s.bit } ∷ decisions_after t (past ++ (s ∷ [])) ss

-- each step is at a slot below count
abbrev pub AreBelow : List Step → ℕ → Type 0
AreBelow [] count = Unit {0}
AreBelow (s ∷ ss) count = (s.slot < count) × AreBelow ss count

-- no step is at one of the count slots from base on
abbrev pub AreOutside : List Step → ℕ → ℕ → Type 0
AreOutside [] base count = Unit {0}
AreOutside (s ∷ ss) base count = ((s.slot < base) ⊎ (base + count ≤ s.slot)) ×
    AreOutside ss base count

-- an array has the states of the slots from base on, after the steps of past
pub record HasStates (t : Table) (states : List ℕ) (base : ℕ) (past : List Step) : Type 0 where
  pub each : (slot : ℕ) → slot < length states →
      slice_index states slot ≡ state_of t (base + slot) past

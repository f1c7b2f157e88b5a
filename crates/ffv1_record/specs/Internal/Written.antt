-- What ties an encoder and its states to the definition: where a writer of a record stands.
use Rattle.std.specs.Prelude.{◌≡◌, ℕ, ◌+◌, ◌≤◌, List, [], ◌++◌}
use Rattle.ffv1_range.specs.Interval.{interval_of}
use Rattle.ffv1_range.specs.Writing.{Writing}
use Rattle.ffv1_range.specs.Symbols.{Step}
use Rattle.ffv1_range.specs.History.{decisions_after, AreBelow, HasStates}
use Rattle.ffv1_range.specs.Standard.{standard}
use Rattle.ffv1_record.specs.Reader.{Spot}

-- an encoder, and the states of the parameters
pub record Target : Type 0 where
  pub writing : Writing
  pub states : List ℕ

-- it has written the steps of a spot
pub record Holding (a : Target) (s : Spot) : Type 0 where
  pub interval : a.writing.interval ≡ interval_of (decisions_after standard [] s.past)
  pub states : HasStates standard a.states 0 s.past
  pub below : AreBelow s.past s.fresh
  pub room : 32 ≤ s.fresh

-- the same with the states of a table beside those of the parameters, at the slots from base on
pub record HoldingIn (a : Target) (states : List ℕ) (base : ℕ) (s : Spot) : Type 0 where
  pub holding : Holding a s
  pub above : 32 ≤ base
  pub kept : base + 32 ≤ s.fresh
  pub table : HasStates standard states base s.past

-- it wrote these steps, which the next table's first slot may name, and gave so many slots to
-- tables
pub record Wrote (steps : ℕ → List Step) (grown : ℕ) (before after : Target) : Type 0 where
  pub wrote : (s : Spot) → Holding before s →
      Holding after (record { past = s.past ++ steps s.fresh; fresh = s.fresh + grown })

-- the same by the states of a table
pub record WroteIn (steps : ℕ →
    List Step) (before : Target) (states : List ℕ) (after : Target) (states_after : List ℕ) : Type
    0 where
  pub wrote : (base : ℕ) (s : Spot) → HoldingIn before states base s →
      HoldingIn after states_after base (record { past = s.past ++ steps base; fresh = s.fresh })

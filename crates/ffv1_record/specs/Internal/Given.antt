-- What ties a decoder and its states to the readings: what a call that reads gives.
use Rattle.std.specs.Prelude.{◌≡◌, ◌⊎◌, ℕ, ◌+◌, ◌≤◌, List, [], Result, Ok, Err}
use Rattle.ffv1_range.specs.Interval.{interval_of}
use Rattle.ffv1_range.specs.Reading.{Reading, At}
use Rattle.ffv1_range.specs.History.{decisions_after, AreBelow, HasStates}
use Rattle.ffv1_range.specs.Standard.{standard}
use Rattle.ffv1_record.specs.declared.fault.RecordFault.{RecordFault}
use Rattle.ffv1_record.specs.declared.fault.RecordFault.TheVariants as fault
use Rattle.ffv1_record.specs.Reader.{Reader, Spot}

-- a decoder, and the states of the parameters
pub record Source : Type 0 where
  pub reading : Reading
  pub states : List ℕ

-- it stands at a spot of the bytes
pub record Stands (a : Source) (b : List ℕ) (s : Spot) : Type 0 where
  pub bytes : a.reading.bytes ≡ b
  pub at : At a.reading (interval_of (decisions_after standard [] s.past))
  pub states : HasStates standard a.states 0 s.past
  pub below : AreBelow s.past s.fresh
  pub room : 32 ≤ s.fresh

-- the same with the states of a table beside those of the parameters, at the slots from base on
pub record StandsIn (a : Source) (states b : List ℕ) (base : ℕ) (s : Spot) : Type 0 where
  pub stands : Stands a b s
  pub above : 32 ≤ base
  pub kept : base + 32 ≤ s.fresh
  pub table : HasStates standard states base s.past

-- what a call that reads told, seen by view, is what reading gives, unless memory was refused
abbrev pub Tells : {X Y : Type 0} → (Y → X) → Reader X → Source → List ℕ → Spot →
    Result Y RecordFault → Type 0
Tells view r after b s (Ok y) = (t : Spot) × r b s (Ok (view y, t)) × Stands after b t
Tells view r after b s (Err f) = (f ≡ fault.OutOfMemory) ⊎ r b s (Err f)

pub record Gives {X Y : Type 0} (view : Y →
    X) (r : Reader X) (before after : Source) (result : Result Y RecordFault) : Type 0 where
  pub gives : (b : List ℕ) (s : Spot) → Stands before b s → Tells view r after b s result

-- a call that judges tells the fault that reading meets; else reading gives a value, of which this
-- holds with what the call answers
abbrev pub Finds : {X Y : Type 0} → (X → Y → Type 0) → Reader X → Source → List ℕ → Spot →
    Result Y RecordFault → Type 0
Finds {X = X} holds r after b s (Ok y) =
    (x : X) × (t : Spot) × r b s (Ok (x, t)) × Stands after b t × holds x y
Finds holds r after b s (Err f) = r b s (Err f)

pub record Judges {X Y : Type 0} (holds : X → Y → Type 0) (r : Reader X) (before after : Source)
    (result : Result Y RecordFault) : Type 0 where
  pub judges : (b : List ℕ) (s : Spot) → Stands before b s → Finds holds r after b s result

-- the same of a call that reads by the states of a table
abbrev pub TellsIn : {X : Type 0} → (ℕ → Reader X) → Source → List ℕ → List ℕ → ℕ → Spot →
    Result X RecordFault → Type 0
TellsIn r after states b base s (Ok x) = (t : Spot) × r base b s (Ok (x, t))
    × StandsIn after states b base t
TellsIn r after states b base s (Err f) = r base b s (Err f)

pub record GivesIn {X : Type 0} (r : ℕ →
    Reader X) (before : Source) (states : List ℕ) (after : Source) (states_after : List ℕ) (result
    : Result X RecordFault) : Type 0 where
  pub gives : (b : List ℕ) (base : ℕ) (s : Spot) → StandsIn before states b base s →
      TellsIn r after states_after b base s result

-- a reading gives a value where it stands
pub record IsRead {X : Type 0} (r : Reader X) (a : Source) : Type 0 where
  pub read : (b : List ℕ) (s : Spot) → Stands a b s → (x : X) × (t : Spot) × r b s (Ok (x, t))

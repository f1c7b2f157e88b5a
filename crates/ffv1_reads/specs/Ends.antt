-- Readings for which the end of the input is an answer, as after the last element of an open list.
use Rattle.std.specs.Prelude.{◌≡◌, ◌⊎◌, ℕ, List, [], Option, None, Result, Ok, Err}
use Rattle.std.specs.Io.KnownBytes.{Consumes, IsAtEnd}
use Rattle.ffv1_wire.specs.Failures.{one_more}
use Rattle.ffv1_wire.specs.Passage.{Passage}
use Rattle.ffv1_reads.specs.declared.fault.FileFault.{FileFault}
use Rattle.ffv1_reads.specs.declared.fault.FileFault.TheVariants as fault
use Rattle.ffv1_reads.specs.Reads.{Met, Read, Reading, Refused, Wants}

-- bytes were read, and if nothing comes after them, they read as this value
pub record Stops {X : Type 0} (reading : Reading X) (old new : Option (List ℕ)) (x : X)
    : Type 0 where
  pub bytes : List ℕ
  pub consumed : Consumes old new bytes
  pub is : reading bytes ≡ Ok (x, [])

-- the same, and nothing comes after them
abbrev pub Ends : {X : Type 0} → Reading X → Option (List ℕ) → Option (List ℕ) → X → Type 0
Ends reading old new x = Stops reading old new x × IsAtEnd new

-- bytes were read as this value, whatever comes after them or since nothing does
abbrev pub ReadOrEnds : {X : Type 0} → Reading X → Option (List ℕ) → Option (List ℕ) → X → Type 0
ReadOrEnds reading old new x = Read reading old new x ⊎ Ends reading old new x

-- why a call was refused: a read may also fail if the end would be an answer
abbrev pub RefusedOrEnds : {X : Type 0} → Reading X → Option (List ℕ) → Option (List ℕ) → ℕ → ℕ →
    FileFault → Type 0
RefusedOrEnds {X = X} reading old new before after fault.Read =
    (after ≡ one_more before) × (Wants reading old new ⊎ ((x : X) × Stops reading old new x))
RefusedOrEnds reading old new before after f = Refused reading old new before after f

-- the answer of a call if the end of the input may be one
abbrev pub AnswersOrEnds : {X Y : Type 0} → (Y → X) → Reading X → Passage → Result Y FileFault →
    Type 0
AnswersOrEnds view reading p (Ok y) =
    (p.after ≡ p.before) × ReadOrEnds reading p.old p.new (view y)
AnswersOrEnds view reading p (Err f) = RefusedOrEnds reading p.old p.new p.before p.after f

-- bytes were read, and if nothing comes after them, there is nothing more
abbrev pub Halts : {X : Type 0} → Reading (Option X) → Option (List ℕ) → Option (List ℕ) → Type 0
Halts reading old new = Stops reading old new None

-- why a call was refused: a read may also fail if the end would be an answer
abbrev pub RefusedOrNone : {X : Type 0} → Reading (Option X) → Option (List ℕ) →
    Option (List ℕ) → ℕ → ℕ → FileFault → Type 0
RefusedOrNone reading old new before after fault.Read =
    (after ≡ one_more before) × (Wants reading old new ⊎ Halts reading old new)
RefusedOrNone reading old new before after f = Refused reading old new before after f

-- a value was read; or nothing more is there
abbrev pub ReadOrNone : {X : Type 0} → Reading (Option X) → Option (List ℕ) → Option (List ℕ) →
    Option X → Type 0
ReadOrNone reading old new x =
    Read reading old new x ⊎ ((Halts reading old new × IsAtEnd new) × (x ≡ None))

-- the answer of a call if the end of the input may be one: that there is nothing more
abbrev pub AnswersOrNone : {X Y : Type 0} → (Y → Option X) → Reading (Option X) → Passage →
    Result Y FileFault → Type 0
AnswersOrNone view reading p (Ok y) =
    (p.after ≡ p.before) × ReadOrNone reading p.old p.new (view y)
AnswersOrNone view reading p (Err f) = RefusedOrNone reading p.old p.new p.before p.after f

-- bytes were read, and if nothing comes after them, they have this fault
pub record FaultsAtEnd {X : Type 0} (reading : Reading X) (old new : Option (List ℕ))
    (f : FileFault) : Type 0 where
  pub bytes : List ℕ
  pub consumed : Consumes old new bytes
  pub is : reading bytes ≡ Err (Met f [])

-- bytes were read as this value, whatever comes after them; or since nothing does, which is an
-- answer of this kind alone
abbrev pub ReadOrOver : {X : Type 0} → (X → Type 0) → Reading X → Option (List ℕ) →
    Option (List ℕ) → X → Type 0
ReadOrOver over reading old new x =
    Read reading old new x ⊎ (Ends reading old new x × over x)

-- why a call was refused if the end of the input may be an answer of this kind, or this fault: a
-- read may also fail if the end would be either
abbrev pub RefusedOrFaults : {X : Type 0} → FileFault → (X → Type 0) → Reading X →
    Option (List ℕ) → Option (List ℕ) → ℕ → ℕ → FileFault → Type 0
RefusedOrFaults {X = X} end over reading old new before after fault.Read =
    (after ≡ one_more before)
    × (Wants reading old new
    ⊎ (((x : X) × (Stops reading old new x × over x)) ⊎ FaultsAtEnd reading old new end))
RefusedOrFaults end over reading old new before after f =
    Refused reading old new before after f
    ⊎ ((after ≡ before) × (f ≡ end) × (FaultsAtEnd reading old new end × IsAtEnd new))

-- the answer of a call of that kind
abbrev pub AnswersOrFaults : {X Y : Type 0} → FileFault → (X → Type 0) → (Y → X) → Reading X →
    Passage → Result Y FileFault → Type 0
AnswersOrFaults end over view reading p (Ok y) =
    (p.after ≡ p.before) × ReadOrOver over reading p.old p.new (view y)
AnswersOrFaults end over view reading p (Err f) =
    RefusedOrFaults end over reading p.old p.new p.before p.after f

-- Readings: what bytes read as, a value and what is left, or why not; and what a call on a reader
-- of bytes answers by one.
use Rattle.std.specs.Prelude.{◌≡◌, ℕ, ◌≤◌, ◌++◌, ◌⊎◌, if◌then◌else◌, nat_lt, List, length}
use Rattle.std.specs.Prelude.{take, drop, Option, Some, None, Result, Ok, Err, ⊤}
use Rattle.std.specs.Io.KnownBytes.{Consumes, IsAtEnd}
use Rattle.ffv1_wire.specs.Failures.{one_more}
use Rattle.ffv1_wire.specs.Passage.{Passage}
use Rattle.ffv1_reads.specs.declared.fault.FileFault.{FileFault}
use Rattle.ffv1_reads.specs.declared.fault.FileFault.TheVariants as fault

-- what bytes are wanted for: to look at them or to pass them; or to keep them, for which memory is
-- taken
pub data Want : Type 0 where
  Looked : Want
  Kept : Want

-- why bytes read as no value: they end when more are wanted; or they have this fault, and those
-- after it are left
pub data Stop : Type 0 where
  Short : Want → Stop
  Met : FileFault → List ℕ → Stop

-- what bytes read as: a value and what is left, or why not
abbrev pub Reading : Type 0 → Type 0
Reading X = List ℕ → Result (X × List ℕ) Stop

-- this value, and nothing is read
abbrev pub given : {X : Type 0} → X → Reading X
given x = λ text. Ok (x, text)

-- this fault, and nothing is read
abbrev pub refused : {X : Type 0} → FileFault → Reading X
refused f = λ text. Err (Met f text)

-- what is left is read on
abbrev pub read_on : {X Y : Type 0} → Result (X × List ℕ) Stop → (X → Reading Y) →
    Result (Y × List ℕ) Stop
read_on (Ok p) next = next p.0 p.1
read_on (Err why) next = Err why

infixl 10 ◌>>=◌
abbrev pub ◌>>=◌ : {X Y : Type 0} → Reading X → (X → Reading Y) → Reading Y
reading >>= next = λ text. read_on (reading text) next

-- so many bytes
abbrev pub wanted : Want → ℕ → Reading (List ℕ)
wanted w n = λ text. if nat_lt (length text) n then Err (Short w) else Ok (take n text, drop n text)

-- so many bytes, to look at
abbrev pub taken : ℕ → Reading (List ℕ)
taken n = wanted Looked n

-- so many bytes, whatever they are
abbrev pub passed : ℕ → Reading (Unit {0})
passed n = λ text. if nat_lt (length text) n then Err (Short Looked) else Ok (tt, drop n text)

-- bytes were read, and whatever comes after them, they read as this value
pub record Read {X : Type 0} (reading : Reading X) (old new : Option (List ℕ))
    (x : X) : Type 0 where
  pub bytes : List ℕ
  pub consumed : Consumes old new bytes
  pub is : (rest : List ℕ) → reading (bytes ++ rest) ≡ Ok (x, rest)

-- bytes were read, and whatever comes after them, they have this fault
pub record Faults {X : Type 0} (reading : Reading X) (old new : Option (List ℕ))
    (f : FileFault) : Type 0 where
  pub bytes : List ℕ
  pub consumed : Consumes old new bytes
  pub is : (rest : List ℕ) → reading (bytes ++ rest) ≡ Err (Met f rest)

-- bytes were read, and more are wanted
pub record Lacks {X : Type 0} (reading : Reading X) (old new : Option (List ℕ))
    (w : Want) : Type 0 where
  pub bytes : List ℕ
  pub consumed : Consumes old new bytes
  pub is : reading bytes ≡ Err (Short w)

-- bytes were read, and more are wanted, to be kept or not
abbrev pub Wants : {X : Type 0} → Reading X → Option (List ℕ) → Option (List ℕ) → Type 0
Wants reading old new = (w : Want) × Lacks reading old new w

-- bytes that end when more are wanted
abbrev pub EndsEarly : {X : Type 0} → Reading X → List ℕ → Type 0
EndsEarly reading bytes = (w : Want) × (reading bytes ≡ Err (Short w))

-- why a call was refused, with what is left after the bytes that it has read. A read failed, and
-- was counted, when more bytes were wanted; memory was refused when more were wanted to be kept;
-- the bytes ended when more were wanted; or those that were read have the fault
abbrev pub Refused : {X : Type 0} → Reading X → Option (List ℕ) → Option (List ℕ) → ℕ → ℕ →
    FileFault → Type 0
Refused reading old new before after fault.Read = (after ≡ one_more before) × Wants reading old new
Refused reading old new before after fault.OutOfMemory =
    (after ≡ before) × Lacks reading old new Kept
Refused reading old new before after fault.Truncated =
    (after ≡ before)
    × ((Wants reading old new × IsAtEnd new) ⊎ Faults reading old new fault.Truncated)
Refused reading old new before after fault.TooLarge = ⊥
Refused reading old new before after fault.Write = ⊥
Refused reading old new before after fault.Rate = ⊥
Refused reading old new before after f = (after ≡ before) × Faults reading old new f

-- the answer of a call
abbrev pub Answers : {X Y : Type 0} → (Y → X) → Reading X → Passage → Result Y FileFault → Type 0
Answers view reading p (Ok y) = (p.after ≡ p.before) × Read reading p.old p.new (view y)
Answers view reading p (Err f) = Refused reading p.old p.new p.before p.after f

-- so many bytes after others
abbrev pub appended : List ℕ → ℕ → Reading (List ℕ)
appended bytes n = wanted Kept n >>= λ more. given (bytes ++ more)

-- bytes grew by a beginning of the next so many, if those are known
abbrev pub AppendsSome : Option (List ℕ) → ℕ → List ℕ → List ℕ → Type 0
AppendsSome None n old new = ⊤
AppendsSome (Some text) n old new = (k : ℕ) × (k ≤ n) × (new ≡ old ++ take k text)

-- the bytes are a beginning of the next so many, if those are known
abbrev pub Begins : Option (List ℕ) → ℕ → List ℕ → Type 0
Begins None n bytes = ⊤
Begins (Some text) n bytes = (k : ℕ) × (k ≤ n) × (bytes ≡ take k text)

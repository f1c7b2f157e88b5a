-- What a call on a reader of pictures answers, and what it leaves of its input.
use Rattle.std.specs.Prelude.{◌≡◌, ◌≤◌, ◌⊎◌, ℕ, suc, List, [], ◌∷◌, ◌++◌, length, Option, Some}
use Rattle.std.specs.Prelude.{None, Result, Ok, Err}
use Rattle.std.specs.Io.KnownBytes.{Consumes, IsAtEnd}
use Rattle.ffv1_y4m.specs.Sequence.{Reading, judge, left}
use Rattle.ffv1_y4m.specs.Passage.{Passage}
use Rattle.ffv1_wire.specs.Failures.{one_more}
use Rattle.ffv1_y4m.specs.declared.fault.Fault.{Fault}
use Rattle.ffv1_y4m.specs.declared.fault.Fault.TheVariants as fault

-- if the bytes are known, they read as this, with those left; else some bytes do
abbrev pub ReadsAs : {X : Type 0} → Reading X → Option (List ℕ) → Option (List ℕ) → Result X Fault →
    Type 0
ReadsAs reading None new r = (text : List ℕ) × (rest : List ℕ) × (reading text ≡ judge r rest)
ReadsAs reading (Some text) None r = ⊥
ReadsAs reading (Some text) (Some rest) r = reading text ≡ judge r rest

-- the bytes that were taken have this property
abbrev pub Took : (List ℕ → Type 0) → Passage → Type 0
Took are p = (bytes : List ℕ) × Consumes p.old p.new bytes × are bytes

-- after these bytes the reading takes one more, whichever comes: they have met no fault, and are
-- not all
abbrev pub Wants : {X : Type 0} → Reading X → List ℕ → Type 0
Wants reading bytes =
    (next : ℕ) (behind : List ℕ) → length (left (reading (bytes ++ next ∷ behind))) ≤ length behind

-- why a call was refused: a read failed, and was counted, when one more byte was to be read; or
-- memory was refused, if it grows; or what was read has this fault. It is never a write
abbrev pub Refused : {X : Type 0} → Reading X → (List ℕ → Type 0) → Passage → Fault → Type 0
Refused reading grows p fault.Read = (p.after ≡ one_more p.before) × Took (Wants reading) p
Refused reading grows p fault.OutOfMemory = (p.after ≡ p.before) × Took grows p
Refused reading grows p fault.Write = ⊥
Refused reading grows p f = (p.after ≡ p.before) × ReadsAs reading p.old p.new (Err f)

-- the answer of a call
abbrev pub Answers : {X Y : Type 0} → (Y → X) → Reading X → (List ℕ → Type 0) → Passage →
    Result Y Fault → Type 0
Answers view reading grows p (Ok y) =
    (p.after ≡ p.before) × ReadsAs reading p.old p.new (Ok (view y))
Answers view reading grows p (Err f) = Refused reading grows p f

-- memory grows nowhere
abbrev pub Nowhere : List ℕ → Type 0
Nowhere bytes = ⊥

-- memory grows before any byte
abbrev pub IsNone : List ℕ → Type 0
IsNone bytes = bytes ≡ []

-- the bytes that were taken read so whatever comes after them, or the input has ended there and
-- they read so
abbrev pub Decides : {X : Type 0} → Reading X → List ℕ → Option (List ℕ) → Result X Fault → Type 0
Decides reading bytes new r =
    ((behind : List ℕ) → reading (bytes ++ behind) ≡ judge r behind)
    ⊎ (IsAtEnd new × (reading bytes ≡ judge r []))

-- what the bytes that were taken say of the answer
abbrev pub Says : {X : Type 0} → Reading X → (List ℕ → Type 0) → List ℕ → Passage → Result X Fault →
    Type 0
Says reading grows bytes p (Ok x) = (p.after ≡ p.before) × Decides reading bytes p.new (Ok x)
Says reading grows bytes p (Err fault.Read) = (p.after ≡ one_more p.before) × Wants reading bytes
Says reading grows bytes p (Err fault.OutOfMemory) = (p.after ≡ p.before) × grows bytes
Says reading grows bytes p (Err fault.Write) = ⊥
Says reading grows bytes p (Err f) = (p.after ≡ p.before) × Decides reading bytes p.new (Err f)

-- the answer of a step, by the bytes that it took
pub record Stands {X : Type 0} (reading : Reading X) (grows : List ℕ →
    Type 0) (p : Passage) (r : Result X Fault) : Type 0 where
  pub bytes : List ℕ
  pub taken : Consumes p.old p.new bytes
  pub said : Says reading grows bytes p r

-- a value, seen so
abbrev pub seen : {X Y : Type 0} → (Y → X) → Result Y Fault → Result X Fault
seen view (Ok y) = Ok (view y)
seen view (Err f) = Err f

-- the input ended before so many bytes, or a read failed before
abbrev pub Stops : ℕ → Passage → Fault → Type 0
Stops size p fault.Read =
    (p.after ≡ one_more p.before) × Took (λ bytes. suc (length bytes) ≤ size) p
Stops size p fault.FrameTruncated =
    (p.after ≡ p.before) × Took (λ bytes. suc (length bytes) ≤ size) p × IsAtEnd p.new
Stops size p f = ⊥

-- so many bytes in a row, which have this property; or fewer
abbrev pub Gathers : {Y : Type 0} → ℕ → (Y → List ℕ → Type 0) → Passage → Result Y Fault → Type 0
Gathers size are p (Ok y) =
    (p.after ≡ p.before) × Took (λ bytes. (length bytes ≡ size) × are y bytes) p
Gathers size are p (Err f) = Stops size p f
